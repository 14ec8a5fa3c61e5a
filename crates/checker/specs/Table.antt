-- The small traces with known results, the starred ones of 01, as one table.
use Rattle.std.specs.Prelude.{ℕ, ◌≡◌, List, [], ◌∷◌, map}
use Rattle.checker.specs.declared.Answer.{Answer}
use Rattle.checker.specs.Events.{events, run}
use Rattle.checker.specs.Rules.{stop}
use Rattle.checker.specs.Report.{found, laid}
use Rattle.checker.specs.Call.{answer}

-- A trace; code, events, offset, races, visits, most; and the report, which held nines.
pub record Row : Type 0 where
  pub trace : List ℕ
  pub answer : List ℕ
  pub report : List ℕ

abbrev pub row : List ℕ → List ℕ → List ℕ → Row
row trace answer report = record { trace = trace; answer = answer; report = report }

abbrev pub nines : List ℕ
nines = 9 ∷ 9 ∷ 9 ∷ 9 ∷ []

abbrev pub six : Answer → List ℕ
six a = a.code ∷ a.events ∷ a.offset ∷ a.races ∷ a.visits ∷ a.most ∷ []

-- The row of a trace, by the definitions.
abbrev pub row_of : List ℕ → Row
row_of trace = row trace (six (answer trace)) (laid (found (run (events trace)) (stop trace)) nines)

abbrev pub table : List Row
table =
    row [] (14 ∷ 0 ∷ 0 ∷ 0 ∷ 0 ∷ 0 ∷ []) nines ∷
    row (0x01 ∷ []) (0 ∷ 1 ∷ 1 ∷ 0 ∷ 0 ∷ 0 ∷ []) nines ∷
    row (0x01 ∷ 0x01 ∷ []) (7 ∷ 1 ∷ 1 ∷ 0 ∷ 0 ∷ 0 ∷ []) nines ∷
    row (0x00 ∷ 0x06 ∷ 0x01 ∷ 0x06 ∷ 0x01 ∷ []) (0 ∷ 5 ∷ 5 ∷ 1 ∷ 1 ∷ 0 ∷ []) (0 ∷ 1 ∷ 3 ∷ 9 ∷ []) ∷
    row (0x00 ∷ 0x06 ∷ 0x01 ∷ 0x02 ∷ 0x06 ∷ 0x01 ∷ []) (0 ∷ 6 ∷ 6 ∷ 0 ∷ 1 ∷ 0 ∷ []) nines ∷  -- with a sync
    row (0x00 ∷ 0x05 ∷ 0x01 ∷ 0x05 ∷ 0x01 ∷ []) (0 ∷ 5 ∷ 5 ∷ 0 ∷ 1 ∷ 0 ∷ []) nines ∷  -- two reads
    row (0x00 ∷ 0x03 ∷ 0x06 ∷ 0x04 ∷ 0x01 ∷ 0x03 ∷ 0x06 ∷ 0x04 ∷ 0x01 ∷ []) (0 ∷ 9 ∷ 9 ∷ 0 ∷ 1 ∷ 1 ∷ []) nines ∷  -- one lock
    row (0x00 ∷ 0x00 ∷ 0x06 ∷ 0x01 ∷ 0x01 ∷ 0x06 ∷ 0x01 ∷ []) (0 ∷ 7 ∷ 7 ∷ 1 ∷ 1 ∷ 0 ∷ []) (0 ∷ 2 ∷ 5 ∷ 9 ∷ []) ∷  -- implied sync
    row (0x00 ∷ 0x00 ∷ 0x06 ∷ 0x01 ∷ 0x02 ∷ 0x06 ∷ 0x01 ∷ 0x06 ∷ 0x01 ∷ []) (0 ∷ 9 ∷ 9 ∷ 1 ∷ 2 ∷ 0 ∷ []) (0 ∷ 5 ∷ 7 ∷ 9 ∷ []) ∷  -- dropped entry
    row (0x03 ∷ 0x00 ∷ []) (8 ∷ 1 ∷ 1 ∷ 0 ∷ 0 ∷ 1 ∷ []) nines ∷
    row (0x80 ∷ 0x00 ∷ []) (4 ∷ 0 ∷ 0 ∷ 0 ∷ 0 ∷ 0 ∷ []) nines ∷ []

-- The one statement.
abbrev pub AllAsKnown : Type 0
AllAsKnown = map (λ (r : Row). row_of r.trace) table ≡ table
