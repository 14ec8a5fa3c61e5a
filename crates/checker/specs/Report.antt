-- The report: which races are found, and how they are laid out in lent numbers.
use Rattle.std.specs.Prelude.{ℕ, zero, suc, cond, List, [], ◌∷◌, ◌++◌, leb, length, drop, Option, None, Some}
use Rattle.kept.specs.declared.Entry.{Entry}
use Rattle.kept.specs.Rules.{named}
use Rattle.kept.specs.Theorem.{Run, visited}

-- An access that is reported: its location, the earlier access that is named beside it, and itself.
pub record Race : Type 0 where
  pub location : ℕ
  pub earlier : Entry
  pub later : Entry

-- At event k: the race with the kept entry that is named, if one is.
abbrev pub race_with : ℕ → Entry → Option Entry → List Race
race_with x e None = []
race_with x e (Some k) = record { location = x; earlier = k; later = e } ∷ []

module _ (run : Run) where
  unfoldable pub race_at : ℕ → List Race
  race_at k = cond (run.accesses k) (race_with (run.location k) (run.entry k) (named (run.parallel k) (run.entry k) (visited run k))) []

  -- The races found before event k, in order of the later event.
  unfoldable pub found : ℕ → List Race
  found zero = []
  found (suc k) = found k ++ race_at k

-- Three numbers to an entry of the report: location, earlier event, later event.
abbrev pub numbers : Race → List ℕ
numbers r = r.location ∷ r.earlier.event.0 ∷ r.later.event.0 ∷ []

-- The first entries that fit are written; all other report numbers keep what they had.
unfoldable pub laid : List Race → List ℕ → List ℕ
laid [] report = report
laid (r ∷ rs) report = cond (leb (length (numbers r)) (length report)) (numbers r ++ laid rs (drop (length (numbers r)) report)) report
