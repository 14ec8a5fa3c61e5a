-- What a call is lent, what it gives, and what it leaves.
use Rattle.std.specs.Prelude.{ℕ, Bool, ◌||◌, List, [], ◌∷◌, ltb, length}
use Rattle.kept.specs.Pieces.{piece_size, cleared}
use Rattle.checker.specs.declared.Answer.{Answer}
use Rattle.checker.specs.Events.{place, events, most, run, visits}
use Rattle.checker.specs.Rules.{Verdict, goes_on, stops, first_broken, verdict, stop, code_in}
use Rattle.checker.specs.Report.{found, laid}

-- The working room: seven pieces.
pub record WorkingRoom : Type 0 where
  pub heads : List ℕ
  pub links : List ℕ
  pub events : List ℕ
  pub procedures : List ℕ
  pub sets : List ℕ
  pub starts : List ℕ
  pub joins : List ℕ

abbrev pub room : List ℕ → List ℕ → List ℕ → List ℕ → List ℕ → List ℕ → List ℕ → WorkingRoom
room heads links events procedures sets starts joins = record {
  heads = heads;
  links = links;
  events = events;
  procedures = procedures;
  sets = sets;
  starts = starts;
  joins = joins;
}

-- What is lent, and what is given and left.
pub record Lent : Type 0 where
  pub trace : List ℕ
  pub report : List ℕ
  pub room : WorkingRoom

abbrev pub lent : List ℕ → List ℕ → WorkingRoom → Lent
lent trace report room = record { trace = trace; report = report; room = room }

pub record Left : Type 0 where
  pub answer : Answer
  pub report : List ℕ
  pub room : WorkingRoom

abbrev pub left : Answer → List ℕ → WorkingRoom → Left
left answer report room = record { answer = answer; report = report; room = room }

-- A piece is too short.
abbrev pub short : List ℕ → Bool
short piece = ltb (length piece) piece_size

abbrev pub any_short : WorkingRoom → Bool
any_short r = short r.heads || short r.links || short r.events || short r.procedures || short r.sets || short r.starts || short r.joins

-- The longest trace, in bytes.
abbrev pub most_bytes : ℕ
most_bytes = 16777216

-- The rules of codes 1 and 2, tested before anything is read.
unfoldable pub unread : Lent → Verdict
unread l = first_broken ((any_short l.room, 1) ∷ (ltb most_bytes (length l.trace), 2) ∷ [])

-- The answer on a trace that is read: everything as it stands where the call stops.
unfoldable pub answer : List ℕ → Answer
answer trace =
    let n = stop trace in
    let t = events trace in
    record {
      code = code_in (verdict trace n);
      events = n;
      offset = place trace n;
      races = length (found (run t) n);
      visits = visits t n;
      most = most t n;
    }

-- The code alone, all other numbers being 0.
abbrev pub code_alone : ℕ → Answer
code_alone c = record { code = c; events = 0; offset = 0; races = 0; visits = 0; most = 0 }

-- At exit the used part of each piece is all zero and the rest unchanged.
unfoldable pub cleared_room : WorkingRoom → WorkingRoom
cleared_room r = record {
  heads = cleared piece_size r.heads;
  links = cleared piece_size r.links;
  events = cleared piece_size r.events;
  procedures = cleared piece_size r.procedures;
  sets = cleared piece_size r.sets;
  starts = cleared piece_size r.starts;
  joins = cleared piece_size r.joins;
}

-- After codes 1 and 2 nothing at all is touched.
unfoldable pub outcome_after : Verdict → Lent → Left
outcome_after (stops c) l = left (code_alone c) l.report l.room
outcome_after goes_on l =
    left (answer l.trace) (laid (found (run (events l.trace)) (stop l.trace)) l.report) (cleared_room l.room)

abbrev pub outcome : Lent → Left
outcome l = outcome_after (unread l) l
