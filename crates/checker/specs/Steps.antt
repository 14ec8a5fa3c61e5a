-- What the parts of the call do: the state before event k, and what one step makes of it. A reader who wants only what `check` promises can skip this
-- file.
use Rattle.std.specs.Prelude.{ℕ, suc, ◌+◌, ◌*◌, ◌≤◌, ◌<◌, max, ◌≡◌, true, cond, List, [], ◌∷◌, leb, ltb, length, set, Result, Ok, Err}
use Rattle.trace.specs.declared.Event.{Event}
use Rattle.trace.specs.Events.{event_then, reading_at}
use Rattle.trace.specs.Events as reader
use Rattle.locks.specs.declared.Held.{Held}
use Rattle.bags.specs.declared.ask.Runs.{Runs}
use Rattle.bags.specs.Lent.{InRoom}
use Rattle.bags.specs.Holds.{Holds as BagsHold}
use Rattle.kept.specs.declared.KeptLists.{KeptLists}
use Rattle.kept.specs.Theorem.{kept}
use Rattle.kept.specs.Pieces.{piece_size, RestKept, Room as ListsRoom}
use Rattle.kept.specs.Lent.{pieces_of}
use Rattle.kept.specs.Access.{number_of}
use Rattle.kept.specs.Holds.{Holds as ListsHold, RestsKept}
use Rattle.checker.specs.declared.Answer.{Answer}
use Rattle.checker.specs.declared.Counts.{Counts}
use Rattle.checker.specs.declared.State.{State}
use Rattle.checker.specs.declared.End.{End}
use Rattle.checker.specs.declared.End.TheVariants.{Accepted, RoomShort, TraceLong, Unread, AfterMain, Holding, HeldAlready, NotHeld}
use Rattle.checker.specs.declared.End.TheVariants.{ProceduresMany, NotKept, Unfinished}
use Rattle.checker.specs.Events.{place, events, acts, held, most, run, visits}
use Rattle.checker.specs.Rules.{goes_on, stops, verdict, AcceptedBefore}
use Rattle.checker.specs.Report.{Race, found, laid}
use Rattle.checker.specs.Call.{most_bytes}

-- The code of each end, those of the reader and of the lists by their own numbers.
abbrev pub code_of : End → ℕ
code_of Accepted = 0
code_of RoomShort = 1
code_of TraceLong = 2
code_of (Unread why) = reader.code_of why
code_of AfterMain = 7
code_of Holding = 8
code_of HeldAlready = 9
code_of NotHeld = 10
code_of ProceduresMany = 11
code_of (NotKept why) = number_of why
code_of Unfinished = 14

-- The state, the lists and the runs as they stand before event k: each part is what the definitions say.
pub record Stands (trace : List ℕ) (k : ℕ) (s : State) (lists : KeptLists) (runs : Runs) : Type 0 where
  pub accepted_before : AcceptedBefore trace k
  pub at_place : s.at ≡ place trace k
  pub held_told : s.held.bits ≡ held (events trace) k
  pub bags_held : BagsHold (acts (events trace)) k runs.starts.now runs.joins.now runs.pairs
  pub lists_held : ListsHold (kept (run (events trace)) k) (pieces_of lists) lists.slots
  pub events_told : s.counts.events ≡ k
  pub races_told : s.counts.races ≡ length (found (run (events trace)) k)
  pub visits_told : s.counts.visits ≡ visits (events trace) k
  pub most_told : s.counts.most ≡ most (events trace) k

-- What lies past the used part of each piece is kept.
pub record AllRestsKept (lists : KeptLists) (runs : Runs) (lists' : KeptLists) (runs' : Runs) : Type 0 where
  pub lists_rest : RestsKept (pieces_of lists) (pieces_of lists')
  pub starts_rest : RestKept piece_size runs.starts.now runs'.starts.now
  pub joins_rest : RestKept piece_size runs.joins.now runs'.joins.now

-- An event of the trace comes next, and codes 3 to 7 let it pass.
pub record ComesNext (trace : List ℕ) (s : State) (lists : KeptLists) (runs : Runs) (e : Event) (next : ℕ) : Type 0 where
  pub stands : Stands trace s.counts.events s lists runs
  pub bytes_left : s.at < length trace
  pub read : reading_at trace s.at ≡ event_then e next
  pub main_runs : ltb 0 runs.pairs.count ≡ true

-- More visits than this are never counted: the longest trace has so many events, each with a byte at least, and a list has at most as many entries as
-- there were events before. It is the square of the longest trace's length.
abbrev pub most_visits : ℕ
most_visits = 281474976710656

-- The counts have room for an event more.
pub record Small (c : Counts) : Type 0 where
  pub events_small : c.events < most_bytes
  pub visits_small : c.visits ≤ most_visits

-- The numbers that are counted stay small, and lists and runs are as the layers below ask for.
pub record Safe (s : State) (lists : KeptLists) (runs : Runs) : Type 0 where
  pub bags_room : InRoom runs
  pub lists_room : ListsRoom (pieces_of lists) lists.slots
  pub counts_small : Small s.counts
  pub races_small : s.counts.races ≤ s.counts.events

-- The event is accepted, and everything is brought forward; or it is refused with a code, and what was reported stands.
module _ (trace : List ℕ) (k : ℕ) (report : List ℕ) (lists : KeptLists) (runs : Runs) (report' : List ℕ) (lists' : KeptLists) (runs' : Runs) where
  pub record GoesOn (s' : State) : Type 0 where
    pub accepted : verdict trace k ≡ goes_on
    pub stands : Stands trace (suc k) s' lists' runs'
    pub reported : (report₀ : List ℕ) → report ≡ laid (found (run (events trace)) k) report₀
        → report' ≡ laid (found (run (events trace)) (suc k)) report₀
    pub rests_kept : AllRestsKept lists runs lists' runs'

  pub record IsRefused (c : ℕ) : Type 0 where
    pub refused : verdict trace k ≡ stops c
    pub report_same : report' ≡ report
    pub rests_kept : AllRestsKept lists runs lists' runs'

  abbrev pub AfterStep : Result State End → Type 0
  AfterStep (Ok s') = GoesOn s'
  AfterStep (Err end) = IsRefused (code_of end)

-- The counts after an event, given how many accesses are reported then, the visits more, and how many locks are held then, or 0 where no lock was
-- taken; and the state, given the place of the next event and the locks held.
abbrev pub counts_after : Counts → ℕ → ℕ → ℕ → Counts
counts_after c races more holding = record { events = c.events + 1; races = races; visits = c.visits + more; most = max c.most holding }

abbrev pub state_after : State → ℕ → Held → ℕ → ℕ → ℕ → State
state_after s next set races more holding = record { at = next; held = set; counts = counts_after s.counts races more holding }

-- An entry of the report, written after n others where it fits; and races one after the other.
unfoldable pub written_at : ℕ → ℕ → ℕ → ℕ → List ℕ → List ℕ
written_at n location earlier later report =
    cond (leb (n * 3 + 3) (length report)) (set (set (set report (n * 3) location) (n * 3 + 1) earlier) (n * 3 + 2) later) report

unfoldable pub written : ℕ → List Race → List ℕ → List ℕ
written n [] report = report
written n (r ∷ rs) report = written (suc n) rs (written_at n r.location r.earlier.event.0 r.later.event.0 report)

-- The answer with this code, the counts being as they stand.
abbrev pub answer_with : ℕ → State → Answer
answer_with c s = record {
  code = c;
  events = s.counts.events;
  offset = s.at;
  races = s.counts.races;
  visits = s.counts.visits;
  most = s.counts.most;
}
