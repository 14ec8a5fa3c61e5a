-- The rules: which code an event of a trace is refused with, and where the call stops.
use Rattle.std.specs.Prelude.{ℕ, zero, suc, ◌<◌, ◌≡◌, Bool, true, false, cond, not, ◌&&◌, List, [], ◌∷◌, leb, ltb, length, Result, Ok, Err}
use Rattle.trace.specs.declared.Event.{Event}
use Rattle.trace.specs.declared.Found.{Found}
use Rattle.trace.specs.declared.Refused.{Refused}
use Rattle.trace.specs.Kinds.{is_spawn, is_locking, is_unlocking, lawful_holding, is_access}
use Rattle.trace.specs.Events.{code_of, reading_at}
use Rattle.locks.specs.Sets.{is_in, is_empty}
use Rattle.bags.specs.Parallel.{begun, is_main_open}
use Rattle.bags.specs.Bags.{bags}
use Rattle.bags.specs.Steps.{most_begun}
use Rattle.kept.specs.Lists.{any}
use Rattle.kept.specs.Rules.{in_all}
use Rattle.kept.specs.Theorem.{kept, visited}
use Rattle.kept.specs.Pieces.{piece_size}
use Rattle.kept.specs.Access.{in_no_bag}
use Rattle.checker.specs.Events.{place, events, acts, held, run}

-- An event is accepted, or the call stops there with a code: that of the first rule that is broken.
pub data Verdict : Type 0 where
  goes_on : Verdict
  stops : ℕ → Verdict

unfoldable pub first_broken : List (Bool × ℕ) → Verdict
first_broken [] = goes_on
first_broken (rule ∷ rules) = cond rule.0 (stops rule.1) (first_broken rules)

-- The rules of codes 7 to 13 for event k, in the order in which they are tested. Entries kept in all are those of the lists of all 4,096 locations.
unfoldable pub rules : (ℕ → Event) → ℕ → List (Bool × ℕ)
rules t k =
    (not (is_main_open (acts t) k), 7) ∷  -- an event after main's return
    (not (lawful_holding (t k)) && not (is_empty (held t k)), 8) ∷  -- spawn, return or sync with a lock held
    (is_locking (t k) && is_in (t k).operand (held t k), 9) ∷  -- lock already held
    (is_unlocking (t k) && not (is_in (t k).operand (held t k)), 10) ∷  -- unlock of a lock not held
    (is_spawn (t k) && leb most_begun (begun (acts t) k), 11) ∷  -- spawn when 4,096 procedures have begun, main counted
    (is_access (t k) && any (in_no_bag (bags (acts t) k)) (visited (run t) k), 12) ∷  -- an entry kept for the accessed location has its procedure in no bag
    (is_access (t k) && ltb piece_size (in_all piece_size (kept (run t) (suc k))), 13) ∷ []  -- after the rules above more than 4,096 entries would be kept in all

-- By what was read at the place of event k: codes 3 to 6, or an event for the rules above.
unfoldable pub by_reading : (ℕ → Event) → ℕ → Result Found Refused → Verdict
by_reading t k (Err r) = stops (code_of r.why)
by_reading t k (Ok f) = first_broken (rules t k)

-- Code 0: every byte accepted and main has returned. Code 14: the bytes end between events and main has not returned.
unfoldable pub ended : (ℕ → Event) → ℕ → Verdict
ended t k = stops (cond (is_main_open (acts t) k) 14 0)

-- What is said at event k of a trace.
unfoldable pub verdict : List ℕ → ℕ → Verdict
verdict trace k =
    cond (leb (length trace) (place trace k)) (ended (events trace) k) (by_reading (events trace) k (reading_at trace (place trace k)))

-- Every event before n is accepted.
abbrev pub AcceptedBefore : List ℕ → ℕ → Type 0
AcceptedBefore trace n = (k : ℕ) → k < n → verdict trace k ≡ goes_on

-- Is the event accepted?
abbrev pub accepts : Verdict → Bool
accepts goes_on = true
accepts (stops c) = false

-- The first event, from k on, that is not accepted; n steps are enough where n bytes are left, as an event has a byte at least.
unfoldable pub stop_from : List ℕ → ℕ → ℕ → ℕ
stop_from trace zero k = k
stop_from trace (suc n) k = cond (accepts (verdict trace k)) (stop_from trace n (suc k)) k

unfoldable pub stop : List ℕ → ℕ
stop trace = stop_from trace (length trace) 0

-- The code there. (That an event which is accepted is never where the call stops is part of demand 1.)
abbrev pub code_in : Verdict → ℕ
code_in goes_on = 14
code_in (stops c) = c
