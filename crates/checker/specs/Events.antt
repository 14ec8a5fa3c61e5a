-- The events of a trace by their numbers, and what stands before each: the locks held, the accesses, the lists kept.
use Rattle.std.specs.Prelude.{ℕ, zero, suc, max, cond, List, length, Result, Ok, Err}
use Rattle.trace.specs.declared.Event.{Event}
use Rattle.trace.specs.declared.Found.{Found}
use Rattle.trace.specs.declared.Refused.{Refused}
use Rattle.trace.specs.Kinds.{is_spawn, is_return, is_sync, is_locking, is_unlocking, reserved, is_access, is_read, location}
use Rattle.trace.specs.Events.{reading_at}
use Rattle.locks.specs.Sets.{none, taken, released, set_of_access, count}
use Rattle.bags.specs.Parallel.{Act, spawn, return, sync, other, maker}
use Rattle.bags.specs.Bags.{bags}
use Rattle.kept.specs.declared.Entry.{Entry}
use Rattle.kept.specs.Lists.{sum_below}
use Rattle.kept.specs.Theorem.{Run, visited}
use Rattle.kept.specs.Access.{parallel_by}

-- What was read, as an event and as the place after it. Where no event stands there is the reserved kind, and the place stays.
abbrev pub event_in : Result Found Refused → Event
event_in (Ok f) = f.event
event_in (Err r) = record { kind = reserved; operand = 0 }

abbrev pub place_after : Result Found Refused → ℕ
place_after (Ok f) = f.next
place_after (Err r) = r.at

-- Events are numbered from 0 and stand one after the other: the place of event k in a trace, and the event.
unfoldable pub place : List ℕ → ℕ → ℕ
place trace zero = 0
place trace (suc k) = place_after (reading_at trace (place trace k))

unfoldable pub events : List ℕ → ℕ → Event
events trace k = event_in (reading_at trace (place trace k))

-- Of the kinds the bags know spawn, return and sync.
unfoldable pub act_of : Event → Act
act_of e = cond (is_spawn e) spawn (cond (is_return e) return (cond (is_sync e) sync other))

-- What an event makes of the set of locks held.
unfoldable pub held_after : Event → ℕ → ℕ
held_after e set = cond (is_locking e) (taken e.operand set) (cond (is_unlocking e) (released e.operand set) set)

module _ (t : ℕ → Event) where
  abbrev pub acts : ℕ → Act
  acts k = act_of (t k)

  -- Before event k: the locks held, and the largest number of locks held at one moment.
  unfoldable pub held : ℕ → ℕ
  held zero = none
  held (suc k) = held_after (t k) (held k)

  unfoldable pub most : ℕ → ℕ
  most zero = 0
  most (suc k) = max (most k) (count (held (suc k)))

  -- Event k as an access: its number, the procedure that makes it, and its lock set, the locks held plus a read mark if it reads.
  unfoldable pub entry_of : ℕ → Entry
  entry_of k = record { event = record { 0 = k }; procedure = record { 0 = maker acts k }; locks = set_of_access (is_read (t k)) (held k) }

  -- What the kept lists are asked for; the yes or no for "parallel" is that of the SP-bags of 002.
  unfoldable pub run : Run
  run = record {
    accesses = λ k. is_access (t k);
    location = λ k. location (t k);
    entry = entry_of;
    parallel = λ k. parallel_by (bags acts k);
  }

  -- Visits at an access are the length of the list kept for its location; and their sum over the first n events.
  unfoldable pub visits_at : ℕ → ℕ
  visits_at k = cond (is_access (t k)) (length (visited run k)) 0

  abbrev pub visits : ℕ → ℕ
  visits n = sum_below n visits_at
