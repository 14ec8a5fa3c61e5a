-- Every accepted trace, read and written again where it fits, is the same bytes.
use Rattle.std.specs.Prelude.{ℕ, zero, suc, ◌+◌, ◌≤◌, ◌≡◌, List, [], ◌∷◌, length, take}
use Rattle.trace.specs.declared.Event.{Event}
use Rattle.writer.specs.declared.Written.{Written}
use Rattle.writer.specs.Contract.{overwritten, Wrote}
use Rattle.checker.specs.Events.{events}
use Rattle.checker.specs.Call.{Lent, Left}

-- So many events from event k on, as a list.
unfoldable pub listed : (ℕ → Event) → ℕ → ℕ → List Event
listed t k zero = []
listed t k (suc n) = t k ∷ listed t (suc k) n

-- The accepted part of a trace is its first `offset` bytes, which hold `events` events, as the checker's answer has it. Whoever writes these events
-- where they fit is not refused, and writes that part. With code 0 it is the whole trace.
pub record AcceptedAgain (l : Lent) (r : Left) : Type 0 where
  pub again : (before : List ℕ) (at : ℕ) → at + r.answer.offset ≤ length before → (w : Written) (after : List ℕ)
      → Wrote (listed (events l.trace) 0 r.answer.events) before at w after
      → (w.code ≡ 0) × (w.next ≡ at + r.answer.offset) × (after ≡ overwritten before at (take r.answer.offset l.trace))
  pub whole : r.answer.code ≡ 0 → take r.answer.offset l.trace ≡ l.trace
