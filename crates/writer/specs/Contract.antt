-- What writing events gives and leaves.
use Rattle.std.specs.Prelude.{ℕ, zero, suc, ◌+◌, ◌-◌, ◌≤◌, ◌<◌, ◌≡◌, ◌≢◌, ◌⊎◌, cond, List, [], ◌∷◌, ◌++◌, leb, ltb, length, get_or, take, drop}
use Rattle.trace.specs.declared.Event.{Event}
use Rattle.trace.specs.declared.Refusal.TheVariants.{Reserved, OperandLarge}
use Rattle.trace.specs.Numbers.{Bytes}
use Rattle.trace.specs.Kinds.{reserved, largest_operand}
use Rattle.trace.specs.Events.{code_of, event_then, reading_at}
use Rattle.writer.specs.declared.Why.{Why}
use Rattle.writer.specs.declared.Why.TheVariants.{Unreadable, Place}
use Rattle.writer.specs.declared.Written.{Written}
use Rattle.writer.specs.Form.{bytes_of, bytes_of_all}

-- The number of each refusal: 5 for kinds above 6 and 6 as in 01, and 15 where the bytes don't fit or the place lies past the end.
abbrev pub code_for : Why → ℕ
code_for (Unreadable refusal) = code_of refusal
code_for Place = 15

-- One event, from a place on in a buffer of so many bytes: the refusals in this order, or 0. As an event has a byte at least, it does not fit where
-- the place lies past the end.
unfoldable pub event_code : ℕ → ℕ → Event → ℕ
event_code room at e =
    cond (leb reserved e.kind) (code_of Reserved)
    (cond (ltb (largest_operand e) e.operand) (code_of OperandLarge)
    (cond (ltb room (at + length (bytes_of e))) (code_for Place) 0))

-- In a list the first event refused decides, and an empty one is refused for its place alone.
abbrev pub first_refused : ℕ → ℕ → ℕ
first_refused zero others = others
first_refused (suc c) others = suc c

unfoldable pub list_code : ℕ → ℕ → List Event → ℕ
list_code room at [] = cond (ltb room at) (code_for Place) 0
list_code room at (e ∷ es) = first_refused (event_code room at e) (list_code room (at + length (bytes_of e)) es)

-- The next place, by the code: 0, or a refusal.
unfoldable pub next_place : ℕ → ℕ → List Event → ℕ
next_place zero at es = at + length (bytes_of_all es)
next_place (suc c) at es = at

-- A buffer with bytes written from a place on; those outside keep what they had.
abbrev pub overwritten : List ℕ → ℕ → List ℕ → List ℕ
overwritten buffer at bytes = take at buffer ++ bytes ++ drop (at + length bytes) buffer

-- The buffer afterwards, by the code.
unfoldable pub buffer_after : ℕ → List ℕ → ℕ → List Event → List ℕ
buffer_after zero buffer at es = overwritten buffer at (bytes_of_all es)
buffer_after (suc c) buffer at es = buffer

-- The reader reads these events from a place on, one after the other, and `next` is the place after the last.
unfoldable pub ReadAs : List ℕ → ℕ → List Event → ℕ → Type 0
ReadAs trace at [] next = at ≡ next
ReadAs trace at (e ∷ es) next = (after : ℕ) × (reading_at trace at ≡ event_then e after) × ReadAs trace after es next

-- What writing a list of events from a place of a buffer on promises; one event is a list of one. The first three parts fix everything. The others
-- say, in the words of the request, that what they fix is what was asked for. What is written, the reader reads back as the same events, whatever comes
-- behind it. What was read, written again where it fits, is the same bytes. A refusal leaves the buffer untouched, and bytes outside those written keep
-- what they had.
pub record Wrote (es : List Event) (before : List ℕ) (at : ℕ) (r : Written) (after : List ℕ) : Type 0 where
  pub code : r.code ≡ list_code (length before) at es
  pub next : r.next ≡ next_place r.code at es
  pub buffer : after ≡ buffer_after r.code before at es
  pub reads_back : r.code ≡ 0 → (behind : List ℕ) → ReadAs (take r.next after ++ behind) at es r.next
  pub written_again : (trace : List ℕ) (from to : ℕ) → Bytes trace → ReadAs trace from es to → at + (to - from) ≤ length before
      → (r.code ≡ 0) × (r.next ≡ at + (to - from)) × (after ≡ overwritten before at (take (to - from) (drop from trace)))
  pub untouched : r.code ≢ 0 → (r.next ≡ at) × (after ≡ before)
  pub outside_kept : (i : ℕ) → (i < at) ⊎ (r.next ≤ i) → get_or after i 0 ≡ get_or before i 0
