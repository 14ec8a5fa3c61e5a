-- What stands at a place, from the bytes there: a byte without the top bit is a number, a byte with it goes before one that is not zero, and a
-- number that the table allows is an event. Whoever writes bytes learns by these what is read there. By the cases of the definitions. Assumes
-- nothing.
use Prim.Native.Nat.{ℕ, zero, suc, ◌+◌, ◌*◌, ◌/◌, ◌%◌, ◌≤◌, ◌<◌, zero-le, suc-le-suc}
use mathlib.Core.Path.{◌≡◌, refl, sym, ap, ap₂, ◌∙◌}
use mathlib.Core.List.{List, [], ◌∷◌}
use native.Mathlib.Omega.{arith}
use lib.Dec.{lit<}
use lib.ListN.{length, get_or, take, drop}
use lib.Seq.{drop-cons}
use borrow.Author.Tests.{le-leb, le-ltb, ne_eqb}
use Rattle.trace.specs.Numbers.{group, value, followed, size, most_groups, number_then, number_of, number_at}
use Rattle.trace.specs.declared.Event.{Event}
use Rattle.trace.specs.Kinds.{as_number, reserved, largest_operand}
use Rattle.trace.specs.Events.{event_then, judged, reading_at}
use Rattle.trace.proofs.Groups.{followed_ends}
use Rattle.trace.proofs.Gathering.{whole as gathered}
use Rattle.trace.proofs.Laws.{Whole, whole}

-- ---- over the bytes from the place on

first_worth : (bytes : List ℕ) → value (take 1 bytes) ≡ group (get_or bytes 0 0)
unfolding value
first_worth [] = refl
first_worth (byte ∷ bytes) = omega arith

one_group : (byte : ℕ) (bytes : List ℕ) (at : ℕ) → byte < 128 → number_of (byte ∷ bytes) at ≡ number_then byte (suc at)
unfolding value
one_group byte bytes at low =
    gathered (byte ∷ bytes) at 0 zero-le (lit< tt) (suc-le-suc zero-le) low (λ none. refl) ∙ ap₂ number_then (omega arith) (omega arith)

-- a number that is not zero has a last group that is not
last_not_zero : (bytes : List ℕ) (at number next : ℕ) → Whole bytes at number next → 0 < number → group (get_or bytes (followed bytes) 0) ≡ 0 → ⊥
last_not_zero bytes at number next w some = go (followed bytes) w.shortest w.worth
  where
    go : (n : ℕ) → (1 < suc n → group (get_or bytes n 0) ≡ 0 → ⊥) → number ≡ value (take (suc n) bytes) → group (get_or bytes n 0) ≡ 0 → ⊥
    go zero shortest worth none = omega (arith, first_worth bytes)
    go (suc n) shortest worth none = shortest (suc-le-suc (suc-le-suc zero-le)) none

group_and_more : (byte : ℕ) (bytes : List ℕ) (at number next : ℕ) → 128 ≤ byte → number_of bytes (suc at) ≡ number_then number next → 0 < number
    → next ≤ at + most_groups → number_of (byte ∷ bytes) at ≡ number_then (byte % 128 + 128 * number) next
unfolding value followed
group_and_more byte bytes at number next top is some near =
    let w : Whole bytes (suc at) number next = whole bytes (suc at) number next is in
    let led : size bytes ≤ followed (byte ∷ bytes) = rw (le-leb 128 byte top) (omega arith) in
    gathered (byte ∷ bytes) at (size bytes) led (omega (arith, w.ends)) (suc-le-suc w.inside) (followed_ends bytes w.inside)
    (λ none. absurd (last_not_zero bytes (suc at) number next w some (ap group none)))
    ∙ ap₂ number_then (ap (λ (n : ℕ). byte % 128 + 128 * n) (sym w.worth)) (omega (arith, w.ends))

-- ---- at a place of a trace

module _ (trace : List ℕ) (at : ℕ) (there : at < length trace) where
  pub last_group : get_or trace at 0 < 128 → number_at trace at ≡ number_then (get_or trace at 0) (suc at)
  unfolding number_at
  last_group low = rw (drop-cons trace at 0 there) (one_group (get_or trace at 0) (drop (suc at) trace) at low)

  pub group_before : (number next : ℕ) → 128 ≤ get_or trace at 0 → number_at trace (suc at) ≡ number_then number next → 0 < number → next ≤ at + most_groups
      → number_at trace at ≡ number_then (get_or trace at 0 % 128 + 128 * number) next
  unfolding number_at
  group_before number next top is some near =
      rw (drop-cons trace at 0 there) (group_and_more (get_or trace at 0) (drop (suc at) trace) at number next top is some near)

-- an event, where the number of one stands
pub event_there : (trace : List ℕ) (at : ℕ) (e : Event) (next : ℕ) → number_at trace at ≡ number_then (as_number e) next → e.kind < reserved
    → e.operand ≤ largest_operand e → reading_at trace at ≡ event_then e next
unfolding judged reading_at
event_there trace at e next is lawful within =
    let kind : as_number e % 8 ≡ e.kind = omega arith in
    let operand : as_number e / 8 ≡ e.operand = omega arith in
    rw (is, kind, operand, ne_eqb e.kind reserved (λ seven. omega arith), le-ltb (largest_operand e) e.operand within)
