-- The locks held never have the read mark: taking and releasing a lock leave it as it was, and at first nothing is held. So the lock sets of two accesses
-- have nothing in common exactly if no lock is shared and not both read. And they are never more than the most held so far. Assumes nothing.
use Prim.Native.Nat.{ℕ, zero, suc, ◌≤◌}
use mathlib.Core.Path.{◌≡◌, refl, ◌∙◌}
use mathlib.Core.Bool.{Bool, true, false, cond, not, ◌&&◌}
use native.Mathlib.Omega.{arith}
use Rattle.trace.specs.declared.Event.{Event}
use Rattle.trace.specs.Kinds.{is_locking, is_unlocking, is_read}
use Rattle.locks.specs.Sets.{mark, is_in, taken, released, apart, count}
use Rattle.locks.proofs.Laws.{none-mark, taken-mark, released-mark, apart_of_accesses, count_of_none}
use Rattle.checker.specs.Events.{held_after, held, most, entry_of}

-- No event adds the mark.
mark_as_before : (e : Event) (set : ℕ) → is_in mark (held_after e set) ≡ is_in mark set
unfolding held_after
mark_as_before e set = by_kind_lem (is_locking e) (is_unlocking e)
  where
    by_kind_lem : (takes releases : Bool) → is_in mark (cond takes (taken e.operand set) (cond releases (released e.operand set) set)) ≡ is_in mark set
    by_kind_lem true releases = taken-mark e.operand set
    by_kind_lem false true = released-mark e.operand set
    by_kind_lem false false = refl

module _ (t : ℕ → Event) where
  pub held_has_no_mark : (k : ℕ) → is_in mark (held t k) ≡ false
  unfolding held
  held_has_no_mark zero = none-mark
  held_has_no_mark (suc k) = mark_as_before (t k) (held t k) ∙ held_has_no_mark k

  -- What the lock sets of two accesses have in common is a lock, or the mark where both read.
  pub sets_apart : (i j : ℕ)
      → apart (entry_of t i).locks (entry_of t j).locks ≡ (apart (held t i) (held t j) && not (is_read (t i) && is_read (t j)))
  unfolding entry_of
  sets_apart i j = apart_of_accesses (is_read (t i)) (is_read (t j)) (held t i) (held t j) (held_has_no_mark i) (held_has_no_mark j)

  -- What is held was counted.
  pub held_at_most : (k : ℕ) → count (held t k) ≤ most t k
  unfolding held most
  held_at_most zero = omega (arith, count_of_none)
  held_at_most (suc k) = omega arith
