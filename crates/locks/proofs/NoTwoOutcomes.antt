-- No two outcomes satisfy the contract of a public function of `locks`, each contract taken as the source states it: it says what the result, or its
-- word, equals. Assumes nothing.
use Prim.Native.Nat.{ℕ}
use mathlib.Core.Path.{◌≡◌, sym, ap, ◌∙◌}
use Rattle.outcome.specs.Outcome.{OneResult}
use Rattle.locks.specs.declared.Held.{Held}
use Rattle.locks.proofs.Held.none.Reads as none_contract
use Rattle.locks.proofs.Held.take.Reads as take_contract
use Rattle.locks.proofs.Held.release.Reads as release_contract
use Rattle.locks.proofs.Held.has.Reads as has_contract
use Rattle.locks.proofs.Held.is_empty.Reads as is_empty_contract
use Rattle.locks.proofs.Held.count.Reads as count_contract
use Rattle.locks.proofs.Held.lowest.Reads as lowest_contract
use Rattle.locks.proofs.Held.set_of_access.Reads as set_of_access_contract
use Rattle.locks.proofs.is_in.Reads as is_in_contract
use Rattle.locks.proofs.apart.Reads as apart_contract
use Rattle.locks.proofs.within.Reads as within_contract

-- A set of locks held is its word.
same_held : {x y : Held} {word : ℕ} → x.bits ≡ word → y.bits ≡ word → x ≡ y
same_held p q = ap (λ (b : ℕ). record { bits = b }) (p ∙ sym q)

pub record NoTwoOutcomes : Type 0 where
  pub none : OneResult none_contract.Post
  pub take : OneResult take_contract.Post
  pub release : OneResult release_contract.Post
  pub has : OneResult has_contract.Post
  pub is_empty : OneResult is_empty_contract.Post
  pub count : OneResult count_contract.Post
  pub lowest : OneResult lowest_contract.Post
  pub set_of_access : OneResult set_of_access_contract.Post
  pub is_in : OneResult is_in_contract.Post
  pub apart : OneResult apart_contract.Post
  pub within : OneResult within_contract.Post

pub no_two_outcomes : NoTwoOutcomes
no_two_outcomes = record {
  none = λ κ a x y s s' p q. same_held p q;
  take = λ κ a x y s s' p q. same_held p q;
  release = λ κ a x y s s' p q. same_held p q;
  has = λ κ a x y s s' p q. cc;
  is_empty = λ κ a x y s s' p q. cc;
  count = λ κ a x y s s' p q. cc;
  lowest = λ κ a x y s s' p q. cc;
  set_of_access = λ κ a x y s s' p q. cc;
  is_in = λ κ a x y s s' p q. cc;
  apart = λ κ a x y s s' p q. cc;
  within = λ κ a x y s s' p q. cc;
}
