-- Words for lists of anything: what a test says yes to, and who is in a list; and a sum.
use Rattle.std.specs.Prelude.{ℕ, zero, suc, ◌+◌, ◌≡◌, Bool, true, false, cond, List, [], ◌∷◌, ◌⊎◌, Option, None, Some}

module _ {A : Type 0} where
  -- Does a test say yes to some of a list? To which first? Which are they all?
  unfoldable pub any : (A → Bool) → List A → Bool
  any test [] = false
  any test (a ∷ list) = cond (test a) true (any test list)

  unfoldable pub first : (A → Bool) → List A → Option A
  first test [] = None
  first test (a ∷ list) = cond (test a) (Some a) (first test list)

  unfoldable pub those : (A → Bool) → List A → List A
  those test [] = []
  those test (a ∷ list) = cond (test a) (a ∷ those test list) (those test list)

  -- Who is in a list.
  unfoldable pub In : A → List A → Type 0
  In a [] = ⊥
  In a (b ∷ list) = (a ≡ b) ⊎ In a list

-- The numbers that f gives below n, added up.
unfoldable pub sum_below : ℕ → (ℕ → ℕ) → ℕ
sum_below zero f = 0
sum_below (suc n) f = sum_below n f + f n
