-- Sums over the numbers below n: changing one term changes the sum by as much, each term and each two terms are within the sum, and a sum that is
-- not 0 has a term that is not. Each is by induction on n. Assumes nothing.
use Prim.Native.Nat.{ℕ, zero, suc, ◌+◌, ◌≤◌, ◌<◌}
use mathlib.Core.Path.{◌≡◌, refl, ap₂}
use mathlib.Core.Logic.{◌≢◌}
use mathlib.Core.Bool.{cond}
use native.Mathlib.Decide.{dec_lt}
use native.Mathlib.Nat.{not-suc-le-zero}
use native.Mathlib.Omega.{arith}
use lib.Dec.{eqb}
use borrow.Author.Tests.{eq-eqb, ne_eqb}
use Rattle.kept.specs.Lists.{sum_below}

-- Functions that agree below n have the same sum.
pub sum_agree : (n : ℕ) (f g : ℕ → ℕ) → ((y : ℕ) → y < n → g y ≡ f y) → sum_below n g ≡ sum_below n f
unfolding sum_below
sum_agree zero f g same = refl
sum_agree (suc n) f g same = ap₂ (λ (a b : ℕ). a + b) (sum_agree n f g (λ y h. same y (omega arith))) (same n (omega arith))

-- If two functions differ at x only, their sums differ by as much as the terms at x.
pub sum_changed : (n : ℕ) (f g : ℕ → ℕ) (x : ℕ) → x < n → ((y : ℕ) → y ≢ x → g y ≡ f y) → sum_below n g + f x ≡ sum_below n f + g x
unfolding sum_below
sum_changed zero f g x h same = absurd (not-suc-le-zero h)
sum_changed (suc n) f g x h same =
    elim (dec_lt x n) [
      | yes before ↦
          let rest = sum_changed n f g x before same in
          let last = same n (omega arith) in
          omega arith
      | no not-before ↦
          let last : x ≡ n = omega arith in
          let rest = sum_agree n f g (λ y o. same y (omega arith)) in
          rw last (omega arith)
    ]

-- Each term is within the sum.
pub sum_term : (n : ℕ) (f : ℕ → ℕ) (x : ℕ) → x < n → f x ≤ sum_below n f
unfolding sum_below
sum_term zero f x h = absurd (not-suc-le-zero h)
sum_term (suc n) f x h =
    elim (dec_lt x n) [
      | yes before ↦
          let rest = sum_term n f x before in
          omega arith
      | no not-before ↦
          let last : x ≡ n = omega arith in
          rw last (omega arith)
    ]

-- So are each two terms together: without the one, the sum still has the other.
pub sum_two_terms : (n : ℕ) (f : ℕ → ℕ) (x y : ℕ) → x < n → y < n → y ≢ x → f x + f y ≤ sum_below n f
sum_two_terms n f x y h k different =
    let without : ℕ → ℕ = λ z. cond (eqb z x) 0 (f z) in
    let changed : sum_below n without + f x ≡ sum_below n f + without x = sum_changed n f without x h (λ z q. rw (ne_eqb z x q)) in
    let gone : without x ≡ 0 = rw (eq-eqb x x refl) in
    let other : without y ≡ f y = rw (ne_eqb y x different) in
    let within : without y ≤ sum_below n without = sum_term n without y k in
    omega (arith, changed, gone, other, within)

-- A sum that is not 0 has a term that is not.
pub sum_some : (n : ℕ) (f : ℕ → ℕ) → 0 < sum_below n f → (x : ℕ) × (x < n) × (0 < f x)
unfolding sum_below
sum_some zero f h = absurd (not-suc-le-zero h)
sum_some (suc n) f h =
    elim (dec_lt 0 (f n)) [
      | yes here ↦ (n, omega arith, here)
      | no not-here ↦
          let rest = sum_some n f (omega arith) in
          (rest.0, omega (arith, rest.1), rest.2)
    ]
