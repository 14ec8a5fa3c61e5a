-- Laws of membership: who is in `those n p`, that a set below 2 ^ n is settled by who of the n numbers is in it, and what `every`, `how_many`
-- and `first` say of each single number. All by induction on the digits: number 0 is the lowest digit of a word, and number `suc k` of a
-- word is number `k` of its half.
-- Assumes nothing.
use Prim.Native.Nat.{ℕ, zero, suc, ◌+◌, ◌*◌, ◌/◌, ◌%◌, ◌^◌, ◌≤◌, ◌<◌, zero-le, suc-le-suc}
use mathlib.Core.Path.{◌≡◌, refl, sym, ap, ap₂, ◌∙◌}
use mathlib.Core.Logic.{◌⊎◌, inl, inr}
use mathlib.Core.Bool.{Bool, true, false, cond, not, ◌&&◌, beq, and-false, true≢false}
use native.Mathlib.Nat.{pow-suc, le_refl, le_of_suc-le-suc, not-suc-le-zero, eq-or-lt_of_le}
use native.Mathlib.Omega.{arith}
use lib.Dec.{eqb, ltb, leb-zero, leb-suc-zero, leb-suc-suc}
use borrow.Author.Tests.{lt-ltb, ltb-true, ltb-false}
use Rattle.std.specs.Bool.{Decides}
use Rattle.std.specs.Cmp.{booleans_Decides}
use Rattle.std.specs.Int.{bit_at}
use Rattle.std.proofs.lemmas.Bool.Decides.{same_from_decides, Decides-eqb, Decides-like, Decides-below_and}
use Rattle.std.proofs.lemmas.Nat.Bits.{bit_at-lt, bit_at_lowest, bit_at-suc, bit_at-zero, bit_at_above, same_from_bits_below}
use Rattle.locks.specs.Sets.{is_in, those, every, how_many, first}

-- ---- the digits of a word, lowest first

-- A digit as a number.
pub digit_at : (k s : ℕ) → cond (is_in k s) 1 0 ≡ bit_at s k
unfolding is_in
digit_at k s = digit (bit_at s k) (bit_at-lt s k)
  where
    digit : (d : ℕ) → d < 2 → cond (eqb d 1) 1 0 ≡ d
    digit zero h = refl
    digit (suc zero) h = refl
    digit (suc (suc d)) h = absurd (omega arith)

-- A digit that is 1 or 0 as a test says.
pub is_in_by : (k s : ℕ) (x : Bool) → bit_at s k ≡ cond x 1 0 → is_in k s ≡ x
unfolding is_in
is_in_by k s true e = ap (λ (d : ℕ). eqb d 1) e
is_in_by k s false e = ap (λ (d : ℕ). eqb d 1) e

-- Number 0 is the lowest digit, and number `suc k` is number k of the half.
pub low_digit : (s : ℕ) → cond (is_in 0 s) 1 0 ≡ s % 2
low_digit s = digit_at 0 s ∙ bit_at_lowest s

pub is_in_suc : (k s : ℕ) → is_in (suc k) s ≡ is_in k (s / 2)
is_in_suc k s = is_in_by (suc k) s (is_in k (s / 2)) (bit_at-suc s k ∙ sym (digit_at k (s / 2)))

-- Nothing is in 0, and nothing from n on in a word below 2 ^ n: its members are below n.
pub is_in_of_zero : (k : ℕ) → is_in k 0 ≡ false
is_in_of_zero k = is_in_by k 0 false (bit_at-zero k)

pub is_in_high : (n : ℕ) {k s : ℕ} → s < 2 ^ n → n ≤ k → is_in k s ≡ false
is_in_high n {k} {s} h l = is_in_by k s false (bit_at_above s n k h l)

pub is_in_below : (n k s : ℕ) → s < 2 ^ n → is_in k s ≡ true → k < n
is_in_below n k s h e = by_test (ltb k n) refl
  where
    by_test : (b : Bool) → ltb k n ≡ b → k < n
    by_test true q = ltb-true k n q
    by_test false q = absurd (true≢false (sym e ∙ is_in_high n h (ltb-false k n q)))

-- ---- two words with the same members are equal

-- Below 2 ^ n it is enough to look at the numbers below n.
pub same_below : (n a b : ℕ) → a < 2 ^ n → b < 2 ^ n → ((k : ℕ) → k < n → is_in k a ≡ is_in k b) → a ≡ b
same_below n a b h l f =
    same_from_bits_below n a b h l (λ k m. sym (digit_at k a) ∙ ap (λ (x : Bool). cond x 1 0) (f k m) ∙ digit_at k b)

-- ---- `those`

pub cond_le : (b : Bool) (x : ℕ) → cond b x 0 ≤ x
cond_le true x = le_refl x
cond_le false x = zero-le

cond_double : (b : Bool) (n : ℕ) → cond b (2 ^ suc n) 0 ≡ cond b (2 ^ n) 0 * 2
cond_double true n = pow-suc 2 n
cond_double false n = refl

-- The set of numbers below n is below 2 ^ n.
pub those_lt : (n : ℕ) (p : ℕ → Bool) → those n p < 2 ^ n
unfolding those
those_lt zero p = suc-le-suc zero-le
those_lt (suc n) p = omega (arith, those_lt n p, pow-suc 2 n, cond_le (p n) (2 ^ n))

-- Lowest first: the answer at 0 is the lowest digit.
those_low : (n : ℕ) (p : ℕ → Bool) → those (suc n) p ≡ those n (λ k. p (suc k)) * 2 + cond (p 0) 1 0
unfolding those
those_low zero p = omega arith
those_low (suc n) p = omega (arith, those_low n p, cond_double (p (suc n)) n)

those_half : (n : ℕ) (p : ℕ → Bool) → those (suc n) p / 2 ≡ those n (λ k. p (suc k))
those_half n p = omega (arith, those_low n p, cond_le (p 0) 1)

those_odd : (n : ℕ) (p : ℕ → Bool) → those (suc n) p % 2 ≡ cond (p 0) 1 0
those_odd n p = omega (arith, those_low n p, cond_le (p 0) 1)

-- Who is in it.
pub is_in-those : (n : ℕ) (p : ℕ → Bool) (k : ℕ) → is_in k (those n p) ≡ (ltb k n && p k)
unfolding those
is_in-those zero p k = is_in_of_zero k ∙ sym (ap (λ (x : Bool). x && p k) (leb-suc-zero k))
is_in-those (suc n) p zero =
    is_in_by 0 (those (suc n) p) (p 0) (bit_at_lowest (those (suc n) p) ∙ those_odd n p)
    ∙ sym (ap (λ (x : Bool). x && p 0) (leb-suc-suc 0 n ∙ leb-zero n))
is_in-those (suc n) p (suc k) =
    is_in_suc k (those (suc n) p) ∙ ap (is_in k) (those_half n p) ∙ is_in-those n (λ j. p (suc j)) k
    ∙ sym (ap (λ (x : Bool). x && p (suc k)) (leb-suc-suc (suc k) n))

-- Where p says yes to numbers below n alone, they need no test; nor does a number that is below n.
pub is_in-those_inside : (n : ℕ) (p : ℕ → Bool) (k : ℕ) → (p k ≡ true → k < n) → is_in k (those n p) ≡ p k
is_in-those_inside n p k f = is_in-those n p k ∙ inside (p k) f
  where
    inside : (b : Bool) → (b ≡ true → k < n) → (ltb k n && b) ≡ b
    inside true g = ap (λ (x : Bool). x && true) (lt-ltb k n (g refl))
    inside false g = and-false (ltb k n)

pub is_in-those_below : (n : ℕ) (p : ℕ → Bool) (k : ℕ) → k < n → is_in k (those n p) ≡ p k
is_in-those_below n p k h = is_in-those_inside n p k (λ e. h)

-- A word whose members below n are those that p says yes to.
pub is_those : (n s : ℕ) (p : ℕ → Bool) → s < 2 ^ n → ((k : ℕ) → k < n → is_in k s ≡ p k) → s ≡ those n p
is_those n s p h f = same_below n s (those n p) h (those_lt n p) (λ k l. f k l ∙ sym (is_in-those_below n p k l))

-- ---- `every`

-- Highest first, as it is defined.
pub every_top : (n : ℕ) (p : ℕ → Bool) → every (suc n) p ≡ (p n && every n p)
unfolding every
every_top n p = refl

-- It says yes exactly if what the test decides holds of each number below n.
pub every_decides : (p : ℕ → Bool) (P : ℕ → Type 0) → ((k : ℕ) → Decides (p k) (P k)) → (n : ℕ) → Decides (every n p) ((k : ℕ) → k < n → P k)
unfolding every
every_decides p P each = Decides-below_and p P (λ n. every n p) each refl (λ n. refl)

-- Tests that agree below n.
pub every_agree : (n : ℕ) (p q : ℕ → Bool) → ((k : ℕ) → k < n → p k ≡ q k) → every n p ≡ every n q
unfolding every
every_agree zero p q f = refl
every_agree (suc n) p q f = ap₂ ◌&&◌ (f n (le_refl (suc n))) (every_agree n p q (λ k h. f k (omega arith)))

-- Lowest first.
every_low : (n : ℕ) (p : ℕ → Bool) → every (suc n) p ≡ (p 0 && every n (λ k. p (suc k)))
unfolding every
every_low zero p = refl
every_low (suc n) p = ap (λ (x : Bool). p (suc n) && x) (every_low n p) ∙ swap (p (suc n)) (p 0) (every n (λ k. p (suc k)))
  where
    swap : (x y z : Bool) → (x && (y && z)) ≡ (y && (x && z))
    swap true y z = refl
    swap false true z = refl
    swap false false z = refl

-- Two words below 2 ^ n are equal: each number is in both or in neither.
pub equal_is_every : (n a b : ℕ) → a < 2 ^ n → b < 2 ^ n → eqb a b ≡ every n (λ k. beq (is_in k a) (is_in k b))
equal_is_every n a b h l =
    let both : ℕ → Bool = λ k. beq (is_in k a) (is_in k b) in
    let same = every_decides both (λ k. is_in k a ≡ is_in k b) (λ k. booleans_Decides (is_in k a) (is_in k b)) n in
    same_from_decides (eqb a b) (every n both) (Decides-eqb a b)
    (Decides-like (every n both) (same_below n a b h l) (λ e k m. ap (is_in k) e) same)

-- ---- `how_many`

-- Highest first, as it is defined.
pub how_many_top : (n : ℕ) (p : ℕ → Bool) → how_many (suc n) p ≡ cond (p n) 1 0 + how_many n p
unfolding how_many
how_many_top n p = refl

-- Lowest first.
pub how_many_low : (n : ℕ) (p : ℕ → Bool) → how_many (suc n) p ≡ cond (p 0) 1 0 + how_many n (λ k. p (suc k))
unfolding how_many
how_many_low zero p = refl
how_many_low (suc n) p = omega (arith, how_many_low n p)

-- At most n of n.
pub how_many_le : (n : ℕ) (p : ℕ → Bool) → how_many n p ≤ n
unfolding how_many
how_many_le zero p = zero-le
how_many_le (suc n) p = omega (arith, how_many_le n p, cond_le (p n) 1)

-- Tests that agree below n.
pub how_many_agree : (n : ℕ) (p q : ℕ → Bool) → ((k : ℕ) → k < n → p k ≡ q k) → how_many n p ≡ how_many n q
unfolding how_many
how_many_agree zero p q f = refl
how_many_agree (suc n) p q f =
    ap₂ (λ (x : Bool) (y : ℕ). cond x 1 0 + y) (f n (le_refl (suc n))) (how_many_agree n p q (λ k h. f k (omega arith)))

-- A test that says yes to one number more says yes to one more.
pub how_many_one_more : (n l : ℕ) (p q : ℕ → Bool) → l < n → p l ≡ false → q l ≡ true → ((k : ℕ) → k < n → (k ≡ l → ⊥) → q k ≡ p k)
    → how_many n q ≡ suc (how_many n p)
unfolding how_many
how_many_one_more zero l p q h no-p yes-q others = absurd (not-suc-le-zero h)
how_many_one_more (suc n) l p q h no-p yes-q others =
    at_or_below (λ m. how_many_one_more n l p q m no-p yes-q (λ k j. others k (omega arith))) (eq-or-lt_of_le (le_of_suc-le-suc h))
  where
    at_or_below : (l < n → how_many n q ≡ suc (how_many n p)) → (l ≡ n) ⊎ (l < n) → cond (q n) 1 0 + how_many n q ≡ suc (cond (p n) 1 0 + how_many n p)
    at_or_below below (inl e) =
        let below-l : how_many n q ≡ how_many n p = how_many_agree n q p (λ k m. others k (omega arith) (λ (w : k ≡ l). omega arith)) in
        rw (ap q (sym e) ∙ yes-q, ap p (sym e) ∙ no-p) (omega arith)
    at_or_below below (inr m) = rw (others n (le_refl (suc n)) (λ (w : n ≡ l). omega arith)) (omega (arith, below m))

-- ---- `first`

-- The first is one of them, unless there is none; then it is n.
pub first_holds : (n : ℕ) (p : ℕ → Bool) → every n (λ k. not (p k)) ≡ false → p (first n p) ≡ true
unfolding every first
first_holds zero p e = cc
first_holds (suc n) p e =
    by_test (p 0) (every n (λ k. not (p (suc k)))) (first n (λ k. p (suc k))) refl (first_holds n (λ k. p (suc k)))
    (sym (every_low n (λ k. not (p k))) ∙ e)
  where
    by_test : (b rest : Bool) (next : ℕ) → p 0 ≡ b → (rest ≡ false → p (suc next) ≡ true) → (not b && rest) ≡ false → p (cond b 0 (suc next)) ≡ true
    by_test true rest next q later f = q
    by_test false rest next q later f = later f

pub first_of_none : (n : ℕ) (p : ℕ → Bool) → every n (λ k. not (p k)) ≡ true → first n p ≡ n
unfolding first
first_of_none zero p e = refl
first_of_none (suc n) p e =
    by_test (p 0) (every n (λ k. not (p (suc k)))) (first n (λ k. p (suc k))) (first_of_none n (λ k. p (suc k)))
    (sym (every_low n (λ k. not (p k))) ∙ e)
  where
    by_test : (b rest : Bool) (next : ℕ) → (rest ≡ true → next ≡ n) → (not b && rest) ≡ true → cond b 0 (suc next) ≡ suc n
    by_test true rest next later f = cc
    by_test false rest next later f = ap suc (later f)

-- None is before the first.
pub none_before_first : (n : ℕ) (p : ℕ → Bool) (k : ℕ) → k < first n p → p k ≡ false
unfolding first
none_before_first zero p k h = absurd (not-suc-le-zero h)
none_before_first (suc n) p k h = by_test (p 0) (first n (λ j. p (suc j))) k refl (none_before_first n (λ j. p (suc j))) h
  where
    by_test : (b : Bool) (next k : ℕ) → p 0 ≡ b → ((j : ℕ) → j < next → p (suc j) ≡ false) → k < cond b 0 (suc next) → p k ≡ false
    by_test true next k q later h = absurd (not-suc-le-zero h)
    by_test false next zero q later h = q
    by_test false next (suc j) q later h = later j (le_of_suc-le-suc h)
