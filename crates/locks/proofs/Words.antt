-- What the operations on words are, by who is in the result: a law for each digit of `&`, `|`, `!` and `1 << l`, and from them what each
-- function's result is: the word with exactly the members that the specification names.
-- Assumes nothing.
use Prim.Native.Nat.{ℕ, zero, suc, ◌+◌, ◌-◌, ◌*◌, ◌/◌, ◌%◌, ◌^◌, ◌≤◌, ◌<◌, zero-le, suc-le-suc, min, max}
use mathlib.Core.Path.{◌≡◌, refl, sym, ap, ap₂, ◌∙◌, fun_ext}
use mathlib.Core.Bool.{Bool, true, false, cond, not, ◌&&◌, ◌||◌, beq, or-false, and-true, and-false, and-eq-true_iff, true≢false}
use native.Mathlib.Nat.{pow-suc, mod-lt, one-mul}
use native.Mathlib.Omega.{arith}
use lib.Dec.{eqb}
use lib.Pow.{pow_pos, shl_exact}
use lib.Bits.{bit_and, bit_or, and_lt, or_lt}
use lib.Count.{ones, ones_step, ones-le, count_trailing_zeros, under}
use borrow.Author.Tests.{lt-ltb, le-ltb, eqb-true, eq-eqb, ne_eqb}
use Rattle.std.specs.Int.{w64, bit_at}
use Rattle.std.proofs.lemmas.Nat.Bits.{bit_at_and, bit_at_or, bit_at_not, bit_at-pow_same, bit_at-pow_other}
use Rattle.locks.specs.Sets.{numbers, mark, is_in, those, every, how_many, first, taken, released, set_of_access, none, is_empty, count, lowest, apart, within}
use Rattle.locks.proofs.Members.{is_in_below, is_in-those_inside, is_in-those_below, digit_at, is_in_by, is_in_suc, is_in_of_zero, is_in_high, low_digit, is_those, equal_is_every, how_many_low}

-- ---- digit by digit

pub is_in_and : (k a b : ℕ) → is_in k (bit_and a b) ≡ (is_in k a && is_in k b)
is_in_and k a b =
    is_in_by k (bit_and a b) (is_in k a && is_in k b)
    (bit_at_and a b k ∙ ap₂ min (sym (digit_at k a)) (sym (digit_at k b)) ∙ least (is_in k a) (is_in k b))
  where
    least : (x y : Bool) → min (cond x 1 0) (cond y 1 0) ≡ cond (x && y) 1 0
    least true true = refl
    least true false = refl
    least false true = refl
    least false false = refl

pub is_in_or : (k a b : ℕ) → is_in k (bit_or a b) ≡ (is_in k a || is_in k b)
is_in_or k a b =
    is_in_by k (bit_or a b) (is_in k a || is_in k b)
    (bit_at_or a b k ∙ ap₂ max (sym (digit_at k a)) (sym (digit_at k b)) ∙ greatest (is_in k a) (is_in k b))
  where
    greatest : (x y : Bool) → max (cond x 1 0) (cond y 1 0) ≡ cond (x || y) 1 0
    greatest true true = refl
    greatest true false = refl
    greatest false true = refl
    greatest false false = refl

-- The complement of a among the words.
pub is_in_complement : (k a : ℕ) → a < 2 ^ 64 → k < 64 → is_in k (2 ^ 64 - 1 - a) ≡ not (is_in k a)
is_in_complement k a h l =
    is_in_by k (2 ^ 64 - 1 - a) (not (is_in k a)) (bit_at_not w64 a k h l ∙ ap (λ (d : ℕ). 1 - d) (sym (digit_at k a)) ∙ other (is_in k a))
  where
    other : (x : Bool) → 1 - cond x 1 0 ≡ cond (not x) 1 0
    other true = refl
    other false = refl

-- The word of one number.
pub is_in_power : (k l : ℕ) → is_in k (2 ^ l) ≡ eqb k l
is_in_power k l = is_in_by k (2 ^ l) (eqb k l) (by_test (eqb k l) refl)
  where
    by_test : (x : Bool) → eqb k l ≡ x → bit_at (2 ^ l) k ≡ cond x 1 0
    by_test true e = ap (bit_at (2 ^ l)) (eqb-true k l e) ∙ bit_at-pow_same l
    by_test false e = bit_at-pow_other l k (λ q. true≢false (sym (eq-eqb k l q) ∙ e))

-- ---- one number more, one number less

-- The word with the number l in it, or out of it, where `wanted` says so.
abbrev pub added : Bool → ℕ → ℕ → ℕ
added wanted l s = those numbers (λ k. is_in k s || (wanted && eqb k l))

abbrev pub removed : Bool → ℕ → ℕ → ℕ
removed wanted l s = those numbers (λ k. is_in k s && not (wanted && eqb k l))

-- Who is in the two: l, or all but l, beside the members that a word has below 64 anyway.
pub is_in_added : (wanted : Bool) (k l s : ℕ) → (wanted ≡ true → l < 64) → s < 2 ^ 64 → is_in k (added wanted l s) ≡ (is_in k s || (wanted && eqb k l))
is_in_added wanted k l s f h =
    is_in-those_inside 64 (λ j. is_in j s || (wanted && eqb j l)) k
    (either (is_in k s) wanted (eqb k l) (is_in_below 64 k s h) (λ (v : wanted ≡ true) (w : eqb k l ≡ true). omega (arith, f v, eqb-true k l w)))
  where
    either : (x y z : Bool) → (x ≡ true → k < 64) → (y ≡ true → z ≡ true → k < 64) → (x || (y && z)) ≡ true → k < 64
    either true y z old new e = old refl
    either false true z old new e = new refl e
    either false false z old new e = absurd (true≢false (sym e))

pub is_in_removed : (wanted : Bool) (k l s : ℕ) → s < 2 ^ 64 → is_in k (removed wanted l s) ≡ (is_in k s && not (wanted && eqb k l))
is_in_removed wanted k l s h =
    is_in-those_inside 64 (λ j. is_in j s && not (wanted && eqb j l)) k
    (λ e. is_in_below 64 k s h ((and-eq-true_iff (is_in k s) (not (wanted && eqb k l))).0 e).0)

-- Below 64, every number but l is in them or not as before.
pub added_others : (wanted : Bool) (k l s : ℕ) → k < 64 → (k ≡ l → ⊥) → is_in k (added wanted l s) ≡ is_in k s
added_others wanted k l s h f =
    is_in-those_below 64 (λ j. is_in j s || (wanted && eqb j l)) k h ∙ simp (ne_eqb k l f, and-false, or-false)

pub removed_others : (wanted : Bool) (k l s : ℕ) → k < 64 → (k ≡ l → ⊥) → is_in k (removed wanted l s) ≡ is_in k s
removed_others wanted k l s h f =
    is_in-those_below 64 (λ j. is_in j s && not (wanted && eqb j l)) k h ∙ simp (ne_eqb k l f, and-false, and-true)

-- `1 << l` is the word of l.
is_in_shifted : (k l : ℕ) → l < 64 → is_in k (1 * 2 ^ l % 2 ^ 64) ≡ eqb k l
is_in_shifted k l h = ap (is_in k) (shl_exact 1 l 64 (suc-le-suc (suc-le-suc zero-le)) (omega arith) ∙ one-mul (2 ^ l)) ∙ is_in_power k l

-- `|` with the word of l puts l in, `&` with its complement takes l out.
pub or_is_added : (l s : ℕ) → l < 64 → s < 2 ^ 64 → bit_or s (1 * 2 ^ l % 2 ^ 64) ≡ added true l s
or_is_added l s h m =
    let a : ℕ = 1 * 2 ^ l % 2 ^ 64 in
    is_those 64 (bit_or s a) (λ k. is_in k s || eqb k l) (or_lt 64 s a m (mod-lt (1 * 2 ^ l) (pow_pos 64)))
    (λ k j. is_in_or k s a ∙ ap (λ (x : Bool). is_in k s || x) (is_in_shifted k l h))

pub and_not_is_removed : (l s : ℕ) → l < 64 → s < 2 ^ 64 → bit_and s (2 ^ 64 - 1 - 1 * 2 ^ l % 2 ^ 64) ≡ removed true l s
and_not_is_removed l s h m =
    let a : ℕ = 1 * 2 ^ l % 2 ^ 64 in
    let n : ℕ = 2 ^ 64 - 1 - a in
    let small : a < 2 ^ 64 = mod-lt (1 * 2 ^ l) (pow_pos 64) in
    let rest : (k : ℕ) → k < 64 → is_in k n ≡ not (eqb k l) = λ k j. is_in_complement k a small j ∙ ap not (is_in_shifted k l h) in
    is_those 64 (bit_and s n) (λ k. is_in k s && not (eqb k l)) (and_lt 64 s n m (omega arith))
    (λ k j. is_in_and k s n ∙ ap (λ (x : Bool). is_in k s && x) (rest k j))

-- Nothing wanted, nothing changed.
pub self_is_added : (l s : ℕ) → s < 2 ^ 64 → s ≡ added false l s
self_is_added l s m = is_those 64 s (λ k. is_in k s || false) m (λ k j. sym (or-false (is_in k s)))

pub self_is_removed : (l s : ℕ) → s < 2 ^ 64 → s ≡ removed false l s
self_is_removed l s m = is_those 64 s (λ k. is_in k s && true) m (λ k j. sym (and-true (is_in k s)))

-- ---- the functions' results

pub zero_is_none : 0 ≡ none
unfolding none those
zero_is_none = refl

pub or_is_taken : (l s : ℕ) → l < 63 → s < 2 ^ 64 → bit_or s (1 * 2 ^ l % 2 ^ 64) ≡ taken l s
unfolding taken
or_is_taken l s h m = or_is_added l s (omega arith) m ∙ ap (λ (b : Bool). added b l s) (sym (lt-ltb l 63 h))

pub self_is_taken : (l s : ℕ) → 63 ≤ l → s < 2 ^ 64 → s ≡ taken l s
unfolding taken
self_is_taken l s h m = self_is_added l s m ∙ ap (λ (b : Bool). added b l s) (sym (le-ltb l 63 h))

pub and_not_is_released : (l s : ℕ) → l < 63 → s < 2 ^ 64 → bit_and s (2 ^ 64 - 1 - 1 * 2 ^ l % 2 ^ 64) ≡ released l s
unfolding released
and_not_is_released l s h m = and_not_is_removed l s (omega arith) m ∙ ap (λ (b : Bool). removed b l s) (sym (lt-ltb l 63 h))

pub self_is_released : (l s : ℕ) → 63 ≤ l → s < 2 ^ 64 → s ≡ released l s
unfolding released
self_is_released l s h m = self_is_removed l s m ∙ ap (λ (b : Bool). removed b l s) (sym (le-ltb l 63 h))

pub or_is_read : (reads : Bool) (s : ℕ) → reads ≡ true → s < 2 ^ 64 → bit_or s (1 * 2 ^ 63 % 2 ^ 64) ≡ set_of_access reads s
unfolding set_of_access
or_is_read reads s e m = or_is_added mark s (omega arith) m ∙ ap (λ (b : Bool). added b mark s) (sym e)

pub self_is_written : (reads : Bool) (s : ℕ) → reads ≡ false → s < 2 ^ 64 → s ≡ set_of_access reads s
unfolding set_of_access
self_is_written reads s e m = self_is_added mark s m ∙ ap (λ (b : Bool). added b mark s) (sym e)

pub high_is_out : (k s : ℕ) → 64 ≤ k → s < 2 ^ 64 → false ≡ is_in k s
high_is_out k s h m = sym (is_in_high 64 m h)

pub zero_is_empty : (s : ℕ) → s < 2 ^ 64 → eqb s 0 ≡ is_empty s
unfolding is_empty
zero_is_empty s m =
    equal_is_every 64 s 0 m (pow_pos 64)
    ∙ ap (every 64) (fun_ext (λ (k : ℕ). ap (beq (is_in k s)) (is_in_of_zero k) ∙ equal_false (is_in k s)))
  where
    equal_false : (x : Bool) → beq x false ≡ not x
    equal_false true = refl
    equal_false false = refl

pub and_zero_is_apart : (a b : ℕ) → a < 2 ^ 64 → b < 2 ^ 64 → eqb (bit_and a b) 0 ≡ apart a b
unfolding is_empty apart
and_zero_is_apart a b h m =
    zero_is_empty (bit_and a b) (and_lt 64 a b h m) ∙ ap (every 64) (fun_ext (λ (k : ℕ). ap not (is_in_and k a b)))

pub and_self_is_within : (a b : ℕ) → a < 2 ^ 64 → b < 2 ^ 64 → eqb (bit_and a b) a ≡ within a b
unfolding within
and_self_is_within a b h m =
    equal_is_every 64 (bit_and a b) a (and_lt 64 a b h m) h
    ∙ ap (every 64) (fun_ext (λ (k : ℕ). ap (λ (x : Bool). beq x (is_in k a)) (is_in_and k a b) ∙ equal_both (is_in k a) (is_in k b)))
  where
    equal_both : (x y : Bool) → beq (x && y) x ≡ (not x || y)
    equal_both true true = refl
    equal_both true false = refl
    equal_both false y = refl

ones_are_many : (n s : ℕ) → s < 2 ^ n → ones s ≡ how_many n (λ k. is_in k s)
unfolding how_many
ones_are_many zero s h = omega (arith, ones-le 0 s h)
ones_are_many (suc n) s h =
    ones_step s ∙ ap₂ ◌+◌ (sym (low_digit s)) (ones_are_many n (s / 2) (omega (arith, pow-suc 2 n)))
    ∙ sym (how_many_low n (λ k. is_in k s) ∙ ap (λ (p : ℕ → Bool). cond (is_in 0 s) 1 0 + how_many n p) (fun_ext (λ (k : ℕ). is_in_suc k s)))

pub ones_is_count : (s : ℕ) → s < 2 ^ 64 → ones s ≡ count s
unfolding count
ones_is_count s m = ones_are_many 64 s m

trailing_is_first : (n s : ℕ) → count_trailing_zeros n s ≡ first n (λ k. is_in k s)
unfolding count_trailing_zeros first
trailing_is_first zero s = refl
trailing_is_first (suc n) s =
    ap₂ under (sym (low_digit s)) (trailing_is_first n (s / 2)) ∙ step (is_in 0 s) (first n (λ k. is_in k (s / 2)))
    ∙ ap (λ (p : ℕ → Bool). cond (is_in 0 s) 0 (suc (first n p))) (sym (fun_ext (λ (k : ℕ). is_in_suc k s)))
  where
    step : (b : Bool) (t : ℕ) → under (cond b 1 0) t ≡ cond b 0 (suc t)
    step true t = refl
    step false t = refl

pub trailing_is_lowest : (s : ℕ) → count_trailing_zeros 64 s ≡ lowest s
unfolding lowest
trailing_is_lowest s = trailing_is_first 64 s

-- By these the functions meet their contracts.
pub ruleset words = (
  zero_is_none,
  or_is_taken,
  self_is_taken,
  and_not_is_released,
  self_is_released,
  or_is_read,
  self_is_written,
  high_is_out,
  zero_is_empty,
  and_zero_is_apart,
  and_self_is_within,
  ones_is_count,
  trailing_is_lowest,
)
