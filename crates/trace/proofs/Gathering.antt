-- Gathering the groups of a number one by one: what holds after the first i of them, each followed by another, and what the number is by each way
-- out. From the laws of groups. Assumes nothing.
use Prim.Native.Nat.{ℕ, zero, suc, ◌+◌, ◌*◌, ◌%◌, ◌^◌, ◌≤◌, ◌<◌, zero-le}
use mathlib.Core.Path.{◌≡◌, refl, sym, ap, ap₂, ◌∙◌}
use mathlib.Core.Bool.{false, ◌&&◌, and-false}
use mathlib.Core.List.{List}
use native.Mathlib.Omega.{arith}
use native.Mathlib.Numerals.{add-one}
use native.Mathlib.Nat.{pow-suc, mul-le-mul_right, pow-le-pow_right}
use lib.Dec.{lit<, eqb, ltb}
use lib.ListN.{length, get_or, take, drop, length-drop}
use borrow.Author.Tests.{lt-ltb, le-ltb, ne_eqb}
use Rattle.std.specs.Prelude.{Err}
use lib.Seq.{get_or-drop}
use Rattle.trace.specs.declared.Refusal.TheVariants.{BytesEnd, FormLong}
use Rattle.trace.specs.Numbers.{value, followed, size, most_groups, number_then, number_of, number_at}
use Rattle.trace.proofs.Groups.{followed_le_length, followed_more, followed_last, value_more, value_small}

-- ---- the ways out, over the bytes from the place on

-- a last group that is zero only where it is the only one
shortest_form : (byte i : ℕ) → byte < 128 → (byte ≡ 0 → i ≡ 0) → (ltb 1 (suc i) && eqb (byte % 128) 0) ≡ false
shortest_form byte zero low only = refl
shortest_form byte (suc i) low only =
    let some : byte % 128 ≡ 0 → ⊥ = λ none. omega (arith, only (omega arith)) in
    rw (ne_eqb (byte % 128) 0 some) (and-false (ltb 1 (suc (suc i))))

module _ (bytes : List ℕ) (at i : ℕ) (led : i ≤ followed bytes) where
  ends_inside : i < most_groups → length bytes ≤ i → number_of bytes at ≡ Err BytesEnd
  unfolding number_of
  ends_inside few short =
      let inside : followed bytes ≤ length bytes = followed_le_length bytes in
      simp (lt-ltb (length bytes) (size bytes) (omega arith), lt-ltb (length bytes) most_groups (omega arith))

  many_groups : most_groups ≤ i → number_of bytes at ≡ Err FormLong
  unfolding number_of
  many_groups many =
      let inside : followed bytes ≤ length bytes = followed_le_length bytes in
      simp (le-ltb (length bytes) most_groups (omega arith), and-false, lt-ltb most_groups (size bytes) (omega arith))

  -- group i is the last
  module _ (few : i < most_groups) (there : i < length bytes) (last : get_or bytes i 0 < 128) where
    last_is_zero : get_or bytes i 0 ≡ 0 → 0 < i → number_of bytes at ≡ Err FormLong
    unfolding number_of
    last_is_zero none several =
        let e : followed bytes ≡ i = followed_last bytes i led last in
        simp (e, none, le-ltb (length bytes) (suc i) there, le-ltb most_groups (suc i) few, lt-ltb 1 (suc i) (omega arith))

    pub whole : (get_or bytes i 0 ≡ 0 → i ≡ 0) → number_of bytes at ≡ number_then (value (take (suc i) bytes)) (at + suc i)
    unfolding number_of
    whole only =
        let e : followed bytes ≡ i = followed_last bytes i led last in
        rw (e, le-ltb (length bytes) (suc i) there, le-ltb most_groups (suc i) few, shortest_form (get_or bytes i 0) i last only)
        (ap (λ (k : ℕ). number_then (value (take (suc k) bytes)) (at + suc i)) e)

-- ---- the loop: i groups are gathered, all followed by another

pub record Gathered (trace : List ℕ) (at sum weight i : ℕ) : Type 0 where
  pub led : i ≤ followed (drop at trace)
  pub few : i ≤ most_groups
  pub worth : sum ≡ value (take i (drop at trace))
  pub weighs : weight ≡ 128 ^ i

pub begins : (trace : List ℕ) (at : ℕ) → Gathered trace at 0 1 0
unfolding value
begins trace at = record { led = zero-le; few = zero-le; worth = refl; weighs = refl }

module _ {trace : List ℕ} {at sum weight i : ℕ} (g : Gathered trace at sum weight i) where
  -- so many groups are worth less than the next one weighs, and 128 times that is at most 128 ^ most_groups
  pub sum_small : sum < weight
  sum_small = rw (g.worth, g.weighs) (value_small (drop at trace) i)

  pub weight_small : i < most_groups → weight * 128 ≤ 128 ^ most_groups
  weight_small few = rw (g.weighs, ← pow-suc 128 i) (pow-le-pow_right (lit< tt) few)

  pub ends : i < most_groups → length trace ≤ at + i → Err BytesEnd ≡ number_at trace at
  unfolding number_at
  ends few short = sym (ends_inside (drop at trace) at i g.led few (simp length-drop (omega arith)))

  pub too_many : most_groups ≤ i → Err FormLong ≡ number_at trace at
  unfolding number_at
  too_many many = sym (many_groups (drop at trace) at i g.led many)

  -- the next byte is read, and its digit
  module _ (byte : ℕ) {digit : ℕ} (few : i < most_groups) (there : at + i < length trace) (read : byte ≡ get_or trace (at + i) 0) (is : digit ≡ byte % 128) where
    here : get_or (drop at trace) i 0 ≡ byte
    here = get_or-drop at trace i 0 ∙ sym read

    inside : i < length (drop at trace)
    inside = simp length-drop (omega arith)

    pub sum_stays_small : sum + digit * weight < 128 ^ most_groups
    sum_stays_small =
        let low : digit ≤ 127 = omega arith in
        omega (arith, sum_small, weight_small few, mul-le-mul_right weight low)

    more : sum + digit * weight ≡ value (take (suc i) (drop at trace))
    more = rw (g.worth, g.weighs, is, ← here) (sym (value_more (drop at trace) i inside))

    pub goes_on : 128 ≤ byte → Gathered trace at (sum + digit * weight) (weight * 128) (i + 1)
    goes_on top =
        rw (add-one i)
        record {
          led = followed_more (drop at trace) i g.led (rw here top);
          few = few;
          worth = more;
          weighs = rw g.weighs (sym (pow-suc 128 i));
        }

    pub zero_last : byte ≡ 0 → 0 < i → Err FormLong ≡ number_at trace at
    unfolding number_at
    zero_last none several = sym (last_is_zero (drop at trace) at i g.led few inside (rw (here, none) (lit< tt)) (here ∙ none) several)

    pub is_whole : byte < 128 → (byte ≡ 0 → i ≡ 0) → number_then (sum + digit * weight) (at + i + 1) ≡ number_at trace at
    unfolding number_at
    is_whole last only =
        sym
        (whole (drop at trace) at i g.led few inside (rw here last) (rw here only)
        ∙ ap₂ number_then (sym more) (omega arith))

-- What the loop may cite at its sums and at its ways out.
pub ruleset gathering = (weight_small, sum_stays_small, ends, too_many, is_whole)
