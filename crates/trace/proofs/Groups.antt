-- Laws of the groups of a number: how many are followed by another, and what they are worth. By induction on the bytes.
-- Assumes nothing.
use Prim.Native.Nat.{ℕ, zero, suc, ◌+◌, ◌*◌, ◌%◌, ◌^◌, ◌≤◌, ◌<◌, zero-le, suc-le-suc}
use mathlib.Core.Path.{◌≡◌, refl, sym, ap, ◌∙◌}
use mathlib.Core.Bool.{Bool, true, false, cond}
use mathlib.Core.List.{List, [], ◌∷◌}
use native.Mathlib.Omega.{arith}
use native.Mathlib.Nat.{mul_comm, mul_assoc, pow-succ', le_of_suc-le-suc, mul-le-mul_left, pow-le-pow_right}
use lib.Dec.{leb, lit<}
use lib.ListN.{length, get_or, take}
use borrow.Author.Tests.{le-leb, lt-leb, leb-false}
use Rattle.trace.specs.Numbers.{value, followed}

-- ---- how many groups are followed by another

pub followed_le_length : (bytes : List ℕ) → followed bytes ≤ length bytes
unfolding followed
followed_le_length [] = zero-le
followed_le_length (byte ∷ bytes) = go (leb 128 byte) (followed_le_length bytes)
  where
    go : (b : Bool) → followed bytes ≤ length bytes → cond b (suc (followed bytes)) 0 ≤ suc (length bytes)
    go true rest = suc-le-suc rest
    go false rest = zero-le

-- the group after those that are known to be followed is followed too where its byte has the top bit
pub followed_more : (bytes : List ℕ) (i : ℕ) → i ≤ followed bytes → 128 ≤ get_or bytes i 0 → i < followed bytes
unfolding followed
followed_more [] i h top = omega arith
followed_more (byte ∷ bytes) zero h top = rw (le-leb 128 byte top) (suc-le-suc zero-le)
followed_more (byte ∷ bytes) (suc i) h top = go (leb 128 byte) h (λ k. followed_more bytes i k top)
  where
    go : (b : Bool) → suc i ≤ cond b (suc (followed bytes)) 0 → (i ≤ followed bytes → i < followed bytes) → suc i < cond b (suc (followed bytes)) 0
    go true k rest = suc-le-suc (rest (le_of_suc-le-suc k))
    go false k rest = omega arith

-- and is the last where it has not
pub followed_last : (bytes : List ℕ) (i : ℕ) → i ≤ followed bytes → get_or bytes i 0 < 128 → followed bytes ≡ i
unfolding followed
followed_last [] zero h low = refl
followed_last [] (suc i) h low = omega arith
followed_last (byte ∷ bytes) zero h low = rw (lt-leb 128 byte low)
followed_last (byte ∷ bytes) (suc i) h low = go (leb 128 byte) h (λ k. followed_last bytes i k low)
  where
    go : (b : Bool) → suc i ≤ cond b (suc (followed bytes)) 0 → (i ≤ followed bytes → followed bytes ≡ i) → cond b (suc (followed bytes)) 0 ≡ suc i
    go true k rest = ap suc (rest (le_of_suc-le-suc k))
    go false k rest = omega arith

-- so the first group that no other follows has no top bit, where it stands within the bytes
pub followed_ends : (bytes : List ℕ) → followed bytes < length bytes → get_or bytes (followed bytes) 0 < 128
unfolding followed
followed_ends [] inside = absurd (omega arith)
followed_ends (byte ∷ bytes) inside = go (leb 128 byte) refl inside (followed_ends bytes)
  where
    go : (b : Bool) → leb 128 byte ≡ b → cond b (suc (followed bytes)) 0 < suc (length bytes)
        → (followed bytes < length bytes → get_or bytes (followed bytes) 0 < 128) → get_or (byte ∷ bytes) (cond b (suc (followed bytes)) 0) 0 < 128
    go true e inside rest = rest (le_of_suc-le-suc inside)
    go false e inside rest = leb-false 128 byte e

-- ---- what the first groups are worth

-- one group more weighs 128 to the power of the groups before it
pub value_more : (bytes : List ℕ) (i : ℕ) → i < length bytes → value (take (suc i) bytes) ≡ value (take i bytes) + get_or bytes i 0 % 128 * 128 ^ i
unfolding value
value_more [] i h = omega arith
value_more (byte ∷ bytes) zero h = omega arith
value_more (byte ∷ bytes) (suc i) h =
    let rest = value_more bytes i (le_of_suc-le-suc h) in
    let digit = get_or bytes i 0 % 128 in
    let moved : digit * 128 ^ suc i ≡ 128 * (digit * 128 ^ i) = rw (pow-succ' 128 i) (sym (mul_assoc digit 128 (128 ^ i)) ∙ ap (λ (x : ℕ). x * 128 ^ i) (mul_comm digit 128) ∙ mul_assoc 128 digit (128 ^ i)) in
    rw (rest, moved) (omega arith)

pub value_small : (bytes : List ℕ) (i : ℕ) → value (take i bytes) < 128 ^ i
unfolding value
value_small [] zero = omega arith
value_small [] (suc i) = pow-le-pow_right (lit< tt) {i = 0} {j = suc i} zero-le
value_small (byte ∷ bytes) zero = omega arith
value_small (byte ∷ bytes) (suc i) =
    let rest = value_small bytes i in
    rw (pow-succ' 128 i) (omega (arith, mul-le-mul_left 128 rest))
