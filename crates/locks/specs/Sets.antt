-- Sets of locks, by who is in them.
use Rattle.std.specs.Prelude.{ℕ, zero, suc, ◌+◌, ◌/◌, ◌%◌, ◌^◌, Bool, true, false, cond, not, ◌&&◌, ◌||◌, eqb, ltb}

-- A set of locks is one 64-bit word: locks 0 to 62, and the read mark, whose number is 63.
abbrev pub is_lock : ℕ → Bool
is_lock number = ltb number 63

abbrev pub mark : ℕ
mark = 63

abbrev pub numbers : ℕ
numbers = 64

-- A number, a lock's or the mark's, is in a set: that digit of the word is set.
unfoldable pub is_in : ℕ → ℕ → Bool
is_in k s = eqb (s / 2 ^ k % 2) 1

-- Of the numbers below n: the set of those that p says yes to; whether it says yes to every one; to how many; and to which first (n where to
-- none).
unfoldable pub those : ℕ → (ℕ → Bool) → ℕ
those zero p = 0
those (suc k) p = cond (p k) (2 ^ k) 0 + those k p

unfoldable pub every : ℕ → (ℕ → Bool) → Bool
every zero p = true
every (suc k) p = p k && every k p

unfoldable pub how_many : ℕ → (ℕ → Bool) → ℕ
how_many zero p = 0
how_many (suc k) p = cond (p k) 1 0 + how_many k p

unfoldable pub first : ℕ → (ℕ → Bool) → ℕ
first zero p = 0
first (suc n) p = cond (p 0) 0 (suc (first n (λ k. p (suc k))))

-- The set of locks held: none, and what taking and releasing lock l make of it. A number that is no lock's changes nothing.
unfoldable pub none : ℕ
none = those numbers (λ k. false)

unfoldable pub taken : ℕ → ℕ → ℕ
taken l s = those numbers (λ k. is_in k s || (is_lock l && eqb k l))

unfoldable pub released : ℕ → ℕ → ℕ
released l s = those numbers (λ k. is_in k s && not (is_lock l && eqb k l))

-- The lock set of an access is the set of locks held at it, plus a read mark if it reads.
unfoldable pub set_of_access : Bool → ℕ → ℕ
set_of_access reads s = those numbers (λ k. is_in k s || (reads && eqb k mark))

-- Nothing is in it; how many are in it; the lowest number in it.
unfoldable pub is_empty : ℕ → Bool
is_empty s = every numbers (λ k. not (is_in k s))

unfoldable pub count : ℕ → ℕ
count s = how_many numbers (λ k. is_in k s)

unfoldable pub lowest : ℕ → ℕ
lowest s = first numbers (λ k. is_in k s)

-- Two sets have nothing in common; the first lies within the second.
unfoldable pub apart : ℕ → ℕ → Bool
apart a b = every numbers (λ k. not (is_in k a && is_in k b))

unfoldable pub within : ℕ → ℕ → Bool
within a b = every numbers (λ k. not (is_in k a) || is_in k b)
