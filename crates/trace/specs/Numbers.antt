-- The number that stands at a place of a trace.
use Rattle.std.specs.Prelude.{ℕ, suc, ◌+◌, ◌*◌, ◌%◌, ◌<◌, Bool, cond, ◌&&◌, ◌||◌, List, [], ◌∷◌, eqb, leb, ltb, length, get_or, take, drop, Result, Ok, Err}
use Rattle.trace.specs.declared.Refusal.{Refusal}
use Rattle.trace.specs.declared.Refusal.TheVariants.{BytesEnd, FormLong}
use Rattle.trace.specs.declared.Number.{Number}

-- These numbers are bytes: each is below 256. Only of such is it said that a number has one form.
abbrev pub Bytes : List ℕ → Type 0
Bytes trace = (i : ℕ) → get_or trace i 0 < 256

-- A trace is a row of numbers, each in groups of seven bits, lowest group first, one group to a byte.
abbrev pub group : ℕ → ℕ
group byte = byte % 128

unfoldable pub value : List ℕ → ℕ
value [] = 0
value (byte ∷ bytes) = group byte + 128 * value bytes

-- The top bit is set when another group follows. Of the number that begins some bytes, so many groups are followed by another; its size counts the
-- last one too.
unfoldable pub followed : List ℕ → ℕ
followed [] = 0
followed (byte ∷ bytes) = cond (leb 128 byte) (suc (followed bytes)) 0

abbrev pub size : List ℕ → ℕ
size bytes = suc (followed bytes)

-- A number has at most three groups.
abbrev pub most_groups : ℕ
most_groups = 3

-- Code 3: the bytes end inside a number of fewer than three bytes.
abbrev pub end_inside : List ℕ → Bool
end_inside bytes = ltb (length bytes) (size bytes) && ltb (length bytes) most_groups

-- Code 4: a third byte has its top bit set, or the last of several groups is zero. (The shortest form is the only one.)
abbrev pub too_long : List ℕ → Bool
too_long bytes = ltb most_groups (size bytes) || (ltb 1 (size bytes) && eqb (group (get_or bytes (followed bytes) 0)) 0)

-- The answer that there is a number, and which place is after it.
abbrev pub number_then : ℕ → ℕ → Result Number Refusal
number_then value next = Ok (record { value = value; next = next })

-- The number that begins some bytes, the first of them at the given place: its value and the place after it, or code 3 or 4, tested in this order.
unfoldable pub number_of : List ℕ → ℕ → Result Number Refusal
number_of bytes at =
    cond (end_inside bytes) (Err BytesEnd) (cond (too_long bytes) (Err FormLong) (number_then (value (take (size bytes) bytes)) (at + size bytes)))

-- The number at a place of a trace. At its end, and past it, there are no bytes.
unfoldable pub number_at : List ℕ → ℕ → Result Number Refusal
number_at trace at = number_of (drop at trace) at
