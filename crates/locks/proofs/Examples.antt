-- Sets of locks, evaluated: antt computes each line from the definitions of specs/Sets.antt. Lock 0 is the word 1, lock 62 the word 2 ^ 62,
-- and the mark 2 ^ 63. Each must-fail edit gets one of these wrong.
-- Assumes nothing.
use Prim.Native.Nat.{◌+◌, ◌^◌}
use mathlib.Core.Path.{◌≡◌, refl}
use mathlib.Core.Bool.{true, false}
use Rattle.locks.specs.Sets.{is_in, those, every, how_many, first, none, taken, released, set_of_access, count, lowest, apart, within}

pub examples :
    -- No lock is held; then 0 and 62 are taken, and each is released.
    (none ≡ 0)
    × (taken 0 0 ≡ 1)
    × (taken 62 1 ≡ 2 ^ 62 + 1)
    × (released 62 (2 ^ 62 + 1) ≡ 1)
    × (released 0 (2 ^ 62 + 1) ≡ 2 ^ 62)
    -- Numbers that are no lock's change nothing.
    × (taken 63 1 ≡ 1)
    × (taken 64 1 ≡ 1)
    × (released 63 (2 ^ 63) ≡ 2 ^ 63)
    -- An access that reads has the mark, one that writes has not.
    × (set_of_access true 1 ≡ 2 ^ 63 + 1)
    × (set_of_access false 1 ≡ 1)
    -- How many, and the lowest.
    × (count (2 ^ 62 + 1) ≡ 2)
    × (lowest (2 ^ 63 + 2 ^ 62) ≡ 62)
    × (lowest 1 ≡ 0)
    × (lowest 0 ≡ 64)
    -- Locks 0 and 62 against lock 0 and against lock 1; a read against a write.
    × (apart 1 1 ≡ false)
    × (apart (2 ^ 62 + 1) 1 ≡ false)
    × (apart (2 ^ 62 + 1) 2 ≡ true)
    × (within 1 (2 ^ 62 + 1) ≡ true)
    × (within 3 1 ≡ false)
    × (within (2 ^ 63 + 1) (2 ^ 62 + 1) ≡ false)
unfolding is_in those every how_many first none taken released set_of_access count lowest apart within
examples = (refl, refl, refl, refl, refl, refl, refl, refl, refl, refl, refl, refl, refl, refl, refl, refl, refl, refl, refl, refl)
