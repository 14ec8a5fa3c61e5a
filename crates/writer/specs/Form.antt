-- How events are written: each one number as in 01.
use Rattle.std.specs.Prelude.{ℕ, zero, suc, ◌+◌, ◌/◌, ◌%◌, cond, List, [], ◌∷◌, ◌++◌, ltb}
use Rattle.trace.specs.declared.Event.{Event}
use Rattle.trace.specs.Numbers.{most_groups}
use Rattle.trace.specs.Kinds.{as_number}

-- Groups of seven bits, lowest group first, one group to a byte. The top bit is set when another group follows; in the shortest form one follows only
-- where something of the number is left. At most so many groups are written.
unfoldable pub groups : ℕ → ℕ → List ℕ
groups zero number = []
groups (suc more) number = cond (ltb number 128) (number ∷ []) ((128 + number % 128) ∷ groups more (number / 128))

-- An event is one number.
unfoldable pub bytes_of : Event → List ℕ
bytes_of e = groups most_groups (as_number e)

-- A list of events, one after the other.
unfoldable pub bytes_of_all : List Event → List ℕ
bytes_of_all [] = []
bytes_of_all (e ∷ es) = bytes_of e ++ bytes_of_all es
