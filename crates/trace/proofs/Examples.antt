-- What the definitions say of 01's small traces and of some places near them, by evaluation. Each must-fail edit of `read_number` and `read_event`
-- gets one of these wrong. Assumes nothing.
use Prim.Native.Nat.{ℕ}
use mathlib.Core.Path.{◌≡◌, refl}
use mathlib.Core.List.{List, [], ◌∷◌, map}
use Rattle.std.specs.Prelude.{Result}
use Rattle.trace.specs.declared.Refusal.TheVariants.{BytesEnd, FormLong, Reserved, OperandLarge}
use Rattle.trace.specs.declared.Found.{Found}
use Rattle.trace.specs.declared.Refused.{Refused}
use Rattle.trace.specs.Numbers.{value, followed, number_of, number_at}
use Rattle.trace.specs.Kinds.{entry}
use Rattle.trace.specs.Events.{event_then, refused_at, judged, reading_at}

-- Bytes, a place, and what stands there.
abbrev table : List (List ℕ × ℕ × Result Found Refused)
table =
    ([], 0, refused_at BytesEnd 0) ∷
    (0x80 ∷ [], 0, refused_at BytesEnd 0) ∷
    (0xFF ∷ 0xFF ∷ [], 0, refused_at BytesEnd 0) ∷
    (0x80 ∷ 0x00 ∷ [], 0, refused_at FormLong 0) ∷
    (0xFF ∷ 0xFF ∷ 0xFF ∷ [], 0, refused_at FormLong 0) ∷
    (0x07 ∷ [], 0, refused_at Reserved 0) ∷
    (0x0F ∷ [], 0, refused_at Reserved 0) ∷  -- kind 7, and its operand too is above the largest
    (0x08 ∷ [], 0, refused_at OperandLarge 0) ∷
    (0x85 ∷ 0x80 ∷ 0x02 ∷ [], 0, refused_at OperandLarge 0) ∷  -- read 4,096
    (0x86 ∷ 0x80 ∷ 0x02 ∷ [], 0, refused_at OperandLarge 0) ∷  -- write 4,096
    (0xFB ∷ 0x03 ∷ [], 0, refused_at OperandLarge 0) ∷  -- lock 63
    (0xFE ∷ 0xFF ∷ 0x01 ∷ 0x01 ∷ [], 0, event_then (record { kind = 6; operand = 4095 }) 3) ∷  -- write 4,095
    (0xFE ∷ 0xFF ∷ 0x01 ∷ 0x01 ∷ [], 3, event_then (record { kind = 1; operand = 0 }) 4) ∷  -- and the return after it
    (0xF3 ∷ 0x03 ∷ [], 0, event_then (record { kind = 3; operand = 62 }) 2) ∷  -- lock 62
    (0x01 ∷ 0x80 ∷ [], 1, refused_at BytesEnd 1) ∷
    (0x01 ∷ [], 1, refused_at BytesEnd 1) ∷  -- the end
    (0x01 ∷ [], 5, refused_at BytesEnd 5) ∷ []  -- past the end

pub all_as_known : map (λ (row : List ℕ × ℕ × Result Found Refused). (row.0, row.1, reading_at row.0 row.1)) table ≡ table
unfolding value followed number_of number_at entry judged reading_at
all_as_known = refl
