-- What the definitions say of small lists, by evaluation. Each must-fail edit gets a row of the table wrong. Assumes nothing.
use Prim.Native.Nat.{ℕ}
use mathlib.Core.Path.{◌≡◌, refl}
use mathlib.Core.List.{List, [], ◌∷◌, map}
use lib.ListN.{length}
use Rattle.trace.specs.declared.Event.{Event}
use Rattle.trace.specs.Numbers.{value, followed, number_of, number_at}
use Rattle.trace.specs.Kinds.{entry}
use Rattle.trace.specs.Events.{judged, reading_at}
use Rattle.writer.specs.Form.{groups, bytes_of, bytes_of_all}
use Rattle.writer.specs.Lists.{events_in, numbers_of}
use Rattle.writer.specs.Contract.{event_code, list_code, next_place, buffer_after, ReadAs}

-- The numbers of the events, the buffer and the place that are lent, and the code, the next place and the buffer that are given and left.
abbrev Row : Type 0
Row = List ℕ × List ℕ × ℕ × (ℕ × ℕ × List ℕ)

abbrev done : Row → Row
done row =
    let es = events_in row.0 in
    let code = list_code (length row.1) row.2 es in
    (row.0, row.1, row.2, (code, next_place code row.2 es, buffer_after code row.1 row.2 es))

-- What the buffer holds at entry, here and there.
abbrev x : ℕ
x = 0xEE

abbrev table : List Row
table =
    (0 ∷ 0 ∷ [], x ∷ x ∷ [], 0, (0, 1, 0 ∷ x ∷ [])) ∷  -- spawn
    (6 ∷ 15 ∷ [], x ∷ x ∷ [], 0, (0, 1, 0x7E ∷ x ∷ [])) ∷  -- write 15, the last of one byte
    (6 ∷ 16 ∷ [], x ∷ x ∷ [], 0, (0, 2, 0x86 ∷ 1 ∷ [])) ∷  -- write 16
    (5 ∷ 2047 ∷ [], x ∷ x ∷ x ∷ [], 1, (0, 3, x ∷ 0xFD ∷ 0x7F ∷ [])) ∷  -- read 2,047, the last of two bytes
    (5 ∷ 2048 ∷ [], x ∷ x ∷ x ∷ [], 0, (0, 3, 0x85 ∷ 0x80 ∷ 1 ∷ [])) ∷  -- read 2,048
    (6 ∷ 4095 ∷ [], x ∷ x ∷ x ∷ x ∷ x ∷ [], 1, (0, 4, x ∷ 0xFE ∷ 0xFF ∷ 1 ∷ x ∷ [])) ∷  -- write 4,095
    (3 ∷ 62 ∷ [], x ∷ x ∷ [], 0, (0, 2, 0xF3 ∷ 3 ∷ [])) ∷  -- lock 62
    (7 ∷ 0 ∷ [], x ∷ [], 0, (5, 0, x ∷ [])) ∷
    (7 ∷ 5000 ∷ [], x ∷ [], 9, (5, 9, x ∷ [])) ∷  -- its operand and the place are too large as well
    (8 ∷ 0 ∷ [], x ∷ [], 0, (5, 0, x ∷ [])) ∷
    (7 ∷ 0 ∷ [], [], 0, (5, 0, [])) ∷  -- it would not fit either
    (0 ∷ 1 ∷ [], x ∷ [], 0, (6, 0, x ∷ [])) ∷
    (3 ∷ 63 ∷ [], x ∷ [], 1, (6, 1, x ∷ [])) ∷  -- it would not fit either
    (6 ∷ 4096 ∷ [], x ∷ x ∷ x ∷ [], 0, (6, 0, x ∷ x ∷ x ∷ [])) ∷
    (6 ∷ 4096 ∷ [], x ∷ [], 0, (6, 0, x ∷ [])) ∷  -- likewise
    (6 ∷ 16 ∷ [], x ∷ [], 0, (15, 0, x ∷ [])) ∷
    (0 ∷ 0 ∷ [], x ∷ [], 1, (15, 1, x ∷ [])) ∷
    (0 ∷ 0 ∷ [], x ∷ [], 2, (15, 2, x ∷ [])) ∷
    (0 ∷ 0 ∷ 6 ∷ 0 ∷ 1 ∷ 0 ∷ 6 ∷ 0 ∷ 1 ∷ 0 ∷ [], x ∷ x ∷ x ∷ x ∷ x ∷ x ∷ x ∷ [], 1, (0, 6, x ∷ 0 ∷ 6 ∷ 1 ∷ 6 ∷ 1 ∷ x ∷ [])) ∷  -- a trace of 01
    (0 ∷ 0 ∷ 7 ∷ 0 ∷ [], x ∷ x ∷ x ∷ [], 0, (5, 0, x ∷ x ∷ x ∷ [])) ∷  -- the second is refused
    (0 ∷ 0 ∷ 3 ∷ 63 ∷ 7 ∷ 0 ∷ [], x ∷ x ∷ x ∷ [], 0, (6, 0, x ∷ x ∷ x ∷ [])) ∷  -- the first refused decides
    (6 ∷ 16 ∷ 7 ∷ 0 ∷ [], x ∷ [], 0, (15, 0, x ∷ [])) ∷  -- here it is one that does not fit
    (0 ∷ 0 ∷ 1 ∷ 0 ∷ [], x ∷ [], 0, (15, 0, x ∷ [])) ∷  -- the second does not fit
    (0 ∷ 0 ∷ 1 ∷ [], x ∷ x ∷ [], 0, (6, 0, x ∷ x ∷ [])) ∷  -- a last kind without an operand
    (9 ∷ [], x ∷ [], 0, (5, 0, x ∷ [])) ∷
    ([], x ∷ [], 1, (0, 1, x ∷ [])) ∷
    ([], x ∷ [], 2, (15, 2, x ∷ [])) ∷ []

pub all_as_known : map done table ≡ table
unfolding entry groups bytes_of bytes_of_all events_in event_code list_code next_place buffer_after
all_as_known = refl

-- Write 4,095 and a return, after a byte and before another: how they are lent, and that they are read from place 1 up to 5.
abbrev two : List Event
two = record { kind = 6; operand = 4095 } ∷ record { kind = 1; operand = 0 } ∷ []

pub two_lent : numbers_of two ≡ 6 ∷ 4095 ∷ 1 ∷ 0 ∷ []
unfolding numbers_of
two_lent = refl

pub two_read : ReadAs (x ∷ 0xFE ∷ 0xFF ∷ 0x01 ∷ 0x01 ∷ x ∷ []) 1 two 5
unfolding ReadAs value followed number_of number_at entry judged reading_at
two_read = (4, refl, (5, refl, refl))
