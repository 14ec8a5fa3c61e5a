-- The event that stands at a place of a trace, or which of codes 3 to 6 it is refused with.
use Rattle.std.specs.Prelude.{ℕ, cond, List, eqb, ltb, Result, Ok, Err}
use Rattle.trace.specs.declared.Refusal.{Refusal}
use Rattle.trace.specs.declared.Refusal.TheVariants.{BytesEnd, FormLong, Reserved, OperandLarge}
use Rattle.trace.specs.declared.Number.{Number}
use Rattle.trace.specs.declared.Event.{Event}
use Rattle.trace.specs.declared.Found.{Found}
use Rattle.trace.specs.declared.Refused.{Refused}
use Rattle.trace.specs.Numbers.{number_at}
use Rattle.trace.specs.Kinds.{event_of, reserved, largest_operand}

-- The number of each refusal.
abbrev pub code_of : Refusal → ℕ
code_of BytesEnd = 3
code_of FormLong = 4
code_of Reserved = 5
code_of OperandLarge = 6

-- The answer that there is an event, and which place is after it; and the answer that there is none, and the place itself.
abbrev pub event_then : Event → ℕ → Result Found Refused
event_then e next = Ok (record { event = e; next = next })

abbrev pub refused_at : Refusal → ℕ → Result Found Refused
refused_at why at = Err (record { why = why; at = at })

-- What a number that was read is as an event: code 5 for kind 7, code 6 for an operand above the table's largest, tested in this order.
unfoldable pub judged : ℕ → Result Number Refusal → Result Found Refused
judged at (Err why) = refused_at why at
judged at (Ok n) =
    cond (eqb (event_of n.value).kind reserved) (refused_at Reserved at)
    (cond (ltb (largest_operand (event_of n.value)) (event_of n.value).operand) (refused_at OperandLarge at)
    (event_then (event_of n.value) n.next))

unfoldable pub reading_at : List ℕ → ℕ → Result Found Refused
reading_at trace at = judged at (number_at trace at)
