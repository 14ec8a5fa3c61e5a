-- How a list of events is lent: as numbers, two to an event, its kind and its operand.
use Rattle.std.specs.Prelude.{ℕ, List, [], ◌∷◌}
use Rattle.trace.specs.declared.Event.{Event}

-- The largest number that can be lent, above every largest operand of the table.
abbrev pub no_operand : ℕ
no_operand = 4294967295

-- A last kind without an operand is an event whose operand is too large.
unfoldable pub events_in : List ℕ → List Event
events_in [] = []
events_in (kind ∷ []) = record { kind = kind; operand = no_operand } ∷ []
events_in (kind ∷ operand ∷ numbers) = record { kind = kind; operand = operand } ∷ events_in numbers

-- The numbers of a list.
unfoldable pub numbers_of : List Event → List ℕ
numbers_of [] = []
numbers_of (e ∷ es) = e.kind ∷ e.operand ∷ numbers_of es
