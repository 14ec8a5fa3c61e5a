-- The events of a trace of 01 as a list, by evaluation. Assumes nothing.
use Prim.Native.Nat.{ℕ}
use mathlib.Core.Path.{◌≡◌, refl}
use mathlib.Core.List.{[], ◌∷◌}
use Rattle.trace.specs.declared.Event.{Event}
use Rattle.trace.specs.Numbers.{value, followed, number_of, number_at}
use Rattle.trace.specs.Kinds.{entry}
use Rattle.trace.specs.Events.{judged, reading_at}
use Rattle.checker.specs.Events.{place, events}
use Rattle.zobukwami.specs.AcceptedAgain.{listed}

abbrev plain : ℕ → Event
plain kind = record { kind = kind; operand = 0 }

-- With a sync: spawn, write, return, sync, write, return. From event 1 on so many.
pub four_listed : listed (events (0x00 ∷ 0x06 ∷ 0x01 ∷ 0x02 ∷ 0x06 ∷ 0x01 ∷ [])) 1 4 ≡ plain 6 ∷ plain 1 ∷ plain 2 ∷ plain 6 ∷ []
unfolding value followed number_of number_at entry judged reading_at place events listed
four_listed = refl
