-- The kinds of events and what the table says of each.
use Rattle.std.specs.Prelude.{ℕ, ◌+◌, ◌*◌, ◌/◌, ◌%◌, Bool, List, [], ◌∷◌, eqb, get_or, Result, Ok, Err}
use Rattle.trace.specs.declared.Event.{Event}
use Rattle.trace.specs.declared.Kind.{Kind}
use Rattle.trace.specs.declared.Kind.TheVariants.{Spawn, Return, Sync, Lock, Unlock, Read, Write}
use Rattle.trace.specs.declared.Refusal.{Refusal}
use Rattle.trace.specs.declared.Refusal.TheVariants.{Reserved}

-- The kind is the number mod 8, the operand the number divided by 8, rounded down.
abbrev pub event_of : ℕ → Event
event_of number = record { kind = number % 8; operand = number / 8 }

-- So the number of an event is this.
abbrev pub as_number : Event → ℕ
as_number e = 8 * e.operand + e.kind

-- One row for each of the eight kinds: largest operand, lawful with a lock held, access, read mark.
abbrev pub kinds : List (List ℕ)
kinds =
    (0 ∷ 0 ∷ 0 ∷ 0 ∷ []) ∷  -- spawn
    (0 ∷ 0 ∷ 0 ∷ 0 ∷ []) ∷  -- return
    (0 ∷ 0 ∷ 0 ∷ 0 ∷ []) ∷  -- sync
    (62 ∷ 1 ∷ 0 ∷ 0 ∷ []) ∷  -- lock
    (62 ∷ 1 ∷ 0 ∷ 0 ∷ []) ∷  -- unlock
    (4095 ∷ 1 ∷ 1 ∷ 1 ∷ []) ∷  -- read
    (4095 ∷ 1 ∷ 1 ∷ 0 ∷ []) ∷  -- write
    (0 ∷ 0 ∷ 0 ∷ 0 ∷ []) ∷ []  -- reserved

-- The kinds by the event's name, those of the accesses aside, which the table tells.
abbrev pub is_spawn : Event → Bool
is_spawn e = eqb e.kind 0

abbrev pub is_return : Event → Bool
is_return e = eqb e.kind 1

abbrev pub is_sync : Event → Bool
is_sync e = eqb e.kind 2

abbrev pub is_locking : Event → Bool
is_locking e = eqb e.kind 3

abbrev pub is_unlocking : Event → Bool
is_unlocking e = eqb e.kind 4

abbrev pub reserved : ℕ
reserved = 7

-- The kinds in the order of their numbers. The other numbers, the reserved one among them, name none.
abbrev pub kind_named : ℕ → Result Kind Refusal
kind_named number = get_or (Ok Spawn ∷ Ok Return ∷ Ok Sync ∷ Ok Lock ∷ Ok Unlock ∷ Ok Read ∷ Ok Write ∷ []) number (Err Reserved)

-- An entry of the row of an event's kind. A kind that is not in the table has zeros.
unfoldable pub entry : Event → ℕ → ℕ
entry e column = get_or (get_or kinds e.kind []) column 0

abbrev pub says_yes : Event → ℕ → Bool
says_yes e column = eqb (entry e column) 1

abbrev pub largest_operand : Event → ℕ
largest_operand e = entry e 0

abbrev pub lawful_holding : Event → Bool
lawful_holding e = says_yes e 1

abbrev pub is_access : Event → Bool
is_access e = says_yes e 2

abbrev pub is_read : Event → Bool
is_read e = says_yes e 3

-- The operand of an access is its location.
abbrev pub location : Event → ℕ
location e = e.operand
