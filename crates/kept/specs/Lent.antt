-- What is said of the lists in lent pieces: the pieces, that the entries in their slots are kept, and that they are still those that were lent.
use Rattle.std.specs.Prelude.{◌≡◌}
use Rattle.kept.specs.declared.KeptLists.{KeptLists}
use Rattle.kept.specs.Pieces.{Pieces, pieces}

abbrev pub pieces_of : KeptLists → Pieces
pieces_of kept = pieces kept.heads.now kept.links.now kept.events.now kept.procedures.now kept.sets.now

abbrev pub entries_kept : KeptLists → KeptLists → Type 0
entries_kept kept kept' =
    (kept'.events.now ≡ kept.events.now) × (kept'.procedures.now ≡ kept.procedures.now) × (kept'.sets.now ≡ kept.sets.now)

abbrev pub SameLoans : KeptLists → KeptLists → Type 0
SameLoans kept kept' =
    (kept'.heads.ghost_name ≡ kept.heads.ghost_name)
    × (kept'.links.ghost_name ≡ kept.links.ghost_name)
    × (kept'.events.ghost_name ≡ kept.events.ghost_name)
    × (kept'.procedures.ghost_name ≡ kept.procedures.ghost_name)
    × (kept'.sets.ghost_name ≡ kept.sets.ghost_name)
