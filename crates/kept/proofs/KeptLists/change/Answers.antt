-- `change` unlinks and appends: each way out is a law of `Accepting`. Assumes nothing.
use Prim.Native.Nat.{ℕ, ◌≤◌, ◌<◌}
use mathlib.Core.Path.{ap, ◌∙◌}
use mathlib.Core.List.{List}
use lib.ListN.{set}
use borrow.Author.Rules.{rules}
use borrow.Author.Tests.{not-true, not-false}
use Rattle.kept.specs.Parts.{slot_for}
use Rattle.kept.specs.Pieces.{piece_size}
use Rattle.kept.specs.Lent.{pieces_of}
use Rattle.bags.specs.Lent.{bags_asked}
use Rattle.kept.proofs.Telling.{Told, seen_tells, dropped_counted, room_walkable}
use Rattle.kept.proofs.Accepting.{left_out, append_fits, entry_added}
use Rattle.kept.proofs.KeptLists.change.Goals as goal
use Rattle.kept.proofs.KeptLists.change.Goals.{Start, Then-not-seen}

-- What is seen tells what the rules say of the list.
told : (c : Start) → Told (bags_asked c.args.runs.now) c.args.location c.args.entry (pieces_of c.args.self.now) c.args.self.now.slots c.args.seen
told c =
    let lent = pieces_of c.args.self.now in
    seen_tells _ _ _ lent _ _ (room_walkable lent _ _ c.requires.room c.requires.location_lt_piece_size) c.requires.seen_value

pub prune-requires-clause-count_value : goal.prune-requires-clause-count_value
prune-requires-clause-count_value c = dropped_counted _ _ _ (pieces_of c.args.self.now) _ _ (told (goal.at.prune-requires-clause-count_value c).Start)

pub prune-requires-clause-first_dropped : goal.prune-requires-clause-first_dropped
prune-requires-clause-first_dropped c = (told (goal.at.prune-requires-clause-first_dropped c).Start).first_told

-- The new entry finds a slot, and the links are small.
fits : (c : Then-not-seen)
    → (c.args.seen.last.0 ≤ piece_size) × (c.prune.new.self.slots.freed ≤ piece_size) × (c.prune.new.self.slots.used ≤ piece_size)
    × (slot_for c.prune.new.self.slots < piece_size)
fits c =
    let lent = pieces_of c.args.self.now in
    let room = c.requires.room in
    let here = c.requires.location_lt_piece_size in
    append_fits room here (seen_tells _ _ _ lent _ _ (room_walkable lent _ _ room here) c.requires.seen_value) c.prune.ensures.pruned
    (not-true _ c.if-not-seen.true) c.requires.slots_value

pub append-requires-clause-last_le_piece_size : goal.append-requires-clause-last_le_piece_size
append-requires-clause-last_le_piece_size c = (fits (goal.at.append-requires-clause-last_le_piece_size c).Then-not-seen).0

pub append-requires-clause-freed_le_piece_size : goal.append-requires-clause-freed_le_piece_size
append-requires-clause-freed_le_piece_size c = (fits (goal.at.append-requires-clause-freed_le_piece_size c).Then-not-seen).1

pub append-requires-clause-slots_bound : goal.append-requires-clause-slots_bound
append-requires-clause-slots_bound c = (fits (goal.at.append-requires-clause-slots_bound c).Then-not-seen).3

pub returns-then-not-seen : goal.returns-then-not-seen
returns-then-not-seen c =
    let seen = told (goal.at.returns-then-not-seen c).Start in
    let gone = c.prune.ensures in
    let left = c.append.ensures in
    let on = λ (n : ℕ) (l : List ℕ). set l (slot_for c.prune.new.self.slots) n in
    let added = entry_added c.requires.room c.requires.location_lt_piece_size seen gone.pruned (not-true _ c.if-not-seen.true) c.requires.slots_value
    left.slots left.heads left.links (left.events ∙ ap (on _) gone.entries.0) (left.procedures ∙ ap (on _) gone.entries.1)
    (left.sets ∙ ap (on _) gone.entries.2) in
    record { slots = added.0; pieces = added.1; lent = search rules }

pub returns-else-not-seen : goal.returns-else-not-seen
returns-else-not-seen c =
    let seen = told (goal.at.returns-else-not-seen c).Start in
    let gone = c.prune.ensures in
    let out = left_out c.requires.room c.requires.location_lt_piece_size seen gone.pruned (not-false _ c.if-not-seen.false) in
    record { slots = out.0; pieces = rw (gone.entries.0, gone.entries.1, gone.entries.2) out.1; lent = gone.lent }
