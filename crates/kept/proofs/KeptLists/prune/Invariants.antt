-- `prune` walks the list until none is left to drop; each step is a law of `Pruning`. Assumes nothing.
use mathlib.Core.Path.{◌≡◌}
use lib.ListN.{length}
use Rattle.bags.specs.Lent.{bags_asked}
use Rattle.kept.specs.Pieces.{piece_size, slots_from}
use Rattle.kept.specs.Parts.{drops_by}
use Rattle.kept.specs.Lent.{entries_kept, SameLoans}
use Rattle.kept.proofs.Pruning.{Pruning}
use Rattle.kept.proofs.KeptLists.prune.Given as goal

abbrev pub invariant-loop-left : goal.invariant-loop-left
invariant-loop-left l =
    Pruning (drops_by (bags_asked l.runs) l.entry l.initial.self.procedures.now l.initial.self.sets.now) l.location l.initial.self.heads.now l.initial.self.links.now
    l.initial.self.slots l.self.heads.now l.self.links.now l.self.slots.freed l.last.0 l.at.0 l.left
    × (l.self.slots.used ≡ l.initial.self.slots.used) × entries_kept l.initial.self l.self × SameLoans l.initial.self l.self

abbrev pub decreases-loop-left : goal.decreases-loop-left
decreases-loop-left l = length (slots_from piece_size l.self.links.now l.at.0)
