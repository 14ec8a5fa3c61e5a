-- `look` visits the slots of the list one after the other. Assumes nothing.
use Prim.Native.Nat.{◌-◌}
use Rattle.bags.specs.Lent.{bags_asked}
use Rattle.kept.specs.Pieces.{piece_size, slots_of}
use Rattle.kept.proofs.Visits.{Walking}
use Rattle.kept.proofs.KeptLists.look.Given as goal

abbrev pub invariant-loop-slot : goal.invariant-loop-slot
invariant-loop-slot l =
    Walking (bags_asked l.runs) l.entry l.self.links.now l.self.procedures.now l.self.sets.now
    (slots_of l.self.heads.now l.self.links.now l.location) l.seen l.at.0

abbrev pub decreases-loop-slot : goal.decreases-loop-slot
decreases-loop-slot l = piece_size - l.seen.visits
