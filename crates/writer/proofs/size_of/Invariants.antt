-- `writer::size_of` meets its contract. The loop's invariant: the groups counted and those of what is left are the groups of the number. It goes
-- round once a group but the last. Assumes nothing.
use Rattle.writer.proofs.Groups.{Remains}
use Rattle.writer.proofs.size_of.Given as goal

abbrev pub invariant-loop-left : goal.invariant-loop-left
invariant-loop-left l = Remains l.number 1 l.size l.left

abbrev pub decreases-loop-left : goal.decreases-loop-left
decreases-loop-left l = l.left
