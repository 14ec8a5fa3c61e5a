-- `writer::put` meets its contract. The loop's invariant: the groups left, stored from the next place on, make the whole (`Putting`). It goes round
-- once a group but the last. Assumes nothing.
use Rattle.writer.proofs.Groups.{Putting}
use Rattle.writer.proofs.put.Given as goal

abbrev pub invariant-loop-rest : goal.invariant-loop-rest
invariant-loop-rest l = Putting l.initial.buffer l.at l.initial.rest l.buffer l.next l.rest

abbrev pub decreases-loop-rest : goal.decreases-loop-rest
decreases-loop-rest l = l.rest
