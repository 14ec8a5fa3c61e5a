-- `writer::put_all` meets its contract. The loop's invariant: the events left, stored from the next place on, make the whole (`Writing`). Assumes
-- nothing.
use Rattle.writer.specs.Lists.{events_in}
use Rattle.writer.proofs.Lists.{events_from, Writing}
use Rattle.writer.proofs.put_all.Given as goal

abbrev pub invariant-loop-kind : goal.invariant-loop-kind
invariant-loop-kind l = Writing l.initial.buffer l.at (events_in l.events) l.buffer l.next (events_from l.pairs l.events l.kind-index)
