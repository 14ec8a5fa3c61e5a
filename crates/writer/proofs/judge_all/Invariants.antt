-- `writer::judge_all` meets its contract. The loop's invariant: the events left get, from the next place on, the code of the whole list (`Judging`).
-- Assumes nothing.
use Rattle.writer.specs.Lists.{events_in}
use Rattle.writer.proofs.Lists.{events_from, Judging}
use Rattle.writer.proofs.judge_all.Given as goal

abbrev pub invariant-loop-kind : goal.invariant-loop-kind
invariant-loop-kind l = Judging l.room l.at (events_in l.events) l.next (events_from l.pairs l.events l.kind-index)
