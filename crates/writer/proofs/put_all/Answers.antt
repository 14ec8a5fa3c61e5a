-- `writer::put_all` meets its contract. The loop's invariant: the events left, stored from the next place on, make the whole (`Writing`). Assumes
-- nothing.
use borrow.Author.Rules.{rules}
use Rattle.writer.proofs.Lists.{one_more, writing_passes, writing_goes_on}
use Rattle.writer.proofs.put_all.Goals as goal

pub put-next-requires : goal.put-next-requires
put-next-requires c = writing_passes c.loop-kind.invariant _ (one_more c.as_chunks.result.0.now c.args.events.now _ (search rules))

pub loop-kind-preserved : goal.loop-kind-preserved
loop-kind-preserved c = writing_goes_on c.loop-kind.invariant _ (one_more c.as_chunks.result.0.now c.args.events.now _ (search rules)) c.put-next.ensures
