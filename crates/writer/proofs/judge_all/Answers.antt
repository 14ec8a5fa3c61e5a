-- `writer::judge_all` meets its contract. The loop's invariant: the events left get, from the next place on, the code of the whole list (`Judging`).
-- Assumes nothing.
use borrow.Author.Rules.{rules}
use Rattle.writer.proofs.Codes.{handed_on}
use Rattle.writer.proofs.Lists.{one_more, judging_goes_on, judging_stops}
use Rattle.writer.proofs.judge_all.Goals as goal

pub returns-in_err-next : goal.returns-in_err-next
returns-in_err-next c =
    handed_on _ _ _ _ c.from_residual.ensures.1
    (judging_stops c.loop-kind.invariant _ (one_more c.as_chunks.result.0.now c.args.events.now _ (search rules)) _ c.in_err-next.ensures)

pub loop-kind-preserved : goal.loop-kind-preserved
loop-kind-preserved c =
    judging_goes_on c.loop-kind.invariant _ (one_more c.as_chunks.result.0.now c.args.events.now _ (search rules)) c.in_ok-next.ensures
