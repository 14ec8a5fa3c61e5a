-- `writer::write_events` meets its contract, by the laws of `RoundTrip`. Assumes nothing.
use mathlib.Core.Path.{refl}
use borrow.Author.Rules.{rules}
use Rattle.writer.specs.Contract.{list_code, event_code}
use Rattle.writer.proofs.RoundTrip.{wrote_all, wrote_none}
use Rattle.writer.proofs.write_events.Goals as goal

pub returns-in-Ok : goal.returns-in-Ok
returns-in-Ok c = wrote_all _ _ _ _ _ refl c.in-Ok.ensures.0 c.in-Ok.ensures.1 c.put_all.ensures

-- That the buffer is left as it was is searched for, so that a call in this arm which writes nothing may stand there.
pub returns-in-Err : goal.returns-in-Err
unfolding list_code event_code
returns-in-Err c = wrote_none _ _ _ _ _ (search rules) _ c.in-Err.ensures c.refused.ensures
