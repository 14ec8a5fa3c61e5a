-- `writer::write_event` meets its contract, by the laws of `RoundTrip`. Assumes nothing.
use mathlib.Core.Path.{refl, ◌∙◌}
use Rattle.writer.proofs.Codes.{one_alone}
use Rattle.writer.proofs.RoundTrip.{wrote_one, wrote_none}
use Rattle.writer.proofs.write_event.Goals as goal

pub returns-in-Ok : goal.returns-in-Ok
returns-in-Ok c = wrote_one _ _ _ _ _ refl c.in-Ok.ensures.0 c.in-Ok.ensures.1 c.put.ensures.1

pub returns-in-Err : goal.returns-in-Err
returns-in-Err c = wrote_none _ _ _ _ _ refl _ (one_alone _ _ _ ∙ c.in-Err.ensures) c.refused.ensures
