-- `bring_access` brings in an access: each way out is a law of `Bringing`. Assumes nothing.
use mathlib.Core.Path.{◌≡◌}
use native.Mathlib.Omega.{arith}
use borrow.Author.Rules.{rules}
use Rattle.std.specs.Prelude.{Err}
use Rattle.checker.specs.declared.End.TheVariants.{NotKept}
use Rattle.checker.proofs.Bringing.{entry_told, access_refused, access_goes_on}
use Rattle.checker.proofs.bring_access.Goals as goal

-- The entry is the one that the run has, whatever trace the event comes from.
pub returns-in_err-visits-clause-step : goal.returns-in_err-visits-clause-step
returns-in_err-visits-clause-step c = λ trace n.
    let ours = entry_told n c.args.report.now _ c.set_of_access.result (c.running.ensures.runner _ _ c.requires.safe.bags_room) (cc) in
    let gives = c.in_err-visits.ensures in
    let result = rw c.asked.ensures.bags at gives.result in
    let ended : c.from_residual.result ≡ Err (NotKept c.in_err-visits.field-0.0) = search rules in
    rw ended
    (access_refused n _ _ c.location-location.ensures _ ours c.requires.event_value (omega arith) _ _ (result, gives.pieces))

pub returns-clause-step : goal.returns-clause-step
returns-clause-step c = λ trace n.
    let ours = entry_told n c.args.report.now _ c.set_of_access.result (c.running.ensures.runner _ _ c.requires.safe.bags_room) (cc) in
    let gives = c.in_ok-visits.ensures in
    let result = rw c.asked.ensures.bags at gives.result in
    let pieces = rw c.asked.ensures.bags at gives.pieces in
    rw c.after.ensures
    (access_goes_on n _ _ c.location-location.ensures _ ours c.requires.event_value (omega arith) _ _ _ _ (result, pieces)
    c.note-races.ensures.result c.note-races.ensures.report)
