-- `step` reads an event and tests it; `bring_access` and `bring_other` bring it in. Assumes nothing.
use mathlib.Core.Path.{◌≡◌, refl, sym, ◌∙◌}
use borrow.Author.Rules.{rules}
use Rattle.std.specs.Prelude.{Err}
use Rattle.checker.specs.declared.End.TheVariants.{Unread}
use Rattle.checker.proofs.Stepping.{is_safe, is_located, reading_refused, refused_after_main}
use Rattle.checker.proofs.step.Goals as goal

pub returns-in_err-found-clause-step : goal.returns-in_err-found-clause-step
returns-in_err-found-clause-step c =
    let ended : c.from_residual.result ≡ Err (Unread c.in_err-found.field-0.0.why) = search rules in
    rw ended (reading_refused c.requires.stands c.requires.at_in_bounds _ (sym c.read_event.ensures ∙ c.in_err-found.was) refl)

pub returns-then-not-main_is_open-clause-step : goal.returns-then-not-main_is_open-clause-step
returns-then-not-main_is_open-clause-step c =
    refused_after_main c.requires.stands c.requires.at_in_bounds _ (sym c.read_event.ensures ∙ c.in_ok-found.was) (cc)

pub bring_access-requires-clause-safe : goal.bring_access-requires-clause-safe
bring_access-requires-clause-safe c =
    let found = c.in_ok-found.found in
    is_safe _ _ _ _ found.event found.next (search rules) c.requires.trace_len_bound

pub bring_access-requires-clause-event_bound : goal.bring_access-requires-clause-event_bound
bring_access-requires-clause-event_bound c =
    let found = c.in_ok-found.found in
    is_located c.args.trace.now c.args.lists.now c.args.state c.args.runs.now found.event found.next (search rules) (search rules)

pub bring_other-requires-clause-small : goal.bring_other-requires-clause-small
bring_other-requires-clause-small c =
    let found = c.in_ok-found.found in
    (is_safe c.args.trace.now c.args.lists.now c.args.state c.args.runs.now found.event found.next (search rules) c.requires.trace_len_bound).counts_small

pub returns-else-is_access-clause-step : goal.returns-else-is_access-clause-step
returns-else-is_access-clause-step c = c.bring_other.ensures.step _ _ _ (search rules)
