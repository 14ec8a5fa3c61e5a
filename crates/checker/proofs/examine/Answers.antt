-- `examine` sets lists and runs up and goes through the trace, one step after the other, until it stops. Assumes nothing.
use mathlib.Core.Path.{◌∙◌}
use borrow.Author.Rules.{rules}
use Rattle.checker.proofs.Loop.{going_first, nearer_the_end, stopped, at_the_end}
use Rattle.checker.proofs.examine.Goals as goal

pub loop-state-init : goal.loop-state-init
loop-state-init c =
    let empty = c.empty.ensures in (
      going_first c.requires.fits c.begin.ensures.bags empty.heads empty.links empty.entries c.none.ensures empty.slots (search rules) (search rules),
      search rules,
      search rules,
    )

pub loop-state-smaller : goal.loop-state-smaller
loop-state-smaller c = nearer_the_end c.loop-state.invariant.0 c.in-Ok.ensures.step c.loop-state-test.true

-- Where a step is refused, and where the trace ends, everything is as the definitions say.
pub returns-in-Err-clause-result : goal.returns-in-Err-clause-result
returns-in-Err-clause-result c = c.answer.ensures ∙ (stopped c.loop-state.invariant.0 c.in-Err.ensures.step).answer_told

pub returns-in-Err-clause-report : goal.returns-in-Err-clause-report
returns-in-Err-clause-report c = (stopped c.loop-state.invariant.0 c.in-Err.ensures.step).report_told

pub returns-then-main_is_open-clause-result : goal.returns-then-main_is_open-clause-result
returns-then-main_is_open-clause-result c =
    c.answer-then-main_is_open.ensures
    ∙ (at_the_end c.loop-state.invariant.0 c.loop-state-test.false c.main_is_open.ensures c.if-main_is_open.true).answer_told

pub returns-then-main_is_open-clause-report : goal.returns-then-main_is_open-clause-report
returns-then-main_is_open-clause-report c =
    (at_the_end c.loop-state.invariant.0 c.loop-state-test.false c.main_is_open.ensures c.if-main_is_open.true).report_told

pub returns-clause-result : goal.returns-clause-result
returns-clause-result c =
    c.answer-2.ensures ∙ (at_the_end c.loop-state.invariant.0 c.loop-state-test.false c.main_is_open.ensures c.if-main_is_open.false).answer_told

pub returns-clause-report : goal.returns-clause-report
returns-clause-report c = (at_the_end c.loop-state.invariant.0 c.loop-state-test.false c.main_is_open.ensures c.if-main_is_open.false).report_told
