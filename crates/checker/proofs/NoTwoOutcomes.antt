-- No two outcomes satisfy the contract of `check`, as the source states it: it says what the result equals, and the report and every piece of working room
-- at exit. Assumes nothing.
use mathlib.Core.Path.{sym, ◌∙◌}
use Rattle.outcome.specs.Outcome.{OneResult, OneLeft}
use Rattle.checker.specs.Call.{room}
use Rattle.checker.proofs.check.Reads as check_contract

pub record NoTwoOutcomes : Type 0 where
  pub check : OneResult check_contract.Post
  pub check_report : OneLeft check_contract.Post (λ κ s. s.1.0.now)
  pub check_room : OneLeft check_contract.Post
      (λ κ s.
      let pieces = s.1.1 in
      room pieces.0.now pieces.1.0.now pieces.1.1.0.now pieces.1.1.1.0.now pieces.1.1.1.1.0.now
      pieces.1.1.1.1.1.0.now pieces.1.1.1.1.1.1.0.now)

pub no_two_outcomes : NoTwoOutcomes
no_two_outcomes = record {
  check = λ κ a x y s s' p q. p.answer ∙ sym q.answer;
  check_report = λ κ a x y s s' p q. p.report ∙ sym q.report;
  check_room = λ κ a x y s s' p q. p.room ∙ sym q.room;
}
