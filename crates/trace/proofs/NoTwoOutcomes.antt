-- No two outcomes satisfy the contract of a public function of `trace`, each contract taken as the source states it: it says what the result equals.
-- Assumes nothing.
use Rattle.outcome.specs.Outcome.{OneResult}
use Rattle.trace.proofs.read_number.Reads as read_number_contract
use Rattle.trace.proofs.read_event.Reads as read_event_contract
use Rattle.trace.proofs.KindTryFromU32.try_from.Reads as try_from_contract
use Rattle.trace.proofs.Refusal.code.Reads as code_contract
use Rattle.trace.proofs.Event.largest_operand.Reads as largest_operand_contract
use Rattle.trace.proofs.Event.lawful_holding.Reads as lawful_holding_contract
use Rattle.trace.proofs.Event.is_access.Reads as is_access_contract
use Rattle.trace.proofs.Event.is_read.Reads as is_read_contract
use Rattle.trace.proofs.Event.location.Reads as location_contract

pub record NoTwoOutcomes : Type 0 where
  pub read_number : OneResult read_number_contract.Post
  pub read_event : OneResult read_event_contract.Post
  pub try_from : OneResult try_from_contract.Post
  pub code : OneResult code_contract.Post
  pub largest_operand : OneResult largest_operand_contract.Post
  pub lawful_holding : OneResult lawful_holding_contract.Post
  pub is_access : OneResult is_access_contract.Post
  pub is_read : OneResult is_read_contract.Post
  pub location : OneResult location_contract.Post

pub no_two_outcomes : NoTwoOutcomes
no_two_outcomes = record {
  read_number = λ κ a x y s s' p q. cc;
  read_event = λ κ a x y s s' p q. cc;
  try_from = λ κ a x y s s' p q. cc;
  code = λ κ a x y s s' p q. cc;
  largest_operand = λ κ a x y s s' p q. cc;
  lawful_holding = λ κ a x y s s' p q. cc;
  is_access = λ κ a x y s s' p q. cc;
  is_read = λ κ a x y s s' p q. cc;
  location = λ κ a x y s s' p q. cc;
}
