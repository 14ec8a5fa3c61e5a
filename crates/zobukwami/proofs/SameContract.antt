-- What is asked and what is promised under the names by which C calls are those of `check`, `write_event` and `write_events`, word for word; so no
-- more choice is left. Assumes nothing.
use mathlib.Core.Path.{◌≡◌, refl}
use Rattle.checker.proofs.check.Reads as check_contract
use Rattle.writer.proofs.write_event.Reads as write_event_contract
use Rattle.writer.proofs.write_events.Reads as write_events_contract
use Rattle.zobukwami.proofs.zobukwami_check.Reads as c_check_contract
use Rattle.zobukwami.proofs.zobukwami_write_event.Reads as c_write_event_contract
use Rattle.zobukwami.proofs.zobukwami_write_events.Reads as c_write_events_contract

pub record SameContract : Type 1 where
  pub check : (c_check_contract.Pre ≡ check_contract.Pre) × (c_check_contract.Post ≡ check_contract.Post)
  pub write_event : (c_write_event_contract.Pre ≡ write_event_contract.Pre) × (c_write_event_contract.Post ≡ write_event_contract.Post)
  pub write_events : (c_write_events_contract.Pre ≡ write_events_contract.Pre) × (c_write_events_contract.Post ≡ write_events_contract.Post)

pub same_contract : SameContract
same_contract = record { check = (refl, refl); write_event = (refl, refl); write_events = (refl, refl) }
