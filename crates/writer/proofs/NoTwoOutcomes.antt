-- No two outcomes satisfy the contract of a public function of `writer`, as the source states it: it says what code, next place and buffer equal.
-- Assumes nothing.
use Prim.Native.Nat.{ℕ}
use mathlib.Core.Path.{◌≡◌, sym, ap, ap₂, ◌∙◌}
use mathlib.Core.List.{List}
use Rattle.outcome.specs.Outcome.{OneResult, OneLeft}
use Rattle.trace.specs.declared.Event.{Event}
use Rattle.writer.specs.declared.Written.{Written}
use Rattle.writer.specs.Contract.{next_place, buffer_after, Wrote}
use Rattle.writer.proofs.write_event.Reads as write_event_contract
use Rattle.writer.proofs.write_events.Reads as write_events_contract

module _ {es : List Event} {before : List ℕ} {at : ℕ} {r r' : Written} {after after' : List ℕ} (w : Wrote es before at r after)
    (w' : Wrote es before at r' after') where
  same_code : r.code ≡ r'.code
  same_code = w.code ∙ sym w'.code

  same_written : r ≡ r'
  same_written =
      let next : r.next ≡ r'.next = w.next ∙ ap (λ (c : ℕ). next_place c at es) same_code ∙ sym w'.next in
      ap₂ (λ (c n : ℕ). record { code = c; next = n }) same_code next

  same_buffer : after ≡ after'
  same_buffer = w.buffer ∙ ap (λ (c : ℕ). buffer_after c before at es) same_code ∙ sym w'.buffer

pub record NoTwoOutcomes : Type 0 where
  pub write_event : OneResult write_event_contract.Post
  pub write_event_buffer : OneLeft write_event_contract.Post (λ κ s. s.0.now)
  pub write_events : OneResult write_events_contract.Post
  pub write_events_buffer : OneLeft write_events_contract.Post (λ κ s. s.0.now)

pub no_two_outcomes : NoTwoOutcomes
no_two_outcomes = record {
  write_event = λ κ a x y s s' p q. same_written p q;
  write_event_buffer = λ κ a x y s s' p q. same_buffer p q;
  write_events = λ κ a x y s s' p q. same_written p q;
  write_events_buffer = λ κ a x y s s' p q. same_buffer p q;
}
