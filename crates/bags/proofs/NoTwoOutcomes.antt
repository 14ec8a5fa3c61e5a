-- No two outcomes satisfy the contract of a public function of `bags`, each contract taken as the source states it: it says what the result equals, and
-- each piece at exit. Assumes nothing.
use Prim.Native.Nat.{ℕ}
use mathlib.Core.Path.{◌≡◌, sym, ap, ◌∙◌}
use Rattle.outcome.specs.Outcome.{OneResult, OneLeft, OneGiven}
use Rattle.bags.specs.declared.ask.ProcedureNumber.{ProcedureNumber}
use Rattle.bags.proofs.ask.Runs.begin.Reads as begin_contract
use Rattle.bags.proofs.ask.Runs.spawn.Reads as spawn_contract
use Rattle.bags.proofs.ask.Runs.sync.Reads as sync_contract
use Rattle.bags.proofs.ask.Runs.returns.Reads as returns_contract
use Rattle.bags.proofs.ask.Runs.running.Reads as running_contract
use Rattle.bags.proofs.ask.Runs.main_is_open.Reads as main_is_open_contract
use Rattle.bags.proofs.ask.Runs.ask.Reads as ask_contract
use Rattle.bags.proofs.ask.Runs.in_some_bag.Reads as in_some_bag_contract
use Rattle.bags.proofs.ask.Runs.asked.Reads as asked_contract
use Rattle.bags.proofs.ask.Asked.ask.Reads as asked_ask_contract
use Rattle.bags.proofs.ask.Asked.in_some_bag.Reads as asked_in_some_bag_contract
use Rattle.bags.proofs.ask.Asked.running.Reads as asked_running_contract
use Rattle.bags.proofs.ask.Asked.main_is_open.Reads as asked_main_is_open_contract
use Rattle.bags.proofs.ask.Asked.returns.Reads as asked_returns_contract

-- A procedure's name is its number.
same_procedure : {x y : ProcedureNumber} {number : ℕ} → x.0 ≡ number → y.0 ≡ number → x ≡ y
same_procedure p q = ap (λ (n : ℕ). record { 0 = n }) (p ∙ sym q)

pub record NoTwoOutcomes : Type 0 where
  pub begin_pairs : OneLeft begin_contract.Post (λ κ s. s.0.now.pairs)
  pub begin_starts : OneLeft begin_contract.Post (λ κ s. s.0.now.starts.now)
  pub begin_joins : OneLeft begin_contract.Post (λ κ s. s.0.now.joins.now)
  pub spawn : OneResult spawn_contract.Post
  pub spawn_pairs : OneLeft spawn_contract.Post (λ κ s. s.0.now.pairs)
  pub spawn_starts : OneLeft spawn_contract.Post (λ κ s. s.0.now.starts.now)
  pub spawn_joins : OneLeft spawn_contract.Post (λ κ s. s.0.now.joins.now)
  pub sync_pairs : OneLeft sync_contract.Post (λ κ s. s.0.now.pairs)
  pub sync_starts : OneLeft sync_contract.Post (λ κ s. s.0.now.starts.now)
  pub sync_joins : OneLeft sync_contract.Post (λ κ s. s.0.now.joins.now)
  pub returns_pairs : OneLeft returns_contract.Post (λ κ s. s.0.now.pairs)
  pub returns_starts : OneLeft returns_contract.Post (λ κ s. s.0.now.starts.now)
  pub returns_joins : OneLeft returns_contract.Post (λ κ s. s.0.now.joins.now)
  pub running : OneResult running_contract.Post
  pub main_is_open : OneResult main_is_open_contract.Post
  pub ask : OneResult ask_contract.Post
  pub in_some_bag : OneResult in_some_bag_contract.Post
  pub asked_starts : OneGiven asked_contract.Post (λ κ r. r.starts.now)
  pub asked_joins : OneGiven asked_contract.Post (λ κ r. r.joins.now)
  pub asked_pairs : OneGiven asked_contract.Post (λ κ r. r.pairs)
  pub asked_ask : OneResult asked_ask_contract.Post
  pub asked_in_some_bag : OneResult asked_in_some_bag_contract.Post
  pub asked_running : OneResult asked_running_contract.Post
  pub asked_main_is_open : OneResult asked_main_is_open_contract.Post
  pub asked_returns : OneResult asked_returns_contract.Post

pub no_two_outcomes : NoTwoOutcomes
no_two_outcomes = record {
  begin_pairs = λ κ a x y s s' p q. p.0 ∙ sym q.0;
  begin_starts = λ κ a x y s s' p q. p.1.0 ∙ sym q.1.0;
  begin_joins = λ κ a x y s s' p q. p.1.1.0 ∙ sym q.1.1.0;
  spawn = λ κ a x y s s' p q. p.0 ∙ sym q.0;
  spawn_pairs = λ κ a x y s s' p q. p.1.1.0 ∙ sym q.1.1.0;
  spawn_starts = λ κ a x y s s' p q. p.1.1.1.0 ∙ sym q.1.1.1.0;
  spawn_joins = λ κ a x y s s' p q. p.1.1.1.1.0 ∙ sym q.1.1.1.1.0;
  sync_pairs = λ κ a x y s s' p q. p.0 ∙ sym q.0;
  sync_starts = λ κ a x y s s' p q. p.1.0 ∙ sym q.1.0;
  sync_joins = λ κ a x y s s' p q. p.1.1.0 ∙ sym q.1.1.0;
  returns_pairs = λ κ a x y s s' p q. p.0 ∙ sym q.0;
  returns_starts = λ κ a x y s s' p q. p.1.0 ∙ sym q.1.0;
  returns_joins = λ κ a x y s s' p q. p.1.1.0 ∙ sym q.1.1.0;
  running = λ κ a x y s s' p q. same_procedure p.0 q.0;
  main_is_open = λ κ a x y s s' p q. p ∙ sym q;
  ask = λ κ a x y s s' p q. p.0 ∙ sym q.0;
  in_some_bag = λ κ a x y s s' p q. p.0 ∙ sym q.0;
  asked_starts = λ κ a x y s s' p q. p.0 ∙ sym q.0;
  asked_joins = λ κ a x y s s' p q. p.1.0 ∙ sym q.1.0;
  asked_pairs = λ κ a x y s s' p q. p.1.1.0 ∙ sym q.1.1.0;
  asked_ask = λ κ a x y s s' p q. p.0 ∙ sym q.0;
  asked_in_some_bag = λ κ a x y s s' p q. p.0 ∙ sym q.0;
  asked_running = λ κ a x y s s' p q. same_procedure p.0 q.0;
  asked_main_is_open = λ κ a x y s s' p q. p ∙ sym q;
  asked_returns = λ κ a x y s s' p q. p.0 ∙ sym q.0;
}
