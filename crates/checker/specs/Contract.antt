-- The contract of the call.
use Rattle.std.specs.Prelude.{◌≡◌}
use Rattle.kept.specs.Theorem.{visited}
use Rattle.checker.specs.Events.{events, run}
use Rattle.checker.specs.Call.{Lent, Left, outcome}
use Rattle.checker.specs.Demands.{Demand1, Demand2, Demand3, BagsAgree}

pub record Contract (l : Lent) (r : Left) : Type 0 where
  -- the six numbers returned, every number of the report, and every piece of working room
  pub answer : r.answer ≡ (outcome l).answer
  pub report : r.report ≡ (outcome l).report
  pub room : r.room ≡ (outcome l).room
  -- the three demands
  pub demand1 : Demand1 l r
  pub demand2 : Demand2 (events l.trace) r.answer.events l.report r.answer.races r.report
  pub demand3 : Demand3 (events l.trace) r.answer.events (visited (run (events l.trace))) r.answer.visits
  -- the SP-bags, whose yes or no the kept lists go by, say what the definition says
  pub bags_agree : BagsAgree (events l.trace) r.answer.events
