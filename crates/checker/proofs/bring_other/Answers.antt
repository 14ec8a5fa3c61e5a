-- `bring_other` brings in an event that is no access: each way out is a law of `Bringing`. Assumes nothing.
use mathlib.Core.Path.{◌≡◌, sym, ap, ◌∙◌}
use native.Mathlib.Omega.{arith}
use borrow.Author.Rules.{rules}
use lib.ListN.{length, length-set}
use Rattle.bags.proofs.Laws.{pushed_length}
use Rattle.std.specs.Prelude.{Err}
use Rattle.trace.specs.declared.Kind.TheVariants.{Spawn, Return, Lock, Unlock}
use Rattle.trace.proofs.Laws.{found as found_at, named, named_other, unnamed}
use Rattle.checker.specs.declared.End.TheVariants.{ProceduresMany}
use Rattle.checker.proofs.AccessKinds.{none_held, some_held}
use Rattle.checker.proofs.Bringing.{lock_goes_on, lock_refused, unlock_goes_on, unlock_refused, holding_refused}
use Rattle.checker.proofs.Bringing.{spawn_goes_on, spawn_refused, return_goes_on, sync_goes_on}
use Rattle.checker.proofs.bring_other.Goals as goal
use Rattle.checker.proofs.bring_other.Goals.{in-Spawn+in_ok-spawn-in-Spawn, in-Return, in_default-kind}

-- An event that was read has a kind.
pub returns-in_err-kind-clause-step : goal.returns-in_err-kind-clause-step
returns-in_err-kind-clause-step c = λ trace report lists n.
    absurd (omega (arith, (found_at _ _ _ _ n.read).kind, (unnamed _ _ (sym c.try_from.ensures ∙ c.in_err-kind.was)).1))

pub returns-then-has-clause-step : goal.returns-then-has-clause-step
returns-then-has-clause-step c = λ trace report lists n.
    lock_refused n report (named _ Lock (cc)) (cc)

pub returns-else-has-clause-step : goal.returns-else-has-clause-step
returns-else-has-clause-step c = λ trace report lists n.
    rw c.after_other.ensures
    (lock_goes_on n report _ _ (named _ Lock (cc)) c.requires.event_value (cc) c.take-then.ensures c.count.ensures)

pub returns-then-not-has-clause-step : goal.returns-then-not-has-clause-step
returns-then-not-has-clause-step c = λ trace report lists n.
    unlock_refused n report (named _ Unlock (cc)) (cc)

pub returns-else-not-has-clause-step : goal.returns-else-not-has-clause-step
returns-else-not-has-clause-step c = λ trace report lists n.
    rw c.after_other-in-Unlock.ensures
    (unlock_goes_on n report _ (named _ Unlock (cc)) c.requires.event_value (cc) c.release.ensures)

pub returns-then-lawful_holding-is_empty-clause-step : goal.returns-then-lawful_holding-is_empty-clause-step
returns-then-lawful_holding-is_empty-clause-step c = λ trace report lists n.
    let kind = sym c.try_from.ensures ∙ c.in_ok-kind.was in
    holding_refused n report (named_other _ _ Lock kind c.in_default.not-Lock) (named_other _ _ Unlock kind c.in_default.not-Unlock)
    c.requires.event_value (some_held c.lawful_holding.result c.is_empty.ensures c.if-lawful_holding-is_empty.true)

-- From here on it is neither a lock nor an unlock, and no lock is held.
pub returns-in_err-spawn-in-Spawn-clause-step : goal.returns-in_err-spawn-in-Spawn-clause-step
returns-in_err-spawn-in-Spawn-clause-step c = λ trace report lists n.
    let kind = sym c.try_from.ensures ∙ c.in_ok-kind.was in
    let empty = none_held _ kind c.in_default.not-Lock c.in_default.not-Unlock c.requires.event_value c.lawful_holding.ensures c.is_empty.ensures
    c.if-lawful_holding-is_empty.false in
    let ended : c.from_residual-in_err-spawn-in-Spawn.result ≡ Err ProceduresMany = search rules in
    rw ended
    (spawn_refused n report _ _ (named _ Spawn (cc)) c.requires.event_value empty c.in_err-spawn-in-Spawn.ensures.bags)

pub returns-after-kind-2-clause-step : goal.returns-after-kind-2-clause-step
returns-after-kind-2-clause-step c = λ trace report lists n.
    let kind = sym c.try_from.ensures ∙ c.in_ok-kind.was in
    let empty = none_held _ kind c.in_default.not-Lock c.in_default.not-Unlock c.requires.event_value c.lawful_holding.ensures c.is_empty.ensures
    c.if-lawful_holding-is_empty.false in
    rw c.after_other-in_default.ensures (elim c.match-kind-2.branch [
      | in-Spawn+in_ok-spawn-in-Spawn w ↦
          let left = w.in_ok-spawn-in-Spawn.ensures in
          rw w.runs-is
          (spawn_goes_on n report _ (named _ Spawn (cc)) c.requires.event_value empty left.bags
          (ap length left.starts ∙ pushed_length _ _ _) (ap length left.joins ∙ pushed_length _ _ _))
      | in-Return w ↦
          let left = w.returns.ensures in
          rw w.runs-is
          (return_goes_on n report _ (named _ Return (cc)) c.requires.event_value empty
          (left.bags c.requires.bags_room) (ap length left.starts) (ap length left.joins))
      | in_default-kind w ↦
          let left = w.sync.ensures in
          rw w.runs-is
          (sync_goes_on n report _ (named_other _ _ Spawn kind w.in_default-kind.not-Spawn)
          (named_other _ _ Return kind w.in_default-kind.not-Return) (named_other _ _ Lock kind c.in_default.not-Lock)
          (named_other _ _ Unlock kind c.in_default.not-Unlock) c.requires.event_value empty (rw left.starts (left.bags _ c.requires.bags_room))
          (ap length left.starts) (ap length left.joins ∙ length-set _ _ _))
    ])
