-- An entry is dropped if that becomes of it. Assumes nothing.
use mathlib.Core.Path.{sym, ap, ◌∙◌}
use Rattle.kept.specs.Parts.{is_dropped}
use Rattle.kept.proofs.Visits.{dropped_told, not_dropped}
use Rattle.kept.proofs.KeptLists.drops.Goals as goal

pub returns-in-Goes : goal.returns-in-Goes
returns-in-Goes c = ap is_dropped (sym c.in-Goes.is) ∙ dropped_told _ _ _ c.weigh-weighed.result c.weigh-weighed.ensures

pub returns-in_default : goal.returns-in_default
returns-in_default c = sym (not_dropped c.weigh-weighed.result c.in_default.not-Goes) ∙ dropped_told _ _ _ c.weigh-weighed.result c.weigh-weighed.ensures
