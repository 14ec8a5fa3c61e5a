-- `examine` sets lists and runs up and goes through the trace, one step after the other, until it stops. Assumes nothing.
use Prim.Native.Nat.{◌-◌}
use lib.ListN.{length}
use Rattle.bags.specs.Lent.{SameLoans as SameRuns}
use Rattle.kept.specs.Lent.{SameLoans as SameLists}
use Rattle.checker.proofs.Loop.{Going}
use Rattle.checker.proofs.examine.Given as goal

abbrev pub invariant-loop-state : goal.invariant-loop-state
invariant-loop-state l =
    Going l.trace l.fn.report l.fn.lists l.fn.runs l.report l.lists l.runs l.state × SameLists l.fn.lists l.lists × SameRuns l.fn.runs l.runs

abbrev pub decreases-loop-state : goal.decreases-loop-state
decreases-loop-state l = length l.trace - l.state.at
