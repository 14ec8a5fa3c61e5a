-- The search: the place that is sought is `at` or lies below it, and `at` falls. Assumes nothing.
use Prim.Native.Nat.{◌+◌}
use Rattle.bags.proofs.Search.{Below}
use Rattle.bags.proofs.ask.place_of.Given as goal

abbrev pub invariant-loop-at : goal.invariant-loop-at
invariant-loop-at l = Below l.starts l.top l.p (l.floor + 1) (l.at + 1)

abbrev pub decreases-loop-at : goal.decreases-loop-at
decreases-loop-at l = l.at
