-- `trace::read_number` meets its contract. The loop's invariant: the groups before this one, each followed by another, are gathered. Each way out is one
-- law of `Gathering`. Assumes nothing.
use Prim.Native.Nat.{◌+◌}
use mathlib.Core.Path.{◌≡◌}
use Rattle.trace.proofs.Gathering.{Gathered}
use Rattle.trace.proofs.read_number.Given as goal

abbrev pub invariant-loop-followed : goal.invariant-loop-followed
invariant-loop-followed l = Gathered l.trace l.at l.value l.weight l.followed × (l.next ≡ l.at + l.followed)
