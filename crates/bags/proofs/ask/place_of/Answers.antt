-- The search: what is left after the places that are tried one by one is searched by halves. Assumes nothing.
use Prim.Native.Nat.{◌≤◌, ◌-◌, ◌+◌}
use native.Mathlib.Omega.{arith}
use lib.Dec.{leb}
use borrow.Author.Rules.{rules}
use Rattle.std.proofs.Common.{of_calls}
use Rattle.std.proofs.lemmas.Fn.{always_returns_same}
use Rattle.bags.specs.Search.{Found}
use Rattle.bags.proofs.Search.{partitioned, last_of_those}
use Rattle.bags.proofs.ask.place_of.Goals as goal

-- What halving leaves.
found : (c : goal.After-partition_point) → (1 ≤ c.partition_point.result) × Found c.args.starts.now c.args.top c.args.p (c.partition_point.result - 1)
found c =
    last_of_those _ _ c.args.p _ (c.loop-at.at + 1) c.partition_point.result c.loop-at.invariant (omega arith) (omega arith) (search rules) (search rules)
    (search rules)
    (c.partition_point.ensures.partitioned (λ y. leb y c.args.p) (always_returns_same _ _ _ (λ a r f k. search (rules, of_calls)))
    (partitioned _ _ _ _ c.requires.rising (search rules) (omega (arith, c.loop-at.invariant.down_to, c.loop-at.invariant.within))))

pub overflow_sub-result : goal.overflow_sub-result
overflow_sub-result c = (found c).0

pub returns : goal.returns
returns c = (found c).1
