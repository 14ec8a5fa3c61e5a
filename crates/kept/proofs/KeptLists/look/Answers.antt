-- `look` visits the slots of the list one after the other. Assumes nothing.
use Prim.Native.Nat.{◌<◌}
use mathlib.Core.Path.{refl}
use native.Mathlib.Omega.{arith}
use borrow.Author.Rules.{rules}
use Rattle.kept.specs.Pieces.{piece_size}
use Rattle.kept.proofs.Chains.{leads_to, leads_nowhere}
use Rattle.kept.proofs.Visits.{walk_inside, walk_strays, one_visit_more, walk_goes_on, walk_ends}
use Rattle.kept.proofs.KeptLists.look.Goals as goal
use Rattle.kept.proofs.KeptLists.look.Goals.{In-Some}

-- The slot that the link leads to lies within the pieces, and not everything is counted.
inside : (c : In-Some) → (c.in-Some.slot < piece_size) × (c.loop-slot.seen.visits < piece_size)
inside c = walk_inside c.loop-slot.invariant (leads_to c.slot.ensures c.in-Some.is)

pub offset_bounds-self-slot : goal.offset_bounds-self-slot
offset_bounds-self-slot c = omega (arith, inside (goal.at.offset_bounds-self-slot c).In-Some)

pub bounds-self-slot : goal.bounds-self-slot
bounds-self-slot c = omega (arith, inside (goal.at.bounds-self-slot c).In-Some)

pub returns-then-not-in_some_bag : goal.returns-then-not-in_some_bag
returns-then-not-in_some_bag c =
    walk_strays c.loop-slot.invariant (leads_to c.slot.ensures c.in-Some.is) (c.in_some_bag.ensures.bags _ _ c.requires.bags_room) (search rules)

pub offset_bounds-self-slot-in-Some : goal.offset_bounds-self-slot-in-Some
offset_bounds-self-slot-in-Some c = omega (arith, inside (goal.at.offset_bounds-self-slot-in-Some c).In-Some)

pub bounds-self-slot-in-Some : goal.bounds-self-slot-in-Some
bounds-self-slot-in-Some c = omega (arith, inside (goal.at.bounds-self-slot-in-Some c).In-Some)

pub and-seen-requires-clause-visits_lt_piece_size : goal.and-seen-requires-clause-visits_lt_piece_size
and-seen-requires-clause-visits_lt_piece_size c = (inside (goal.at.and-seen-requires-clause-visits_lt_piece_size c).In-Some).1

pub offset_bounds-self-slot-in-Some-2 : goal.offset_bounds-self-slot-in-Some-2
offset_bounds-self-slot-in-Some-2 c = omega (arith, inside (goal.at.offset_bounds-self-slot-in-Some-2 c).In-Some)

pub bounds-self-slot-in-Some-2 : goal.bounds-self-slot-in-Some-2
bounds-self-slot-in-Some-2 c = omega (arith, c.requires.walkable.links_fit, inside (goal.at.bounds-self-slot-in-Some-2 c).In-Some)

pub loop-slot-smaller : goal.loop-slot-smaller
loop-slot-smaller c = omega (arith, inside (goal.at.loop-slot-smaller c).In-Some, one_visit_more c.weigh-weighed.result _ _ _ c.and-seen.ensures)

pub loop-slot-preserved : goal.loop-slot-preserved
loop-slot-preserved c =
    walk_goes_on c.weigh-weighed.result c.loop-slot.invariant (leads_to c.slot.ensures c.in-Some.is)
    (c.in_some_bag.ensures.bags _ _ c.requires.bags_room) (search rules) c.weigh-weighed.ensures c.and-seen.ensures refl

pub returns : goal.returns
returns c = walk_ends c.loop-slot.invariant (leads_nowhere c.slot.ensures c.in_default.not-Some)
