-- `prune` walks the list until none is left to drop; each step is a law of `Pruning`. Assumes nothing.
use Prim.Native.Nat.{◌≤◌, ◌<◌}
use mathlib.Core.Path.{refl, sym, ap, ◌∙◌}
use native.Mathlib.Omega.{arith}
use lib.ListN.{length, get_or}
use borrow.Author.Rules.{rules}
use Rattle.kept.specs.declared.Slots.{Slots}
use Rattle.kept.specs.Pieces.{piece_size}
use Rattle.kept.proofs.Chains.{leads_to, leads_nowhere, linked_length}
use Rattle.kept.proofs.Pruning.{prune_begins, none_pruned, prune_inside, prune_over, prune_drops, prune_stays, prune_ends, prune_falls}
use Rattle.kept.proofs.KeptLists.prune.Goals as goal
use Rattle.kept.proofs.KeptLists.prune.Goals.{In-Some}

-- None is to be dropped.
pub returns-then-seen-eq0-clause-pruned : goal.returns-then-seen-eq0-clause-pruned
returns-then-seen-eq0-clause-pruned c = none_pruned c.requires.laid_out (sym c.requires.count_value ∙ c.if-seen-eq0.true)

pub loop-left-init : goal.loop-left-init
loop-left-init c = (
  prune_begins c.requires.laid_out c.requires.count_value (c.requires.first_dropped c.if-seen-eq0.false),
  refl,
  (refl, refl, refl),
  (refl, refl, refl, refl, refl),
)

-- The slot that the link leads to lies within the pieces.
inside : (c : In-Some) → (c.in-Some.slot < piece_size) × (c.loop-left.last.0 ≤ piece_size)
inside c = prune_inside c.requires.location_lt_piece_size c.loop-left.invariant.0 (leads_to c.slot.ensures c.in-Some.is)

pub offset_bounds-self-slot : goal.offset_bounds-self-slot
offset_bounds-self-slot c = omega (arith, inside (goal.at.offset_bounds-self-slot c).In-Some)

pub bounds-self-slot : goal.bounds-self-slot
bounds-self-slot c =
    omega (arith, c.requires.fits.links_fit, c.loop-left.invariant.0.links_rest.same_length, inside (goal.at.bounds-self-slot c).In-Some)

pub drops-requires-clause-procedures_in_bounds : goal.drops-requires-clause-procedures_in_bounds
drops-requires-clause-procedures_in_bounds c =
    rw c.loop-left.invariant.2.1 (omega (arith, c.requires.fits.procedures_fit, inside (goal.at.drops-requires-clause-procedures_in_bounds c).In-Some))

pub drops-requires-clause-sets_in_bounds : goal.drops-requires-clause-sets_in_bounds
drops-requires-clause-sets_in_bounds c =
    rw c.loop-left.invariant.2.2 (omega (arith, c.requires.fits.sets_fit, inside (goal.at.drops-requires-clause-sets_in_bounds c).In-Some))

pub relink-requires-clause-last_in_bounds : goal.relink-requires-clause-last_in_bounds
relink-requires-clause-last_in_bounds c =
    omega (
      arith,
      c.requires.fits.links_fit,
      c.loop-left.invariant.0.links_rest.same_length,
      inside (goal.at.relink-requires-clause-last_in_bounds c).In-Some,
    )

pub offset_bounds-self-slot-then-drops : goal.offset_bounds-self-slot-then-drops
offset_bounds-self-slot-then-drops c = omega (arith, inside (goal.at.offset_bounds-self-slot-then-drops c).In-Some)

pub bounds-self-slot-then-drops : goal.bounds-self-slot-then-drops
bounds-self-slot-then-drops c =
    omega (
      arith,
      ap length c.relink.ensures.links,
      linked_length c.loop-left.last.0 (get_or c.loop-left.self.links.now c.in-Some.slot 0) c.loop-left.self.links.now,
      c.requires.fits.links_fit,
      c.loop-left.invariant.0.links_rest.same_length,
      inside (goal.at.bounds-self-slot-then-drops c).In-Some,
    )

-- The step from a turn of the loop to the state after it, where the slot is dropped and where it stays.
pub loop-left-smaller-then-drops : goal.loop-left-smaller-then-drops
loop-left-smaller-then-drops c =
    let was = c.loop-left.invariant in
    let here = c.requires.location_lt_piece_size in
    let fits = c.requires.fits in
    let then = c.relink.ensures in
    let falls = rw (was.2.1, was.2.2) at (sym c.drops.ensures ∙ c.if-drops.true) in
    let dropped = prune_drops here was.0 fits.heads_fit fits.links_fit (leads_to c.slot.ensures c.in-Some.is) falls refl then.heads then.links in
    rw then.slots (prune_falls here was.0 dropped)

pub loop-left-preserved-then-drops : goal.loop-left-preserved-then-drops
loop-left-preserved-then-drops c =
    let was = c.loop-left.invariant in
    let here = c.requires.location_lt_piece_size in
    let fits = c.requires.fits in
    let then = c.relink.ensures in
    let falls = rw (was.2.1, was.2.2) at (sym c.drops.ensures ∙ c.if-drops.true) in
    let dropped = prune_drops here was.0 fits.heads_fit fits.links_fit (leads_to c.slot.ensures c.in-Some.is) falls refl then.heads then.links in (
      rw then.slots dropped.0,
      ap (λ (s : Slots). s.used) then.slots ∙ was.1,
      (then.entries.0 ∙ was.2.0, then.entries.1 ∙ was.2.1, then.entries.2 ∙ was.2.2),
      search rules,
    )

pub loop-left-smaller : goal.loop-left-smaller
loop-left-smaller c =
    let was = c.loop-left.invariant in
    let here = c.requires.location_lt_piece_size in
    let stands = rw (was.2.1, was.2.2) at (sym c.drops.ensures ∙ c.if-drops.false) in
    prune_falls here was.0 (prune_stays here was.0 (leads_to c.slot.ensures c.in-Some.is) stands refl)

pub loop-left-preserved : goal.loop-left-preserved
loop-left-preserved c =
    let was = c.loop-left.invariant in
    let stands = rw (was.2.1, was.2.2) at (sym c.drops.ensures ∙ c.if-drops.false) in
    let stayed = prune_stays c.requires.location_lt_piece_size was.0 (leads_to c.slot.ensures c.in-Some.is) stands refl in
    (stayed.0, was.1, was.2, search rules)

-- None is left to drop, also where the link leads nowhere.
pub returns-in_default-clause-pruned : goal.returns-in_default-clause-pruned
returns-in_default-clause-pruned c =
    let was = c.loop-left.invariant in
    let here = c.requires.location_lt_piece_size in
    rw was.1 (prune_ends here was.0 (prune_over here was.0 (leads_nowhere c.slot.ensures c.in_default.not-Some)))

pub returns-clause-pruned : goal.returns-clause-pruned
returns-clause-pruned c =
    let was = c.loop-left.invariant in
    rw was.1 (prune_ends c.requires.location_lt_piece_size was.0 c.loop-left-test.false)
