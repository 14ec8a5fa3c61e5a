-- `meet_one` weighs the entry, and refuses or changes: each way out is a law of `One` or of `Accepting`. Assumes nothing.
use mathlib.Core.Bool.{false}
use mathlib.Core.Path.{◌≡◌, refl, sym, ◌∙◌}
use native.Mathlib.Omega.{arith}
use borrow.Author.Rules.{rules}
use Rattle.bags.specs.Lent.{bags_asked}
use Rattle.kept.specs.Lists.{any}
use Rattle.kept.specs.Lent.{pieces_of}
use Rattle.kept.specs.Pieces.{lists_in}
use Rattle.kept.specs.Access.{in_no_bag}
use Rattle.kept.proofs.Telling.{Told}
use Rattle.kept.proofs.Accepting.{answer_no_bag, answer_full, answer_done, omitted_not_full, left_out, append_fits, entry_added}
use Rattle.kept.proofs.One.{one_fits, one_stray, one_bagged, one_told, nothing_pruned, one_nobody, one_not_full, renewed}
use Rattle.kept.proofs.KeptLists.meet_one.Goals as goal
use Rattle.kept.proofs.KeptLists.meet_one.Goals.{After-and-seen}

pub bounds-self-slot : goal.bounds-self-slot
bounds-self-slot c = omega (arith, c.requires.room.fits.procedures_fit, one_fits c.requires.room c.requires.location_lt_piece_size c.requires.location_value)

pub returns-then-not-in_some_bag-clause-result : goal.returns-then-not-in_some_bag-clause-result
returns-then-not-in_some_bag-clause-result c =
    answer_no_bag _ _ _ _
    (one_stray _ _ (pieces_of c.args.self.now) c.requires.location_value (c.in_some_bag.ensures.bags _ _ c.requires.bags_room) (search rules))

pub bounds-self-slot-2 : goal.bounds-self-slot-2
bounds-self-slot-2 c = omega (arith, c.requires.room.fits.sets_fit, one_fits c.requires.room c.requires.location_lt_piece_size c.requires.location_value)

pub store-requires-clause-slot_lt_piece_size : goal.store-requires-clause-slot_lt_piece_size
store-requires-clause-slot_lt_piece_size c = one_fits c.requires.room c.requires.location_lt_piece_size c.requires.location_value

-- The entry's procedure is in some bag, and what is seen of the entry is what is seen of the list.
told : (c : After-and-seen)
    → (any (in_no_bag (bags_asked c.args.runs.now)) (lists_in (pieces_of c.args.self.now) c.args.location) ≡ false)
    × Told (bags_asked c.args.runs.now) c.args.location c.args.entry (pieces_of c.args.self.now) c.args.self.now.slots c.and-seen.result
told c = (
  one_bagged _ _ (pieces_of c.args.self.now) c.requires.location_value (c.in_some_bag.ensures.bags _ _ c.requires.bags_room) (search rules),
  one_told c.requires.room c.requires.location_lt_piece_size c.requires.location_value (omega (arith, c.requires.first_value)) c.weigh-weighed.result
      c.nothing-none.ensures c.weigh-weighed.ensures c.and-seen.ensures,
)

pub returns-then-seen-ne0 : goal.returns-then-seen-ne0
returns-then-seen-ne0 c =
    let seen = told (goal.at.returns-then-seen-ne0 c).After-and-seen in
    let room = c.requires.room in
    let here = c.requires.location_lt_piece_size in
    let one = c.requires.location_value in
    let gone = c.if-seen-ne0.true in
    let left = c.store.ensures in
    let after = renewed room here one seen.1 gone left.events left.procedures left.sets in
    record {
      result = answer_done room here seen.1 seen.0 (one_not_full room here one seen.1 gone) (one_nobody room here one seen.1 gone);
      pieces = (left.slots ∙ after.0, rw (left.heads, left.links) after.1);
      lent = left.lent;
    }

pub named_at-race-requires : goal.named_at-race-requires
named_at-race-requires c =
    let small = (told (goal.at.named_at-race-requires c).After-and-seen).1.race_fit in
    let fits = c.requires.room.fits in
    record {
      at_in_bounds = omega (arith, small, fits.events_fit);
      at_in_bounds_2 = omega (arith, small, fits.procedures_fit);
      at_in_bounds_3 = omega (arith, small, fits.sets_fit);
    }

pub returns-then-seen : goal.returns-then-seen
returns-then-seen c =
    let seen = told (goal.at.returns-then-seen c).After-and-seen in
    let room = c.requires.room in
    let here = c.requires.location_lt_piece_size in
    record {
      result = answer_done room here seen.1 seen.0 (omitted_not_full c.and-seen.result _ c.if-seen.true) c.named_at-race.ensures;
      pieces = left_out room here seen.1 (nothing_pruned room here c.requires.location_value seen.1 c.if-seen-ne0.false) c.if-seen.true;
      lent = (refl, refl, refl, refl, refl);
    }

pub returns-then-is_full-clause-result : goal.returns-then-is_full-clause-result
returns-then-is_full-clause-result c =
    let seen = told (goal.at.returns-then-is_full-clause-result c).After-and-seen in
    answer_full c.requires.room c.requires.location_lt_piece_size seen.1 seen.0 (sym c.is_full.ensures ∙ c.if-is_full.true)

pub append-requires : goal.append-requires
append-requires c =
    let seen = told (goal.at.append-requires c).After-and-seen in
    let room = c.requires.room in
    let here = c.requires.location_lt_piece_size in
    let unchanged = nothing_pruned room here c.requires.location_value seen.1 c.if-seen-ne0.false in
    let small = append_fits room here seen.1 unchanged c.if-seen.false (sym c.is_full.ensures ∙ c.if-is_full.false) in
    record {
      location_in_bounds = omega (arith, here, room.fits.heads_fit);
      last_le_piece_size = small.0;
      freed_le_piece_size = small.1;
      used_le_piece_size = small.2;
      slots_bound = small.3;
      fits = room.fits;
    }

pub returns : goal.returns
returns c =
    let seen = told (goal.at.returns c).After-and-seen in
    let room = c.requires.room in
    let here = c.requires.location_lt_piece_size in
    let unchanged = nothing_pruned room here c.requires.location_value seen.1 c.if-seen-ne0.false in
    let not_full = sym c.is_full.ensures ∙ c.if-is_full.false in
    let left = c.append.ensures in
    record {
      result = answer_done room here seen.1 seen.0 not_full c.named_at-race.ensures;
      pieces = entry_added room here seen.1 unchanged c.if-seen.false not_full left.slots left.heads left.links left.events left.procedures left.sets;
      lent = left.lent;
    }
