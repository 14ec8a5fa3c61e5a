-- `access` meets the one entry there is, or looks at several, and then refuses or changes: each way out is a law of `Accepting`. Assumes nothing.
use mathlib.Core.Bool.{false}
use mathlib.Core.Path.{refl, sym, ap, ◌∙◌}
use mathlib.Core.Path.{◌≡◌}
use native.Mathlib.Omega.{arith}
use borrow.Author.Rules.{rules}
use Rattle.std.specs.Prelude.{Err}
use Rattle.bags.specs.Lent.{bags_asked}
use Rattle.kept.specs.Pieces.{slots_of, lists_in}
use Rattle.kept.specs.Lent.{pieces_of}
use Rattle.kept.specs.Access.{code_of, in_no_bag, accessed}
use Rattle.kept.specs.Lists.{any}
use Rattle.kept.specs.Parts.{nothing_seen, seen_over}
use Rattle.kept.proofs.Chains.{leads_to}
use Rattle.kept.proofs.Telling.{Told, looked_stray, looked_tells, room_walkable}
use Rattle.kept.proofs.Meaning.{code_told}
use Rattle.kept.proofs.Accepting.{answer_no_bag, answer_full, answer_done}
use Rattle.kept.proofs.One.{head_fits, one_slot}
use Rattle.kept.proofs.KeptLists.access.Goals as goal
use Rattle.kept.proofs.KeptLists.access.Goals.{In_ok-seen}

pub offset_bounds-self-slot : goal.offset_bounds-self-slot
offset_bounds-self-slot c =
    omega (arith, head_fits c.requires.room c.requires.location_lt_piece_size (leads_to c.slot.ensures c.in-Some.is))

pub bounds-self-slot : goal.bounds-self-slot
bounds-self-slot c =
    omega (arith, c.requires.room.fits.links_fit, head_fits c.requires.room c.requires.location_lt_piece_size (leads_to c.slot.ensures c.in-Some.is))

pub meet_one-requires-clause-location_value : goal.meet_one-requires-clause-location_value
meet_one-requires-clause-location_value c =
    one_slot c.requires.room c.requires.location_lt_piece_size (leads_to c.slot.ensures c.in-Some.is) c.if-self-slot-eq0.true

pub returns-then-self-slot-eq0-clause-code : goal.returns-then-self-slot-eq0-clause-code
returns-then-self-slot-eq0-clause-code c = ap code_of c.meet_one.ensures.result ∙ code_told _ _ _ _

pub look-requires-clause-walkable : goal.look-requires-clause-walkable
look-requires-clause-walkable c = room_walkable (pieces_of c.args.self.now) _ _ c.requires.room c.requires.location_lt_piece_size

-- Looking gives no refusal but that an entry's procedure is in no bag.
stray : (c : goal.After-from_residual)
    → c.from_residual.result ≡ accessed (bags_asked c.args.runs.now) c.args.location c.args.entry (lists_in (pieces_of c.args.self.now))
stray c =
    let gives : c.from_residual.result ≡ Err c.in_err-seen.field-0.0 = search rules in
    let found = looked_stray _ _ _ (pieces_of c.args.self.now) c.args.self.now.slots _ (sym c.in_err-seen.was ∙ c.look.ensures) in
    gives ∙ ap Err found.1 ∙ answer_no_bag _ _ _ _ found.0

pub returns-in_err-seen-clause-result : goal.returns-in_err-seen-clause-result
returns-in_err-seen-clause-result c = stray c

pub returns-in_err-seen-clause-code : goal.returns-in_err-seen-clause-code
returns-in_err-seen-clause-code c = ap code_of (stray c) ∙ code_told _ _ _ _

-- Else everything is seen.
looked : (c : In_ok-seen)
    → (any (in_no_bag (bags_asked c.args.runs.now)) (lists_in (pieces_of c.args.self.now) c.args.location) ≡ false)
    × (c.in_ok-seen.seen ≡ seen_over (bags_asked c.args.runs.now) c.args.entry c.args.self.now.procedures.now c.args.self.now.sets.now
    (slots_of c.args.self.now.heads.now c.args.self.now.links.now c.args.location) nothing_seen)
    × Told (bags_asked c.args.runs.now) c.args.location c.args.entry (pieces_of c.args.self.now) c.args.self.now.slots c.in_ok-seen.seen
looked c =
    looked_tells _ _ _ (pieces_of c.args.self.now) _ _ c.requires.room c.requires.location_lt_piece_size (sym c.in_ok-seen.was ∙ c.look.ensures)

pub returns-then-is_full : goal.returns-then-is_full
returns-then-is_full c =
    let told = looked (goal.at.returns-then-is_full c).In_ok-seen in
    let answer = answer_full c.requires.room c.requires.location_lt_piece_size told.2 told.0 (sym c.is_full.ensures ∙ c.if-is_full.true) in
    record { result = answer; code = ap code_of answer ∙ code_told _ _ _ _; pieces = (refl, refl); lent = (refl, refl, refl, refl, refl) }

pub named_at-race-requires : goal.named_at-race-requires
named_at-race-requires c =
    let small = (looked (goal.at.named_at-race-requires c).In_ok-seen).2.race_fit in
    record {
      at_in_bounds = omega (arith, small, c.requires.room.fits.events_fit);
      at_in_bounds_2 = omega (arith, small, c.requires.room.fits.procedures_fit);
      at_in_bounds_3 = omega (arith, small, c.requires.room.fits.sets_fit);
    }

pub change-requires-clause-seen_value : goal.change-requires-clause-seen_value
change-requires-clause-seen_value c = (looked (goal.at.change-requires-clause-seen_value c).In_ok-seen).1

pub returns : goal.returns
returns c =
    let told = looked (goal.at.returns c).In_ok-seen in
    let left = c.change.ensures in
    let answer = answer_done c.requires.room c.requires.location_lt_piece_size told.2 told.0 (sym c.is_full.ensures ∙ c.if-is_full.false)
    c.named_at-race.ensures in
    record { result = answer; code = ap code_of answer ∙ code_told _ _ _ _; pieces = (left.slots, left.pieces); lent = left.lent }
