-- A list of one entry: what is seen of it, and, where the entry is dropped, the new one in its slot. Assumes nothing.
use Prim.Native.Nat.{ℕ, suc, ◌<◌}
use mathlib.Core.Path.{◌≡◌, refl, sym, ap, ◌∙◌}
use mathlib.Core.Bool.{Bool, true, false, not, and-false, true≢false}
use mathlib.Core.List.{List, [], ◌∷◌}
use native.Mathlib.Omega.{arith}
use lib.ListN.{get_or, set}
use borrow.Author.Tests.{not-true, not-false, ne_eqb}
use Rattle.bags.specs.Bags.{Bags, in_some_bag}
use Rattle.kept.specs.declared.Entry.{Entry}
use Rattle.kept.specs.declared.Slots.{Slots}
use Rattle.kept.specs.declared.Seen.{Seen}
use Rattle.kept.specs.declared.Weighed.{Weighed}
use Rattle.std.specs.Prelude.{None}
use Rattle.kept.specs.Lists.{any, first, those}
use Rattle.kept.specs.Rules.{races, named, dropped, omits}
use Rattle.kept.specs.Pieces.{Pieces, pieces, piece_size, slots_of, slots_freed, entry_at, lists_in, Chain, Room}
use Rattle.kept.specs.Access.{parallel_by, in_no_bag, freeing, drops, is_omitted, slots_after, link_to, Accepted}
use Rattle.kept.specs.Parts.{entry_of, nothing_seen, into, weighed_entry, seen_over, is_full, named_at, drops_by, Pruned}
use Rattle.kept.proofs.Lists.{either_way}
use Rattle.kept.proofs.Chains.{chain_link}
use Rattle.kept.proofs.Laid.{place_same}
use Rattle.kept.proofs.Pruning.{none_pruned}
use Rattle.kept.proofs.Telling.{Told, seen_tells, dropped_counted, room_walkable}

-- A head that leads to a slot whose link is 0 is the head of such a list.
module _ {p : Pieces} {slots : Slots} {x slot : ℕ} (room : Room p slots) (here : x < piece_size) (leads : get_or p.heads x 0 ≡ suc slot) where
  pub head_fits : slot < piece_size
  unfolding Chain
  head_fits = go (slots_of p.heads p.links x) (room.laid_out.chains x here)
    where
      go : (ss : List ℕ) → Chain p.links (get_or p.heads x 0) ss → slot < piece_size
      go [] chain = absurd (omega (arith, leads, chain))
      go (s ∷ ss) chain = omega (arith, leads, chain.0, chain.1)

  pub one_slot : get_or p.links slot 0 ≡ 0 → slots_of p.heads p.links x ≡ slot ∷ []
  unfolding Chain
  one_slot ends = go (slots_of p.heads p.links x) (room.laid_out.chains x here)
    where
      go : (ss : List ℕ) → Chain p.links (get_or p.heads x 0) ss → ss ≡ slot ∷ []
      go [] chain = absurd (omega (arith, leads, chain))
      go (s ∷ []) chain =
          let same : slot ≡ s = omega (arith, leads, chain.0) in
          rw same refl
      go (s ∷ t ∷ ss) chain =
          let same : slot ≡ s = omega (arith, leads, chain.0) in
          absurd (omega (arith, rw same at ends, chain.2.0))

module _ {p : Pieces} {slots : Slots} {x s : ℕ} (room : Room p slots) (here : x < piece_size) (one : slots_of p.heads p.links x ≡ s ∷ []) where
  -- Its slot lies within the pieces.
  pub one_fits : s < piece_size
  unfolding Chain
  one_fits = (rw one at (room.laid_out.chains x here)).1

-- Its procedure tells whether some entry's is in no bag.
module _ (bs : List Bags) (x : ℕ) (p : Pieces) {s : ℕ} (one : slots_of p.heads p.links x ≡ s ∷ []) {b : Bool}
    (is : b ≡ in_some_bag (get_or p.procedures s 0) bs) where
  pub one_stray : not b ≡ true → any (in_no_bag bs) (lists_in p x) ≡ true
  unfolding lists_in any
  one_stray stray = rw (one, sym is ∙ not-true b stray) refl

  pub one_bagged : not b ≡ false → any (in_no_bag bs) (lists_in p x) ≡ false
  unfolding lists_in any
  one_bagged bagged = rw (one, sym is ∙ not-false b bagged) refl

module _ {bs : List Bags} {x : ℕ} {e : Entry} {p : Pieces} {slots : Slots} (room : Room p slots) (here : x < piece_size) {s : ℕ}
    (one : slots_of p.heads p.links x ≡ s ∷ []) where
  -- What is seen of it is what is seen of the list.
  pub one_told : {at : ℕ} → at ≡ suc s → (v : Weighed) {none seen : Seen} → none ≡ nothing_seen
      → ((at : ℕ) (seen' : Seen) → into v at seen' ≡ weighed_entry bs e at (entry_of (get_or p.procedures s 0) (get_or p.sets s 0)) seen')
      → seen ≡ into v at none → Told bs x e p slots seen
  unfolding seen_over
  one_told {at} leads v {none} {seen} nothing told is =
      seen_tells bs x e p slots seen (room_walkable p slots x room here)
      (rw one (is ∙ told at none ∙ rw leads (ap (weighed_entry bs e (suc s) (entry_of (get_or p.procedures s 0) (get_or p.sets s 0))) nothing)))

  -- Where nothing is dropped, nothing is unlinked.
  pub nothing_pruned : {seen : Seen} → Told bs x e p slots seen → seen.dropped ≡ 0
      → Pruned (drops_by bs e p.procedures p.sets) x p.heads p.links slots p.heads p.links slots
  nothing_pruned {seen} told none =
      none_pruned room.laid_out
      (sym (dropped_counted bs x e p slots seen told) ∙ none)

  -- It is dropped: so it is not parallel, and neither races nor leaves the new one out.
  module _ {seen : Seen} (told : Told bs x e p slots seen) (some : seen.dropped ≡ 0 → ⊥) where
    falls : drops bs e p s ≡ true
    unfolding those
    falls = either_way (drops bs e p s) (λ q. q) (λ q. absurd (some (rw (one, q) at told.dropped_told)))

    in_series : parallel_by bs (entry_at p s) ≡ false
    unfolding dropped
    in_series = either_way (parallel_by bs (entry_at p s)) (λ q. absurd (true≢false (sym (rw q at falls)))) (λ q. q)

    not_left_out : is_omitted bs x e p ≡ false
    unfolding lists_in any omits
    not_left_out = rw (one, in_series) refl

    pub one_nobody : None ≡ named_at p.events p.procedures p.sets seen.race.0
    unfolding lists_in named first races
    one_nobody = sym (told.race_told ∙ rw (one, in_series) refl)

    pub one_not_full : is_full seen slots ≡ false
    one_not_full = rw (ne_eqb seen.dropped 0 some, and-false (not seen.omitted)) refl

    -- The new entry takes its slot, and everything else stays as it was.
    pub renewed : {events' procedures' sets' : List ℕ} → events' ≡ set p.events s e.event.0 → procedures' ≡ set p.procedures s e.procedure.0
        → sets' ≡ set p.sets s e.locks
        → (slots ≡ slots_after bs x e p slots) × Accepted bs x e p slots (pieces p.heads p.links events' procedures' sets')
    unfolding those freeing
    renewed events-is procedures-is sets-is =
        let same-freed : slots.freed ≡ link_to (slots_freed p.links slots) =
        chain_link p.links slots.freed (slots_freed p.links slots) room.laid_out.freed_chain in
        let same-slots : slots ≡ slots_after bs x e p slots = rw (not_left_out, one, falls) (λ i. record { freed = same-freed i; used = slots.used }) in (
          same-slots,
          record {
            laid_out =
                rw (sym same-slots) (rw (not_left_out, one, falls) (rw (sym one, place_same x (slots_of p.heads p.links)) room.laid_out));
            heads_rest = record { same_length = refl; same_rest = refl };
            links_rest = record { same_length = refl; same_rest = refl };
            events = rw (not_left_out, one, falls) events-is;
            procedures = rw (not_left_out, one, falls) procedures-is;
            sets = rw (not_left_out, one, falls) sets-is;
          },
        )
