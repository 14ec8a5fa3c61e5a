-- What an access gives and leaves, on each way out: the counts seen tell whether the entry would find no slot, and the unlinking and appending make the
-- layout that the rules ask for. Assumes nothing.
use Prim.Native.Nat.{ℕ, zero, suc, ◌+◌, ◌-◌, ◌≤◌, ◌<◌}
use mathlib.Core.Path.{◌≡◌, refl, sym, ap, ap₂, ◌∙◌}
use mathlib.Core.Bool.{Bool, true, false, cond, not, ◌&&◌}
use mathlib.Core.List.{List, [], ◌∷◌, ◌++◌, map, append-nil}
use native.Mathlib.Omega.{arith}
use lib.Dec.{eqb, ltb, eqb-suc-zero}
use lib.ListN.{length, set, drop, length-map, length-append, length-set}
use lib.Seq.{drop-drop}
use borrow.Author.Tests.{eqb-true, eqb-false, ltb-false, eq-eqb, ne_eqb, lt-ltb, le-ltb}
use Rattle.bags.specs.Bags.{Bags}
use Rattle.kept.specs.declared.Entry.{Entry}
use Rattle.kept.specs.declared.Slots.{Slots}
use Rattle.kept.specs.declared.Seen.{Seen}
use Rattle.kept.specs.declared.NotKept.TheVariants.{InNoBag, Full}
use Rattle.std.specs.Prelude.{Option, Ok, Err}
use Rattle.kept.specs.Lists.{any, those}
use Rattle.kept.specs.Rules.{dropped, left, added, after, changed_at, in_all}
use Rattle.kept.specs.Pieces.{Pieces, pieces, piece_size, slots_of, slots_freed, entry_at, lists_in, Chain, LaidOut, Room}
use Rattle.kept.specs.Access.{parallel_by, in_no_bag, accessed, place_at, freeing, next_slot, freed_then, used_then, link_to}
use Rattle.kept.specs.Access.{drops, is_omitted, slots_left, pool, slots_after, Accepted}
use Rattle.kept.specs.Parts.{is_full, named_at, heads_linked, links_linked, drops_by, how_many, last_of, Pruned, slot_for, slots_then}
use Rattle.kept.proofs.Lists.{either_way}
use Rattle.kept.proofs.Sums.{sum_agree, sum_changed}
use Rattle.kept.proofs.Chains.{chain_link, linked_heads_length, linked_length}
use Rattle.kept.proofs.Laid.{place_here, place_twice, laid_last, laid_first, laid_next, laid_then}
use Rattle.kept.proofs.Laid.{laid_appended, appended_links_rest, linked_heads_rest}
use Rattle.kept.proofs.Telling.{Told}

-- ---- counting

module _ {A : Type 0} where
  -- Those that a test says yes to, and the others, are all.
  those_and_others : (test : A → Bool) (list : List A) → length (those (λ (a : A). not (test a)) list) + length (those test list) ≡ length list
  unfolding those
  those_and_others test [] = refl
  those_and_others test (a ∷ list) =
      let fewer = those_and_others test list in
      either_way (test a) (λ q. rw q (omega arith)) (λ q. rw q (omega arith))

-- Those of the entries in slots are the entries in those of the slots.
pub those_of_map : {A B : Type 0} (f : A → B) (test : B → Bool) (list : List A) → those test (map f list) ≡ map f (those (λ (a : A). test (f a)) list)
unfolding those
those_of_map f test [] = refl
those_of_map {A} {B} f test (a ∷ list) =
    let rest = those_of_map f test list in
    either_way (test (f a)) (λ q. rw q (ap (λ (t : List B). f a ∷ t) rest)) (λ q. rw q rest)

-- Every slot dropped is one freed more.
freed_more : (test : ℕ → Bool) (ss freed : List ℕ) → length (freeing test ss freed) ≡ how_many test ss + length freed
unfolding freeing those
freed_more test [] freed = omega arith
freed_more test (s ∷ ss) freed =
    either_way (test s) (λ q. rw q (omega (arith, freed_more test ss (s ∷ freed)))) (λ q. rw q (freed_more test ss freed))

-- Full, by numbers: t entries would be kept, k slots are freed, d dropped, u used, and the entry is left out or not.
full_by_numbers : (omitted : Bool) (d f k u t : ℕ) → u ≤ piece_size → t + k + d ≡ u + cond omitted 0 1 → eqb f 0 ≡ eqb k 0
    → (not omitted && eqb d 0 && eqb f 0 && eqb u piece_size) ≡ ltb piece_size t
full_by_numbers true d f k u t fit sum same = sym (le-ltb piece_size t (omega arith))
full_by_numbers false zero f zero u t fit sum same =
    rw same (either_way (eqb u piece_size) (λ q. rw q (sym (lt-ltb piece_size t (omega (arith, eqb-true u piece_size q)))))
    (λ q. rw q (sym (le-ltb piece_size t (omega (arith, eqb-false u piece_size q))))))
full_by_numbers false zero f (suc k) u t fit sum same = rw (same, eqb-suc-zero k) (sym (le-ltb piece_size t (omega arith)))
full_by_numbers false (suc d) f k u t fit sum same = rw (eqb-suc-zero d) (sym (le-ltb piece_size t (omega arith)))

-- What is the same from one place on is the same from a later one on; so what is the same past the used slots is the same past one more.
pub past_more : (n m : ℕ) (l l' : List ℕ) → n ≤ m → drop n l ≡ drop n l' → drop m l ≡ drop m l'
past_more n m l l' h same =
    let whole : n + (m - n) ≡ m = omega arith in
    rw whole at (sym (drop-drop (m - n) n l) ∙ ap (drop (m - n)) same ∙ drop-drop (m - n) n l')

past_used : (freed : List ℕ) (used : ℕ) (links links' : List ℕ) → drop used links ≡ drop used links'
    → drop (used_then freed used) links ≡ drop (used_then freed used) links'
past_used [] used links links' same = past_more used (suc used) links links' (omega arith) same
past_used (s ∷ ss) used links links' same = same

-- The link is 0 exactly where there is nothing to lead to.
link_to_none : (ss : List ℕ) → eqb (link_to ss) 0 ≡ eqb (length ss) 0
link_to_none [] = refl
link_to_none (s ∷ ss) = eqb-suc-zero s ∙ sym (eqb-suc-zero (length ss))

-- An entry that is left out needs no slot.
pub omitted_not_full : (seen : Seen) (slots : Slots) → seen.omitted ≡ true → is_full seen slots ≡ false
omitted_not_full seen slots out = rw out refl

-- An entry whose procedure is in no bag.
pub answer_no_bag : (bs : List Bags) (x : ℕ) (e : Entry) (p : Pieces) → any (in_no_bag bs) (lists_in p x) ≡ true
    → Err InNoBag ≡ accessed bs x e (lists_in p)
unfolding accessed
answer_no_bag bs x e p stray = rw stray

module _ {bs : List Bags} {x : ℕ} {e : Entry} {p : Pieces} {slots : Slots} (room : Room p slots) (here : x < piece_size) {seen : Seen}
    (told : Told bs x e p slots seen) where
  -- ---- the answer

  -- How long the location's list is after the rules.
  after_length : length (after (parallel_by bs) e (lists_in p x)) + seen.dropped ≡ length (lists_in p x) + cond seen.omitted 0 1
  unfolding after left added lists_in
  after_length =
      let list = lists_in p x in
      let parted = those_and_others (dropped (parallel_by bs) e) list in
      let gone : length (those (dropped (parallel_by bs) e) list) ≡ seen.dropped =
      ap length (those_of_map (entry_at p) (dropped (parallel_by bs) e) (slots_of p.heads p.links x))
      ∙ length-map (those (drops bs e p) (slots_of p.heads p.links x)) (entry_at p) ∙ sym told.dropped_told in
      let new : length (added (parallel_by bs) e list) ≡ cond seen.omitted 0 1 =
      either_way seen.omitted (λ q. rw (q, sym told.omitted_told ∙ q)) (λ q. rw (q, sym told.omitted_told ∙ q)) in
      omega (arith, parted, gone, new, length-append (left (parallel_by bs) e list) (added (parallel_by bs) e list))

  -- How many would be kept in all.
  all_after : in_all piece_size (changed_at x (after (parallel_by bs) e) (lists_in p)) + length (slots_freed p.links slots) + seen.dropped
      ≡ slots.used + cond seen.omitted 0 1
  unfolding in_all changed_at lists_in
  all_after =
      let before : ℕ → ℕ = λ y. length (lists_in p y) in
      let then : ℕ → ℕ = λ y. length (changed_at x (after (parallel_by bs) e) (lists_in p) y) in
      let changed = sum_changed piece_size before then x here (λ y different. rw (ne_eqb y x different)) in
      let slots_at : ℕ → List ℕ = slots_of p.heads p.links in
      let held = sum_agree piece_size (λ y. length (slots_at y)) before (λ y h. length-map (slots_at y) (entry_at p)) in
      let same : then x ≡ length (after (parallel_by bs) e (lists_in p x)) = rw (eq-eqb x x refl) in
      omega (arith, changed, held, same, after_length, room.laid_out.total)

  pub full_told : is_full seen slots ≡ ltb piece_size (in_all piece_size (changed_at x (after (parallel_by bs) e) (lists_in p)))
  full_told =
      full_by_numbers seen.omitted seen.dropped slots.freed (length (slots_freed p.links slots)) slots.used
      (in_all piece_size (changed_at x (after (parallel_by bs) e) (lists_in p))) room.laid_out.used_fit all_after
      (ap (λ (n : ℕ). eqb n 0) (chain_link p.links slots.freed (slots_freed p.links slots) room.laid_out.freed_chain)
      ∙ link_to_none (slots_freed p.links slots))

  -- No slot for the entry.
  pub answer_full : any (in_no_bag bs) (lists_in p x) ≡ false → is_full seen slots ≡ true → Err Full ≡ accessed bs x e (lists_in p)
  unfolding accessed
  answer_full bagged full = rw (bagged, sym full_told ∙ full)

  -- Neither.
  pub answer_done : {race : Option Entry} → any (in_no_bag bs) (lists_in p x) ≡ false → is_full seen slots ≡ false
      → race ≡ named_at p.events p.procedures p.sets seen.race.0 → Ok (record { visits = seen.visits; race = race }) ≡ accessed bs x e (lists_in p)
  unfolding accessed
  answer_done {race} bagged full named =
      rw (bagged, sym full_told ∙ full)
      (ap₂ (λ (v : ℕ) (r : Option Entry). Ok (record { visits = v; race = r })) told.visits_told (named ∙ told.race_told))

  -- ---- what is left

  module _ {heads₁ links₁ : List ℕ} {slots₁ : Slots}
      (pruned : Pruned (drops_by bs e p.procedures p.sets) x p.heads p.links slots heads₁ links₁ slots₁) where
    abbrev lists₁ : ℕ → List ℕ
    lists₁ = place_at x (slots_left bs x e p) (slots_of p.heads p.links)

    abbrev freed₁ : List ℕ
    freed₁ = pool bs x e p slots

    -- The layout once the dropped are out.
    laid₁ : LaidOut heads₁ links₁ slots₁ lists₁ freed₁
    unfolding dropped
    laid₁ = pruned.laid_out

    slots_told : slots₁ ≡ record { freed = link_to freed₁; used = slots.used }
    slots_told = ap₂ (λ (f u : ℕ). record { freed = f; used = u }) (chain_link links₁ slots₁.freed freed₁ laid₁.freed_chain) pruned.same_used

    -- The entry is left out.
    pub left_out : seen.omitted ≡ true
        → (slots₁ ≡ slots_after bs x e p slots) × Accepted bs x e p slots (pieces heads₁ links₁ p.events p.procedures p.sets)
    left_out omitted =
        let out : is_omitted bs x e p ≡ true = sym told.omitted_told ∙ omitted in (
          rw out slots_told,
          record {
            laid_out = rw (out, sym slots_told) laid₁;
            heads_rest = pruned.heads_rest;
            links_rest = rw out pruned.links_rest;
            events = rw out;
            procedures = rw out;
            sets = rw out;
          },
        )

    -- The entry finds a slot, unless the room is full.
    next_fits : seen.omitted ≡ false → is_full seen slots ≡ false → next_slot freed₁ slots₁.used < piece_size
    unfolding Chain
    next_fits not-omitted room_left = go freed₁ refl laid₁.freed_chain
      where
        go : (ss : List ℕ) → freed₁ ≡ ss → Chain links₁ slots₁.freed ss → next_slot ss slots₁.used < piece_size
        go (s ∷ ss) same chain = chain.1
        go [] same chain =
            let none_freed : length freed₁ ≡ 0 = ap length same in
            let counted = freed_more (drops bs e p) (slots_of p.heads p.links x) (slots_freed p.links slots) in
            let fits = ltb-false piece_size (in_all piece_size (changed_at x (after (parallel_by bs) e) (lists_in p))) (sym full_told ∙ room_left) in
            let fit : slots₁.used < piece_size =
            omega (arith, none_freed, counted, fits, told.dropped_told, rw not-omitted at all_after, pruned.same_used) in
            fit

    pub append_fits : seen.omitted ≡ false → is_full seen slots ≡ false
        → (seen.last.0 ≤ piece_size) × (slots₁.freed ≤ piece_size) × (slots₁.used ≤ piece_size) × (slot_for slots₁ < piece_size)
    append_fits not-omitted room_left =
        let left_is = slots_left bs x e p in
        let whole = place_here x left_is (slots_of p.heads p.links) ∙ sym (append-nil left_is) in
        let last_Fit = laid_last heads₁ links₁ slots₁ lists₁ freed₁ laid₁ x left_is [] here whole in
        let freed-fit = laid_first heads₁ links₁ slots₁ lists₁ freed₁ laid₁ in (
          omega (arith, last_Fit, told.last_told, laid₁.used_fit),
          omega (arith, freed-fit, laid₁.used_fit),
          laid₁.used_fit,
          rw (laid_next heads₁ links₁ slots₁ lists₁ freed₁ laid₁) (next_fits not-omitted room_left),
        )

    -- The entry is added.
    pub entry_added : seen.omitted ≡ false → is_full seen slots ≡ false
        → {r : Slots} {heads' links' events' procedures' sets' : List ℕ} → r ≡ slots_then links₁ slots₁
        → heads' ≡ heads_linked seen.last.0 x (slot_for slots₁ + 1) heads₁
        → links' ≡ links_linked seen.last.0 (slot_for slots₁ + 1) (set links₁ (slot_for slots₁) 0)
        → events' ≡ set p.events (slot_for slots₁) e.event.0 → procedures' ≡ set p.procedures (slot_for slots₁) e.procedure.0
        → sets' ≡ set p.sets (slot_for slots₁) e.locks
        → (r ≡ slots_after bs x e p slots) × Accepted bs x e p slots (pieces heads' links' events' procedures' sets')
    entry_added not-omitted room_left {r} {heads'} {links'} {events'} {procedures'} {sets'} r-is heads-is links-is events-is procedures-is sets-is =
        let heads_fit : piece_size ≤ length heads₁ = omega (arith, room.fits.heads_fit, pruned.heads_rest.same_length) in
        let links_fit : piece_size ≤ length links₁ = omega (arith, room.fits.links_fit, pruned.links_rest.same_length) in
        let out : is_omitted bs x e p ≡ false = sym told.omitted_told ∙ not-omitted in
        let next = next_slot freed₁ slots.used in
        let next-fit = next_fits not-omitted room_left in
        let next-is : slot_for slots₁ ≡ next = laid_next heads₁ links₁ slots₁ lists₁ freed₁ laid₁ ∙ ap (next_slot freed₁) pruned.same_used in
        let left_is = slots_left bs x e p in
        let place = place_here x left_is (slots_of p.heads p.links) in
        let twice = place_twice x left_is (left_is ++ next ∷ []) (slots_of p.heads p.links) in
        let to_is : slot_for slots₁ + 1 ≡ suc next = omega (arith, next-is) in
        let heads-now : heads' ≡ heads_linked (last_of left_is) x (suc next) heads₁ =
        heads-is ∙ ap₂ (λ (l t : ℕ). heads_linked l x t heads₁) told.last_told to_is in
        let links-now : links' ≡ links_linked (last_of left_is) (suc next) (set links₁ next 0) =
        links-is ∙ ap₂ (λ (l t : ℕ). links_linked l t (set links₁ (slot_for slots₁) 0)) told.last_told to_is
        ∙ ap (λ (n : ℕ). links_linked (last_of left_is) (suc next) (set links₁ n 0)) next-is in
        let then_is = laid_then heads₁ links₁ slots₁ lists₁ freed₁ laid₁ in
        let laid = laid_appended heads₁ links₁ slots₁ lists₁ freed₁ laid₁ heads_fit links_fit x here next-fit in
        let rest = appended_links_rest heads₁ links₁ slots₁ lists₁ freed₁ laid₁ heads_fit links_fit x here next-fit in (
          rw out (r-is ∙ then_is ∙ ap (λ (u : ℕ). record { freed = link_to (freed_then freed₁); used = used_then freed₁ u }) pruned.same_used),
          record {
            laid_out = rw (out, heads-now, links-now) (rw (place, pruned.same_used, twice) at laid);
            heads_rest = record {
              same_length = ap length heads-now ∙ linked_heads_length (last_of left_is) x (suc next) heads₁ ∙ pruned.heads_rest.same_length;
              same_rest = rw heads-now (linked_heads_rest (last_of left_is) x (suc next) heads₁ here ∙ pruned.heads_rest.same_rest);
            };
            links_rest = record {
              same_length =
                  ap length links-now ∙ linked_length (last_of left_is) (suc next) (set links₁ next 0) ∙ length-set links₁ next 0
                  ∙ pruned.links_rest.same_length;
              same_rest =
                  rw (out, links-now)
                  ((rw (place, pruned.same_used) at rest) ∙ past_used freed₁ slots.used links₁ p.links pruned.links_rest.same_rest);
            };
            events = rw out (events-is ∙ ap (λ (n : ℕ). set p.events n e.event.0) next-is);
            procedures = rw out (procedures-is ∙ ap (λ (n : ℕ). set p.procedures n e.procedure.0) next-is);
            sets = rw out (sets-is ∙ ap (λ (n : ℕ). set p.sets n e.locks) next-is);
          },
        )
