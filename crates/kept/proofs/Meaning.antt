-- What the layout means: the lists that the pieces hold. Cleared heads are a layout of empty lists. An access gives the same answer by any lists that
-- agree with those held. After it the entries in the slots are as they were, but for the slot of the entry added, and that slot stands in the layout
-- once, at the end of its own list; so the other lists are as they were, and that one is what the rules make of it. Assumes nothing.
use Prim.Native.Nat.{ℕ, zero, suc, ◌≤◌, ◌<◌}
use mathlib.Core.Path.{◌≡◌, refl, sym, ap, ap₂, ◌∙◌, subst}
use mathlib.Core.Logic.{◌≢◌}
use mathlib.Core.Bool.{Bool, true, false, cond, not}
use mathlib.Core.List.{List, [], ◌∷◌, ◌++◌, map, map-append, append-nil}
use native.Mathlib.Decide.{ℕ_discrete}
use native.Mathlib.Omega.{arith}
use lib.Dec.{eqb, ltb}
use lib.ListN.{length, get_or, drop, replicate, length-append, length-drop, length-replicate, length-set, get_or-replicate, get_or-append}
use lib.Seq.{get_or-set_same, get_or-set_other, drop-set-lt}
use borrow.Author.Tests.{eq-eqb, ne_eqb, le-ltb}
use Rattle.bags.specs.Bags.{Bags}
use Rattle.kept.specs.declared.Entry.{Entry}
use Rattle.kept.specs.declared.Slots.{Slots}
use Rattle.kept.specs.declared.Visited.{Visited}
use Rattle.kept.specs.declared.NotKept.{NotKept}
use Rattle.kept.specs.declared.NotKept.TheVariants.{InNoBag, Full}
use Rattle.std.specs.Prelude.{Result, Ok, Err}
use Rattle.kept.specs.Lists.{any, sum_below}
use Rattle.kept.specs.Rules.{named, dropped, left, added, after, Lists, changed_at, in_all}
use Rattle.kept.specs.Pieces.{Pieces, pieces, piece_size, slots_of, entry_at, lists_in, Chain, times_in, LaidOut, Fits, Room, RestKept, none_used, cleared}
use Rattle.kept.specs.Access.{parallel_by, in_no_bag, code_of, access_code, accessed, place_at, next_slot}
use Rattle.kept.specs.Access.{is_omitted, slots_left, pool, slots_here, freed_after, slots_after, stored, Accepted, AfterAccess}
use Rattle.kept.specs.Holds.{Holds, RestsKept}
use Rattle.kept.proofs.Lists.{either_way}
use Rattle.kept.proofs.Sums.{sum_agree}
use Rattle.kept.proofs.Chains.{times_append, times_self}
use Rattle.kept.proofs.Laid.{place_here, place_elsewhere, stands_once, stands_in_one, laid_used, laid_slots, laid_computed}
use Rattle.kept.proofs.Accepting.{those_of_map, past_more}

-- ---- empty lists

-- Once the heads are cleared they hold empty lists, whatever the other pieces hold.
abbrev HoldsEmpty : Type 0
HoldsEmpty =
    (p : Pieces) → Fits p → Holds (λ y. []) (pieces (cleared piece_size p.heads) p.links p.events p.procedures p.sets) none_used

-- Nothings add up to nothing.
sum_of_nothings : (n : ℕ) → sum_below n (λ y. 0) ≡ 0
unfolding sum_below
sum_of_nothings zero = refl
sum_of_nothings (suc n) = omega (arith, sum_of_nothings n)

-- A cleared piece begins with zeros,
cleared_zero : (n y : ℕ) (piece : List ℕ) → y < n → get_or (cleared n piece) y 0 ≡ 0
unfolding cleared
cleared_zero n y piece h =
    get_or-append (replicate n 0) (drop n piece) 0 y (omega (arith, length-replicate {A = ℕ} n 0)) ∙ get_or-replicate n y 0 0 h

-- and is as long as before.
cleared-length : (n : ℕ) (piece : List ℕ) → n ≤ length piece → length (cleared n piece) ≡ length piece
unfolding cleared
cleared-length n piece fit =
    let both = length-append (replicate n 0) (drop n piece) in
    omega (arith, both, length-replicate {A = ℕ} n 0, length-drop n piece)

-- Cleared heads are a layout of empty lists, with nothing used.
cleared_laid : (heads links : List ℕ) → LaidOut (cleared piece_size heads) links none_used (λ y. []) []
unfolding Chain times_in
cleared_laid heads links = record {
  used_fit = omega arith;
  chains = λ y h. cleared_zero piece_size y heads h;
  freed_chain = refl;
  once = λ s. rw (le-ltb s 0 (omega arith)) (omega (arith, sum_of_nothings piece_size));
  total = omega (arith, sum_of_nothings piece_size);
}

-- So the pieces hold empty lists once their heads are cleared.
pub holds_empty : HoldsEmpty
unfolding lists_in
holds_empty p fits =
    let laid = cleared_laid p.heads p.links in
    record {
      room = record {
        fits = record {
          heads_fit = omega (arith, cleared-length piece_size p.heads fits.heads_fit, fits.heads_fit);
          links_fit = fits.links_fit;
          events_fit = fits.events_fit;
          procedures_fit = fits.procedures_fit;
          sets_fit = fits.sets_fit;
        };
        laid_out = laid_computed (cleared piece_size p.heads) p.links none_used (λ y. []) [] laid;
      };
      held = λ y h. rw (laid_slots (cleared piece_size p.heads) p.links none_used (λ y. []) [] laid y h);
    }

-- ---- the answer

-- Its code is 12, 13 or 0, by 01's rules in that order; and where nothing is refused it gives the length of the list and the entry
-- named.
abbrev CodeTold : Type 0
CodeTold = (bs : List Bags) (x : ℕ) (e : Entry) (lists : Lists) → code_of (accessed bs x e lists) ≡ access_code bs x e lists

abbrev DoneTold : Type 0
DoneTold =
    (bs : List Bags) (x : ℕ) (e : Entry) (lists : Lists) (visited : Visited) → Ok visited ≡ accessed bs x e lists
    → (visited.visits ≡ length (lists x)) × (visited.race ≡ named (parallel_by bs) e (lists x))

-- The code of the answer, by the two tests.
pub code_told : CodeTold
unfolding accessed
code_told bs x e lists =
    let full = ltb piece_size (in_all piece_size (changed_at x (after (parallel_by bs) e) lists)) in
    either_way (any (in_no_bag bs) (lists x)) (λ q. rw q) (λ q. rw q (either_way full (λ r. rw r) (λ r. rw r)))

-- What is given where nothing is refused, and else something else.
abbrev given_or : Visited → Result Visited NotKept → Visited
given_or other (Ok visited) = visited
given_or other (Err why) = other

-- No refusal is the same as nothing refused, and where nothing is refused, the same is given only if each part is the same.
same_parts : (stray full : Bool) (visited visited' : Visited) → Ok visited ≡ cond stray (Err InNoBag) (cond full (Err Full) (Ok visited'))
    → visited ≡ visited'
same_parts true full visited visited' same = absurd (let code : 0 ≡ 12 = ap code_of same in omega arith)
same_parts false true visited visited' same = absurd (let code : 0 ≡ 13 = ap code_of same in omega arith)
same_parts false false visited visited' same = ap (given_or visited) same

-- What is given where nothing is refused.
pub done_told : DoneTold
unfolding accessed
done_told bs x e lists visited same =
    let parts =
    same_parts (any (in_no_bag bs) (lists x)) (ltb piece_size (in_all piece_size (changed_at x (after (parallel_by bs) e) lists))) visited
    (record { visits = length (lists x); race = named (parallel_by bs) e (lists x) }) same in
    (ap (λ (v : Visited). v.visits) parts, ap (λ (v : Visited). v.race) parts)

-- Where lists agree, so do the changed ones.
changed_agree : (x y : ℕ) (change : List Entry → List Entry) (lists lists' : Lists) → lists y ≡ lists' y
    → changed_at x change lists y ≡ changed_at x change lists' y
unfolding changed_at
changed_agree x y change lists lists' same = ap (λ (list : List Entry). cond (eqb y x) (change list) list) same

-- Lists that agree give the same answer.
accessed_agree : (bs : List Bags) (x : ℕ) (e : Entry) (lists lists' : Lists) → x < piece_size
    → ((y : ℕ) → y < piece_size → lists y ≡ lists' y) → accessed bs x e lists ≡ accessed bs x e lists'
unfolding accessed in_all
accessed_agree bs x e lists lists' here same =
    let rule = after (parallel_by bs) e in
    let in_all = sum_agree piece_size (λ y. length (changed_at x rule lists' y)) (λ y. length (changed_at x rule lists y))
    (λ y h. ap length (changed_agree x y rule lists lists' (same y h))) in
    rw (same x here, in_all)

-- ---- the lists after an access

-- Two functions that agree on the numbers in a list make the same of it.
map_agree : {A : Type 0} (f g : ℕ → A) (ss : List ℕ) → ((s : ℕ) → 0 < times_in s ss → f s ≡ g s) → map f ss ≡ map g ss
unfolding times_in
map_agree f g [] same = refl
map_agree {A} f g (t ∷ ss) same =
    ap₂ (λ (a : A) (rest : List A). a ∷ rest) (same t (let once = times_self t ss in omega (arith, once)))
    (map_agree f g ss (λ s stands. same s (omega arith)))

module _ (bs : List Bags) (x : ℕ) (e : Entry) (p : Pieces) (slots : Slots) (room : Room p slots) (here : x < piece_size) (p' : Pieces)
    (accepted : Accepted bs x e p slots p') where
  -- The slots of each list before and after the access, and the slot of the entry added.
  abbrev slots_before : ℕ → List ℕ
  slots_before = slots_of p.heads p.links

  abbrev slots_now : ℕ → List ℕ
  slots_now = place_at x (slots_here bs x e p slots) slots_before

  abbrev next : ℕ
  next = next_slot (pool bs x e p slots) slots.used

  -- A piece with a number stored is as long as before.
  stored_length : (number : ℕ) (piece : List ℕ) → length (stored bs x e p slots number piece) ≡ length piece
  stored_length number piece = either_way (is_omitted bs x e p) (λ out. rw out) (λ out. rw out (length-set piece next number))

  -- The pieces are as long as before, and hold lists.
  room_after : Room p' (slots_after bs x e p slots)
  room_after = record {
    fits = record {
      heads_fit = omega (arith, room.fits.heads_fit, accepted.heads_rest.same_length);
      links_fit = omega (arith, room.fits.links_fit, accepted.links_rest.same_length);
      events_fit = rw (accepted.events, stored_length e.event.0 p.events) room.fits.events_fit;
      procedures_fit = rw (accepted.procedures, stored_length e.procedure.0 p.procedures) room.fits.procedures_fit;
      sets_fit = rw (accepted.sets, stored_length e.locks p.sets) room.fits.sets_fit;
    };
    laid_out =
        laid_computed p'.heads p'.links (slots_after bs x e p slots) slots_now (freed_after bs x e p slots) accepted.laid_out;
  }

  -- The entries in the slots left are the entries left.
  left_entries : map (entry_at p) (slots_left bs x e p) ≡ left (parallel_by bs) e (lists_in p x)
  unfolding left lists_in
  left_entries = sym (those_of_map (entry_at p) (λ (k : Entry). not (dropped (parallel_by bs) e k)) (slots_before x))

  module _ (out : is_omitted bs x e p ≡ true) where
    -- Where the entry is left out, every entry is as it was,
    entries_same : (s : ℕ) → entry_at p' s ≡ entry_at p s
    entries_same s = rw (accepted.events, accepted.procedures, accepted.sets, out)

    -- and the location's list is what is left of it.
    out_here : map (entry_at p') (slots_here bs x e p slots) ≡ after (parallel_by bs) e (lists_in p x)
    unfolding after added
    out_here =
        rw out (map_agree (entry_at p') (entry_at p) (slots_left bs x e p) (λ s stands. entries_same s) ∙ left_entries
        ∙ sym (append-nil (left (parallel_by bs) e (lists_in p x))))

  module _ (out : is_omitted bs x e p ≡ false) where
    -- Where it is added, its slot stands once more in the location's list than in what is left of that,
    next_once_more : times_in next (slots_now x) ≡ suc (times_in next (slots_left bs x e p))
    unfolding times_in
    next_once_more =
        let both = times_append next (slots_left bs x e p) (next ∷ []) in
        let self = times_self next [] in
        rw (place_here x (slots_here bs x e p slots) slots_before, out) (omega (arith, both, self))

    -- so it was not in there,
    next_not_left : times_in next (slots_left bs x e p) ≡ 0
    next_not_left =
        let once =
        stands_once p'.heads p'.links (slots_after bs x e p slots) slots_now (freed_after bs x e p slots) accepted.laid_out x next here in
        omega (arith, once, next_once_more)

    -- nor is it in any other list,
    next_not_elsewhere : (y : ℕ) → y < piece_size → y ≢ x → times_in next (slots_before y) ≡ 0
    next_not_elsewhere y h different =
        let once =
        stands_in_one p'.heads p'.links (slots_after bs x e p slots) slots_now (freed_after bs x e p slots) accepted.laid_out x y next
        here h different in
        let place = ap (times_in next) (place_elsewhere x y (slots_here bs x e p slots) slots_before different) in
        omega (arith, once, next_once_more, place)

    -- and it lies within the piece.
    next_fits : next < piece_size
    next_fits =
        let used =
        laid_used p'.heads p'.links (slots_after bs x e p slots) slots_now (freed_after bs x e p slots) accepted.laid_out x next here
        (omega (arith, next_once_more)) in
        omega (arith, used, accepted.laid_out.used_fit)

    -- It holds the entry added.
    entry_new : entry_at p' next ≡ e
    entry_new =
        let event = get_or-set_same p.events next e.event.0 0 (omega (arith, next_fits, room.fits.events_fit)) in
        let procedure = get_or-set_same p.procedures next e.procedure.0 0 (omega (arith, next_fits, room.fits.procedures_fit)) in
        let locks = get_or-set_same p.sets next e.locks 0 (omega (arith, next_fits, room.fits.sets_fit)) in
        rw (accepted.events, accepted.procedures, accepted.sets, out)
        (λ i. record { event = record { 0 = event i }; procedure = record { 0 = procedure i }; locks = locks i })

    -- Entries in other slots are as they were,
    entry_elsewhere : (s : ℕ) → s ≢ next → entry_at p' s ≡ entry_at p s
    entry_elsewhere s different =
        let event = get_or-set_other p.events next s e.event.0 0 different in
        let procedure = get_or-set_other p.procedures next s e.procedure.0 0 different in
        let locks = get_or-set_other p.sets next s e.locks 0 different in
        rw (accepted.events, accepted.procedures, accepted.sets, out)
        (λ i. record { event = record { 0 = event i }; procedure = record { 0 = procedure i }; locks = locks i })

    -- and so are those in a list of slots without it.
    entries_kept : (ss : List ℕ) → times_in next ss ≡ 0 → map (entry_at p') ss ≡ map (entry_at p) ss
    entries_kept ss away =
        map_agree (entry_at p') (entry_at p) ss
        (λ s stands. entry_elsewhere s (λ (same : s ≡ next). let next-stands : 0 < times_in next ss = rw same at stands in omega (arith, away)))

    -- So the location's list is what is left of it, and the entry.
    added_here : map (entry_at p') (slots_here bs x e p slots) ≡ after (parallel_by bs) e (lists_in p x)
    unfolding after added
    added_here =
        rw out (map-append (entry_at p') (slots_left bs x e p) (next ∷ [])
        ∙ ap₂ (λ (list : List Entry) (k : Entry). list ++ k ∷ []) (entries_kept (slots_left bs x e p) next_not_left ∙ left_entries) entry_new)

  -- The lists after the access are what the rules make of the lists before.
  held_after : (y : ℕ) → y < piece_size → lists_in p' y ≡ changed_at x (after (parallel_by bs) e) (lists_in p) y
  unfolding lists_in changed_at
  held_after y h =
      let found =
      laid_slots p'.heads p'.links (slots_after bs x e p slots) slots_now (freed_after bs x e p slots) accepted.laid_out y h in
      elim (ℕ_discrete y x) [
        | yes same ↦
            let place = place_here x (slots_here bs x e p slots) slots_before in
            rw (found, same, place, eq-eqb x x refl) (either_way (is_omitted bs x e p) out_here added_here)
        | no different ↦
            let place = place_elsewhere x y (slots_here bs x e p slots) slots_before different in
            let slots-there = slots_before y in
            rw (found, place, ne_eqb y x different) (either_way (is_omitted bs x e p)
            (λ out. map_agree (entry_at p') (entry_at p) slots-there (λ s stands. entries_same out s))
            (λ out. entries_kept out slots-there (next_not_elsewhere out y h different)))
      ]

  -- Past 4,096 every piece is as it was.
  stored_rest : (number : ℕ) (piece : List ℕ) → RestKept piece_size piece (stored bs x e p slots number piece)
  stored_rest number piece = record {
    same_length = stored_length number piece;
    same_rest =
        either_way (is_omitted bs x e p) (λ out. rw out) (λ out. rw out (drop-set-lt piece_size piece next number (next_fits out)));
  }

  links_rest_all : drop piece_size p'.links ≡ drop piece_size p.links
  links_rest_all =
      past_more (slots_after bs x e p slots).used piece_size p'.links p.links accepted.laid_out.used_fit accepted.links_rest.same_rest

  rests_after : RestsKept p p'
  rests_after = record {
    heads = accepted.heads_rest;
    links = record { same_length = accepted.links_rest.same_length; same_rest = links_rest_all };
    events = rw accepted.events (stored_rest e.event.0 p.events);
    procedures = rw accepted.procedures (stored_rest e.procedure.0 p.procedures);
    sets = rw accepted.sets (stored_rest e.locks p.sets);
  }

-- A piece keeps its own rest.
same_rest_kept : (n : ℕ) (piece : List ℕ) → RestKept n piece piece
same_rest_kept n piece = record { same_length = refl; same_rest = refl }

same_rests : (p : Pieces) → RestsKept p p
same_rests p = record {
  heads = same_rest_kept piece_size p.heads;
  links = same_rest_kept piece_size p.links;
  events = same_rest_kept piece_size p.events;
  procedures = same_rest_kept piece_size p.procedures;
  sets = same_rest_kept piece_size p.sets;
}

-- Whatever the answer, what lies past 4,096 is kept.
pub rests_kept : (bs : List Bags) (x : ℕ) (e : Entry) (p : Pieces) (slots : Slots) (p' : Pieces) (slots' : Slots) (r : Result Visited NotKept)
    → x < piece_size → Room p slots → AfterAccess bs x e p slots p' slots' r → RestsKept p p'
rests_kept bs x e p slots p' slots' (Ok visited) here room accepted = rests_after bs x e p slots room here p' accepted.1
rests_kept bs x e p slots p' slots' (Err why) here room same = rw same.0 (same_rests p)

-- After an access they hold what the rules make of the lists; after a refusal, the same lists.
abbrev ListsAfter : List Bags → ℕ → Entry → Lists → Pieces → Slots → Result Visited NotKept → Type 0
ListsAfter bs x e lists p' slots' (Ok visited) = Holds (changed_at x (after (parallel_by bs) e) lists) p' slots'
ListsAfter bs x e lists p' slots' (Err why) = Holds lists p' slots'

-- So it does, by what `access` promises; and the lists held tell what it gives.
abbrev HoldsAccess : Type 0
HoldsAccess =
    (bs : List Bags) (x : ℕ) (e : Entry) (lists : Lists) (p : Pieces) (slots : Slots) (p' : Pieces) (slots' : Slots) (r : Result Visited NotKept)
    → x < piece_size → Holds lists p slots → r ≡ accessed bs x e (lists_in p) → AfterAccess bs x e p slots p' slots' r
    → (r ≡ accessed bs x e lists) × ListsAfter bs x e lists p' slots' r

-- After each answer the pieces hold the lists that they should.
holds_after : (bs : List Bags) (x : ℕ) (e : Entry) (lists : Lists) (p : Pieces) (slots : Slots) (p' : Pieces) (slots' : Slots)
    (r : Result Visited NotKept) → x < piece_size → Holds lists p slots → AfterAccess bs x e p slots p' slots' r → ListsAfter bs x e lists p' slots' r
holds_after bs x e lists p slots p' slots' (Ok visited) here holds accepted =
    record {
      room = subst (Room p') (sym accepted.0) (room_after bs x e p slots holds.room here p' accepted.1);
      held = λ y h.
          held_after bs x e p slots holds.room here p' accepted.1 y h
          ∙ changed_agree x y (after (parallel_by bs) e) (lists_in p) lists (holds.held y h);
    }
holds_after bs x e lists p slots p' slots' (Err why) here holds same =
    subst (λ (q : Pieces). Holds lists q slots') (sym same.0) (subst (Holds lists p) (sym same.1) holds)

-- What an access gives and leaves, by the lists held.
pub holds_access : HoldsAccess
holds_access bs x e lists p slots p' slots' r here holds is after-access = (
  is ∙ accessed_agree bs x e (lists_in p) lists here holds.held,
  holds_after bs x e lists p slots p' slots' r here holds after-access,
)
