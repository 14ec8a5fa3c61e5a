-- Unlinking the dropped: the slots passed that stay, and those still ahead, make up the list all the while; the dropped ones passed stand before those
-- freed earlier. Assumes nothing.
use Prim.Native.Nat.{ℕ, suc, ◌-◌, ◌≤◌, ◌<◌}
use mathlib.Core.Path.{◌≡◌, refl, sym, ap, ◌∙◌}
use mathlib.Core.Bool.{Bool, true, false, cond, not}
use mathlib.Core.List.{List, [], ◌∷◌, ◌++◌, append_assoc}
use native.Mathlib.Omega.{arith}
use lib.ListN.{length, get_or, set, length-set, length-append}
use Rattle.kept.specs.declared.Slots.{Slots}
use Rattle.kept.specs.Lists.{those}
use Rattle.kept.specs.Pieces.{piece_size, slots_from, slots_of, slots_freed, Chain, LaidOut, RestKept}
use Rattle.kept.specs.Access.{place_at, freeing, link_to}
use Rattle.kept.specs.Parts.{heads_linked, links_linked, how_many, last_of, FirstDropped, Pruned}
use Rattle.kept.proofs.Lists.{either_way}
use Rattle.kept.proofs.Chains.{chain_slots, chain_link, linked_heads_length, linked_length}
use Rattle.kept.proofs.Laid.{place_same, place_twice, place_here, laid_few, laid_last, laid_detached, detached_links_rest, linked_heads_rest}

-- ---- lists of which none is dropped

module _ (drops : ℕ → Bool) where
  abbrev stays : ℕ → Bool
  stays s = not (drops s)

  -- All of it stays, and nothing is freed.
  pub none_dropped : (ss : List ℕ) → how_many drops ss ≡ 0 → those stays ss ≡ ss
  unfolding those
  none_dropped [] none = refl
  none_dropped (s ∷ ss) none =
      either_way (drops s) (λ e. absurd (omega (arith, rw e at none))) (λ e. rw e (ap (λ (t : List ℕ). s ∷ t) (none_dropped ss (rw e at none))))

  pub none_freed : (ss freed : List ℕ) → how_many drops ss ≡ 0 → freeing drops ss freed ≡ freed
  unfolding those freeing
  none_freed [] freed none = refl
  none_freed (s ∷ ss) freed none = either_way (drops s) (λ e. absurd (omega (arith, rw e at none))) (λ e. rw e (none_freed ss freed (rw e at none)))

  -- Of two lists those that stay come one after the other, and so do those freed.
  those-append : (test : ℕ → Bool) (ps ss : List ℕ) → those test (ps ++ ss) ≡ those test ps ++ those test ss
  unfolding those
  those-append test [] ss = refl
  those-append test (p ∷ ps) ss =
      either_way (test p) (λ e. rw e (ap (λ (t : List ℕ). p ∷ t) (those-append test ps ss))) (λ e. rw e (those-append test ps ss))

  freeing-append : (ps ss freed : List ℕ) → freeing drops (ps ++ ss) freed ≡ freeing drops ss (freeing drops ps freed)
  unfolding freeing
  freeing-append [] ss freed = refl
  freeing-append (p ∷ ps) ss freed = freeing-append ps ss (cond (drops p) (p ∷ freed) freed)

-- The last of a list with one put at its end.
last_of_more : (ps : List ℕ) (s : ℕ) → last_of (ps ++ s ∷ []) ≡ suc s
unfolding last_of
last_of_more [] s = refl
last_of_more (p ∷ []) s = refl
last_of_more (p ∷ q ∷ ps) s = last_of_more (q ∷ ps) s

-- A chain through two lists goes on through the second.
chain_on : (links : List ℕ) (at : ℕ) (ps rest : List ℕ) → Chain links at (ps ++ rest) → Chain links (link_to rest) rest
unfolding Chain
chain_on links at [] rest chain = rw (sym (chain_link links at rest chain)) chain
chain_on links at (p ∷ ps) rest chain = chain_on links (get_or links p 0) ps rest chain.2

module _ (drops : ℕ → Bool) (x : ℕ) (heads₀ links₀ : List ℕ) (slots : Slots) where
  pub record Pruning (heads links : List ℕ) (freed last at left : ℕ) : Type 0 where
    pub passed : List ℕ
    pub ahead : List ℕ
    pub pool : List ℕ
    pub laid : LaidOut heads links (record { freed = freed; used = slots.used }) (place_at x (passed ++ ahead) (slots_of heads₀ links₀)) pool
    pub named : last ≡ last_of passed
    pub leads : at ≡ link_to ahead
    pub counted : left ≡ how_many drops ahead
    pub stayed : those (stays drops) (slots_of heads₀ links₀ x) ≡ passed ++ those (stays drops) ahead
    pub gone : freeing drops (slots_of heads₀ links₀ x) (slots_freed links₀ slots) ≡ freeing drops ahead pool
    pub heads_rest : RestKept piece_size heads₀ heads
    pub links_rest : RestKept slots.used links₀ links

module _ {drops : ℕ → Bool} {x : ℕ} {heads₀ links₀ : List ℕ} {slots : Slots} where
  -- The walk begins after slots that stay.
  pub prune_begins : {count first before : ℕ} → LaidOut heads₀ links₀ slots (slots_of heads₀ links₀) (slots_freed links₀ slots)
      → count ≡ how_many drops (slots_of heads₀ links₀ x) → FirstDropped drops (slots_of heads₀ links₀ x) first before
      → Pruning drops x heads₀ links₀ slots heads₀ links₀ slots.freed before first count
  prune_begins {count} laid counted begins =
      let passed = begins.passed in
      let ahead = begins.ahead in
      let same = sym begins.whole in
      record {
        passed = passed;
        ahead = ahead;
        pool = slots_freed links₀ slots;
        laid = rw (begins.whole, place_same x (slots_of heads₀ links₀)) laid;
        named = begins.named;
        leads = begins.leads;
        counted =
            let parted = ap length (those-append drops drops passed ahead) ∙ length-append (those drops passed) (those drops ahead) in
            omega (arith, counted, ap (how_many drops) same, parted, begins.none_passed);
        stayed =
            ap (those (stays drops)) same ∙ those-append drops (stays drops) passed ahead
            ∙ ap (λ (ps : List ℕ). ps ++ those (stays drops) ahead) (none_dropped drops passed begins.none_passed);
        gone =
            ap (λ (ss : List ℕ). freeing drops ss (slots_freed links₀ slots)) same ∙ freeing-append drops passed ahead (slots_freed links₀ slots)
            ∙ ap (freeing drops ahead) (none_freed drops passed (slots_freed links₀ slots) begins.none_passed);
        heads_rest = record { same_length = refl; same_rest = refl };
        links_rest = record { same_length = refl; same_rest = refl };
      }

  -- Where none is dropped, everything stays as it is.
  pub none_pruned : LaidOut heads₀ links₀ slots (slots_of heads₀ links₀) (slots_freed links₀ slots) → how_many drops (slots_of heads₀ links₀ x) ≡ 0
      → Pruned drops x heads₀ links₀ slots heads₀ links₀ slots
  none_pruned laid none = record {
    laid_out =
        rw (none_dropped drops (slots_of heads₀ links₀ x) none, none_freed drops (slots_of heads₀ links₀ x) (slots_freed links₀ slots) none, place_same x (slots_of heads₀ links₀)) laid;
    same_used = refl;
    heads_rest = record { same_length = refl; same_rest = refl };
    links_rest = record { same_length = refl; same_rest = refl };
  }

  -- One step on: one slot less is ahead.
  abbrev pub Step : {heads links : List ℕ} {freed last at left : ℕ} → Pruning drops x heads₀ links₀ slots heads links freed last at left
      → (heads' links' : List ℕ) (freed' last' at' left' : ℕ) → Type 0
  Step w heads' links' freed' last' at' left' =
      (w' : Pruning drops x heads₀ links₀ slots heads' links' freed' last' at' left') × (suc (length w'.ahead) ≡ length w.ahead)

  module _ (here : x < piece_size) {heads links : List ℕ} {freed last at left : ℕ} (w : Pruning drops x heads₀ links₀ slots heads links freed last at left) where
    -- The layout by now.
    abbrev slots' : Slots
    slots' = record { freed = freed; used = slots.used }

    abbrev lists : ℕ → List ℕ
    lists = place_at x (w.passed ++ w.ahead) (slots_of heads₀ links₀)

    -- The slots ahead are those that a walk finds.
    ahead_chain : Chain links (link_to w.ahead) w.ahead
    ahead_chain =
        chain_on links (get_or heads x 0) w.passed w.ahead
        (rw (place_here x (w.passed ++ w.ahead) (slots_of heads₀ links₀)) at (w.laid.chains x here))

    ahead_few : length w.ahead ≤ piece_size
    ahead_few =
        let few = laid_few heads links slots' lists w.pool w.laid x here in
        omega (arith, rw (place_here x (w.passed ++ w.ahead) (slots_of heads₀ links₀)) at few, length-append w.passed w.ahead)

    pub prune_walk : slots_from piece_size links at ≡ w.ahead
    prune_walk = rw w.leads (chain_slots piece_size links (link_to w.ahead) w.ahead ahead_chain ahead_few)

    -- A slot that the link leads to lies within the pieces; where it leads nowhere, none is left to drop.
    pub prune_inside : {slot : ℕ} → at ≡ suc slot → (slot < piece_size) × (last ≤ piece_size)
    unfolding Chain
    prune_inside {slot} is = go w.ahead w.leads ahead_chain
      where
        go : (ss : List ℕ) → at ≡ link_to ss → Chain links (link_to ss) ss → (slot < piece_size) × (last ≤ piece_size)
        go [] leads chain = absurd (omega (arith, leads, is))
        go (s ∷ ss) leads chain =
            let whole = place_here x (w.passed ++ w.ahead) (slots_of heads₀ links₀) in
            let last_Fit = laid_last heads links slots' lists w.pool w.laid x w.passed w.ahead here whole in
            (omega (arith, chain.1, leads, is), omega (arith, last_Fit, w.named, w.laid.used_fit))

    pub prune_over : at ≡ 0 → left ≡ 0
    unfolding those
    prune_over none = go w.ahead w.leads w.counted
      where
        go : (ss : List ℕ) → at ≡ link_to ss → left ≡ how_many drops ss → left ≡ 0
        go [] leads counted = counted
        go (s ∷ ss) leads counted = absurd (omega (arith, leads, none))

    -- A slot that is dropped is detached and freed.
    pub prune_drops : piece_size ≤ length heads₀ → piece_size ≤ length links₀ → {heads' links' : List ℕ} {slot at' : ℕ} → at ≡ suc slot
        → drops slot ≡ true → at' ≡ get_or links slot 0 → heads' ≡ heads_linked last x (get_or links slot 0) heads
        → links' ≡ links_linked last (get_or links slot 0) links
        → Step w heads' (set links' slot freed) at last at' (left - 1)
    unfolding Chain those freeing
    prune_drops heads_fit links_fit {heads'} {links'} {slot} {at'} is falls onward heads-linked links-linked =
        rw (heads-linked, links-linked, onward) (go w.ahead refl w.leads w.counted ahead_chain)
      where
        go : (ss : List ℕ) → w.ahead ≡ ss → at ≡ link_to ss → left ≡ how_many drops ss → Chain links (link_to ss) ss
            → Step w (heads_linked last x (get_or links slot 0) heads)
            (set (links_linked last (get_or links slot 0) links) slot freed) at last (get_or links slot 0) (left - 1)
        go [] same leads counted chain = absurd (omega (arith, leads, is))
        go (s ∷ ss) same leads counted chain =
            let at_slot : slot ≡ s = omega (arith, leads, is) in
            let falls-here : drops s ≡ true = rw at_slot at falls in
            let split : lists x ≡ w.passed ++ s ∷ ss =
            place_here x (w.passed ++ w.ahead) (slots_of heads₀ links₀) ∙ ap (λ (t : List ℕ). w.passed ++ t) same in
            let next = get_or links s 0 in
            let last-link = last_of w.passed in
            let heads-now-fit : piece_size ≤ length heads = omega (arith, w.heads_rest.same_length) in
            let links-now-fit : piece_size ≤ length links = omega (arith, w.links_rest.same_length) in
            let out = laid_detached heads links slots' lists w.pool w.laid heads-now-fit links-now-fit x here w.passed s ss split in
            let rest = detached_links_rest heads links slots' lists w.pool w.laid heads-now-fit links-now-fit x here w.passed s ss split in
            rw (at_slot, leads, w.named) (
              record {
                passed = w.passed;
                ahead = ss;
                pool = s ∷ w.pool;
                laid = rw (sym (place_twice x (w.passed ++ w.ahead) (w.passed ++ ss) (slots_of heads₀ links₀))) out;
                named = refl;
                leads = chain_link links next ss chain.2;
                counted = omega (arith, rw falls-here at counted);
                stayed = rw (same, falls-here) at w.stayed;
                gone = rw (same, falls-here) at w.gone;
                heads_rest = record {
                  same_length = linked_heads_length last-link x next heads ∙ w.heads_rest.same_length;
                  same_rest = linked_heads_rest last-link x next heads here ∙ w.heads_rest.same_rest;
                };
                links_rest = record {
                  same_length = length-set (links_linked last-link next links) s freed ∙ linked_length last-link next links ∙ w.links_rest.same_length;
                  same_rest = rest ∙ w.links_rest.same_rest;
                };
              },
              rw same refl,
            )

    -- A slot that stays is passed.
    pub prune_stays : {slot at' : ℕ} → at ≡ suc slot → drops slot ≡ false → at' ≡ get_or links slot 0
        → Step w heads links freed at at' left
    unfolding Chain those freeing
    prune_stays {slot} {at'} is stands onward = rw onward (go w.ahead refl w.leads w.counted ahead_chain)
      where
        go : (ss : List ℕ) → w.ahead ≡ ss → at ≡ link_to ss → left ≡ how_many drops ss → Chain links (link_to ss) ss
            → Step w heads links freed at (get_or links slot 0) left
        go [] same leads counted chain = absurd (omega (arith, leads, is))
        go (s ∷ ss) same leads counted chain =
            let at_slot : slot ≡ s = omega (arith, leads, is) in
            let stays_here : drops s ≡ false = rw at_slot at stands in
            let glued : (w.passed ++ s ∷ []) ++ ss ≡ w.passed ++ s ∷ ss = append_assoc w.passed (s ∷ []) ss in
            rw (at_slot, leads) (
              record {
                passed = w.passed ++ s ∷ [];
                ahead = ss;
                pool = w.pool;
                laid = rw (glued, sym same) w.laid;
                named = sym (last_of_more w.passed s);
                leads = chain_link links (get_or links s 0) ss chain.2;
                counted = rw stays_here at counted;
                stayed = rw (append_assoc w.passed (s ∷ []) (those (stays drops) ss)) (rw (same, stays_here) at w.stayed);
                gone = rw (same, stays_here) at w.gone;
                heads_rest = w.heads_rest;
                links_rest = w.links_rest;
              },
              rw same refl,
            )

    -- With none left to drop the rest stays as it is.
    pub prune_ends : left ≡ 0 → Pruned drops x heads₀ links₀ slots heads links (record { freed = freed; used = slots.used })
    prune_ends z =
        let none : how_many drops w.ahead ≡ 0 = sym w.counted ∙ z in
        record {
          laid_out = rw (w.stayed, none_dropped drops w.ahead none, w.gone, none_freed drops w.ahead w.pool none) w.laid;
          same_used = refl;
          heads_rest = w.heads_rest;
          links_rest = w.links_rest;
        }

  -- So a walk from there is shorter.
  pub prune_falls : x < piece_size → {heads links : List ℕ} {freed last at left : ℕ} {heads' links' : List ℕ} {freed' last' at' left' : ℕ}
      (w : Pruning drops x heads₀ links₀ slots heads links freed last at left) → Step w heads' links' freed' last' at' left'
      → length (slots_from piece_size links' at') < length (slots_from piece_size links at)
  prune_falls here w next = rw (prune_walk here w, prune_walk here next.0) (omega (arith, next.1))
