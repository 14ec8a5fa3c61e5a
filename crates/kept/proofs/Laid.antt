-- Layouts: each used slot stands once in all lists together, so what changes the links of one list leaves the other lists as they are. So taking a
-- slot out of a list and freeing it, and putting the next slot at the end of a list, leave a layout: the list concerned is a chain by `relinked`, the
-- others by frames, and the counts change by the one slot moved. A layout is what walking finds. Assumes nothing.
use Prim.Native.Nat.{ℕ, zero, suc, ◌+◌, ◌-◌, ◌≤◌, ◌<◌}
use mathlib.Core.Path.{◌≡◌, refl, sym, ap, ◌∙◌, fun_ext}
use mathlib.Core.Logic.{◌≢◌, ◌⊎◌, inl, inr, ⊎_elim}
use mathlib.Core.Bool.{cond}
use mathlib.Core.List.{List, [], ◌∷◌, ◌++◌, append-nil}
use native.Mathlib.Decide.{dec_lt, ℕ_discrete}
use native.Mathlib.Omega.{arith}
use lib.Dec.{eqb, ltb}
use lib.ListN.{length, get_or, set, drop, length-append, length-set}
use lib.Seq.{get_or-set_same, drop-set-lt}
use borrow.Author.Tests.{lt-ltb, le-ltb, eq-eqb, ne_eqb}
use Rattle.kept.specs.declared.Slots.{Slots}
use Rattle.kept.specs.Lists.{sum_below}
use Rattle.kept.specs.Pieces.{piece_size, slots_of, slots_freed, times_in, Chain, LaidOut}
use Rattle.kept.specs.Access.{place_at, next_slot, freed_then, used_then, link_to}
use Rattle.kept.specs.Parts.{heads_linked, links_linked, last_of, slot_for, slots_then}
use Rattle.kept.proofs.Sums.{sum_agree, sum_changed, sum_term, sum_two_terms}
use Rattle.kept.proofs.Chains.{times_append, times_self, last_below, chain_slots, chain_link, chain_below, chain_rest}
use Rattle.kept.proofs.Chains.{chain_frame, linked_length, linked_heads_elsewhere, linked_frame, relinked}

-- ---- one list put in place of another

-- Putting a list in its own place changes nothing, and of two put in one place the later one stands.
pub place_same : (x : ℕ) (lists : ℕ → List ℕ) → place_at x (lists x) lists ≡ lists
unfolding place_at
place_same x lists =
    fun_ext (λ y.
    elim (ℕ_discrete y x) [
      | yes same ↦ rw (eq-eqb y x same) (ap lists (sym same))
      | no different ↦ rw (ne_eqb y x different)
    ])

pub place_twice : (x : ℕ) (a b : List ℕ) (lists : ℕ → List ℕ) → place_at x b (place_at x a lists) ≡ place_at x b lists
unfolding place_at
place_twice x a b lists =
    fun_ext (λ y.
    elim (ℕ_discrete y x) [
      | yes same ↦ rw (eq-eqb y x same)
      | no different ↦ rw (ne_eqb y x different)
    ])

pub place_here : (x : ℕ) (a : List ℕ) (lists : ℕ → List ℕ) → place_at x a lists x ≡ a
unfolding place_at
place_here x a lists = rw (eq-eqb x x refl)

pub place_elsewhere : (x y : ℕ) (a : List ℕ) (lists : ℕ → List ℕ) → y ≢ x → place_at x a lists y ≡ lists y
unfolding place_at
place_elsewhere x y a lists different = rw (ne_eqb y x different)

-- What all lists measure together changes by as much as the one list.
placed_sum : (measure : List ℕ → ℕ) (n x : ℕ) (a : List ℕ) (lists : ℕ → List ℕ) → x < n
    → sum_below n (λ y. measure (place_at x a lists y)) + measure (lists x) ≡ sum_below n (λ y. measure (lists y)) + measure a
placed_sum measure n x a lists h =
    let changed =
    sum_changed n (λ y. measure (lists y)) (λ y. measure (place_at x a lists y)) x h
    (λ y different. ap measure (place_elsewhere x y a lists different)) in
    rw (place_here x a lists) at changed

-- ---- used slots, and the next

-- A slot counts once if it is used, and else not.
used_once : (s n : ℕ) → cond (ltb s n) 1 0 ≤ 1
used_once s n =
    elim (dec_lt s n) [
      | yes below ↦ rw (lt-ltb s n below) (omega arith)
      | no not-below ↦ rw (le-ltb s n (omega arith)) (omega arith)
    ]

counted_used : (s n : ℕ) → 0 < cond (ltb s n) 1 0 → s < n
counted_used s n counted =
    elim (dec_lt s n) [
      | yes below ↦ below
      | no not-below ↦ absurd (let none : 0 < 0 = rw (le-ltb s n (omega arith)) at counted in omega arith)
    ]

-- One more slot used counts once more.
one_more_used : (s n : ℕ) → cond (ltb s (suc n)) 1 0 ≡ cond (ltb s n) 1 0 + cond (eqb s n) 1 0
one_more_used s n =
    elim (dec_lt s n) [
      | yes below ↦ rw (lt-ltb s n below, lt-ltb s (suc n) (omega arith), ne_eqb s n (omega arith)) refl
      | no not-below ↦
          elim (ℕ_discrete s n) [
            | yes same ↦ rw (le-ltb s n (omega arith), lt-ltb s (suc n) (omega arith), eq-eqb s n same) refl
            | no different ↦ rw (le-ltb s n (omega arith), le-ltb s (suc n) (omega arith), ne_eqb s n different) refl
          ]
    ]

-- The next slot is freed, or the first never used.
next_freed_or_new : (freed : List ℕ) (used : ℕ) → (0 < times_in (next_slot freed used) freed) ⊎ (next_slot freed used ≡ used)
next_freed_or_new [] used = inr refl
next_freed_or_new (s ∷ ss) used =
    inl (let once = times_self s ss in omega arith)

-- The next slot and those freed then are those freed, and those that are used then and were not.
next_times : (t : ℕ) (freed : List ℕ) (used : ℕ)
    → times_in t (next_slot freed used ∷ []) + times_in t (freed_then freed) + cond (ltb t used) 1 0
    ≡ times_in t freed + cond (ltb t (used_then freed used)) 1 0
unfolding times_in
next_times t [] used = let more = one_more_used t used in omega arith
next_times t (s ∷ ss) used = omega arith

next_count : (freed : List ℕ) (used : ℕ) → 1 + length (freed_then freed) + used ≡ length freed + used_then freed used
next_count [] used = omega arith
next_count (s ∷ ss) used = omega arith

-- Those freed then are a chain, if those freed are.
then_chain : (links : List ℕ) (at : ℕ) (freed : List ℕ) → Chain links at freed → Chain links (link_to (freed_then freed)) (freed_then freed)
unfolding Chain
then_chain links at [] chain = refl
then_chain links at (s ∷ ss) chain = rw (← chain_link links (get_or links s 0) ss chain.2) chain.2

-- No more are used then than a piece has.
then_fits : (freed : List ℕ) (used n : ℕ) → used ≤ n → next_slot freed used < n → used_then freed used ≤ n
then_fits [] used n fit next-fit = next-fit
then_fits (s ∷ ss) used n fit next-fit = fit

-- What is used stays so.
then_used : (freed : List ℕ) (used : ℕ) → used ≤ used_then freed used
then_used [] used = omega arith
then_used (s ∷ ss) used = omega arith

-- The slot for the next entry, and which are free then, as told by the first link of those freed.
next_slot_lem : (links : List ℕ) (slots : Slots) (freed : List ℕ) → Chain links slots.freed freed → slot_for slots ≡ next_slot freed slots.used
unfolding Chain
next_slot_lem links slots [] chain = rw (eq-eqb slots.freed 0 chain)
next_slot_lem links slots (s ∷ ss) chain = rw (ne_eqb slots.freed 0 (omega (arith, chain.0))) (omega (arith, chain.0))

next_slots : (links : List ℕ) (slots : Slots) (freed : List ℕ) → Chain links slots.freed freed
    → slots_then links slots ≡ record { freed = link_to (freed_then freed); used = used_then freed slots.used }
unfolding Chain
next_slots links slots [] chain =
    let one_more : slots.used + 1 ≡ suc slots.used = omega arith in
    rw (eq-eqb slots.freed 0 chain) (λ i. record { freed = 0; used = one_more i })
next_slots links slots (s ∷ ss) chain =
    let slot : slots.freed - 1 ≡ s = omega (arith, chain.0) in
    let link : get_or links (slots.freed - 1) 0 ≡ link_to ss = rw slot (chain_link links (get_or links s 0) ss chain.2) in
    rw (ne_eqb slots.freed 0 (omega (arith, chain.0))) (λ i. record { freed = link i; used = slots.used })

-- ---- what is past

-- Past the piece nothing of the heads changes.
pub linked_heads_rest : (last x to : ℕ) (heads : List ℕ) → x < piece_size → drop piece_size (heads_linked last x to heads) ≡ drop piece_size heads
linked_heads_rest zero x to heads h = drop-set-lt piece_size heads x to h
linked_heads_rest (suc p) x to heads h = refl

-- Past the used slots nothing of the links changes.
linked_links_rest : (last to n : ℕ) (links : List ℕ) → last ≤ n → drop n (links_linked last to links) ≡ drop n links
linked_links_rest zero to n links h = refl
linked_links_rest (suc p) to n links h = drop-set-lt n links p to h

-- ---- a new link in one list

-- If the slots of one list stand in no other, then all are chains when that one goes on after some of its slots with what a new link leads to.
relinked_chains : (heads links : List ℕ) (lists : ℕ → List ℕ) (x v : ℕ) (ps rest rest' : List ℕ)
    → x < length heads → piece_size ≤ length links → x < piece_size → lists x ≡ ps ++ rest
    → ((y : ℕ) → y < piece_size → Chain links (get_or heads y 0) (lists y)) → Chain links v rest' → ((t : ℕ) → times_in t (ps ++ rest') ≤ 1)
    → ((y t : ℕ) → y < piece_size → y ≢ x → 0 < times_in t ps → times_in t (lists y) ≡ 0)
    → (y : ℕ) → y < piece_size
    → Chain (links_linked (last_of ps) v links) (get_or (heads_linked (last_of ps) x v heads) y 0) (place_at x (ps ++ rest') lists y)
relinked_chains heads links lists x v ps rest rest' head_fit fit x-fit whole chains new few apart y h =
    elim (ℕ_discrete y x) [
      | yes same ↦
          rw (same, place_here x (ps ++ rest') lists)
          (relinked heads links x v ps rest rest' head_fit fit (rw whole at (chains x x-fit)) new few)
      | no different ↦
          rw (place_elsewhere x y (ps ++ rest') lists different, linked_heads_elsewhere (last_of ps) x v y heads different)
          (linked_frame ps v (get_or heads y 0) links (lists y) (λ t. apart y t h different) (chains y h))
    ]

-- ---- a layout

module _ (heads links : List ℕ) (slots : Slots) (lists : ℕ → List ℕ) (freed : List ℕ) (laid : LaidOut heads links slots lists freed) where
  -- No list is longer than a piece.
  pub laid_few : (y : ℕ) → y < piece_size → length (lists y) ≤ piece_size
  laid_few y h =
      let within = sum_term piece_size (λ z. length (lists z)) y h in
      omega (arith, laid.total, laid.used_fit)

  pub laid_freed_few : length freed ≤ piece_size
  laid_freed_few = omega (arith, laid.total, laid.used_fit)

  -- A slot stands at most once in a list and among those freed together, and in two lists together.
  pub stands_once : (y s : ℕ) → y < piece_size → times_in s (lists y) + times_in s freed ≤ 1
  stands_once y s h =
      let within = sum_term piece_size (λ z. times_in s (lists z)) y h in
      omega (arith, laid.once s, used_once s slots.used)

  pub stands_in_one : (x y s : ℕ) → x < piece_size → y < piece_size → y ≢ x → times_in s (lists x) + times_in s (lists y) ≤ 1
  stands_in_one x y s h k different =
      let within = sum_two_terms piece_size (λ z. times_in s (lists z)) x y h k different in
      omega (arith, laid.once s, used_once s slots.used)

  -- Slots that stand in a list are used ones.
  pub laid_used : (y s : ℕ) → y < piece_size → 0 < times_in s (lists y) → s < slots.used
  laid_used y s h stands =
      let within = sum_term piece_size (λ z. times_in s (lists z)) y h in
      counted_used s slots.used (omega (arith, laid.once s))

  -- So are those freed.
  freed_used : (s : ℕ) → 0 < times_in s freed → s < slots.used
  freed_used s stands = counted_used s slots.used (omega (arith, laid.once s))

  -- The layout is what walking finds.
  pub laid_slots : (y : ℕ) → y < piece_size → slots_of heads links y ≡ lists y
  unfolding slots_of
  laid_slots y h = chain_slots piece_size links (get_or heads y 0) (lists y) (laid.chains y h) (laid_few y h)

  pub laid_freed : slots_freed links slots ≡ freed
  unfolding slots_freed
  laid_freed = chain_slots piece_size links slots.freed freed laid.freed_chain laid_freed_few

  pub laid_computed : LaidOut heads links slots (slots_of heads links) (slots_freed links slots)
  laid_computed = record {
    used_fit = laid.used_fit;
    chains = λ y h. rw (laid_slots y h) (laid.chains y h);
    freed_chain = rw laid_freed laid.freed_chain;
    once = λ s.
        let same = sum_agree piece_size (λ y. times_in s (lists y)) (λ y. times_in s (slots_of heads links y)) (λ y h. ap (times_in s) (laid_slots y h)) in
        rw (laid_freed, same) (laid.once s);
    total =
        let same = sum_agree piece_size (λ y. length (lists y)) (λ y. length (slots_of heads links y)) (λ y h. ap length (laid_slots y h)) in
        rw (laid_freed, same) laid.total;
  }

  -- Links stay small.
  pub laid_last : (y : ℕ) (ps rest : List ℕ) → y < piece_size → lists y ≡ ps ++ rest → last_of ps ≤ slots.used
  laid_last y ps rest h whole =
      last_below ps slots.used (λ s stands. laid_used y s h (rw whole (let both = times_append s ps rest in omega arith)))

  pub laid_first : slots.freed ≤ slots.used
  laid_first = chain_below links slots.freed freed slots.used laid.freed_chain freed_used

  -- The slot for the next entry, and which are free then.
  pub laid_next : slot_for slots ≡ next_slot freed slots.used
  laid_next = next_slot_lem links slots freed laid.freed_chain

  pub laid_then : slots_then links slots ≡ record { freed = link_to (freed_then freed); used = used_then freed slots.used }
  laid_then = next_slots links slots freed laid.freed_chain

  -- It stands in no list.
  pub next_apart : (y : ℕ) → y < piece_size → times_in (next_slot freed slots.used) (lists y) ≡ 0
  next_apart y h =
      ⊎_elim
      (λ (stands : 0 < times_in (next_slot freed slots.used) freed). let once = stands_once y (next_slot freed slots.used) h in omega arith)
      (λ (new : next_slot freed slots.used ≡ slots.used).
      elim (dec_lt 0 (times_in (next_slot freed slots.used) (lists y))) [
        | yes stands ↦ absurd (let below = laid_used y (next_slot freed slots.used) h stands in omega arith)
        | no not_there ↦ omega arith
      ])
      (next_freed_or_new freed slots.used)

  module _ (heads_fit : piece_size ≤ length heads) (links_fit : piece_size ≤ length links) (x : ℕ) (x-fit : x < piece_size) where
    -- A slot is taken out of a list, and freed.
    module _ (ps : List ℕ) (s : ℕ) (rest : List ℕ) (whole : lists x ≡ ps ++ s ∷ rest) where
      -- The links once the slot before leads past the one taken out.
      abbrev links_without : List ℕ
      links_without = links_linked (last_of ps) (get_or links s 0) links

      -- The list had the slot taken out and those left,
      detached_times : (t : ℕ) → times_in t (lists x) ≡ times_in t (s ∷ []) + times_in t (ps ++ rest)
      unfolding times_in
      detached_times t =
          let before = times_append t ps (s ∷ rest) in
          let after = times_append t ps rest in
          rw whole (omega arith)

      detached_count : length (lists x) ≡ suc (length (ps ++ rest))
      detached_count =
          let before = length-append ps (s ∷ rest) in
          let after = length-append ps rest in
          rw whole (omega arith)

      -- and so the slot is a used one,
      detached_used : s < slots.used
      detached_used =
          let stood = detached_times s in
          let once = times_self s [] in
          laid_used x s x-fit (omega arith)

      -- all slots stand as often as before,
      detached_once : (t : ℕ)
          → sum_below piece_size (λ y. times_in t (place_at x (ps ++ rest) lists y)) + times_in t (s ∷ freed) ≡ cond (ltb t slots.used) 1 0
      unfolding times_in
      detached_once t =
          let changed = placed_sum (times_in t) piece_size x (ps ++ rest) lists x-fit in
          let stood = detached_times t in
          omega (arith, laid.once t)

      -- and the slot stands in no list any more.
      detached_away : (y : ℕ) → y < piece_size → times_in s (place_at x (ps ++ rest) lists y) ≡ 0
      detached_away y h =
          let within = sum_term piece_size (λ z. times_in s (place_at x (ps ++ rest) lists z)) y h in
          let self = times_self s freed in
          omega (arith, detached_once s, used_once s slots.used)

      -- Those freed are a chain with the slot in front.
      detached_freed_chain : Chain (set links_without s slots.freed) (suc s) (s ∷ freed)
      unfolding Chain
      detached_freed_chain =
          let same_length = linked_length (last_of ps) (get_or links s 0) links in
          let stood = detached_times s in
          let self = times_self s [] in
          let once = stands_once x s x-fit in (
            refl,
            omega (arith, detached_used, laid.used_fit),
            rw (get_or-set_same links_without s slots.freed 0 (omega (arith, detached_used, laid.used_fit)))
                (chain_frame links_without s slots.freed slots.freed freed (omega arith)
                (linked_frame ps (get_or links s 0) slots.freed links freed apart laid.freed_chain)),
          )
        where
          apart : (t : ℕ) → 0 < times_in t ps → times_in t freed ≡ 0
          apart t stands =
              let both = times_append t ps rest in
              let stood = detached_times t in
              let once = stands_once x t x-fit in
              omega arith

      -- So there is a layout without the slot,
      pub laid_detached : LaidOut
          (heads_linked (last_of ps) x (get_or links s 0) heads)
          (set (links_linked (last_of ps) (get_or links s 0) links) s slots.freed)
          (record { freed = suc s; used = slots.used })
          (place_at x (ps ++ rest) lists)
          (s ∷ freed)
      laid_detached = record {
        used_fit = laid.used_fit;
        chains = λ y h.
            chain_frame links_without s slots.freed (get_or (heads_linked (last_of ps) x (get_or links s 0) heads) y 0) (place_at x (ps ++ rest) lists y)
            (detached_away y h)
            (relinked_chains heads links lists x (get_or links s 0) ps (s ∷ rest) rest (omega arith) links_fit x-fit whole laid.chains
            (chain_rest links (get_or heads x 0) ps s rest (rw whole at (laid.chains x x-fit))) few apart y h);
        freed_chain = detached_freed_chain;
        once = detached_once;
        total =
            let changed = placed_sum length piece_size x (ps ++ rest) lists x-fit in
            omega (arith, laid.total, detached_count);
      }
        where
          few : (t : ℕ) → times_in t (ps ++ rest) ≤ 1
          few t =
              let stood = detached_times t in
              let once = stands_once x t x-fit in
              omega arith

          apart : (y t : ℕ) → y < piece_size → y ≢ x → 0 < times_in t ps → times_in t (lists y) ≡ 0
          apart y t h different stands =
              let both = times_append t ps rest in
              let stood = detached_times t in
              let once = stands_in_one x y t x-fit h different in
              omega arith

      -- and past the used slots no link has changed.
      pub detached_links_rest : drop slots.used (set (links_linked (last_of ps) (get_or links s 0) links) s slots.freed) ≡ drop slots.used links
      detached_links_rest =
          drop-set-lt slots.used links_without s slots.freed detached_used
          ∙ linked_links_rest (last_of ps) (get_or links s 0) slots.used links (laid_last x ps (s ∷ rest) x-fit whole)

    -- The next slot is put at the end of a list.
    module _ (next-fit : next_slot freed slots.used < piece_size) where
      -- The next slot, the list with it, and the links once it is the end of a list.
      abbrev next : ℕ
      next = next_slot freed slots.used

      abbrev longer : List ℕ
      longer = lists x ++ next ∷ []

      abbrev links_ended : List ℕ
      links_ended = set links next 0

      -- The used slots stand once each, the next among them.
      appended_once : (t : ℕ)
          → sum_below piece_size (λ y. times_in t (place_at x longer lists y)) + times_in t (freed_then freed)
          ≡ cond (ltb t (used_then freed slots.used)) 1 0
      appended_once t =
          let changed = placed_sum (times_in t) piece_size x longer lists x-fit in
          let both = times_append t (lists x) (next ∷ []) in
          omega (arith, laid.once t, next_times t freed slots.used)

      -- The list with the next slot is one of the lists,
      longer_within : (t : ℕ) → times_in t longer ≤ sum_below piece_size (λ y. times_in t (place_at x longer lists y))
      longer_within t =
          let within = sum_term piece_size (λ y. times_in t (place_at x longer lists y)) x x-fit in
          rw (place_here x longer lists) at within

      -- so a slot stands at most once in it and among those freed then,
      longer_once : (t : ℕ) → times_in t longer + times_in t (freed_then freed) ≤ 1
      longer_once t = omega (arith, longer_within t, appended_once t, used_once t (used_then freed slots.used))

      -- and the next slot is used then.
      next_used : next < used_then freed slots.used
      next_used =
          let both = times_append next (lists x) (next ∷ []) in
          let self = times_self next [] in
          counted_used next (used_then freed slots.used) (omega (arith, longer_within next, appended_once next))

      -- So there is a layout with the next slot,
      pub laid_appended : LaidOut
          (heads_linked (last_of (lists x)) x (suc (next_slot freed slots.used)) heads)
          (links_linked (last_of (lists x)) (suc (next_slot freed slots.used)) (set links (next_slot freed slots.used) 0))
          (record { freed = link_to (freed_then freed); used = used_then freed slots.used })
          (place_at x (lists x ++ next_slot freed slots.used ∷ []) lists)
          (freed_then freed)
      unfolding Chain
      laid_appended = record {
        used_fit = then_fits freed slots.used piece_size laid.used_fit next-fit;
        chains =
            relinked_chains heads links_ended lists x (suc next) (lists x) [] (next ∷ []) (omega arith) (omega (arith, length-set links next 0)) x-fit
            (sym (append-nil (lists x))) (λ y h. chain_frame links next 0 (get_or heads y 0) (lists y) (next_apart y h) (laid.chains y h))
            (refl, next-fit, get_or-set_same links next 0 0 (omega arith)) (λ t. omega (arith, longer_once t)) apart;
        freed_chain =
            linked_frame (lists x) (suc next) (link_to (freed_then freed)) links_ended (freed_then freed) freed_apart
            (chain_frame links next 0 (link_to (freed_then freed)) (freed_then freed) next_not_freed
            (then_chain links slots.freed freed laid.freed_chain));
        once = appended_once;
        total =
            let changed = placed_sum length piece_size x longer lists x-fit in
            let one_more = length-append (lists x) (next ∷ []) in
            omega (arith, laid.total, next_count freed slots.used);
      }
        where
          apart : (y t : ℕ) → y < piece_size → y ≢ x → 0 < times_in t (lists x) → times_in t (lists y) ≡ 0
          apart y t h different stands = omega (arith, stands_in_one x y t x-fit h different)

          freed_apart : (t : ℕ) → 0 < times_in t (lists x) → times_in t (freed_then freed) ≡ 0
          freed_apart t stands = omega (arith, longer_once t, times_append t (lists x) (next ∷ []))

          next_not_freed : times_in next (freed_then freed) ≡ 0
          next_not_freed = omega (arith, longer_once next, times_append next (lists x) (next ∷ []), times_self next [])

      -- and past the slots used then no link has changed.
      pub appended_links_rest : drop (used_then freed slots.used)
          (links_linked (last_of (lists x)) (suc (next_slot freed slots.used)) (set links (next_slot freed slots.used) 0))
          ≡ drop (used_then freed slots.used) links
      appended_links_rest =
          let last = laid_last x (lists x) [] x-fit (sym (append-nil (lists x))) in
          linked_links_rest (last_of (lists x)) (suc next) (used_then freed slots.used) links_ended (omega (arith, then_used freed slots.used))
          ∙ drop-set-lt (used_then freed slots.used) links next 0 next_used
