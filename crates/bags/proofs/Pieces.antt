-- What the lent pieces hold after each function: a store changes one pair and no other, so the pairs go forward as the events say, and with them the
-- bags; and where a procedure is that `ask` seeks. Assumes nothing.
use Prim.Native.Nat.{ℕ, zero, suc, ◌+◌, ◌-◌, ◌≤◌, ◌<◌}
use mathlib.Core.Path.{◌≡◌, refl, sym, ap, ap₂, ◌∙◌, subst}
use mathlib.Core.Logic.{◌≢◌}
use mathlib.Core.Bool.{Bool, true, false, cond, not, ◌&&◌, ◌||◌, and-true, or-true, or-false, not-or_self}
use mathlib.Core.List.{List, [], ◌∷◌, head_d, map}
use native.Mathlib.Omega.{arith}
use native.Mathlib.Numerals.{add-one, sub-one}
use native.Mathlib.Decide.{dec_lt}
use lib.Dec.{eqb, ltb, leb}
use lib.ListN.{length, get_or, set, length-set}
use borrow.Author.Tests.{lt-ltb, le-ltb}
use lib.Seq.{get_or-set_same, get_or-set_other, drop-set-lt}
use Rattle.bags.specs.declared.ask.Pairs.{Pairs}
use Rattle.bags.specs.Parallel.{Act, member, spawn, return, sync, begun_after}
use Rattle.bags.specs.Bags.{Bags, bags_of_new, in_s_bag, in_p_bag, in_some_bag}
use Rattle.bags.specs.Runs.{Pair, numbers_from, run, as_bags, InOrder, pairs_in, piece_size, bags_in, Room}
use Rattle.bags.specs.Search.{Found, Rising}
use Rattle.bags.specs.Steps.{runner, RestKept, Begins, Carries, most_begun, pushed}
use Rattle.bags.proofs.Runs.{joined, pairs_after, bags_after_lem, in_order_after, between_under, member_run, in_none_above, in_s_or_p}

-- ---- Stores -----------------------------------------------------------------------------------------------------------------------------------

-- The same numbers below d, the same first d pairs.
same_pairs : (starts starts' joins joins' : List ℕ) (d : ℕ) → ((i : ℕ) → i < d → get_or starts' i 0 ≡ get_or starts i 0)
    → ((i : ℕ) → i < d → get_or joins' i 0 ≡ get_or joins i 0) → pairs_in starts' joins' d ≡ pairs_in starts joins d
unfolding pairs_in
same_pairs starts starts' joins joins' zero h l = refl
same_pairs starts starts' joins joins' (suc d) h l =
    ap₂ (λ (p : Pair) (ps : List Pair). p ∷ ps)
    (ap₂ (λ (a b : ℕ). record { start = a; join = b }) (h d (omega arith)) (l d (omega arith)))
    (same_pairs starts starts' joins joins' d (λ i m. h i (omega arith)) (λ i m. l i (omega arith)))

-- A store at place d changes nothing below it.
below_store : (piece : List ℕ) (d x i : ℕ) → i < d → get_or (set piece d x) i 0 ≡ get_or piece i 0
below_store piece d x i h = get_or-set_other piece d i x 0 (λ e. omega arith)

-- A pair stored at place d stands on top of the first d;
pairs_spawned : (starts joins : List ℕ) (d n : ℕ) → d < length starts → d < length joins
    → pairs_in (set starts d n) (set joins d (suc n)) (suc d) ≡ pairs_after spawn n (pairs_in starts joins d)
unfolding pairs_in pairs_after
pairs_spawned starts joins d n h l =
    ap₂ (λ (p : Pair) (ps : List Pair). p ∷ ps)
    (ap₂ (λ (a b : ℕ). record { start = a; join = b }) (get_or-set_same starts d n 0 h) (get_or-set_same joins d (suc n) 0 l))
    (same_pairs starts (set starts d n) joins (set joins d (suc n)) d (below_store starts d n) (below_store joins d (suc n)))

-- a join stored at the top of d pairs is the top one's;
pairs_synced : (starts joins : List ℕ) (d n : ℕ) → 0 < d → d ≤ length joins
    → pairs_in starts (set joins (d - 1) n) d ≡ pairs_after sync n (pairs_in starts joins d)
unfolding pairs_in pairs_after joined
pairs_synced starts joins zero n some l = absurd (omega arith)
pairs_synced starts joins (suc d) n some l =
    let P : ℕ → Type 0 = λ k. pairs_in starts (set joins k n) (suc d) ≡ pairs_after sync n (pairs_in starts joins (suc d)) in
    subst P (sym (sub-one (suc d))) (ap₂ (λ (p : Pair) (ps : List Pair). p ∷ ps)
    (ap (λ (b : ℕ). record { start = get_or starts d 0; join = b }) (get_or-set_same joins d n 0 l))
    (same_pairs starts starts joins (set joins d n) d (λ i h. refl) (below_store joins d n)))

-- and with one pair less the top one is gone.
pairs_returned : (starts joins : List ℕ) (d n : ℕ) → 0 < d → pairs_in starts joins (d - 1) ≡ pairs_after return n (pairs_in starts joins d)
unfolding pairs_in pairs_after
pairs_returned starts joins zero n some = absurd (omega arith)
pairs_returned starts joins (suc d) n some = rw (sub-one (suc d)) refl

-- ---- Events -----------------------------------------------------------------------------------------------------------------------------------

some_pair : (starts joins : List ℕ) (d : ℕ) → 0 < d → pairs_in starts joins d ≢ []
unfolding pairs_in
some_pair starts joins zero h e = omega arith
some_pair starts joins (suc d) h e = cc

-- A piece of the same length, with the same rest: so it is where nothing or a number in the used part was stored.
record Kept (piece piece' : List ℕ) : Type 0 where
  same_length : length piece' ≡ length piece
  same_rest : RestKept piece piece'

untouched : (piece : List ℕ) → Kept piece piece
untouched piece = record { same_length = refl; same_rest = refl }

stored : (piece : List ℕ) (d x : ℕ) → d < piece_size → Kept piece (set piece d x)
stored piece d x h = record { same_length = length-set piece d x; same_rest = drop-set-lt piece_size piece d x h }

-- Where the pairs go forward as an event says, so do the bags, if the last pair is at hand then too.
carried : (act : Act) (starts joins starts' joins' : List ℕ) (pairs pairs' : Pairs) → Room starts joins pairs
    → Kept starts starts' → Kept joins joins' → pairs'.count ≤ piece_size → pairs'.begun ≡ begun_after act pairs.begun
    → pairs_in starts' joins' pairs'.count ≡ pairs_after act pairs.begun (pairs_in starts joins pairs.count)
    → pairs'.start ≡ get_or starts' (pairs'.count - 1) 0 → pairs'.join ≡ get_or joins' (pairs'.count - 1) 0
    → Carries act starts joins pairs starts' joins' pairs'
unfolding bags_in
carried act starts joins starts' joins' pairs pairs' h kept-starts kept-joins few n e start join = record {
  begun_after_lem = n;
  bags = ap₂ as_bags e n ∙ bags_after_lem act pairs.begun (pairs_in starts joins pairs.count) h.in_order;
  room_after = λ some. record {
    starts_fit = omega (arith, h.starts_fit, kept-starts.same_length);
    joins_fit = omega (arith, h.joins_fit, kept-joins.same_length);
    pairs_fit = few;
    main_open = some;
    in_order = rw e (rw n (in_order_after act pairs.begun (pairs_in starts joins pairs.count) h.in_order
        (λ none. some_pair starts' joins' pairs'.count some (e ∙ none))));
    top_start = start;
    top_join = join;
  };
  starts_rest = kept-starts.same_rest;
  joins_rest = kept-joins.same_rest;
}

-- Each of the first d pairs starts below the next one, so there are no more pairs than procedures begun.
pairs_begun : (starts joins : List ℕ) (d n : ℕ) → InOrder (pairs_in starts joins d) n → d ≤ n
unfolding InOrder pairs_in
pairs_begun starts joins zero n h = omega arith
pairs_begun starts joins (suc d) n h = omega (arith, pairs_begun starts joins d (get_or starts d 0) h.2)

pub begins : (starts joins : List ℕ) → piece_size ≤ length starts → piece_size ≤ length joins
    → Begins starts joins (set starts 0 0) (set joins 0 1) (record { count = 1; begun = 1; start = 0; join = 1 })
unfolding bags_in pairs_in as_bags run numbers_from bags_of_new InOrder
begins starts joins h l =
    let first : get_or (set starts 0 0) 0 0 ≡ 0 = get_or-set_same starts 0 0 0 (omega arith) in
    let second : get_or (set joins 0 1) 0 0 ≡ 1 = get_or-set_same joins 0 1 0 (omega arith) in
    let kept-starts : Kept starts (set starts 0 0) = stored starts 0 0 (omega arith) in
    let kept-joins : Kept joins (set joins 0 1) = stored joins 0 1 (omega arith) in
    record {
      begun_one = refl;
      bags = rw first (rw second refl);
      room_after = record {
        starts_fit = omega (arith, kept-starts.same_length);
        joins_fit = omega (arith, kept-joins.same_length);
        pairs_fit = omega arith;
        main_open = omega arith;
        in_order = (omega arith, omega arith, first);
        top_start = sym first;
        top_join = sym second;
      };
      starts_rest = kept-starts.same_rest;
      joins_rest = kept-joins.same_rest;
    }

-- A spawn that is not refused finds room for its pair.
pub record Free (starts joins : List ℕ) (pairs : Pairs) : Type 0 where
  pub small : pairs.count < piece_size
  pub in_starts : pairs.count < length starts
  pub in_joins : pairs.count < length joins

pub room_left : (starts joins : List ℕ) (pairs : Pairs) → Room starts joins pairs → pairs.begun < most_begun → Free starts joins pairs
room_left starts joins pairs h few =
    let few-pairs : pairs.count ≤ pairs.begun = pairs_begun starts joins pairs.count pairs.begun h.in_order in
    record { small = omega arith; in_starts = omega (arith, h.starts_fit); in_joins = omega (arith, h.joins_fit) }

-- A number stored on top is the last one then.
last_stored : (piece : List ℕ) (d x : ℕ) → d < length piece → x ≡ get_or (set piece d x) (suc d - 1) 0
last_stored piece d x h = rw (sub-one (suc d)) (sym (get_or-set_same piece d x 0 h))

-- The pairs with a new one, which is at hand.
abbrev with_new : Pairs → Pairs
with_new pairs = record { count = suc pairs.count; begun = suc pairs.begun; start = pairs.begun; join = suc pairs.begun }

pub spawns : (starts joins : List ℕ) (pairs : Pairs) → Room starts joins pairs → pairs.begun < most_begun
    → Carries spawn starts joins pairs (set starts pairs.count pairs.begun) (set joins pairs.count (pairs.begun + 1))
    (record { count = pairs.count + 1; begun = pairs.begun + 1; start = pairs.begun; join = pairs.begun + 1 })
unfolding begun_after
spawns starts joins pairs h few =
    let left : Free starts joins pairs = room_left starts joins pairs h few in
    rw (add-one pairs.count, add-one pairs.begun)
    (carried spawn starts joins (set starts pairs.count pairs.begun) (set joins pairs.count (suc pairs.begun)) pairs (with_new pairs) h
    (stored starts pairs.count pairs.begun left.small) (stored joins pairs.count (suc pairs.begun) left.small) left.small refl
    (pairs_spawned starts joins pairs.count pairs.begun left.in_starts left.in_joins)
    (last_stored starts pairs.count pairs.begun left.in_starts) (last_stored joins pairs.count (suc pairs.begun) left.in_joins))

-- Whatever a spawn puts on top, a piece is as long as before.
pub pushed_length : (pairs : Pairs) (number : ℕ) (piece : List ℕ) → length (pushed pairs number piece) ≡ length piece
unfolding pushed
pushed_length pairs number piece = by_test (ltb pairs.begun most_begun)
  where
    by_test : (room : Bool) → length (cond room (set piece pairs.count number) piece) ≡ length piece
    by_test true = length-set piece pairs.count number
    by_test false = refl

pub syncs : (starts joins : List ℕ) (pairs : Pairs) → Room starts joins pairs
    → Carries sync starts joins pairs starts (set joins (pairs.count - 1) pairs.begun)
    (record { count = pairs.count; begun = pairs.begun; start = pairs.start; join = pairs.begun })
unfolding begun_after
syncs starts joins pairs h =
    carried sync starts joins starts (set joins (pairs.count - 1) pairs.begun) pairs
    (record { count = pairs.count; begun = pairs.begun; start = pairs.start; join = pairs.begun }) h (untouched starts)
    (stored joins (pairs.count - 1) pairs.begun (omega (arith, h.main_open, h.pairs_fit))) h.pairs_fit refl
    (pairs_synced starts joins pairs.count pairs.begun h.main_open (omega (arith, h.joins_fit, h.pairs_fit))) h.top_start
    (sym (get_or-set_same joins (pairs.count - 1) pairs.begun 0 (omega (arith, h.main_open, h.joins_fit, h.pairs_fit))))

-- The pairs with one less, the one at place `at` at hand: the one below, where there is one.
abbrev pub back_to : List ℕ → List ℕ → Pairs → ℕ → Pairs
back_to starts joins pairs at = record { count = pairs.count - 1; begun = pairs.begun; start = get_or starts at 0; join = get_or joins at 0 }

pub returned : (starts joins : List ℕ) (pairs : Pairs) (at : ℕ) → at ≡ pairs.count - 2 → Room starts joins pairs
    → Carries return starts joins pairs starts joins (back_to starts joins pairs at)
unfolding begun_after
returned starts joins pairs at e h =
    let below : at ≡ pairs.count - 1 - 1 = omega arith in
    carried return starts joins starts joins pairs (back_to starts joins pairs at) h (untouched starts) (untouched joins)
    (omega (arith, h.pairs_fit)) refl (pairs_returned starts joins pairs.count pairs.begun h.main_open)
    (ap (λ (i : ℕ). get_or starts i 0) below) (ap (λ (i : ℕ). get_or joins i 0) below)

-- The top pair is the running procedure's.
runner_on_top : (starts joins : List ℕ) (d n : ℕ) → 0 < d → runner (as_bags (pairs_in starts joins d) n) ≡ get_or starts (d - 1) 0
unfolding runner as_bags pairs_in head_d
runner_on_top starts joins zero n some = absurd (omega arith)
runner_on_top starts joins (suc d) n some = rw (sub-one (suc d)) refl

pub runner_held : (starts joins : List ℕ) (pairs : Pairs) → Room starts joins pairs → pairs.start ≡ runner (bags_in starts joins pairs)
unfolding bags_in
runner_held starts joins pairs h = h.top_start ∙ sym (runner_on_top starts joins pairs.count pairs.begun h.main_open)

-- ---- The question -----------------------------------------------------------------------------------------------------------------------------

-- Each of the pairs starts below the end.
starts_below_end : (starts joins : List ℕ) (d n i : ℕ) → InOrder (pairs_in starts joins d) n → i < d → get_or starts i 0 < n
unfolding InOrder pairs_in
starts_below_end starts joins zero n i h l = absurd (omega arith)
starts_below_end starts joins (suc d) n i h l =
    elim (dec_lt i d) [
      | yes below ↦ omega (arith, h.0, h.1, starts_below_end starts joins d (get_or starts d 0) i h.2 below)
      | no top ↦ same i (omega arith)
    ]
  where
    same : (i : ℕ) → i ≡ d → get_or starts i 0 < n
    same i e = rw e (omega (arith, h.0, h.1))

-- The last pair that starts at or below p holds p, and p is in a P-bag exactly if that pair's join is at or below it.
in_p_at : (starts joins : List ℕ) (d n at p : ℕ) → InOrder (pairs_in starts joins d) n → at < d → get_or starts at 0 ≤ p → p < n
    → (suc at < d → p < get_or starts (suc at) 0) → in_p_bag p (as_bags (pairs_in starts joins d) n) ≡ leb (get_or joins at 0) p
unfolding in_p_bag as_bags InOrder pairs_in
in_p_at starts joins zero n at p h l from to next = absurd (omega arith)
in_p_at starts joins (suc d) n at p h l from to next =
    elim (dec_lt at d) [
      | yes below ↦
          let above : p < get_or starts d 0 = below_top below in
          rw (member_run p (get_or joins d 0) n, between_under p (get_or joins d 0) n (omega (arith, h.0)))
          (in_p_at starts joins d (get_or starts d 0) at p h.2 below from above (λ m. next (omega arith)))
      | no top ↦ here at (omega arith) from
    ]
  where
    below_top : at < d → p < get_or starts d 0
    below_top below =
        elim (dec_lt (suc at) d) [
          | yes deep ↦ omega (arith, next (omega arith), starts_below_end starts joins d (get_or starts d 0) (suc at) h.2 deep)
          | no near ↦ let e : suc at ≡ d = omega arith in rw e at (next (omega arith))
        ]

    here : (at : ℕ) → at ≡ d → get_or starts at 0 ≤ p
        → (member p (run (get_or joins d 0) n) || in_p_bag p (as_bags (pairs_in starts joins d) (get_or starts d 0))) ≡ leb (get_or joins at 0) p
    here at e from =
        rw e
        (rw (
          member_run p (get_or joins d 0) n,
          lt-ltb p n to,
          ap (λ (u : ℕ × Bool × Bool). u.2) (in_none_above p (get_or starts d 0) (pairs_in starts joins d) h.2 (rw e at from)),
          or-false (leb (get_or joins d 0) p && true),
        )
        (and-true (leb (get_or joins d 0) p)))

-- The lowest pair is main's, so main is open exactly if there is a pair.
lowest_start : (starts joins : List ℕ) (d n : ℕ) → InOrder (pairs_in starts joins d) n → 0 < d → get_or starts 0 0 ≡ 0
unfolding InOrder pairs_in
lowest_start starts joins zero n h some = absurd (omega arith)
lowest_start starts joins (suc zero) n h some = h.2
lowest_start starts joins (suc (suc d)) n h some = lowest_start starts joins (suc d) (get_or starts (suc d) 0) h.2 (omega arith)

pub main_owns : (starts joins : List ℕ) (d n : ℕ) → (0 < d → InOrder (pairs_in starts joins d) n)
    → member 0 (map (λ (b : Bags). b.owner) (as_bags (pairs_in starts joins d) n)) ≡ ltb 0 d
unfolding member as_bags pairs_in InOrder
main_owns starts joins zero n h = refl
main_owns starts joins (suc zero) n h = rw (h (omega arith)).2 refl
main_owns starts joins (suc (suc d)) n h =
    rw (main_owns starts joins (suc d) (get_or starts (suc d) 0) (λ some. (h (omega arith)).2))
    (rw (lt-ltb 0 (suc d) (omega arith), lt-ltb 0 (suc (suc d)) (omega arith)) (or-true (eqb 0 (get_or starts (suc d) 0))))

-- There are as many owners as pairs.
pub owners_counted : (starts joins : List ℕ) (d n : ℕ) → length (map (λ (b : Bags). b.owner) (as_bags (pairs_in starts joins d) n)) ≡ d
unfolding as_bags pairs_in
owners_counted starts joins zero n = refl
owners_counted starts joins (suc d) n = ap suc (owners_counted starts joins d (get_or starts d 0))

-- The starts rise from 0, so each is at least its place.
place_below_start : (starts joins : List ℕ) (d n i : ℕ) → InOrder (pairs_in starts joins d) n → i < d → i ≤ get_or starts i 0
unfolding InOrder pairs_in
place_below_start starts joins zero n i h l = absurd (omega arith)
place_below_start starts joins (suc d) n i h l =
    elim (dec_lt i d) [
      | yes below ↦ place_below_start starts joins d (get_or starts d 0) i h.2 below
      | no top ↦ same i (omega arith)
    ]
  where
    same : (i : ℕ) → i ≡ d → i ≤ get_or starts i 0
    same i e = rw e (pairs_begun starts joins d (get_or starts d 0) h.2)

-- The higher of two places has the higher start.
start_rises : (starts joins : List ℕ) (d n i j : ℕ) → InOrder (pairs_in starts joins d) n → i ≤ j → j < d → get_or starts i 0 ≤ get_or starts j 0
unfolding InOrder pairs_in
start_rises starts joins zero n i j h l m = absurd (omega arith)
start_rises starts joins (suc d) n i j h l m =
    elim (dec_lt j d) [
      | yes below ↦ start_rises starts joins d (get_or starts d 0) i j h.2 l below
      | no top ↦ same j (omega arith) l
    ]
  where
    same : (j : ℕ) → j ≡ d → i ≤ j → get_or starts i 0 ≤ get_or starts j 0
    same j e l =
        rw e (elim (dec_lt i d) [
          | yes below ↦ omega (arith, starts_below_end starts joins d (get_or starts d 0) i h.2 below)
          | no there ↦ let f : i ≡ d = omega arith in rw f (omega arith)
        ])

-- What the search asks for: main's pair starts at 0, and the starts rise up to the top.
pub main_starts : (starts joins : List ℕ) (pairs : Pairs) → Room starts joins pairs → get_or starts 0 0 ≡ 0
main_starts starts joins pairs h = lowest_start starts joins pairs.count pairs.begun h.in_order h.main_open

pub starts_rise : (starts joins : List ℕ) (pairs : Pairs) → Room starts joins pairs → Rising starts (pairs.count - 1)
starts_rise starts joins pairs h = record {
  rises = λ i j l m. start_rises starts joins pairs.count pairs.begun i j h.in_order l (omega (arith, h.main_open));
  at_least = λ i l. place_below_start starts joins pairs.count pairs.begun i h.in_order (omega (arith, h.main_open));
}

-- Yes or no: p is told by the join of the pair that holds it, which may be the last one, at hand.
pub found_tells : (starts joins : List ℕ) (pairs : Pairs) (p at : ℕ) → Room starts joins pairs → p < pairs.begun → Found starts (pairs.count - 1) p at
    → leb (get_or joins at 0) p ≡ in_p_bag p (bags_in starts joins pairs)
unfolding bags_in
found_tells starts joins pairs p at h below f =
    sym
    (in_p_at starts joins pairs.count pairs.begun at p h.in_order (omega (arith, f.within, h.main_open)) f.starts_below below
    (λ l. f.next_above (omega arith)))

pub top_tells : (starts joins : List ℕ) (pairs : Pairs) (p : ℕ) → Room starts joins pairs → p < pairs.begun → pairs.start ≤ p
    → leb pairs.join p ≡ in_p_bag p (bags_in starts joins pairs)
top_tells starts joins pairs p h below from =
    ap (λ (join : ℕ). leb join p) h.top_join
    ∙ found_tells starts joins pairs p (pairs.count - 1) h below
    (record { within = omega arith; starts_below = omega (arith, h.top_start); next_above = λ l. absurd (omega arith) })

-- By these `is_parallel` meets its contract.
pub ruleset tells = (main_starts, starts_rise, top_tells, found_tells)

-- p has not begun, and is in no bag; or it has, and is in an S-bag or a P-bag.
pub in_no_bag : (starts joins : List ℕ) (pairs : Pairs) (p : ℕ) → Room starts joins pairs → pairs.begun ≤ p
    → (in_p_bag p (bags_in starts joins pairs) ≡ false) × (in_s_bag p (bags_in starts joins pairs) ≡ false)
unfolding bags_in
in_no_bag starts joins pairs p h above =
    let none = in_none_above p pairs.begun (pairs_in starts joins pairs.count) h.in_order above in
    (ap (λ (u : ℕ × Bool × Bool). u.2) none, ap (λ (u : ℕ × Bool × Bool). u.1) none)

pub in_a_bag : (starts joins : List ℕ) (pairs : Pairs) (p : ℕ) → Room starts joins pairs → p < pairs.begun
    → in_s_bag p (bags_in starts joins pairs) ≡ not (in_p_bag p (bags_in starts joins pairs))
unfolding bags_in
in_a_bag starts joins pairs p h below = in_s_or_p p pairs.begun (pairs_in starts joins pairs.count) h.in_order below

-- Whoever has begun is in a bag, and nobody else.
pub in_some : (starts joins : List ℕ) (pairs : Pairs) (p : ℕ) → Room starts joins pairs → ltb p pairs.begun ≡ in_some_bag p (bags_in starts joins pairs)
unfolding in_some_bag
in_some starts joins pairs p h =
    elim (dec_lt p pairs.begun) [
      | yes below ↦
          rw (lt-ltb _ _ below, in_a_bag starts joins pairs p h below)
          (sym (not-or_self (in_p_bag p (bags_in starts joins pairs))))
      | no above ↦
          let none = in_no_bag starts joins pairs p h (omega arith) in
          rw (le-ltb p pairs.begun (omega arith), none.1, none.0) refl
    ]
