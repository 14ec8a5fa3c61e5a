-- The SP-bags give the same yes or no as the definition of Parallel. While main is open the bags are the runs of pairs that go forward with the
-- events. By induction on the later event j: a witness of Parallel whose spawn is made by G exactly if the maker of the earlier event is in G's
-- P-run. Spawn and other events change neither. A sync empties the P-run of the running procedure, and no witness made by it goes on. A return
-- hands all the numbers from the returning procedure's own on to the P-run of the next, and is itself the return of a new witness for the events
-- of the body that ends. Assumes nothing.
use Prim.Native.Nat.{ℕ, zero, suc, ◌<◌, ◌≤◌}
use mathlib.Core.Path.{◌≡◌, refl, sym, ap, ◌∙◌}
use mathlib.Core.Logic.{◌≢◌, ◌⊎◌, inl, inr}
use mathlib.Core.Bool.{Bool, true, false, ◌||◌, or-true, true≢false, and-eq-true_iff}
use mathlib.Core.List.{List, [], ◌∷◌, head_d, map}
use native.Mathlib.Nat.{eq-or-lt_of_le, le_of_suc-le-suc}
use native.Mathlib.Omega.{arith}
use native.Mathlib.Decide.{dec_lt}
use lib.Dec.{leb, ltb}
use borrow.Author.Tests.{leb-true, ltb-true}
use Rattle.bags.specs.Parallel.{Act, spawn, return, sync, other, member, begun_after, opens_after}
use Rattle.bags.specs.Parallel.{begun, opens, is_main_open, maker, MatchingReturn, Parallel}
use Rattle.bags.specs.Bags.{Bags, bags_of_new, synced, handed, bags_after, bags, in_p_bag}
use Rattle.bags.specs.Theorems.{BagsOfOpen}
use Rattle.bags.specs.Runs.{Pair, numbers_from, run, as_bags, InOrder}
use Rattle.bags.proofs.Witness.{serves, serves_earlier}
use Rattle.bags.proofs.Stack.{begun_grows, main_open_before, main_was_open, maker_begun, started, in_body, stack_back}
use Rattle.bags.proofs.Runs.{joined, pairs_after, bags_after_lem, in_order_after, between_yes, member_run}

-- ---- where pairs start, and who owns bags

-- Where the pairs start, the last pair first; where the last pair starts; and who owns bags.
abbrev pub starts : List Pair → List ℕ
starts ps = map (λ (x : Pair). x.start) ps

abbrev pub owners : List Bags → List ℕ
owners bs = map (λ (b : Bags). b.owner) bs

unfoldable top : List Pair → ℕ
top ps = head_d (starts ps) 0

-- The bags that pairs stand for are owned by the starts.
pub owners_are_starts : (ps : List Pair) (n : ℕ) → owners (as_bags ps n) ≡ starts ps
unfolding as_bags
owners_are_starts [] n = refl
owners_are_starts (x ∷ ps) n = ap (λ (gs : List ℕ). x.start ∷ gs) (owners_are_starts ps x.start)

-- What an event makes of the bags' owners is what it makes of the open procedures.
owners_after : (act : Act) (n : ℕ) (bs : List Bags) → owners (bags_after act n bs) ≡ opens_after act n (owners bs)
unfolding bags_after opens_after bags_of_new synced handed
owners_after spawn n bs = refl
owners_after return n [] = refl
owners_after return n (c ∷ []) = refl
owners_after return n (c ∷ b ∷ bs) = refl
owners_after sync n [] = refl
owners_after sync n (b ∷ bs) = refl
owners_after other n bs = refl

-- ---- P-runs of pairs

-- p is in the P-run of the pair that starts at G.
unfoldable InP : ℕ → ℕ → List Pair → ℕ → Type 0
InP G p [] n = ⊥
InP G p (x ∷ ps) n = ((x.start ≡ G) × (x.join ≤ p) × (p < n)) ⊎ InP G p ps x.start

-- Then both are below the end.
in_p_below : (G p n : ℕ) (ps : List Pair) → InOrder ps n → InP G p ps n → (G < n) × (p < n)
unfolding InP InOrder
in_p_below G p n [] h o = absurd o
in_p_below G p n (x ∷ ps) h (inl here) = (omega arith, here.2)
in_p_below G p n (x ∷ ps) h (inr deep) =
    let below = in_p_below G p x.start ps h.2 deep in
    (omega arith, omega arith)

-- The running procedure is in no P-run, and an event that is no return leaves it so.
top_not_in_p : (act : Act) (G n : ℕ) (ps : List Pair) → act ≢ return → InOrder ps n → ps ≢ []
    → InP G (top ps) (pairs_after act n ps) (begun_after act n) → ⊥
unfolding InP InOrder pairs_after begun_after joined top head_d
top_not_in_p act G n [] going h some o = some refl
top_not_in_p act G n (x ∷ ps) going h some o = go act going o
  where
    rest : InP G x.start ps x.start → ⊥
    rest deep = let below = in_p_below G x.start x.start ps h.2 deep in omega arith

    go : (act : Act) → act ≢ return → InP G x.start (pairs_after act n (x ∷ ps)) (begun_after act n) → ⊥
    go spawn going (inl new) = omega arith
    go spawn going (inr (inl here)) = omega arith
    go spawn going (inr (inr deep)) = rest deep
    go return going o = going refl
    go sync going (inl here) = omega arith
    go sync going (inr deep) = rest deep
    go other going (inl here) = omega arith
    go other going (inr deep) = rest deep

-- Who is in G's P-run stays there, unless G syncs or returns.
stays_in_p : (act : Act) (G p n : ℕ) (ps : List Pair) → (act ≡ sync → top ps ≢ G) → (act ≡ return → top ps ≢ G) → InOrder ps n
    → InP G p ps n → InP G p (pairs_after act n ps) (begun_after act n)
unfolding InP InOrder pairs_after begun_after joined top head_d
stays_in_p act G p n [] no-sync no_return h o = absurd o
stays_in_p spawn G p n (x ∷ ps) no-sync no_return h o = inr o
stays_in_p return G p n (c ∷ ps) no-sync no_return h (inl here) = absurd (no_return refl here.0)
stays_in_p return G p n (c ∷ []) no-sync no_return h (inr deep) = deep
stays_in_p return G p n (c ∷ b ∷ ps) no-sync no_return h (inr (inl next)) = inl (next.0, next.1, omega arith)
stays_in_p return G p n (c ∷ b ∷ ps) no-sync no_return h (inr (inr deep)) = inr deep
stays_in_p sync G p n (x ∷ ps) no-sync no_return h (inl here) = absurd (no-sync refl here.0)
stays_in_p sync G p n (x ∷ ps) no-sync no_return h (inr deep) = inr deep
stays_in_p other G p n (x ∷ ps) no-sync no_return h o = o

-- At a return the numbers from the returning procedure's own on come into the P-run of the next.
comes_into_p : (G p n : ℕ) (ps : List Pair) → InOrder ps n → pairs_after return n ps ≢ [] → top ps ≤ p → p < n → top (pairs_after return n ps) ≡ G
    → InP G p (pairs_after return n ps) n
unfolding InP InOrder pairs_after top head_d
comes_into_p G p n [] h some from m next = absurd (some refl)
comes_into_p G p n (c ∷ []) h some from m next = absurd (some refl)
comes_into_p G p n (c ∷ b ∷ ps) h some from m next = inl (next, omega arith, m)

-- So whoever is in G's P-run after an event was in it before, and G neither syncs nor returns; or came into it so.
was_or_comes : (act : Act) (G p n : ℕ) (ps : List Pair) → InOrder ps n → p < n → InP G p (pairs_after act n ps) (begun_after act n)
    → (InP G p ps n × (act ≡ sync → top ps ≢ G) × (act ≡ return → top ps ≢ G))
    ⊎ ((act ≡ return) × (G < top ps) × (top ps ≤ p) × (top (pairs_after act n ps) ≡ G))
unfolding InP InOrder pairs_after begun_after joined top head_d
was_or_comes spawn G p n ps h m (inl new) = absurd (omega arith)
was_or_comes spawn G p n ps h m (inr old) =
    inl (old, λ (e : spawn ≡ sync) q. true≢false (cc), λ (e : spawn ≡ return) q. true≢false (cc))
was_or_comes return G p n [] h m o = absurd o
was_or_comes return G p n (c ∷ []) h m o = absurd o
was_or_comes return G p n (c ∷ b ∷ ps) h m (inl next) =
    elim (dec_lt p c.start) [
      | yes before ↦ inl (inr (inl (next.0, next.1, before)), λ e q. omega arith, λ e q. omega arith)
      | no body ↦ inr (refl, omega arith, omega arith, next.0)
    ]
was_or_comes return G p n (c ∷ b ∷ ps) h m (inr deep) =
    let below = in_p_below G p b.start ps h.2.2 deep in
    inl (inr (inr deep), λ e q. omega arith, λ e q. omega arith)
was_or_comes sync G p n [] h m o = absurd o
was_or_comes sync G p n (x ∷ ps) h m (inl here) = absurd (omega arith)
was_or_comes sync G p n (x ∷ ps) h m (inr deep) =
    let below = in_p_below G p x.start ps h.2 deep in
    inl (inr deep, λ e q. omega arith, λ e q. omega arith)
was_or_comes other G p n ps h m o =
    inl (o, λ (e : other ≡ sync) q. true≢false (cc), λ (e : other ≡ return) q. true≢false (cc))

-- Whoever is in somebody's P-run is in a P-bag, and the other way round.
in_p_bag_lem : (G p n : ℕ) (ps : List Pair) → InP G p ps n → in_p_bag p (as_bags ps n) ≡ true
unfolding InP in_p_bag as_bags
in_p_bag_lem G p n [] o = absurd o
in_p_bag_lem G p n (x ∷ ps) (inl here) = rw (member_run p x.join n, between_yes p x.join n here.1 here.2)
in_p_bag_lem G p n (x ∷ ps) (inr deep) = rw (in_p_bag_lem G p x.start ps deep) (or-true (member p (run x.join n)))

whose_p_bag : (p n : ℕ) (ps : List Pair) → in_p_bag p (as_bags ps n) ≡ true → (G : ℕ) × InP G p ps n
unfolding InP in_p_bag as_bags
whose_p_bag p n [] e = absurd (true≢false (sym e))
whose_p_bag p n (x ∷ ps) e = go (member p (run x.join n)) refl e (whose_p_bag p x.start ps)
  where
    go : (b : Bool) → member p (run x.join n) ≡ b → (b || in_p_bag p (as_bags ps x.start)) ≡ true
        → (in_p_bag p (as_bags ps x.start) ≡ true → (G : ℕ) × InP G p ps x.start)
        → (G : ℕ) × (((x.start ≡ G) × (x.join ≤ p) × (p < n)) ⊎ InP G p ps x.start)
    go true q e deeper =
        let ends = (and-eq-true_iff (leb x.join p) (ltb p n)).0 (sym (member_run p x.join n) ∙ q) in
        (x.start, inl (refl, leb-true x.join p ends.0, ltb-true p n ends.1))
    go false q e deeper = let deep = deeper e in (deep.0, inr deep.1)

-- ---- the pairs before each event

-- An event before the one that follows j is j or before j.
last_or_before : (k j : ℕ) → k < suc j → (k ≡ j) ⊎ (k < j)
last_or_before k j h = eq-or-lt_of_le (le_of_suc-le-suc h)

module _ (events : ℕ → Act) where
  -- The pairs before event k: main alone at the start.
  unfoldable pub pairs_before : ℕ → List Pair
  pairs_before zero = record { start = 0; join = 1 } ∷ []
  pairs_before (suc k) = pairs_after (events k) (begun events k) (pairs_before k)

  -- The bags are those of the open procedures.
  pub bags_of_open : BagsOfOpen events
  unfolding bags opens bags_of_new
  bags_of_open zero = refl
  bags_of_open (suc k) = owners_after (events k) (begun events k) (bags events k) ∙ ap (opens_after (events k) (begun events k)) (bags_of_open k)

  -- So pairs whose runs they are start with the open procedures, and while main is open there is one.
  starts_opens : (k : ℕ) (ps : List Pair) → bags events k ≡ as_bags ps (begun events k) → starts ps ≡ opens events k
  starts_opens k ps e = sym (owners_are_starts ps (begun events k)) ∙ ap owners (sym e) ∙ bags_of_open k

  some_pair : (k : ℕ) (ps : List Pair) → bags events k ≡ as_bags ps (begun events k) → is_main_open events k ≡ true → ps ≢ []
  unfolding is_main_open member
  some_pair k ps e main none =
      let nobody : opens events k ≡ [] = sym (starts_opens k ps e) ∙ ap starts none in
      true≢false (sym main ∙ ap (member 0) nobody)

  -- While main is open the pairs are in order, and the bags are their runs.
  in_order_and_runs : (k : ℕ) → is_main_open events k ≡ true
      → InOrder (pairs_before k) (begun events k) × (bags events k ≡ as_bags (pairs_before k) (begun events k))
  unfolding pairs_before begun bags as_bags bags_of_new run numbers_from InOrder
  in_order_and_runs zero main = ((omega arith, omega arith, refl), refl)
  in_order_and_runs (suc k) main =
      let before = in_order_and_runs k (main_was_open events k main) in
      let runs : bags events (suc k) ≡ as_bags (pairs_before (suc k)) (begun events (suc k)) =
      ap (bags_after (events k) (begun events k)) before.1 ∙ sym (bags_after_lem (events k) (begun events k) (pairs_before k) before.0) in
      (in_order_after (events k) (begun events k) (pairs_before k) before.0 (some_pair (suc k) (pairs_before (suc k)) runs main), runs)

  pub in_order : (k : ℕ) → is_main_open events k ≡ true → InOrder (pairs_before k) (begun events k)
  in_order k main = (in_order_and_runs k main).0

  pub bags_are_runs : (k : ℕ) → is_main_open events k ≡ true → bags events k ≡ as_bags (pairs_before k) (begun events k)
  bags_are_runs k main = (in_order_and_runs k main).1

  pair_left : (k : ℕ) → is_main_open events k ≡ true → pairs_before k ≢ []
  pair_left k main = some_pair k (pairs_before k) (bags_are_runs k main) main

  -- The last pair is the running procedure's.
  top_is_maker : (k : ℕ) → is_main_open events k ≡ true → top (pairs_before k) ≡ maker events k
  unfolding top maker
  top_is_maker k main = ap (λ (gs : List ℕ). head_d gs 0) (starts_opens k (pairs_before k) (bags_are_runs k main))

  -- ---- witnesses and P-runs

  -- Who makes an event has begun, and so it is later.
  pub maker_begun_later : (i j : ℕ) → i ≤ j → is_main_open events j ≡ true → maker events i < begun events j
  maker_begun_later i j h main = omega (arith, maker_begun events i (main_open_before events i j h main), begun_grows events i j h)

  -- A witness for j is one for the event after j, unless its procedure syncs or returns at j.
  unfoldable longer : (i j : ℕ) (w : Parallel events i j) → (events j ≡ sync → maker events j ≢ w.G) → (events j ≡ return → maker events j ≢ w.G)
      → Parallel events i (suc j)
  longer i j w no-sync no_return =
      serves events i j i (suc j) w w.s<i w.i<r (omega (arith, w.r<j))
      (λ k from to. go sync k (w.no_sync_of_g k from) no-sync (last_or_before k j to))
      (λ k from to. go return k (w.no_return_of_g k from) no_return (last_or_before k j to))
    where
      go : (act : Act) (k : ℕ) → (k < j → events k ≡ act → maker events k ≢ w.G) → (events j ≡ act → maker events j ≢ w.G)
          → (k ≡ j) ⊎ (k < j) → events k ≡ act → maker events k ≢ w.G
      go act k old new (inl same) e q = new (ap events (sym same) ∙ e) (ap (maker events) (sym same) ∙ q)
      go act k old new (inr before) e q = old before e q

  -- After a matching return whoever made the spawn runs again, and the last pair starts with it.
  top_at_return : (s r : ℕ) → is_main_open events (suc r) ≡ true → MatchingReturn events s r → top (pairs_before (suc r)) ≡ maker events s
  unfolding maker
  top_at_return s r main m = top_is_maker (suc r) main ∙ ap (λ (gs : List ℕ). head_d gs 0) (stack_back events s r m)

  -- Right after a witness's return, the maker of the earlier event is in the P-run of the procedure that made the spawn,
  at_the_return : (i j : ℕ) (w : Parallel events i j) → is_main_open events (suc w.r) ≡ true
      → InP w.G (maker events i) (pairs_before (suc w.r)) (begun events (suc w.r))
  unfolding pairs_before begun begun_after
  at_the_return i j w main =
      let s = w.s in
      let r = w.r in
      let returned = w.matching.returns in
      let open-at-r = main_was_open events r main in
      let inside = in_body events s r i w.matching w.s<i w.i<r in
      let ends : top (pairs_before r) ≤ maker events i = omega (arith, top_is_maker r open-at-r, w.matching.made_by_started, inside) in
      let begins = maker_begun_later i r (omega (arith, w.i<r)) open-at-r in
      let next = top_at_return s r main w.matching ∙ w.made_by_g in
      rw returned
      (comes_into_p w.G (maker events i) (begun events r) (pairs_before r) (in_order r open-at-r) (rw returned at (pair_left (suc r) main)) ends begins
      (rw returned at next))

  -- and so it is until the procedure syncs or returns.
  witness_in_p : (j i : ℕ) → is_main_open events j ≡ true → (w : Parallel events i j) → InP w.G (maker events i) (pairs_before j) (begun events j)
  unfolding pairs_before begun serves_earlier serves
  witness_in_p zero i main w = absurd (omega (arith, w.r<j))
  witness_in_p (suc j) i main w = go (witness_in_p j i before) (last_or_before w.r j w.r<j)
    where
      before : is_main_open events j ≡ true
      before = main_was_open events j main

      go : ((w : Parallel events i j) → InP w.G (maker events i) (pairs_before j) (begun events j)) → (w.r ≡ j) ⊎ (w.r < j)
          → InP w.G (maker events i) (pairs_before (suc j)) (begun events (suc j))
      go old (inl now) = rw now at (at_the_return i (suc j) w (rw now main))
      go old (inr earlier) =
          stays_in_p (events j) w.G (maker events i) (begun events j) (pairs_before j)
          (λ e q. w.no_sync_of_g j earlier (omega arith) e (sym (top_is_maker j before) ∙ q))
          (λ e q. w.no_return_of_g j earlier (omega arith) e (sym (top_is_maker j before) ∙ q)) (in_order j before)
          (old (serves_earlier events i (suc j) i j w w.s<i w.i<r earlier (omega arith)))

  -- The body of a procedure that returns: an event in it is parallel with the event after the return.
  witness_of_body : (G i j : ℕ) → i < j → is_main_open events (suc j) ≡ true → events j ≡ return → G < top (pairs_before j) → top (pairs_before j) ≤ maker events i
      → top (pairs_before (suc j)) ≡ G → (w : Parallel events i (suc j)) × (w.G ≡ G)
  witness_of_body G i j h main returned some body next =
      let before = main_was_open events j main in
      let begins = started events j (maker events j) (omega (arith, top_is_maker j before)) (maker_begun events j before) in
      let s = begins.0 in
      let matching : MatchingReturn events s j = record { spawns = begins.2; returns = returned; made_by_started = sym begins.3 } in (
        record {
          s = s;
          G = G;
          made_by_g = sym (top_at_return s j main matching) ∙ next;
          r = j;
          matching = matching;
          s<i =
              elim (dec_lt s i) [
                | yes after ↦ after
                | no late ↦
                    let old = maker_begun_later i s (omega arith) (main_open_before events s j (omega (arith, begins.1)) before) in
                    absurd (omega (arith, top_is_maker j before, begins.3))
              ];
          i<r = h;
          r<j = omega arith;
          no_sync_of_g = λ k from to. absurd (omega arith);
          no_return_of_g = λ k from to. absurd (omega arith);
        },
        refl,
      )

  -- Whoever is in G's P-run has a witness made by G.
  in_p_witness : (j i G : ℕ) → i < j → events i ≢ return → is_main_open events j ≡ true → InP G (maker events i) (pairs_before j) (begun events j)
      → (w : Parallel events i j) × (w.G ≡ G)
  unfolding pairs_before begun longer serves
  in_p_witness zero i G h going main o = absurd (omega arith)
  in_p_witness (suc j) i G h going main o = go (last_or_before i j h) (λ m. in_p_witness j i G m going before)
    where
      before : is_main_open events j ≡ true
      before = main_was_open events j main

      goes_on : i < j → (InP G (maker events i) (pairs_before j) (begun events j) → (w : Parallel events i j) × (w.G ≡ G))
          → (InP G (maker events i) (pairs_before j) (begun events j) × (events j ≡ sync → top (pairs_before j) ≢ G) × (events j ≡ return → top (pairs_before j) ≢ G))
          ⊎ ((events j ≡ return) × (G < top (pairs_before j)) × (top (pairs_before j) ≤ maker events i) × (top (pairs_before (suc j)) ≡ G))
          → (w : Parallel events i (suc j)) × (w.G ≡ G)
      goes_on m old (inl (was, no-sync, no_return)) =
          let (w, by-G) = old was in
          (longer i j w (λ e q. no-sync e (top_is_maker j before ∙ q ∙ by-G)) (λ e q. no_return e (top_is_maker j before ∙ q ∙ by-G)), by-G)
      goes_on m old (inr (returned, some, body, next)) = witness_of_body G i j m main returned some body next

      go : (i ≡ j) ⊎ (i < j) → (i < j → InP G (maker events i) (pairs_before j) (begun events j) → (w : Parallel events i j) × (w.G ≡ G))
          → (w : Parallel events i (suc j)) × (w.G ≡ G)
      go (inl now) old =
          absurd
          (top_not_in_p (events j) G (begun events j) (pairs_before j) (rw now at going) (in_order j before) (pair_left j before)
          (rw (top_is_maker j before) (rw now at o)))
      go (inr earlier) old =
          let begins = maker_begun_later i j (omega arith) before in
          goes_on earlier (old earlier) (was_or_comes (events j) G (maker events i) (begun events j) (pairs_before j) (in_order j before) begins o)

-- ---- the bags and the definition

-- A witness, exactly if the maker of the earlier event is in a P-bag.
pub parallel_in_p_bag : (events : ℕ → Act) (i j : ℕ) → is_main_open events j ≡ true → Parallel events i j → in_p_bag (maker events i) (bags events j) ≡ true
parallel_in_p_bag events i j main w =
    rw (bags_are_runs events j main) (in_p_bag_lem w.G (maker events i) (begun events j) (pairs_before events j) (witness_in_p events j i main w))

pub in_p_bag_parallel : (events : ℕ → Act) (i j : ℕ) → i < j → events i ≢ return → is_main_open events j ≡ true
    → in_p_bag (maker events i) (bags events j) ≡ true → Parallel events i j
in_p_bag_parallel events i j h going main e =
    let whose = whose_p_bag (maker events i) (begun events j) (pairs_before events j) (rw (bags_are_runs events j main) at e) in
    (in_p_witness events j i whose.0 h going main whose.1).0
