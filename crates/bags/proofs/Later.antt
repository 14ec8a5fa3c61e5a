-- Later events change nothing: what is said of the events before j is the same in two sequences that agree there. Assumes nothing.
use Prim.Native.Nat.{ℕ, zero, suc, ◌<◌, ◌≤◌}
use mathlib.Core.Path.{◌≡◌, refl, sym, ap, ◌∙◌}
use mathlib.Core.List.{List, head_d}
use native.Mathlib.Nat.{le_refl}
use native.Mathlib.Omega.{arith}
use Rattle.bags.specs.Parallel.{Act, opens_after, begun, opens, maker, Parallel}
use Rattle.bags.specs.Bags.{bags_after, bags}
use Rattle.bags.specs.Theorems.{LaterEvents}

-- Two sequences with the same events before j.
abbrev SameBefore : ℕ → (ℕ → Act) → (ℕ → Act) → Type 0
SameBefore j events events' = (k : ℕ) → k < j → events k ≡ events' k

-- They have the same events before any earlier number.
same_earlier : (i j : ℕ) (events events' : ℕ → Act) → i ≤ j → SameBefore j events events' → SameBefore i events events'
same_earlier i j events events' h w k l = w k (omega arith)

-- The number of procedures begun is the same,
later_begun : (j : ℕ) (events events' : ℕ → Act) → SameBefore j events events' → begun events j ≡ begun events' j
unfolding begun
later_begun zero events events' w = refl
later_begun (suc j) events events' w =
    rw (w j (le_refl (suc j)), later_begun j events events' (same_earlier j (suc j) events events' (omega arith) w))

-- so is whatever each event makes anew of itself and that number,
module _ {A : Type 0} (state : (ℕ → Act) → ℕ → A) (after : Act → ℕ → A → A) (first : (events events' : ℕ → Act) → state events 0 ≡ state events' 0)
    (next : (events : ℕ → Act) (k : ℕ) → state events (suc k) ≡ after (events k) (begun events k) (state events k)) where
  later_state : (j : ℕ) (events events' : ℕ → Act) → SameBefore j events events' → state events j ≡ state events' j
  later_state zero events events' w = first events events'
  later_state (suc j) events events' w =
      let before = same_earlier j (suc j) events events' (omega arith) w in
      next events j
      ∙ rw (w j (le_refl (suc j)), later_begun j events events' before, later_state j events events' before) (sym (next events' j))

-- the open procedures,
later_opens : (j : ℕ) (events events' : ℕ → Act) → SameBefore j events events' → opens events j ≡ opens events' j
unfolding opens
later_opens = later_state opens opens_after (λ events events'. refl) (λ events k. refl)

-- the bags,
later_bags : (j : ℕ) (events events' : ℕ → Act) → SameBefore j events events' → bags events j ≡ bags events' j
unfolding bags
later_bags = later_state bags bags_after (λ events events'. refl) (λ events k. refl)

-- who makes an event,
later_maker : (k j : ℕ) (events events' : ℕ → Act) → k ≤ j → SameBefore j events events' → maker events k ≡ maker events' k
unfolding maker
later_maker k j events events' h w = ap (λ (gs : List ℕ). head_d gs 0) (later_opens k events events' (same_earlier k j events events' h w))

-- and who is parallel with j;
later_parallel : (i j : ℕ) (events events' : ℕ → Act) → SameBefore j events events' → Parallel events i j → Parallel events' i j
later_parallel i j events events' w p =
    record {
      s = p.s;
      G = p.G;
      made_by_g = sym (makes p.s (omega arith)) ∙ p.made_by_g;
      r = p.r;
      matching =
          record {
            spawns = sym (w p.s (omega arith)) ∙ p.matching.spawns;
            returns = sym (w p.r (omega arith)) ∙ p.matching.returns;
            made_by_started =
                sym (makes p.r (omega arith)) ∙ p.matching.made_by_started
                ∙ later_begun p.s events events' (same_earlier p.s j events events' (omega arith) w);
          };
      s<i = p.s<i;
      i<r = p.i<r;
      r<j = p.r<j;
      no_sync_of_g = λ k h l e q. p.no_sync_of_g k h l (w k l ∙ e) (makes k (omega arith) ∙ q);
      no_return_of_g = λ k h l e q. p.no_return_of_g k h l (w k l ∙ e) (makes k (omega arith) ∙ q);
    }
  where
    makes : (k : ℕ) → k ≤ j → maker events k ≡ maker events' k
    makes k h = later_maker k j events events' h w

pub later_events : LaterEvents
later_events j events events' w = record {
  same_begun = later_begun j events events' w;
  same_opens = later_opens j events events' w;
  same_maker = later_maker j j events events' (le_refl j) w;
  same_bags = later_bags j events events' w;
  same_parallel = λ i. (later_parallel i j events events' w, later_parallel i j events' events (λ k h. sym (w k h)));
}
