-- Bags as runs: pairs and bags go forward together, and who is in a bag is told by comparing numbers. Two runs that follow one another are one run,
-- so each event makes of the runs what it makes of the bags; that is a case per event. A number is in a run exactly if it lies between its ends; and
-- since the runs of pairs in order fill the numbers below the end, each of these is in exactly one of them: by induction on the pairs, the number
-- lying below the first pair's runs, in its S-run or in its P-run. Assumes nothing.
use Prim.Native.Nat.{ℕ, zero, suc, ◌+◌, ◌-◌, ◌<◌, ◌≤◌}
use mathlib.Core.Path.{◌≡◌, refl, sym, ap, ap₂, ◌∙◌}
use mathlib.Core.Logic.{◌≢◌, ◌⊎◌, inl, inr, ⊎_elim, ⊎_map}
use mathlib.Core.Bool.{Bool, true, false, cond, not, ◌&&◌, ◌||◌, and-false}
use mathlib.Core.List.{List, [], ◌∷◌, ◌++◌, tail}
use native.Mathlib.Nat.{sub_self, zero-add}
use native.Mathlib.Omega.{arith}
use native.Mathlib.Decide.{dec_lt}
use lib.Dec.{eqb, leb, ltb}
use borrow.Author.Tests.{lt-ltb, le-ltb, le-leb, lt-leb, eq-eqb, ne_eqb}
use Rattle.bags.specs.Parallel.{Act, spawn, return, sync, other, member, begun_after}
use Rattle.bags.specs.Bags.{Bags, bags_of_new, synced, handed, bags_after, in_s_bag, in_p_bag, times_in, times_in_bags}
use Rattle.bags.specs.Runs.{Pair, numbers_from, run, as_bags, InOrder}

-- ---- runs end to end

-- m numbers from a on, and n numbers from where they end, are m + n numbers from a on.
numbers_join : (a m n b l : ℕ) → b ≡ a + m → l ≡ m + n → numbers_from a m ++ numbers_from b n ≡ numbers_from a l
unfolding numbers_from
numbers_join a zero n b l p q =
    let here : b ≡ a = omega arith in
    let all : n ≡ l = omega arith in
    ap₂ numbers_from here all
numbers_join a (suc m) n b zero p q = absurd (omega arith)
numbers_join a (suc m) n b (suc l) p q = ap (λ (xs : List ℕ). a ∷ xs) (numbers_join (suc a) m n b l (omega arith) (omega arith))

-- A run up to b and the run from b on are one run.
run_join : (a b c : ℕ) → a ≤ b → b ≤ c → run a b ++ run b c ≡ run a c
unfolding run
run_join a b c h m = numbers_join a (b - a) (c - b) b (c - a) (omega arith) (omega arith)

-- A run that ends where it begins is empty, and one that ends right after that has one number.
run_empty : (n : ℕ) → run n n ≡ []
unfolding run numbers_from
run_empty n = ap (numbers_from n) (sub_self n)

run_single : (n : ℕ) → run n (suc n) ≡ n ∷ []
unfolding run numbers_from
run_single n =
    let one : suc n - n ≡ 1 = omega arith in
    ap (numbers_from n) one

-- ---- an event

-- What an event makes of the pairs, n procedures having begun.
unfoldable pub joined : ℕ → List Pair → List Pair
joined n [] = []
joined n (p ∷ ps) = record { start = p.start; join = n } ∷ ps

unfoldable pub pairs_after : Act → ℕ → List Pair → List Pair
pairs_after spawn n ps = record { start = n; join = suc n } ∷ ps
pairs_after return n ps = tail ps
pairs_after sync n ps = joined n ps
pairs_after other n ps = ps

-- What an event makes of the pairs stands for what it makes of the bags, and leaves the pairs in order while one is left.
pub bags_after_lem : (act : Act) (n : ℕ) (ps : List Pair) → InOrder ps n → as_bags (pairs_after act n ps) (begun_after act n) ≡ bags_after act n (as_bags ps n)
unfolding as_bags InOrder pairs_after begun_after bags_after bags_of_new synced handed joined
bags_after_lem spawn n ps h = rw (run_single n, run_empty (suc n))
bags_after_lem return n [] h = refl
bags_after_lem return n (c ∷ []) h = refl
bags_after_lem return n (c ∷ b ∷ ps) h =
    rw (run_join c.start c.join n (omega arith) (omega arith), run_join b.join c.start n (omega arith) (omega arith))
bags_after_lem sync n [] h = refl
bags_after_lem sync n (p ∷ ps) h = rw (run_join p.start p.join n (omega arith) (omega arith), run_empty n)
bags_after_lem other n ps h = refl

pub in_order_after : (act : Act) (n : ℕ) (ps : List Pair) → InOrder ps n → pairs_after act n ps ≢ [] → InOrder (pairs_after act n ps) (begun_after act n)
unfolding InOrder pairs_after begun_after joined
in_order_after spawn n ps h some = (omega arith, omega arith, h)
in_order_after return n [] h some = absurd (some refl)
in_order_after return n (c ∷ []) h some = absurd (some refl)
in_order_after return n (c ∷ b ∷ ps) h some = (h.2.0, omega arith, h.2.2)
in_order_after sync n [] h some = absurd (some refl)
in_order_after sync n (p ∷ ps) h some = (omega arith, omega arith, h.2)
in_order_after other n ps h some = h

-- ---- who is in a run

-- Does p lie from a up to b, b left out?
abbrev pub between : ℕ → ℕ → ℕ → Bool
between p a b = leb a p && ltb p b

-- Yes, where it does; no, where it lies below a, where it lies at or above b, and where there is nothing between.
pub between_yes : (p a b : ℕ) → a ≤ p → p < b → between p a b ≡ true
between_yes p a b h m = rw (le-leb a p h, lt-ltb p b m)

pub between_under : (p a b : ℕ) → p < a → between p a b ≡ false
between_under p a b h = rw (lt-leb a p h)

between_over : (p a b : ℕ) → b ≤ p → between p a b ≡ false
between_over p a b h = rw (le-ltb p b h) (and-false (leb a p))

between_none : (p a b : ℕ) → b ≤ a → between p a b ≡ false
between_none p a b h = elim (dec_lt p a) [ yes under ↦ between_under p a b under | no over ↦ between_over p a b (omega arith) ]

-- Two tests, whether p is the first of a run and whether p is among the others, make the test whether p is in the run: never do both say yes.
module _ {A : Type 0} (both : Bool → Bool → A) (one : Bool → A) (others : (y : Bool) → both false y ≡ one y)
    (first : both true false ≡ one true) where
  first_of_run : (p a b : ℕ) → a < b → both (eqb p a) (between p (suc a) b) ≡ one (between p a b)
  first_of_run p a b h =
      elim (dec_lt p a) [
        | yes under ↦ rw (ne_eqb p a (λ (q : p ≡ a). omega arith), between_under p (suc a) b (omega arith), between_under p a b under) (others false)
        | no over ↦
            elim (dec_lt a p) [
              | yes above ↦ rw (ne_eqb p a (λ (q : p ≡ a). omega arith), le-leb (suc a) p above, le-leb a p (omega arith)) (others (ltb p b))
              | no same ↦ rw (eq-eqb p a (omega arith), between_under p (suc a) b (omega arith), between_yes p a b (omega arith) (omega arith)) first
            ]
      ]

-- A number is in a run exactly if it lies between its ends,
pub member_run : (p a b : ℕ) → member p (run a b) ≡ between p a b
unfolding member run numbers_from
member_run p a b = go (b - a) a refl
  where
    go : (n a : ℕ) → b - a ≡ n → member p (numbers_from a n) ≡ between p a b
    go zero a e = sym (between_none p a b (omega arith))
    go (suc n) a e = ap (λ (x : Bool). eqb p a || x) (go n (suc a) (omega arith)) ∙ first_of_run ◌||◌ (λ x. x) (λ y. refl) refl p a b (omega arith)

-- and then once.
times_run : (p a b : ℕ) → times_in p (run a b) ≡ cond (between p a b) 1 0
unfolding times_in run numbers_from
times_run p a b = go (b - a) a refl
  where
    go : (n a : ℕ) → b - a ≡ n → times_in p (numbers_from a n) ≡ cond (between p a b) 1 0
    go zero a e = rw (between_none p a b (omega arith))
    go (suc n) a e =
        ap (λ (x : ℕ). cond (eqb p a) 1 0 + x) (go n (suc a) (omega arith))
        ∙ first_of_run (λ x y. cond x 1 0 + cond y 1 0) (λ x. cond x 1 0) (λ y. zero-add (cond y 1 0)) refl p a b (omega arith)

-- ---- who is in the bags that pairs stand for

-- What is told of p: in how many of the bags it is, whether in an S-bag, and whether in a P-bag.
abbrev pub told : ℕ → List Bags → ℕ × Bool × Bool
told p bs = (times_in_bags p bs, in_s_bag p bs, in_p_bag p bs)

-- One pair more adds what its two runs tell.
told_more : (p n : ℕ) (x : Pair) (ps : List Pair) (serial beside : Bool) → between p x.start x.join ≡ serial → between p x.join n ≡ beside
    → (times : ℕ) (series parallel : Bool) → told p (as_bags ps x.start) ≡ (times, series, parallel)
    → told p (as_bags (x ∷ ps) n) ≡ (cond serial 1 0 + cond beside 1 0 + times, serial || series, beside || parallel)
unfolding times_in_bags in_s_bag in_p_bag as_bags
told_more p n x ps serial beside s b times series parallel rest =
    rw (times_run p x.start x.join, times_run p x.join n, member_run p x.start x.join, member_run p x.join n, s, b)
    (ap (λ (t : ℕ × Bool × Bool). (cond serial 1 0 + cond beside 1 0 + t.0, serial || t.1, beside || t.2)) rest)

-- Nobody from the end on is in any of them,
pub in_none_above : (p n : ℕ) (ps : List Pair) → InOrder ps n → n ≤ p → told p (as_bags ps n) ≡ (0, false, false)
unfolding times_in_bags in_s_bag in_p_bag as_bags InOrder
in_none_above p n [] h m = refl
in_none_above p n (x ∷ ps) h m =
    told_more p n x ps false false (between_over p x.start x.join (omega arith)) (between_over p x.join n m) 0 false false
    (in_none_above p x.start ps h.2 (omega arith))

-- and every number below the end is in exactly one of them, an S-bag or a P-bag.
in_one_below : (p n : ℕ) (ps : List Pair) → InOrder ps n → p < n
    → (told p (as_bags ps n) ≡ (1, true, false)) ⊎ (told p (as_bags ps n) ≡ (1, false, true))
unfolding InOrder
in_one_below p n [] h m = absurd (omega arith)
in_one_below p n (x ∷ ps) h m =
    elim (dec_lt p x.start) [
      | yes deep ↦
          let more = told_more p n x ps false false (between_under p x.start x.join deep) (between_under p x.join n (omega arith)) 1 in
          ⊎_map (more true false) (more false true) (in_one_below p x.start ps h.2 deep)
      | no here ↦
          let rest = in_none_above p x.start ps h.2 (omega arith) in
          elim (dec_lt p x.join) [
            | yes serial ↦
                inl
                (told_more p n x ps true false (between_yes p x.start x.join (omega arith) serial) (between_under p x.join n serial) 0 false
                false rest)
            | no beside ↦
                inr
                (told_more p n x ps false true (between_over p x.start x.join (omega arith)) (between_yes p x.join n (omega arith) m) 0 false
                false rest)
          ]
    ]

pub once_below : (p n : ℕ) (ps : List Pair) → InOrder ps n → p < n → times_in_bags p (as_bags ps n) ≡ 1
once_below p n ps h m =
    let times : ℕ × Bool × Bool → ℕ = λ (u : ℕ × Bool × Bool). u.0 in
    ⊎_elim (ap times) (ap times) (in_one_below p n ps h m)

pub in_s_or_p : (p n : ℕ) (ps : List Pair) → InOrder ps n → p < n → in_s_bag p (as_bags ps n) ≡ not (in_p_bag p (as_bags ps n))
in_s_or_p p n ps h m = ⊎_elim (both true false refl) (both false true refl) (in_one_below p n ps h m)
  where
    both : (series parallel : Bool) → series ≡ not parallel → told p (as_bags ps n) ≡ (1, series, parallel)
        → in_s_bag p (as_bags ps n) ≡ not (in_p_bag p (as_bags ps n))
    both series parallel e t = ap (λ (u : ℕ × Bool × Bool). u.1) t ∙ e ∙ sym (ap (λ (u : ℕ × Bool × Bool). not u.2) t)
