-- The two laws of 002 for the definition of parallel. The first needs nothing of the stack: the witness serves the middle event, or else it had
-- served the first two already. For the second, let (s, r, G) be the first witness and (s', r', G') the second. Where s' comes before a the second
-- serves; else the first does. For s' then comes after r, since bodies nest, and from r on the stack keeps G: it makes nothing in the body of s',
-- and after r' it either is G', or lies under G', which has not returned. Assumes nothing.
use Prim.Native.Nat.{ℕ, suc, ◌<◌, ◌≤◌}
use mathlib.Core.Path.{◌≡◌, sym, ap, ◌∙◌}
use mathlib.Core.Logic.{◌≢◌}
use mathlib.Core.Bool.{true}
use mathlib.Core.List.{List, [], ◌∷◌, ◌++◌, head_d}
use native.Mathlib.Nat.{le_refl}
use native.Mathlib.Decide.{dec_lt}
use native.Mathlib.Omega.{arith}
use lib.Arith.{lt_of_le-ne}
use Rattle.bags.specs.Parallel.{Act, begun, opens, is_main_open, maker, Parallel}
use Rattle.bags.specs.Theorems.{Lemma1, Lemma2}
use Rattle.bags.proofs.Witness.{serves, serves_earlier}
use Rattle.bags.proofs.Stack.{begun_grows, main_open_before, running, maker_begun, in_body, stack_back, bodies_nest}
use Rattle.bags.proofs.Stack.{stays, below_top, maker_highest}

pub lemma_1 : (events : ℕ → Act) → Lemma1 events
lemma_1 events a e j h l no_return not-parallel p =
    elim (dec_lt e p.r) [
      | yes o ↦ serves_earlier events a j e j p (omega arith) o p.r<j (le_refl j)
      | no o ↦ absurd (not-parallel (serves_earlier events a j a e p p.s<i p.i<r (lt_of_le-ne (omega arith) apart) (omega arith)))
    ]
  where
    apart : p.r ≡ e → ⊥
    apart q = no_return (sym (ap events q) ∙ p.matching.returns)

-- Where the second body follows the first, an event from e on is not made by the first G if, after the second body, it is not made by the second G.
later_by_second : (events : ℕ → Act) (a e j : ℕ) → is_main_open events j ≡ true → (p : Parallel events a e) (q : Parallel events e j) → p.r < q.s
    → (k : ℕ) → e ≤ k → k < j → (q.r < k → maker events k ≢ q.G) → maker events k ≢ p.G
unfolding maker head_d
later_by_second events a e j main_open p q follows k h l second same =
    elim (dec_lt k q.r) [
      | yes o ↦ omega (arith, low, in_body events q.s q.r k q.matching (omega arith) o)
      | no o ↦ elim (dec_lt q.r k) [ yes u ↦ after u kept.0 kept.1 | no u ↦ at_return (omega arith) ]
    ]
  where
    g_open : is_main_open events p.s ≡ true
    g_open = main_open_before events p.s j (omega arith) main_open

    low : p.G < begun events q.s
    low = omega (arith, maker_begun events p.s g_open, begun_grows events p.s q.s (omega arith))

    rest : List ℕ
    rest = (running events p.s g_open).0

    kept : (xs : List ℕ) × (opens events q.s ≡ xs ++ p.G ∷ rest)
    kept =
        stays events (suc p.r) q.s p.G rest
        (stack_back events p.s p.r p.matching ∙ (running events p.s g_open).1 ∙ ap (◌∷ rest) p.made_by_g) follows
        (λ n o u. p.no_return_of_g n o (omega arith))

    at_return : k ≡ q.r → ⊥
    at_return u = let new : maker events k ≡ begun events q.s = ap (maker events) u ∙ q.matching.made_by_started in omega (arith, low)

    after : q.r < k → (xs : List ℕ) → opens events q.s ≡ xs ++ p.G ∷ rest → ⊥
    after u [] t = second u (same ∙ sym (ap (λ (gs : List ℕ). head_d gs 0) t) ∙ q.made_by_g)
    after u (x ∷ xs) t =
        let top : x ≡ q.G = sym (ap (λ (gs : List ℕ). head_d gs 0) t) ∙ q.made_by_g in
        let stack = stack_back events q.s q.r q.matching ∙ t in
        let w = stays events (suc q.r) k x (xs ++ p.G ∷ rest) stack u (λ n o v e m. q.no_return_of_g n o (omega arith) e (m ∙ top)) in
        omega (arith, below_top events q.s x p.G xs rest t, maker_highest events k x w.0 (xs ++ p.G ∷ rest) w.1)

pub lemma_2 : (events : ℕ → Act) → Lemma2 events
lemma_2 events a e j main_open h l p q =
    elim (dec_lt q.s a) [
      | yes o ↦ serves_earlier events e j a j q o (omega arith) q.r<j (le_refl j)
      | no o ↦ elim (dec_lt q.s p.r) [ yes u ↦ absurd (nested o u) | no u ↦ by_first (lt_of_le-ne (omega arith) apart) ]
    ]
  where
    nested : (q.s < a → ⊥) → q.s < p.r → ⊥
    nested o u = omega (arith, bodies_nest events p.s p.r q.s q.r p.matching q.matching (omega arith) u)

    apart : p.r ≡ q.s → ⊥
    apart same = cc (p.matching.returns, q.matching.spawns, same)

    by_first : p.r < q.s → Parallel events a j
    by_first o =
        serves events a e a j p p.s<i p.i<r (omega arith)
        (λ k from to y.
        elim (dec_lt k e) [
          | yes early ↦ p.no_sync_of_g k from early y
          | no late ↦ later_by_second events a e j main_open p q o k (omega arith) to (λ after. q.no_sync_of_g k after to y)
        ])
        (λ k from to y.
        elim (dec_lt k e) [
          | yes early ↦ p.no_return_of_g k from early y
          | no late ↦ later_by_second events a e j main_open p q o k (omega arith) to (λ after. q.no_return_of_g k after to y)
        ])
