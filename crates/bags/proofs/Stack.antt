-- The stack of open procedures: what it is before each event, and how a body is bracketed by its spawn and its return. What one event does to a
-- stack is shown by cases of the event, and carried from one event to a later one by induction: the numbers fall from the top on; who has begun
-- and is not open is never open again; who is open and does not return stays open, and what lies under it stays as it is. Assumes nothing.
use Prim.Native.Nat.{ℕ, zero, suc, ◌<◌, ◌≤◌, zero-le, suc-le-suc}
use mathlib.Core.Path.{◌≡◌, refl, sym, ap, subst, ◌∙◌}
use mathlib.Core.Logic.{◌≢◌, ⊎_elim}
use mathlib.Core.Bool.{Bool, true, false, false≢true}
use mathlib.Core.List.{List, [], ◌∷◌, ◌++◌, tail, head_d}
use native.Mathlib.Nat.{le_refl, eq-or-lt_of_le}
use native.Mathlib.Decide.{dec_lt}
use native.Mathlib.Omega.{arith}
use lib.Dec.{eqb}
use borrow.Author.Tests.{eq-eqb, ne_eqb}
use Rattle.std.proofs.lemmas.Bool.{or_parts}
use Rattle.bags.specs.Parallel.{Act, spawn, return, sync, other, member, begun_after, opens_after, begun, opens, is_main_open, maker, MatchingReturn}

-- What holds of i, and goes on from each number to the next, holds from i on.
from_on : (P : ℕ → Type 0) (i : ℕ) → P i → ((k : ℕ) → i ≤ k → P k → P (suc k)) → (k : ℕ) → i ≤ k → P k
from_on P i base step zero h = subst P (omega arith) base
from_on P i base step (suc k) h =
    ⊎_elim (λ (q : i ≡ suc k). subst P q base) (λ (l : i < suc k). step k (omega arith) (from_on P i base step k (omega arith))) (eq-or-lt_of_le h)

-- ---- one stack

-- The numbers fall from the top of the stack on, from below n.
unfoldable Falling : ℕ → List ℕ → Type 0
Falling n [] = Unit {0}
Falling n (g ∷ gs) = (g < n) × Falling g gs

-- Who falls from below m falls from below any greater number.
falls_from_above : (m n : ℕ) (gs : List ℕ) → m ≤ n → Falling m gs → Falling n gs
unfolding Falling
falls_from_above m n [] h f = tt
falls_from_above m n (g ∷ gs) h f = (omega arith, f.1)

-- Numbers from n on are not in a stack that falls from below n.
not_above : (n p : ℕ) (gs : List ℕ) → Falling n gs → n ≤ p → member p gs ≡ false
unfolding Falling member
not_above n p [] f h = refl
not_above n p (g ∷ gs) f h = rw (ne_eqb p g (λ (q : p ≡ g). omega arith)) (not_above g p gs f.1 (omega arith))

-- Who is in the stack, whoever lies above, is below where it falls from.
below_where_it_falls_from : (n g : ℕ) (xs rest : List ℕ) → Falling n (xs ++ g ∷ rest) → g < n
unfolding Falling
below_where_it_falls_from n g [] rest f = f.0
below_where_it_falls_from n g (x ∷ xs) rest f = omega (arith, f.0, below_where_it_falls_from x g xs rest f.1)

-- A stack with somebody in it is its top on the rest.
top_and_rest : (gs : List ℕ) → gs ≢ [] → (rest : List ℕ) × (gs ≡ head_d gs 0 ∷ rest)
unfolding head_d
top_and_rest [] some = absurd (some refl)
top_and_rest (g ∷ gs) some = (gs, refl)

-- ---- one event

-- No event takes back that a procedure has begun.
begun_after_grows : (act : Act) (n : ℕ) → n ≤ begun_after act n
unfolding begun_after
begun_after_grows spawn n = omega arith
begun_after_grows return n = le_refl n
begun_after_grows sync n = le_refl n
begun_after_grows other n = le_refl n

-- The stack still falls from the number of procedures begun.
falls_after : (act : Act) (n : ℕ) (gs : List ℕ) → Falling n gs → Falling (begun_after act n) (opens_after act n gs)
unfolding Falling begun_after opens_after
falls_after spawn n gs f = (le_refl (suc n), f)
falls_after return n [] f = tt
falls_after return n (g ∷ gs) f = falls_from_above g n gs (omega arith) f.1
falls_after sync n gs f = f
falls_after other n gs f = f

-- Who has begun and is not open is not opened.
closed_after : (act : Act) (n g : ℕ) (gs : List ℕ) → g < n → member g gs ≡ false → member g (opens_after act n gs) ≡ false
unfolding opens_after member
closed_after spawn n g gs h m = rw (ne_eqb g n (λ (q : g ≡ n). omega arith)) m
closed_after return n g [] h m = m
closed_after return n g (x ∷ xs) h m = (or_parts (eqb g x) (member g xs) m).1
closed_after sync n g gs h m = m
closed_after other n g gs h m = m

-- Who is open and does not return stays open, and what lies under it stays as it is.
stays_after : (act : Act) (n g : ℕ) (gs xs rest : List ℕ) → gs ≡ xs ++ g ∷ rest → (act ≡ return → head_d gs 0 ≢ g)
    → (ys : List ℕ) × (opens_after act n gs ≡ ys ++ g ∷ rest)
unfolding opens_after head_d
stays_after spawn n g gs xs rest q f = (n ∷ xs, ap (n ∷◌) q)
stays_after return n g gs [] rest q f = absurd (f refl (ap (λ (l : List ℕ). head_d l 0) q))
stays_after return n g gs (x ∷ xs) rest q f = (xs, ap tail q)
stays_after sync n g gs xs rest q f = (xs, q)
stays_after other n g gs xs rest q f = (xs, q)

-- ---- all events

module _ (events : ℕ → Act) where
  -- Before each event the stack falls from the number of procedures begun.
  opens_fall : (k : ℕ) → Falling (begun events k) (opens events k)
  unfolding Falling begun opens
  opens_fall zero = (suc-le-suc zero-le, tt)
  opens_fall (suc k) = falls_after (events k) (begun events k) (opens events k) (opens_fall k)

  -- The numbers begun only grow.
  pub begun_grows : (i k : ℕ) → i ≤ k → begun events i ≤ begun events k
  unfolding begun
  begun_grows i =
      from_on (λ (k : ℕ). begun events i ≤ begun events k) i (le_refl (begun events i))
      (λ k h m. omega (arith, m, begun_after_grows (events k) (begun events k)))

  -- Main has begun from the start.
  begun_positive : (k : ℕ) → 0 < begun events k
  unfolding begun
  begun_positive k = begun_grows 0 k zero-le

  -- Who has begun and is not open is never open again.
  closed_for_good : (g i k : ℕ) → i ≤ k → g < begun events i → member g (opens events i) ≡ false → member g (opens events k) ≡ false
  unfolding opens
  closed_for_good g i k h l m =
      from_on (λ (n : ℕ). member g (opens events n) ≡ false) i m
      (λ n o. closed_after (events n) (begun events n) g (opens events n) (omega (arith, begun_grows i n o))) k h

  -- Main was open before if it is open now,
  pub main_open_before : (k j : ℕ) → k ≤ j → is_main_open events j ≡ true → is_main_open events k ≡ true
  unfolding is_main_open
  main_open_before k j h m = go (member 0 (opens events k)) refl
    where
      go : (b : Bool) → member 0 (opens events k) ≡ b → b ≡ true
      go true q = refl
      go false q = sym (closed_for_good 0 k j h (begun_positive k) q) ∙ m

  pub main_was_open : (k : ℕ) → is_main_open events (suc k) ≡ true → is_main_open events k ≡ true
  main_was_open k = main_open_before k (suc k) (omega arith)

  -- and then somebody runs,
  pub running : (k : ℕ) → is_main_open events k ≡ true → (gs : List ℕ) × (opens events k ≡ maker events k ∷ gs)
  unfolding is_main_open maker member
  running k m = top_and_rest (opens events k) (λ (q : opens events k ≡ []). false≢true (rw q at m))

  -- who has begun.
  pub maker_begun : (k : ℕ) → is_main_open events k ≡ true → maker events k < begun events k
  unfolding Falling
  maker_begun k m = (rw (running k m).1 at (opens_fall k)).0

  -- Every procedure but main was started by a spawn.
  pub started : (k p : ℕ) → 0 < p → p < begun events k → (s : ℕ) × (s < k) × (events s ≡ spawn) × (begun events s ≡ p)
  unfolding begun begun_after
  started zero p h l = absurd (omega arith)
  started (suc k) p h l = go (events k) refl l (started k p h)
    where
      go : (act : Act) → events k ≡ act → p < begun_after act (begun events k)
          → (p < begun events k → (s : ℕ) × (s < k) × (events s ≡ spawn) × (begun events s ≡ p))
          → (s : ℕ) × (s < suc k) × (events s ≡ spawn) × (begun events s ≡ p)
      go spawn q l before =
          elim (dec_lt p (begun events k)) [
            | yes o ↦ let w = before o in (w.0, omega arith, w.2, w.3)
            | no o ↦ (k, le_refl (suc k), q, omega arith)
          ]
      go return q l before = let w = before l in (w.0, omega arith, w.2, w.3)
      go sync q l before = let w = before l in (w.0, omega arith, w.2, w.3)
      go other q l before = let w = before l in (w.0, omega arith, w.2, w.3)

  -- Who is open and does not return stays open, and what lies under it stays as it is.
  pub stays : (i k g : ℕ) (rest : List ℕ) → opens events i ≡ g ∷ rest → i ≤ k
      → ((n : ℕ) → i ≤ n → n < k → events n ≡ return → maker events n ≢ g) → (xs : List ℕ) × (opens events k ≡ xs ++ g ∷ rest)
  unfolding opens maker
  stays i k g rest q h f = from_on (λ (n : ℕ). Quiet n → Kept n) i (λ quiet. ([], q)) step k h f
    where
      Quiet : ℕ → Type 0
      Quiet n = (m : ℕ) → i ≤ m → m < n → events m ≡ return → maker events m ≢ g

      Kept : ℕ → Type 0
      Kept n = (xs : List ℕ) × (opens events n ≡ xs ++ g ∷ rest)

      step : (n : ℕ) → i ≤ n → (Quiet n → Kept n) → Quiet (suc n) → Kept (suc n)
      step n o before quiet =
          let w = before (λ m l u. quiet m l (omega arith)) in
          stays_after (events n) (begun events n) g (opens events n) w.0 rest w.1 (quiet n o (le_refl (suc n)))

  -- Who lies under the top is below it,
  pub below_top : (k x g : ℕ) (xs rest : List ℕ) → opens events k ≡ x ∷ (xs ++ g ∷ rest) → g < x
  unfolding Falling
  below_top k x g xs rest q = below_where_it_falls_from x g xs rest (rw q at (opens_fall k)).1

  -- and the one that runs is at or above all that are open.
  pub maker_highest : (k g : ℕ) (xs rest : List ℕ) → opens events k ≡ xs ++ g ∷ rest → g ≤ maker events k
  unfolding maker head_d
  maker_highest k g [] rest q = rw q (le_refl g)
  maker_highest k g (x ∷ xs) rest q = rw q (omega (arith, below_top k x g xs rest q))

  -- A spawn begins one procedure more,
  begun_at_spawn : (s : ℕ) → events s ≡ spawn → begun events (suc s) ≡ suc (begun events s)
  unfolding begun begun_after
  begun_at_spawn s e = rw e

  -- and puts it on the top;
  put_on : (s : ℕ) → events s ≡ spawn → opens events (suc s) ≡ begun events s ∷ opens events s
  unfolding opens opens_after
  put_on s e = rw e

  -- a return takes the top off.
  taken_off : (r : ℕ) → events r ≡ return → opens events (suc r) ≡ tail (opens events r)
  unfolding opens opens_after
  taken_off r e = rw e

  -- Who is not open does not run.
  not_running : (k g : ℕ) (gs : List ℕ) → member g (opens events k) ≡ false → opens events k ≡ g ∷ gs → ⊥
  unfolding member
  not_running k g gs m q = false≢true (sym m ∙ ap (member g) q ∙ rw (eq-eqb g g refl))

  -- Who returns runs never again.
  pub never_again : (r k g : ℕ) (below above : List ℕ) → events r ≡ return → opens events r ≡ g ∷ below → r < k → opens events k ≡ g ∷ above → ⊥
  unfolding Falling
  never_again r k g below above e q h =
      let f : (g < begun events r) × Falling g below = rw q at (opens_fall r) in
      let closed : member g (opens events (suc r)) ≡ false = rw (taken_off r e, q) (not_above g g below f.1 (le_refl g)) in
      not_running k g above (closed_for_good g (suc r) k h (omega (arith, f.0, begun_grows r (suc r) (omega arith))) closed)

  -- A procedure that a spawn started is the top of the stack where it runs.
  started_runs : (s k : ℕ) → maker events k ≡ begun events s → (gs : List ℕ) × (opens events k ≡ begun events s ∷ gs)
  unfolding maker head_d
  started_runs s k q = let t = top_and_rest (opens events k) some in (t.0, t.1 ∙ ap (◌∷ t.0) q)
    where
      some : opens events k ≢ []
      some none = let z : 0 ≡ begun events s = rw none at q in omega (arith, begun_positive s)

  -- It runs after the spawn, so the matching return comes after the spawn.
  return_after_spawn : (s r : ℕ) → MatchingReturn events s r → s < r
  unfolding Falling
  return_after_spawn s r w =
      let f = rw (started_runs s r w.made_by_started).1 at (opens_fall r) in
      elim (dec_lt s r) [ yes h ↦ h | no h ↦ absurd (omega (arith, f.0, begun_grows r s (omega arith))) ]

  -- From a spawn to its matching return the new procedure lies on what was open at the spawn.
  body : (s r k : ℕ) → MatchingReturn events s r → s < k → k ≤ r → (xs : List ℕ) × (opens events k ≡ xs ++ begun events s ∷ opens events s)
  body s r k w h l = stays (suc s) k (begun events s) (opens events s) (put_on s w.spawns) h no_return
    where
      no_return : (n : ℕ) → s < n → n < k → events n ≡ return → maker events n ≢ begun events s
      no_return n o u e q =
          let now = started_runs s n q in
          let then = started_runs s r w.made_by_started in
          never_again n r (begun events s) now.0 then.0 e now.1 (omega arith) then.1

  -- In the body of a spawn only procedures at or above the new one act.
  pub in_body : (s r k : ℕ) → MatchingReturn events s r → s < k → k < r → begun events s ≤ maker events k
  in_body s r k w h l = let t = body s r k w h (omega arith) in maker_highest k (begun events s) t.0 (opens events s) t.1

  -- At its return the stack is again what it was at the spawn.
  pub stack_back : (s r : ℕ) → MatchingReturn events s r → opens events (suc r) ≡ opens events s
  unfolding maker head_d
  stack_back s r w = let t = body s r r w (return_after_spawn s r w) (le_refl r) in go t.0 t.1
    where
      go : (xs : List ℕ) → opens events r ≡ xs ++ begun events s ∷ opens events s → opens events (suc r) ≡ opens events s
      go [] q = rw (taken_off r w.returns, q)
      go (x ∷ xs) q =
          let same : x ≡ begun events s = rw q at w.made_by_started in
          absurd (omega (arith, below_top r x (begun events s) xs (opens events s) q))

  -- A body that begins in another ends in it: who began in it is closed at its end.
  pub bodies_nest : (s r s' r' : ℕ) → MatchingReturn events s r → MatchingReturn events s' r' → s < s' → s' < r → r' ≤ r
  bodies_nest s r s' r' w w' h l = elim (dec_lt r r') [ yes o ↦ absurd (not_later o) | no o ↦ omega arith ]
    where
      had_begun : begun events s' < begun events (suc r)
      had_begun = omega (arith, begun_at_spawn s' w'.spawns, begun_grows (suc s') (suc r) (omega arith))

      closed : member (begun events s') (opens events (suc r)) ≡ false
      closed =
          rw (stack_back s r w)
          (not_above (begun events s) (begun events s') (opens events s) (opens_fall s) (begun_grows s s' (omega arith)))

      not_later : r < r' → ⊥
      not_later o =
          let t = started_runs s' r' w'.made_by_started in
          not_running r' (begun events s') t.0 (closed_for_good (begun events s') (suc r) r' o had_begun closed) t.1
