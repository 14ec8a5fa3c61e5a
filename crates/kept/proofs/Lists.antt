-- General laws of lists: what `any`, `first` and `those` say of who is in a list; lists of which each pair stands in a relation; and that different
-- numbers, all from one list, are no more than that list is long. Each is by induction on the list. Assumes nothing.
use Prim.Native.Nat.{ℕ, ◌≤◌, ◌<◌, zero-le, suc-le-suc}
use mathlib.Core.Path.{◌≡◌, refl, sym, ap, ◌∙◌, subst}
use mathlib.Core.Logic.{◌⊎◌, inl, inr, ⊎_elim}
use mathlib.Core.Bool.{Bool, true, false, not, true≢false}
use mathlib.Core.List.{List, [], ◌∷◌, ◌++◌, map}
use Rattle.std.specs.Prelude.{Some}
use Rattle.std.proofs.lemmas.Option.{none-some, same_Some}
use native.Mathlib.Omega.{arith}
use lib.Dec.{eqb}
use lib.ListN.{length}
use borrow.Author.Tests.{eq-eqb, ne_eqb}
use Rattle.kept.specs.Lists.{any, first, those, In}
use Rattle.kept.specs.Theorem.{AllDifferent}

-- What follows from yes and from no follows.
pub either_way : {C : Type 0} (b : Bool) → (b ≡ true → C) → (b ≡ false → C) → C
either_way true yes-case no-case = yes-case refl
either_way false yes-case no-case = no-case refl

-- ---- who is in a list

module _ {A : Type 0} where
  -- Where `any` says yes, the test says yes to one in the list; and the other way round.
  pub any_has : (test : A → Bool) (list : List A) → any test list ≡ true → (a : A) × In a list × (test a ≡ true)
  unfolding any In
  any_has test [] q = absurd (true≢false (sym q))
  any_has test (b ∷ list) q =
      either_way (test b) (λ t. (b, inl refl, t)) (λ t. let rest = any_has test list (rw t at q) in (rest.0, inr rest.1, rest.2))

  pub has_any : (test : A → Bool) (list : List A) (a : A) → In a list → test a ≡ true → any test list ≡ true
  unfolding any In
  has_any test [] a h t = absurd h
  has_any test (b ∷ list) a (inl q) t = rw (ap test (sym q) ∙ t)
  has_any test (b ∷ list) a (inr h) t = either_way (test b) (λ s. rw s) (λ s. rw s (has_any test list a h t))

  -- Where `any` says no, the test says no to each in the list; and the other way round.
  pub any_none : (test : A → Bool) (list : List A) → any test list ≡ false → (a : A) → In a list → test a ≡ false
  any_none test list q a h = either_way (test a) (λ t. absurd (true≢false (sym (has_any test list a h t) ∙ q))) (λ t. t)

  pub none_any : (test : A → Bool) (list : List A) → ((a : A) → In a list → test a ≡ false) → any test list ≡ false
  none_any test list f =
      either_way (any test list) (λ q. let found = any_has test list q in absurd (true≢false (sym found.2 ∙ f found.0 found.1))) (λ q. q)

  -- The first to which a test says yes is in the list, and the test says yes to it.
  pub first_has : (test : A → Bool) (list : List A) (a : A) → first test list ≡ Some a → In a list × (test a ≡ true)
  unfolding first In
  first_has test [] a q = absurd (none-some a q)
  first_has test (b ∷ list) a q =
      either_way (test b)
      (λ t. let same = same_Some b a (rw t at q) in (inl (sym same), ap test (sym same) ∙ t))
      (λ t. let rest = first_has test list a (rw t at q) in (inr rest.0, rest.1))

  -- Whoever is among `those` is in the list, and the test says yes to it; and the other way round.
  pub those_has : (test : A → Bool) (list : List A) (a : A) → In a (those test list) → In a list × (test a ≡ true)
  unfolding those In
  those_has test [] a h = absurd h
  those_has test (b ∷ list) a h =
      either_way (test b)
      (λ t.
      ⊎_elim (λ (q : a ≡ b). (inl q, ap test q ∙ t))
      (λ (r : In a (those test list)). let rest = those_has test list a r in (inr rest.0, rest.1)) (rw t at h))
      (λ t. let rest = those_has test list a (rw t at h) in (inr rest.0, rest.1))

  pub has_those : (test : A → Bool) (list : List A) (a : A) → In a list → test a ≡ true → In a (those test list)
  unfolding those In
  has_those test [] a h t = absurd h
  has_those test (b ∷ list) a (inl q) t = rw (ap test (sym q) ∙ t) (inl q)
  has_those test (b ∷ list) a (inr h) t =
      let rest = has_those test list a h t in
      either_way (test b) (λ s. rw s (inr rest)) (λ s. rw s rest)

  -- Whoever is in one of two lists is in the two together; and the other way round.
  pub in_front : (list rest : List A) (a : A) → In a list → In a (list ++ rest)
  unfolding In
  in_front [] rest a h = absurd h
  in_front (b ∷ list) rest a (inl q) = inl q
  in_front (b ∷ list) rest a (inr h) = inr (in_front list rest a h)

  pub in_back : (list rest : List A) (a : A) → In a rest → In a (list ++ rest)
  unfolding In
  in_back [] rest a h = h
  in_back (b ∷ list) rest a h = inr (in_back list rest a h)

  pub in_either : (list rest : List A) (a : A) → In a (list ++ rest) → In a list ⊎ In a rest
  unfolding In
  in_either [] rest a h = inr h
  in_either (b ∷ list) rest a (inl q) = inl (inl q)
  in_either (b ∷ list) rest a (inr h) = ⊎_elim (λ (f : In a list). inl (inr f)) (λ (l : In a rest). inr l) (in_either list rest a h)

  -- Those to which a test says yes are no more than all, and fewer where it says no to one.
  pub those_no_more : (test : A → Bool) (list : List A) → length (those test list) ≤ length list
  unfolding those
  those_no_more test [] = zero-le
  those_no_more test (b ∷ list) =
      let rest = those_no_more test list in
      either_way (test b) (λ t. rw t (suc-le-suc rest)) (λ t. rw t (omega arith))

  those_fewer : (test : A → Bool) (list : List A) (a : A) → In a list → test a ≡ false → length (those test list) < length list
  unfolding those In
  those_fewer test [] a h t = absurd h
  those_fewer test (b ∷ list) a (inl q) t =
      let rest = those_no_more test list in
      rw (ap test (sym q) ∙ t) (omega arith)
  those_fewer test (b ∷ list) a (inr h) t =
      let rest = those_fewer test list a h t in
      either_way (test b) (λ s. rw s (omega arith)) (λ s. rw s (omega arith))

-- Who is in the list of all `f a` is `f a` for some a in the list.
pub map_has : {A B : Type 0} (f : A → B) (list : List A) (b : B) → In b (map f list) → (a : A) × In a list × (b ≡ f a)
unfolding In
map_has f [] b h = absurd h
map_has f (a ∷ list) b (inl q) = (a, inl refl, q)
map_has f (a ∷ list) b (inr h) = let rest = map_has f list b h in (rest.0, inr rest.1, rest.2)

-- ---- each pair of a list

module _ {A : Type 0} (R : A → A → Type 0) where
  -- Everyone in a list is so related to all after it.
  unfoldable pub Pairwise : List A → Type 0
  Pairwise [] = Unit {0}
  Pairwise (a ∷ list) = ((b : A) → In b list → R a b) × Pairwise list

  -- It stays so for those to which a test says yes,
  pub pairwise_those : (test : A → Bool) (list : List A) → Pairwise list → Pairwise (those test list)
  unfolding Pairwise those
  pairwise_those test [] p = tt
  pairwise_those test (a ∷ list) p =
      let rest = pairwise_those test list p.1 in
      either_way (test a) (λ t. rw t (λ b h. p.0 b (those_has test list b h).0, rest)) (λ t. rw t rest)

  -- and with one more at the end, to which all the others are so related.
  pub pairwise_one_more : (list : List A) (e : A) → Pairwise list → ((a : A) → In a list → R a e) → Pairwise (list ++ e ∷ [])
  unfolding Pairwise In
  pairwise_one_more [] e p f = (λ b h. absurd h, tt)
  pairwise_one_more (a ∷ list) e p f = (
    λ b h. ⊎_elim (p.0 b) (⊎_elim (λ (q : b ≡ e). rw q (f a (inl refl))) (λ (z : ⊥). absurd z)) (in_either list (e ∷ []) b h),
    pairwise_one_more list e p.1 (λ b h. f b (inr h)),
  )

  -- The first to which a test says yes is so related to every other to which it does.
  pub first_related : (test : A → Bool) (list : List A) (a b : A) → Pairwise list → first test list ≡ Some a → In b list → test b ≡ true
      → (a ≡ b) ⊎ R a b
  unfolding Pairwise first In
  first_related test [] a b p q h t = absurd h
  first_related test (c ∷ list) a b p q h t =
      either_way (test c)
      (λ s.
      let same = same_Some c a (rw s at q) in
      ⊎_elim (λ (w : b ≡ c). inl (sym same ∙ sym w)) (λ (w : In b list). inr (subst (λ (d : A). R d b) same (p.0 b w))) h)
      (λ s.
      ⊎_elim (λ (w : b ≡ c). absurd (true≢false (sym t ∙ ap test w ∙ s)))
      (λ (w : In b list). first_related test list a b p.1 (rw s at q) w t) h)

-- ---- different numbers

-- The numbers of a list of which no two have the same number are all different.
pub pairwise_different : {A : Type 0} (f : A → ℕ) (list : List A) → Pairwise (λ (a b : A). f a ≡ f b → ⊥) list → AllDifferent (map f list)
unfolding Pairwise AllDifferent
pairwise_different f [] p = tt
pairwise_different f (a ∷ list) p = (
  none_any (eqb (f a)) (map f list)
      (λ n h. let found = map_has f list n h in ne_eqb (f a) n (λ (q : f a ≡ n). p.0 found.0 found.1 (q ∙ found.2))),
  pairwise_different f list p.1,
)

-- Different numbers, each in some list, are no more than that list is long: without the first of them that list is shorter, and still has the others.
pub different_no_more : (list all : List ℕ) → AllDifferent list → ((n : ℕ) → In n list → In n all) → length list ≤ length all
unfolding AllDifferent In
different_no_more [] all d f = zero-le
different_no_more (a ∷ list) all d f =
    let others : List ℕ = those (λ n. not (eqb a n)) all in
    let fewer = those_fewer (λ n. not (eqb a n)) all a (f a (inl refl)) (ap not (eq-eqb a a refl)) in
    let rest = different_no_more list others d.1
    (λ n h. has_those (λ n. not (eqb a n)) all n (f n (inr h)) (ap not (any_none (eqb a) list d.0 n h))) in
    omega arith
