-- The races found, for any run. A race is among those found before event n exactly if it is the one at some event before n; and where each entry has its
-- event's number they stand in order of the later event. Both by induction on n: those found before the next event are those found before, and then the
-- one at it, if there is one. Assumes nothing.
use Prim.Native.Nat.{ℕ, zero, suc, ◌≤◌, ◌<◌}
use mathlib.Core.Path.{◌≡◌, refl, sym, ap, ◌∙◌}
use mathlib.Core.Logic.{inl, inr, ⊎_elim}
use mathlib.Core.Bool.{Bool, true, true≢false}
use mathlib.Core.List.{List, [], ◌∷◌, ◌++◌}
use Rattle.std.specs.Prelude.{Option, None, Some}
use native.Mathlib.Decide.{dec_lt}
use native.Mathlib.Nat.{not-suc-le-zero, le_of_eq}
use native.Mathlib.Omega.{arith}
use Rattle.kept.specs.declared.Entry.{Entry}
use Rattle.kept.specs.Lists.{any, first, In}
use Rattle.kept.specs.Rules.{races, reported, named}
use Rattle.kept.specs.Theorem.{Run, visited}
use Rattle.kept.proofs.Laws.{either_way, in_front, in_back, in_either, first_has}
use Rattle.checker.specs.Report.{Race, race_with, race_at, found}
use Rattle.checker.specs.Demands.{Rising}

-- ---- the entry that is named

-- Where a test says yes to some, there is a first to which it does.
first_of_any : {A : Type 0} (test : A → Bool) (list : List A) → any test list ≡ true → (a : A) × (first test list ≡ Some a)
unfolding any first
first_of_any test [] q = absurd (true≢false (sym q))
first_of_any test (b ∷ list) q =
    either_way (test b) (λ t. (b, rw t refl)) (λ t. let rest = first_of_any test list (rw t at q) in (rest.0, rw t rest.1))

-- Where an access is reported an entry is named, and what is named is in the list.
pub reported_names : (parallel : Entry → Bool) (e : Entry) (list : List Entry) → reported parallel e list ≡ true
    → (l : Entry) × (named parallel e list ≡ Some l)
unfolding reported named
reported_names parallel e list q = first_of_any (races parallel e) list q

pub named_is_in : (parallel : Entry → Bool) (e : Entry) (list : List Entry) (l : Entry) → named parallel e list ≡ Some l → In l list
unfolding named
named_is_in parallel e list l q = (first_has (races parallel e) list l q).0

-- ---- the race at an event

module _ (run : Run) where
  -- At access k the entry l is named.
  pub record Names (k : ℕ) (l : Entry) : Type 0 where
    pub an_access : run.accesses k ≡ true
    pub named_there : named (run.parallel k) (run.entry k) (visited run k) ≡ Some l

  -- The race that this gives.
  abbrev pub race_naming : ℕ → Entry → Race
  race_naming k l = record { location = run.location k; earlier = l; later = run.entry k }

  -- A race is the one at event k exactly if some entry is named there, and it is the race with that.
  race_at_lem : (k : ℕ) (r : Race) → In r (race_at run k) → (l : Entry) × Names k l × (r ≡ race_naming k l)
  unfolding race_at In
  race_at_lem k r h =
      either_way (run.accesses k) (λ a. by_name a (named (run.parallel k) (run.entry k) (visited run k)) refl (rw a at h))
      (λ a. absurd (rw a at h))
    where
      by_name : run.accesses k ≡ true → (name : Option Entry) → named (run.parallel k) (run.entry k) (visited run k) ≡ name
          → In r (race_with (run.location k) (run.entry k) name) → (l : Entry) × Names k l × (r ≡ race_naming k l)
      by_name a None q f = absurd f
      by_name a (Some l) q (inl same) = (l, record { an_access = a; named_there = q }, same)
      by_name a (Some l) q (inr f) = absurd f

  at_race : (k : ℕ) (l : Entry) → Names k l → In (race_naming k l) (race_at run k)
  unfolding race_at In
  at_race k l n = rw (n.an_access, n.named_there) (inl refl)

  -- ---- those found

  -- A race that is found before event n is the one at an event before n; and the other way round.
  pub found_has : (n : ℕ) (r : Race) → In r (found run n) → (k : ℕ) × (k < n) × ((l : Entry) × Names k l × (r ≡ race_naming k l))
  unfolding found In
  found_has zero r h = absurd h
  found_has (suc n) r h =
      ⊎_elim (λ (f : In r (found run n)). let was = found_has n r f in (was.0, omega (arith, was.1), was.2))
      (λ (f : In r (race_at run n)). (n, omega arith, race_at_lem n r f)) (in_either (found run n) (race_at run n) r h)

  pub has_found : (n k : ℕ) (l : Entry) → k < n → Names k l → In (race_naming k l) (found run n)
  unfolding found
  has_found zero k l h w = absurd (not-suc-le-zero h)
  has_found (suc n) k l h w =
      elim (dec_lt k n) [
        | yes o ↦ in_front (found run n) (race_at run n) (race_naming k l) (has_found n k l o w)
        | no o ↦ let now : k ≡ n = omega arith in rw now (in_back (found run n) (race_at run n) (race_naming n l) (at_race n l (rw now at w)))
      ]

-- ---- in order of the later event

-- What rises from k on rises from an earlier number on.
rising_before : (m k : ℕ) (list : List Race) → m ≤ k → Rising k list → Rising m list
unfolding Rising
rising_before m k [] h p = tt
rising_before m k (r ∷ list) h p = (omega (arith, p.0), p.1)

-- Races that rise from k on may follow others that rise and are all before k.
rising_on : (m k : ℕ) (list rest : List Race) → m ≤ k → Rising m list → ((r : Race) → In r list → r.later.event.0 < k) → Rising k rest
    → Rising m (list ++ rest)
unfolding Rising In
rising_on m k [] rest h p f q = rising_before m k rest h q
rising_on m k (r ∷ list) rest h p f q =
    (p.0, rising_on (suc r.later.event.0) k list rest (f r (inl refl)) p.1 (λ s w. f s (inr w)) q)

module _ (run : Run) (numbered : (k : ℕ) → (run.entry k).event.0 ≡ k) where
  -- The one race at an event rises from there.
  rising_at : (k : ℕ) → Rising k (race_at run k)
  unfolding race_at Rising
  rising_at k = either_way (run.accesses k) (λ a. rw a (by_name (named (run.parallel k) (run.entry k) (visited run k)))) (λ a. rw a tt)
    where
      by_name : (name : Option Entry) → Rising k (race_with (run.location k) (run.entry k) name)
      by_name None = tt
      by_name (Some l) = (le_of_eq (sym (numbered k)), tt)

  pub found_rises : (n : ℕ) → Rising 0 (found run n)
  unfolding found Rising
  found_rises zero = tt
  found_rises (suc n) =
      rising_on 0 n (found run n) (race_at run n) (omega arith) (found_rises n)
      (λ r h.
      let was = found_has run n r h in
      let number : r.later.event.0 ≡ was.0 = ap (λ (s : Race). s.later.event.0) was.2.2 ∙ numbered was.0 in
      omega (arith, was.1)) (rising_at n)
