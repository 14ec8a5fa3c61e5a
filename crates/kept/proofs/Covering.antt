-- What is kept suffices. An access i covers an access a if its lock set lies within that of a, and i is parallel with whatever access to come a is
-- parallel with. Then whoever races with a races with i. At every event each earlier access to a location is covered by one that is kept there: an
-- entry that is dropped precedes the new access, which covers it by lemma 1 of 002; and an access that is left out is covered, by lemma 2, by the
-- parallel entry that leaves it out, which stays. The entries kept are in event order and have different lock sets: each entry that stays is earlier
-- than the new one, and has another set. And different sets, all of them used at the location, are no more than the sets used there. Assumes nothing.
use Prim.Native.Nat.{ℕ, zero, suc, ◌≤◌, ◌<◌}
use mathlib.Core.Path.{◌≡◌, refl, sym, ap, ◌∙◌}
use mathlib.Core.Logic.{◌↔◌, ◌⊎◌, inl, inr, ⊎_elim}
use mathlib.Core.Bool.{Bool, true, false, not, ◌&&◌, and-eq-true_iff, true≢false}
use mathlib.Core.List.{List, [], ◌∷◌, map, append-nil}
use native.Mathlib.Decide.{dec_lt}
use native.Mathlib.Nat.{not-suc-le-zero, le_of_eq}
use native.Mathlib.Omega.{arith}
use lib.Dec.{eqb}
use lib.ListN.{length, length-map}
use borrow.Author.Tests.{eqb-true, eqb-false, eq-eqb, not-true}
use Rattle.locks.specs.Sets.{apart, within}
use Rattle.locks.proofs.Laws.{within_refl, within_trans, within_apart}
use Rattle.kept.specs.declared.Entry.{Entry}
use Rattle.kept.specs.Lists.{any, In}
use Rattle.kept.specs.Rules.{races, reported, named, dropped, left, omits, added, after, changed_at}
use Rattle.kept.specs.Theorem.{Run, AllDifferent, InEventOrder, kept, visited, sets_used, Earlier, Race, parallel_to, Lawful, KeptTheorem}
use Rattle.kept.proofs.Lists.{either_way, any_has, has_any, any_none, first_has, those_has, has_those, in_front, in_back, in_either}
use Rattle.kept.proofs.Lists.{map_has, Pairwise, pairwise_those, pairwise_one_more, first_related}
use Rattle.kept.proofs.Lists.{pairwise_different, different_no_more}

-- One entry's event comes before another's.
abbrev ComesBefore : Entry → Entry → Type 0
ComesBefore l m = l.event.0 < m.event.0

-- ---- the rules, by who is in the list

module _ (parallel : Entry → Bool) (e : Entry) where
  -- An entry that was in the list and is not dropped; and e itself, where none leaves it out.
  abbrev Stayed : List Entry → Entry → Type 0
  Stayed list l = In l list × (dropped parallel e l ≡ false)

  abbrev New : List Entry → Entry → Type 0
  New list l = (l ≡ e) × (any (omits parallel e) list ≡ false)

  -- Whoever is in the list after e has stayed or is new.
  after_has : (list : List Entry) (l : Entry) → In l (after parallel e list) → Stayed list l ⊎ New list l
  unfolding after left added In
  after_has list l h = ⊎_elim stayed new (in_either (left parallel e list) (added parallel e list) l h)
    where
      stayed : In l (left parallel e list) → Stayed list l ⊎ New list l
      stayed f =
          let found = those_has (λ (k : Entry). not (dropped parallel e k)) list l f in
          inl (found.0, not-true (dropped parallel e l) found.1)

      new : In l (added parallel e list) → Stayed list l ⊎ New list l
      new f =
          either_way (any (omits parallel e) list) (λ q. absurd (rw q at f))
          (λ q. ⊎_elim (λ (same : l ≡ e). inr (same, q)) (λ (z : ⊥). absurd z) (rw q at f))

  -- Who is not dropped stays, and e is there unless it is left out.
  not_dropped_stays : (list : List Entry) (l : Entry) → In l list → dropped parallel e l ≡ false → In l (after parallel e list)
  unfolding after left
  not_dropped_stays list l h q =
      in_front (left parallel e list) (added parallel e list) l (has_those (λ (k : Entry). not (dropped parallel e k)) list l h (ap not q))

  new_is_there : (list : List Entry) → any (omits parallel e) list ≡ false → In e (after parallel e list)
  unfolding after added In
  new_is_there list q = in_back (left parallel e list) (added parallel e list) e (rw q (inl refl))

  -- If all in a list are pairwise related, and those that stay to e where e is added, then so are all in the list after e.
  after_pairwise : (R : Entry → Entry → Type 0) (list : List Entry) → Pairwise R list
      → ((l : Entry) → In l list → dropped parallel e l ≡ false → omits parallel e l ≡ false → R l e) → Pairwise R (after parallel e list)
  unfolding after left added
  after_pairwise R list p f =
      let stayed = pairwise_those R (λ (k : Entry). not (dropped parallel e k)) list p in
      either_way (any (omits parallel e) list) (λ q. rw (q, append-nil) stayed)
      (λ q. rw q (pairwise_one_more R (left parallel e list) e stayed (λ l h.
      let found = those_has (λ (k : Entry). not (dropped parallel e k)) list l h in
      f l found.0 (not-true (dropped parallel e l) found.1) (any_none (omits parallel e) list q l found.0))))

  -- A dropped entry precedes e, and its set contains all of the set of e; so an entry that is parallel is not dropped.
  dropped_means : (l : Entry) → dropped parallel e l ≡ true → (parallel l ≡ false) × (within e.locks l.locks ≡ true)
  unfolding dropped
  dropped_means l q =
      let both = (and-eq-true_iff (not (parallel l)) (within e.locks l.locks)).0 q in
      (not-true (parallel l) both.0, both.1)

  parallel_stays : (l : Entry) → parallel l ≡ true → dropped parallel e l ≡ false
  unfolding dropped
  parallel_stays l q = rw q

  -- An entry that leaves e out is parallel with e, and its set lies within that of e.
  omits_means : (l : Entry) → omits parallel e l ≡ true → (parallel l ≡ true) × (within l.locks e.locks ≡ true)
  unfolding omits
  omits_means l q = (and-eq-true_iff (parallel l) (within l.locks e.locks)).0 q

  -- An entry with the lock set of e is dropped, if it precedes e, or leaves e out.
  same_set_goes : (l : Entry) → dropped parallel e l ≡ false → omits parallel e l ≡ false → l.locks ≡ e.locks → ⊥
  unfolding dropped omits
  same_set_goes l d o same =
      either_way (parallel l)
      (λ q. let gone : within l.locks e.locks ≡ false = rw q at o in true≢false (sym (within_refl e.locks) ∙ rw same at gone))
      (λ q. let gone : within e.locks l.locks ≡ false = rw q at d in true≢false (sym (within_refl e.locks) ∙ rw same at gone))

  -- An entry races with e exactly if it is parallel with e and its set has nothing in common with that of e.
  races_means : (l : Entry) → (races parallel e l ≡ true) ↔ ((parallel l ≡ true) × (apart l.locks e.locks ≡ true))
  unfolding races
  races_means l = and-eq-true_iff (parallel l) (apart l.locks e.locks)

-- ---- what is kept, event by event

module _ (run : Run) where
  -- What is left of a list after the access k.
  abbrev after_event : ℕ → List Entry → List Entry
  after_event k = after (run.parallel k) (run.entry k)

  -- What holds of the empty lists at first, and of the list of each location after an event if it held before, holds of all lists kept.
  kept_by : (P : ℕ → ℕ → List Entry → Type 0) → ((x : ℕ) → P 0 x [])
      → ((k x : ℕ) → (run.accesses k ≡ true → run.location k ≡ x → ⊥) → P k x (kept run k x) → P (suc k) x (kept run k x))
      → ((k x : ℕ) → run.accesses k ≡ true → run.location k ≡ x → P k x (kept run k x) → P (suc k) x (after_event k (kept run k x)))
      → (k x : ℕ) → P k x (kept run k x)
  unfolding kept changed_at
  kept_by P base other access zero x = base x
  kept_by P base other access (suc k) x =
      let before = kept_by P base other access k x in
      either_way (run.accesses k)
      (λ a.
      either_way (eqb x (run.location k)) (λ t. rw (a, t) (access k x a (sym (eqb-true x (run.location k) t)) before))
      (λ t. rw (a, t) (other k x (λ b q. eqb-false x (run.location k) t (sym q)) before)))
      (λ a. rw a (other k x (λ b q. true≢false (sym b ∙ a)) before))

  -- An access before event k is one before the next event too.
  earlier_still : (i k x : ℕ) → Earlier run i k x → Earlier run i (suc k) x
  earlier_still i k x h = record { before = omega arith; an_access = h.an_access; there = h.there }

  -- An access before the next event is one before event k, or is k.
  earlier_or_now : (i k x : ℕ) → Earlier run i (suc k) x → Earlier run i k x ⊎ (i ≡ k)
  earlier_or_now i k x h =
      elim (dec_lt i k) [
        | yes o ↦ inl (record { before = o; an_access = h.an_access; there = h.there })
        | no o ↦ inr (omega (arith, h.before))
      ]

  -- Each entry kept for a location is that of an earlier access to it.
  kept_accesses : (k x : ℕ) (l : Entry) → In l (kept run k x) → (i : ℕ) × Earlier run i k x × (l ≡ run.entry i)
  unfolding In
  kept_accesses =
      kept_by (λ k x list. (l : Entry) → In l list → (i : ℕ) × Earlier run i k x × (l ≡ run.entry i)) (λ x l h. absurd h)
      (λ k x not_there old l h. let was = old l h in (was.0, earlier_still was.0 k x was.1, was.2))
      (λ k x a there old l h.
      ⊎_elim
      (λ (stayed : Stayed (run.parallel k) (run.entry k) (kept run k x) l).
      let was = old l stayed.0 in
      (was.0, earlier_still was.0 k x was.1, was.2))
      (λ (new : New (run.parallel k) (run.entry k) (kept run k x) l).
      (k, record { before = omega arith; an_access = a; there = there }, new.0)) (after_has (run.parallel k) (run.entry k) (kept run k x) l h))

  -- What relates each entry that stays to the new one relates each entry kept to those after it.
  kept_pairwise : (R : Entry → Entry → Type 0)
      → ((k x : ℕ) (l : Entry) → run.accesses k ≡ true → In l (kept run k x) → dropped (run.parallel k) (run.entry k) l ≡ false
      → omits (run.parallel k) (run.entry k) l ≡ false → R l (run.entry k))
      → (k x : ℕ) → Pairwise R (kept run k x)
  unfolding Pairwise
  kept_pairwise R f =
      kept_by (λ k x list. Pairwise R list) (λ x. tt) (λ k x not_there old. old)
      (λ k x a there old. after_pairwise (run.parallel k) (run.entry k) R (kept run k x) old (λ l. f k x l a))

  -- No two entries kept have the same lock set.
  sets_differ : (k x : ℕ) → AllDifferent (map (λ (l : Entry). l.locks) (kept run k x))
  sets_differ k x =
      pairwise_different (λ (l : Entry). l.locks) (kept run k x)
      (kept_pairwise (λ (l m : Entry). l.locks ≡ m.locks → ⊥) (λ k x l a h. same_set_goes (run.parallel k) (run.entry k) l) k x)

  -- A set that was used stays among those used, and each access uses its own.
  used_stays : (k x n : ℕ) → In n (sets_used run k x) → In n (sets_used run (suc k) x)
  unfolding sets_used In
  used_stays k x n h =
      let set = (run.entry k).locks in
      either_way (run.accesses k && eqb x (run.location k))
      (λ q. either_way (any (eqb set) (sets_used run k x)) (λ t. rw (q, t) h) (λ t. rw (q, t) (inr h))) (λ q. rw q h)

  own_is_used : (k x : ℕ) → run.accesses k ≡ true → run.location k ≡ x → In (run.entry k).locks (sets_used run (suc k) x)
  unfolding sets_used In
  own_is_used k x a there =
      let set = (run.entry k).locks in
      rw (a, eq-eqb x (run.location k) (sym there))
      (either_way (any (eqb set) (sets_used run k x))
      (λ t. rw t (let found = any_has (eqb set) (sets_used run k x) t in rw (eqb-true set found.0 found.2) found.1))
      (λ t. rw t (inl refl)))

  -- So the set of every earlier access to a location is among those used there.
  earlier_is_used : (i k x : ℕ) → Earlier run i k x → In (run.entry i).locks (sets_used run k x)
  earlier_is_used i zero x h = absurd (not-suc-le-zero h.before)
  earlier_is_used i (suc k) x h =
      ⊎_elim (λ (o : Earlier run i k x). used_stays k x (run.entry i).locks (earlier_is_used i k x o))
      (λ (same : i ≡ k). rw same (own_is_used k x (rw same at h.an_access) (rw same at h.there))) (earlier_or_now i k x h)

  -- And every set among those used is the set of an earlier access.
  used_was_earlier : (k x n : ℕ) → In n (sets_used run k x) → (i : ℕ) × Earlier run i k x × ((run.entry i).locks ≡ n)
  unfolding sets_used In
  used_was_earlier zero x n h = absurd h
  used_was_earlier (suc k) x n h =
      let set = (run.entry k).locks in
      let older : In n (sets_used run k x) → (i : ℕ) × Earlier run i (suc k) x × ((run.entry i).locks ≡ n) =
      λ o.
      let was = used_was_earlier k x n o in
      (was.0, record { before = omega (arith, was.1.before); an_access = was.1.an_access; there = was.1.there }, was.2) in
      either_way (run.accesses k && eqb x (run.location k)) (λ q.
      let both = (and-eq-true_iff (run.accesses k) (eqb x (run.location k))).0 q in
      either_way (any (eqb set) (sets_used run k x)) (λ t. older (rw (q, t) at h)) (λ t.
      ⊎_elim (λ (same : n ≡ set). (
        k,
        record { before = omega arith; an_access = both.0; there = sym (eqb-true x (run.location k) both.1) },
        sym same,
      )) older (rw (q, t) at h))) (λ q. older (rw q at h))

  -- No set stands among them twice.
  used_differ : (k x : ℕ) → AllDifferent (sets_used run k x)
  unfolding sets_used AllDifferent
  used_differ zero x = tt
  used_differ (suc k) x =
      let set = (run.entry k).locks in
      either_way (run.accesses k && eqb x (run.location k))
      (λ q. either_way (any (eqb set) (sets_used run k x)) (λ t. rw (q, t) (used_differ k x)) (λ t. rw (q, t) (t, used_differ k x)))
      (λ q. rw q (used_differ k x))

  -- Not more entries are kept for a location than different sets were used there.
  few_visits : (k x : ℕ) → length (kept run k x) ≤ length (sets_used run k x)
  few_visits k x =
      rw (← length-map (kept run k x) (λ (l : Entry). l.locks))
      (different_no_more (map (λ (l : Entry). l.locks) (kept run k x)) (sets_used run k x) (sets_differ k x) (λ n h.
      let found = map_has (λ (l : Entry). l.locks) (kept run k x) n h in
      let was = kept_accesses k x found.0 found.1 in
      rw (found.2, was.2) (earlier_is_used was.0 k x was.1)))

  -- A kept entry that races with the entry of j is that of an access that races with j.
  kept_races : (j : ℕ) (l : Entry) → In l (visited run j) → races (run.parallel j) (run.entry j) l ≡ true
      → (i : ℕ) × Race run i j × (l ≡ run.entry i)
  kept_races j l h q =
      let was = kept_accesses j (run.location j) l h in
      let both = (races_means (run.parallel j) (run.entry j) (run.entry was.0)).0 (rw was.2 at q) in
      (was.0, record { earlier = was.1; in_parallel = both.0; nothing_in_common = both.1 }, was.2)

  -- ---- covering

  -- From event k on, i covers a: its set lies within that of a, and i is parallel with each access to come that a is parallel with.
  record Covers (i a k : ℕ) : Type 0 where
    set_within : within (run.entry i).locks (run.entry a).locks ≡ true
    parallel_too : (j : ℕ) → k ≤ j → run.accesses j ≡ true → parallel_to run a j ≡ true → parallel_to run i j ≡ true

  -- From event k on, an access to x is covered by one that is in a list.
  abbrev CoveredIn : ℕ → ℕ → List Entry → ℕ → Type 0
  CoveredIn k x list a = (i : ℕ) × Earlier run i k x × In (run.entry i) list × Covers i a k

  -- An access covers itself, and what is covered by one that it covers; and it goes on covering.
  covers_itself : (i k : ℕ) → Covers i i k
  covers_itself i k = record { set_within = within_refl (run.entry i).locks; parallel_too = λ j o w q. q }

  covers_on : (i b a k : ℕ) → Covers i b k → Covers b a k → Covers i a k
  covers_on i b a k c d = record {
    set_within = within_trans (run.entry i).locks (run.entry b).locks (run.entry a).locks c.set_within d.set_within;
    parallel_too = λ j o w q. c.parallel_too j o w (d.parallel_too j o w q);
  }

  covers_later : (i a k : ℕ) → Covers i a k → Covers i a (suc k)
  covers_later i a k c = record { set_within = c.set_within; parallel_too = λ j o. c.parallel_too j (omega arith) }

  -- Whoever races with an access races with what covers it.
  covering_races : (i a j : ℕ) → run.accesses j ≡ true → Covers i a j → Race run a j → races (run.parallel j) (run.entry j) (run.entry i) ≡ true
  covering_races i a j w c r =
      (races_means (run.parallel j) (run.entry j) (run.entry i)).1 (
        c.parallel_too j (omega arith) w r.in_parallel,
        within_apart (run.entry i).locks (run.entry a).locks (run.entry j).locks c.set_within r.nothing_in_common,
      )

  module _ (lawful : Lawful run) where
    -- A dropped entry is covered by the access that drops it, by lemma 1.
    dropping_covers : (i k x : ℕ) → Earlier run i k x → run.accesses k ≡ true → dropped (run.parallel k) (run.entry k) (run.entry i) ≡ true
        → Covers k i (suc k)
    dropping_covers i k x h a q =
        let both = dropped_means (run.parallel k) (run.entry k) (run.entry i) q in
        record {
          set_within = both.1;
          parallel_too = λ j o w. lawful.two_laws.lemma_1 i k j h.an_access a w h.before o both.0;
        }

    -- An access that is left out is covered by the entry that leaves it out, by lemma 2.
    leaving_out_covers : (i k x : ℕ) → Earlier run i k x → run.accesses k ≡ true → omits (run.parallel k) (run.entry k) (run.entry i) ≡ true
        → Covers i k (suc k)
    leaving_out_covers i k x h a q =
        let both = omits_means (run.parallel k) (run.entry k) (run.entry i) q in
        record {
          set_within = both.1;
          parallel_too = λ j o w. lawful.two_laws.lemma_2 i k j h.an_access a w h.before o both.0;
        }

    -- A new access is covered after it: by itself, or by what leaves it out.
    new_covered : (k x : ℕ) → run.accesses k ≡ true → run.location k ≡ x → CoveredIn (suc k) x (after_event k (kept run k x)) k
    new_covered k x a there =
        let p = run.parallel k in
        let e = run.entry k in
        either_way (any (omits p e) (kept run k x))
        (λ q.
        let found = any_has (omits p e) (kept run k x) q in
        let was = kept_accesses k x found.0 found.1 in
        let i = was.0 in
        let is-kept : In (run.entry i) (kept run k x) = rw was.2 at found.1 in
        let leaves : omits p e (run.entry i) ≡ true = rw was.2 at found.2 in (
          i,
          earlier_still i k x was.1,
          not_dropped_stays p e (kept run k x) (run.entry i) is-kept
              (parallel_stays p e (run.entry i) (omits_means p e (run.entry i) leaves).0),
          leaving_out_covers i k x was.1 a leaves,
        ))
        (λ q.
        (k, record { before = omega arith; an_access = a; there = there }, new_is_there p e (kept run k x) q, covers_itself k (suc k)))

    -- Every earlier access to a location is covered by one that is kept there.
    kept_covers : (k x a : ℕ) → Earlier run a k x → CoveredIn k x (kept run k x) a
    kept_covers =
        kept_by (λ k x list. (a : ℕ) → Earlier run a k x → CoveredIn k x list a) (λ x a h. absurd (not-suc-le-zero h.before))
        (λ k x not_there old a h.
        ⊎_elim (λ (o : Earlier run a k x). let c = old a o in (c.0, earlier_still c.0 k x c.1, c.2, covers_later c.0 a k c.3))
        (λ (same : a ≡ k). absurd (not_there (rw same at h.an_access) (rw same at h.there))) (earlier_or_now a k x h))
        (λ k x w there old a h.
        let new = new_covered k x w there in
        ⊎_elim
        (λ (o : Earlier run a k x).
        let c = old a o in
        let i = c.0 in
        let on = covers_later i a k c.3 in
        either_way (dropped (run.parallel k) (run.entry k) (run.entry i))
        (λ q. (new.0, new.1, new.2, covers_on new.0 k a (suc k) new.3 (covers_on k i a (suc k) (dropping_covers i k x c.1 w q) on)))
        (λ q. (i, earlier_still i k x c.1, not_dropped_stays (run.parallel k) (run.entry k) (kept run k x) (run.entry i) c.2 q, on)))
        (λ (same : a ≡ k). rw same new) (earlier_or_now a k x h))

    -- An access is reported exactly if it races with some earlier access.
    reported_exactly : (j : ℕ) → run.accesses j ≡ true
        → (reported (run.parallel j) (run.entry j) (visited run j) ≡ true) ↔ ((i : ℕ) × Race run i j)
    unfolding reported
    reported_exactly j w = (
      λ q.
          let found = any_has (races (run.parallel j) (run.entry j)) (visited run j) q in
          let r = kept_races j found.0 found.1 found.2 in
          (r.0, r.1),
      λ r.
          let c = kept_covers j (run.location j) r.0 r.1.earlier in
          has_any (races (run.parallel j) (run.entry j)) (visited run j) (run.entry c.0) c.2
          (covering_races c.0 r.0 j w c.3 r.1),
    )

    -- Entries kept stand in event order: each was an access before the new one.
    kept_ordered : (k x : ℕ) → Pairwise ComesBefore (kept run k x)
    kept_ordered =
        kept_pairwise ComesBefore
        (λ k x l a h d o.
        let was = kept_accesses k x l h in
        let number : l.event.0 ≡ was.0 = ap (λ (m : Entry). m.event.0) was.2 ∙ lawful.numbered was.0 was.1.an_access in
        omega (arith, lawful.numbered k a, was.1.before))

-- A list ordered by the events' numbers is in event order.
in_event_order : (list : List Entry) → Pairwise ComesBefore list → InEventOrder list
unfolding Pairwise InEventOrder
in_event_order [] p = tt
in_event_order (l ∷ list) p = (p.0, in_event_order list p.1)

-- The theorem: what is kept suffices, for every run that obeys the laws.
pub kept_suffices : (run : Run) → KeptTheorem run
unfolding named
kept_suffices run lawful = record {
  reported_exactly = reported_exactly run lawful;
  named_races = λ j k w q.
      let found = first_has (races (run.parallel j) (run.entry j)) (visited run j) k q in
      kept_races run j k found.0 found.1;
  named_lowest = λ j k l w q h r.
      ⊎_elim (λ (same : k ≡ l). le_of_eq (ap (λ (m : Entry). m.event.0) same)) (λ (o : ComesBefore k l). omega arith)
      (first_related ComesBefore (races (run.parallel j) (run.entry j)) (visited run j) k l
      (kept_ordered run lawful j (run.location j)) q h r);
  kept_accesses = kept_accesses run;
  kept_in_order = λ k x. in_event_order (kept run k x) (kept_ordered run lawful k x);
  sets_differ = sets_differ run;
  sets_used_lem = λ k x set. (used_was_earlier run k x set, λ was. rw (← was.2) (earlier_is_used run was.0 k x was.1));
  sets_used_differ = used_differ run;
  few_visits = few_visits run;
}
