-- Demands 2 and 3, and that the bags agree with the definition of parallel, for any events, as long as main is open before each. An access is no return,
-- so the bags' yes or no obeys the two laws of 002 for the accesses before event n; hence the theorem about what is kept holds of the run cut off there,
-- which keeps the same lists up to n. What that theorem calls a race is a race as the request defines it: the bags say what the definition says, and the
-- lock sets have nothing in common exactly if no lock is shared and one of the two writes. Assumes nothing.
use Prim.Native.Nat.{ℕ, ◌<◌}
use mathlib.Core.Path.{◌≡◌, refl, sym, ap, ◌∙◌}
use mathlib.Core.Bool.{true, not, ◌&&◌, and-eq-true_iff}
use mathlib.Core.List.{List}
use native.Mathlib.Omega.{arith}
use lib.ListN.{length}
use borrow.Author.Tests.{not-true}
use Rattle.trace.specs.declared.Event.{Event}
use Rattle.trace.specs.Kinds.{is_access, is_read, location}
use Rattle.locks.specs.Sets.{apart}
use Rattle.bags.specs.Parallel.{is_main_open}
use Rattle.bags.specs.Bags.{bags_say_parallel}
use Rattle.bags.specs.Theorems.{Askable}
use Rattle.bags.proofs.Laws as bags
use Rattle.kept.specs.declared.Entry.{Entry}
use Rattle.kept.specs.Lists.{In}
use Rattle.kept.specs.Theorem.{Run, visited, sets_used, Earlier, Race, parallel_to, Lawful, KeptSuffices}
use Rattle.kept.proofs.Laws.{kept_suffices}
use Rattle.checker.specs.Events.{acts, held, entry_of, run, visits_at, visits}
use Rattle.checker.specs.Report.{Race as Found, found, laid}
use Rattle.checker.specs.Demands.{Races, race_of, Demand2, DifferentSets, Demand3, BagsAgree}
use Rattle.checker.proofs.AccessKinds.{access_is_no_return}
use Rattle.checker.proofs.Holding.{sets_apart}
use Rattle.checker.proofs.Shortened.{shortened, access_before, before_access, kept_shortened}
use Rattle.checker.proofs.Finding.{reported_names, named_is_in, Names, race_naming, found_has, has_found, found_rises}

-- Main is open before every event below n.
abbrev pub MainOpenBefore : (ℕ → Event) → ℕ → Type 0
MainOpenBefore t n = (k : ℕ) → k < n → is_main_open (acts t) k ≡ true

-- ---- the run before n

module _ (t : ℕ → Event) (n : ℕ) (main : MainOpenBefore t n) where
  -- For accesses before n the bags say what the definition says.
  pub bags_agree_met : BagsAgree t n
  bags_agree_met i k h below access = bags.bags_agree (acts t) i k h (access_is_no_return (t i) access) (main k below)

  -- The run cut off at n.
  abbrev cut : Run
  cut = shortened n (run t)

  -- It asks what the bags say, of events that may be asked; so it obeys the two laws, and what it keeps suffices.
  says_the_same : (i j : ℕ) → parallel_to cut i j ≡ bags_say_parallel (acts t) i j
  unfolding run entry_of
  says_the_same i j = sym (bags.asks_the_maker (acts t) i j)

  askable : (k : ℕ) → cut.accesses k ≡ true → Askable (acts t) k
  unfolding run
  askable k is = let both = access_before n (run t) k is in (main k both.0, access_is_no_return (t k) both.1)

  cut_is_lawful : Lawful cut
  unfolding run entry_of
  cut_is_lawful =
      let laws = bags.two_laws (acts t) in
      record {
        two_laws = record {
          lemma_1 = λ a e j at_a at-e at_j h l p q.
              says_the_same e j
              ∙ laws.lemma_1 a e j (askable a at_a) (askable e at-e) (askable j at_j) h l (sym (says_the_same a e) ∙ p) (sym (says_the_same a j) ∙ q);
          lemma_2 = λ a e j at_a at-e at_j h l p q.
              says_the_same a j
              ∙ laws.lemma_2 a e j (askable a at_a) (askable e at-e) (askable j at_j) h l (sym (says_the_same a e) ∙ p) (sym (says_the_same e j) ∙ q);
        };
        numbered = λ k is. refl;
      }

  suffices : KeptSuffices cut
  suffices = kept_suffices cut cut_is_lawful

  -- ---- a race is a race

  -- Accesses race in the run, as its lists are asked, exactly if they race by the definition.
  race_by_definition : (i j : ℕ) → j < n → is_access (t j) ≡ true → Race cut i j → Races t i j
  unfolding run
  race_by_definition i j below access race =
      let before = race.earlier.before in
      let earlier-access = (access_before n (run t) i race.earlier.an_access).1 in
      let both-tests = and-eq-true_iff (apart (held t i) (held t j)) (not (is_read (t i) && is_read (t j))) in
      let locks = both-tests.0 (sym (sets_apart t i j) ∙ race.nothing_in_common) in
      record {
        earlier = before;
        accesses = (earlier-access, access);
        same_location = race.earlier.there;
        parallel = (bags_agree_met i j before below earlier-access).1 (sym (says_the_same i j) ∙ race.in_parallel);
        no_lock_shared = locks.0;
        one_writes = not-true (is_read (t i) && is_read (t j)) locks.1;
      }

  race_in_run : (i j : ℕ) → j < n → Races t i j → Race cut i j
  unfolding run
  race_in_run i j below race = record {
    earlier = record {
      before = race.earlier;
      an_access = before_access n (run t) i (omega (arith, race.earlier)) race.accesses.0;
      there = race.same_location;
    };
    in_parallel = says_the_same i j ∙ (bags_agree_met i j race.earlier below race.accesses.0).0 race.parallel;
    nothing_in_common =
        sets_apart t i j
        ∙ (and-eq-true_iff (apart (held t i) (held t j)) (not (is_read (t i) && is_read (t j)))).1 (race.no_lock_shared, ap not race.one_writes);
  }

  -- The list that an access before n visits is the one of the run cut off there.
  same_visited : (k : ℕ) → k < n → visited cut k ≡ visited (run t) k
  same_visited k below = kept_shortened n (run t) k ((run t).location k) (omega arith)

  -- What is named at an access before n is the entry of an access that races with it.
  named_race : (k : ℕ) (l : Entry) → k < n → Names (run t) k l → (i : ℕ) × (l ≡ entry_of t i) × Races t i k
  unfolding run
  named_race k l below names =
      let race = suffices.named_races k l (before_access n (run t) k below names.an_access) (rw (same_visited k below) names.named_there) in
      (race.0, race.2, race_by_definition race.0 k below names.an_access race.1)

  -- And where some access races with it, an entry is named.
  race_names : (i k : ℕ) → k < n → Races t i k → (l : Entry) × Names (run t) k l
  unfolding run
  race_names i k below race =
      let said = (suffices.reported_exactly k (before_access n (run t) k below race.accesses.1)).1 (i, race_in_run i k below race) in
      let name = reported_names ((run t).parallel k) (entry_of t k) (visited (run t) k) (rw (same_visited k below) at said) in
      (name.0, record { an_access = race.accesses.1; named_there = name.1 })

  -- ---- demand 2

  -- Each race found is that of two accesses that race.
  found_races : (r : Found) → In r (found (run t) n) → (i j : ℕ) × (r ≡ race_of t i j) × (j < n) × Races t i j
  unfolding run
  found_races r h =
      let was = found_has (run t) n r h in
      let k = was.0 in
      let race = named_race k was.2.0 was.1 was.2.1 in
      (race.0, k, was.2.2 ∙ ap (race_naming (run t) k) race.1, was.1, race.2)

  pub demand2_met : (report : List ℕ) → Demand2 t n report (length (found (run t) n)) (laid (found (run t) n) report)
  unfolding run entry_of
  demand2_met report = record {
    list = found (run t) n;
    in_order = found_rises (run t) (λ k. refl) n;
    reported_exactly = λ j. (
      λ it.
          let was = found_races it.0 it.1 in
          let number : was.1 ≡ j = sym (ap (λ (r : Found). r.later.event.0) was.2) ∙ it.2 in
          (rw number at was.3, (was.0, rw number at was.4)),
      λ it.
          let name = race_names it.1.0 j it.0 it.1.1 in
          (race_naming (run t) j name.0, has_found (run t) n j name.0 it.0 name.1, refl),
    );
    named_races = found_races;
    count_full = refl;
    first_written = refl;
  }

  -- ---- demand 3

  -- The sets that the run cut off counts are the different sets used earlier.
  different_sets : (k : ℕ) → k < n → (x : ℕ) → DifferentSets t k x (sets_used cut k x)
  unfolding run
  different_sets k below x = record {
    those_used = λ set. (
      λ h.
          let was = (suffices.sets_used_lem k x set).0 h in
          (was.0, was.1.before, (access_before n (run t) was.0 was.1.an_access).1, was.1.there, was.2),
      λ was.
          let earlier : Earlier cut was.0 k x =
          record {
            before = was.1;
            an_access = before_access n (run t) was.0 (omega (arith, was.1)) was.2;
            there = was.3;
          } in
          (suffices.sets_used_lem k x set).1 (was.0, earlier, was.4),
    );
    different = suffices.sets_used_differ k x;
  }

  pub demand3_met : Demand3 t n (visited (run t)) (visits t n)
  unfolding run visits_at
  demand3_met = record {
    few = λ k below access. (
      sets_used cut k (location (t k)),
      different_sets k below (location (t k)),
      rw (sym (same_visited k below)) (suffices.few_visits k (location (t k))),
    );
    true_sum = refl;
    none_missed = λ i k below race.
        let name = race_names i k below race in
        let l = name.0 in
        let other-race = named_race k l below name.1 in
        let visited-there = named_is_in ((run t).parallel k) (entry_of t k) (visited (run t) k) l name.1.named_there in
        (other-race.0, rw other-race.1 at visited-there, other-race.2);
  }
