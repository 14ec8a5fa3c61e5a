-- The theorem behind demands 2 and 3: what is kept is enough, and little. It is about every sequence of accesses and every yes or no that obeys the two
-- laws of 002; nothing else is known of it. Its proof can be cited from proofs/Laws.antt as `kept_suffices`.
use Rattle.std.specs.Prelude.{ℕ, zero, suc, ◌≤◌, ◌<◌, ◌≡◌, ◌↔◌, Bool, true, false, cond, ◌&&◌, List, [], ◌∷◌, map, eqb, length, Some}
use Rattle.locks.specs.Sets.{apart}
use Rattle.bags.specs.YesOrNo.{YesOrNo}
use Rattle.kept.specs.declared.Entry.{Entry}
use Rattle.kept.specs.Lists.{any, In}
use Rattle.kept.specs.Rules.{races, reported, named, after, Lists, changed_at}

-- What is asked of a run: whether event k is an access, to which location, the entry that it may leave there, and whether an entry is parallel with it.
pub record Run : Type 0 where
  pub accesses : ℕ → Bool
  pub location : ℕ → ℕ
  pub entry : ℕ → Entry
  pub parallel : ℕ → Entry → Bool

-- No number stands twice in a list.
unfoldable pub AllDifferent : List ℕ → Type 0
AllDifferent [] = Unit {0}
AllDifferent (a ∷ list) = (any (eqb a) list ≡ false) × AllDifferent list

-- Every entry comes before the entries after it.
unfoldable pub InEventOrder : List Entry → Type 0
InEventOrder [] = Unit {0}
InEventOrder (k ∷ list) = ((l : Entry) → In l list → k.event.0 < l.event.0) × InEventOrder list

module _ (run : Run) where
  -- The lists kept before event k: all are empty at first.
  unfoldable pub kept : ℕ → Lists
  kept zero x = []
  kept (suc k) x = cond (run.accesses k) (changed_at (run.location k) (after (run.parallel k) (run.entry k)) (kept k) x) (kept k x)

  -- The list that the access k visits: the one of its location.
  abbrev pub visited : ℕ → List Entry
  visited k = kept k (run.location k)

  -- The different lock sets used at location x before event k, those of reads told apart by the mark.
  unfoldable pub sets_used : ℕ → ℕ → List ℕ
  sets_used zero x = []
  sets_used (suc k) x =
      let sets = sets_used k x in
      let set = (run.entry k).locks in
      cond (run.accesses k && eqb x (run.location k)) (cond (any (eqb set) sets) sets (set ∷ sets)) sets

  -- Event i is an access to location x, before event k.
  pub record Earlier (i k x : ℕ) : Type 0 where
    pub before : i < k
    pub an_access : run.accesses i ≡ true
    pub there : run.location i ≡ x

  -- Accesses i and j race, i being the earlier.
  pub record Race (i j : ℕ) : Type 0 where
    pub earlier : Earlier i j (run.location j)
    pub in_parallel : run.parallel j (run.entry i) ≡ true
    pub nothing_in_common : apart (run.entry i).locks (run.entry j).locks ≡ true

  -- The yes or no as 002 asks it, of two events.
  abbrev pub parallel_to : ℕ → ℕ → Bool
  parallel_to i j = run.parallel j (run.entry i)

  -- It obeys the two laws of 002, asked of accesses; and each entry has its event's number, which serves the order alone.
  pub record Lawful : Type 0 where
    pub two_laws : YesOrNo (λ k. run.accesses k ≡ true) parallel_to
    pub numbered : (k : ℕ) → run.accesses k ≡ true → (run.entry k).event.0 ≡ k

  pub record KeptSuffices : Type 0 where
    -- An access is reported exactly if it races with some earlier access.
    pub reported_exactly : (j : ℕ) → run.accesses j ≡ true
        → (reported (run.parallel j) (run.entry j) (visited j) ≡ true) ↔ ((i : ℕ) × Race i j)
    -- The entry named is the entry of such an access, and the lowest-numbered of those kept that race.
    pub named_races : (j : ℕ) (k : Entry) → run.accesses j ≡ true → named (run.parallel j) (run.entry j) (visited j) ≡ Some k
        → (i : ℕ) × Race i j × (k ≡ run.entry i)
    pub named_lowest : (j : ℕ) (k l : Entry) → run.accesses j ≡ true → named (run.parallel j) (run.entry j) (visited j) ≡ Some k
        → In l (visited j) → races (run.parallel j) (run.entry j) l ≡ true → k.event.0 ≤ l.event.0
    -- Each entry kept for a location is that of an earlier access to it; they stand in event order; no two have the same lock set.
    pub kept_accesses : (k x : ℕ) (l : Entry) → In l (kept k x) → (i : ℕ) × Earlier i k x × (l ≡ run.entry i)
    pub kept_in_order : (k x : ℕ) → InEventOrder (kept k x)
    pub sets_differ : (k x : ℕ) → AllDifferent (map (λ (l : Entry). l.locks) (kept k x))
    -- The sets that are counted are those of the earlier accesses there, each counted once.
    pub sets_used_lem : (k x set : ℕ) → In set (sets_used k x) ↔ ((i : ℕ) × Earlier i k x × ((run.entry i).locks ≡ set))
    pub sets_used_differ : (k x : ℕ) → AllDifferent (sets_used k x)
    -- So the visits at an access are at most the number of different lock sets used earlier at its location.
    pub few_visits : (k x : ℕ) → length (kept k x) ≤ length (sets_used k x)

  abbrev pub KeptTheorem : Type 0
  KeptTheorem = Lawful → KeptSuffices
