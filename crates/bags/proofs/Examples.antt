-- 01's small traces with parallelism and Figure 1 of 002, evaluated: antt computes each line from the definitions. Of the events only spawn, return and
-- sync are told apart; an access, a lock and an unlock are `other`. Then what pieces hold, and pieces that break a contract. Assumes nothing.
use Prim.Native.Nat.{ℕ}
use mathlib.Core.Path.{◌≡◌, refl, sym, ap}
use mathlib.Core.Logic.{◌≢◌}
use mathlib.Core.Bool.{true, false, cond, true≢false}
use mathlib.Core.List.{List, [], ◌∷◌, ◌++◌, head_d, map}
use native.Mathlib.Omega.{arith}
use lib.ListN.{get_or}
use Rattle.bags.specs.declared.ask.Answer.{Answer}
use Rattle.bags.specs.declared.ask.Answer.TheVariants.{InSeries, InParallel, InNoBag}
use Rattle.bags.specs.declared.ask.Pairs.{Pairs}
use Rattle.std.specs.Prelude.{Ok, Err}
use Rattle.bags.specs.Parallel.{Act, spawn, return, sync, other, member, begun_after, opens_after, begun, opens, is_main_open, maker, Parallel, Precedes}
use Rattle.bags.specs.Bags.{bags_of_new, synced, handed, bags_after, bags, in_s_bag, in_p_bag, bags_say_parallel, in_some_bag}
use Rattle.bags.specs.Runs.{numbers_from, run, as_bags, pairs_in, bags_in}
use Rattle.bags.specs.Ask.{answer_for}
use Rattle.bags.specs.Steps.{runner, Begins, Carries, spawned, pairs_after, pushed}
use Rattle.bags.proofs.Laws.{bags_agree}

-- The events of a list, by their numbers.
unfoldable pub events_of : List Act → ℕ → Act
events_of acts k = get_or acts k other

-- Of some events, in order: each pair, the earlier event first, that the SP-bags call parallel.
unfoldable pub parallel_with : (ℕ → Act) → ℕ → List ℕ → List (ℕ × ℕ)
parallel_with events i [] = []
parallel_with events i (j ∷ js) = cond (bags_say_parallel events i j) ((i, j) ∷ parallel_with events i js) (parallel_with events i js)

unfoldable pub parallel_pairs : (ℕ → Act) → List ℕ → List (ℕ × ℕ)
parallel_pairs events [] = []
parallel_pairs events (i ∷ js) = parallel_with events i js ++ parallel_pairs events js

-- A trace: its events, its accesses, and the pairs of them that are parallel.
pub record Row : Type 0 where
  pub events : List Act
  pub accesses : List ℕ
  pub parallel : List (ℕ × ℕ)

-- Figure 1 of 002: main writes; three procedures are spawned, and each takes its locks, reads, writes and releases; a sync; main reads.
abbrev pub figure1 : List Act
figure1 =
    other ∷
    spawn ∷ other ∷ other ∷ other ∷ other ∷ other ∷ other ∷ return ∷
    spawn ∷ other ∷ other ∷ other ∷ other ∷ return ∷
    spawn ∷ other ∷ other ∷ other ∷ other ∷ return ∷
    sync ∷ other ∷ return ∷ []

abbrev pub returned_twice : List Act
returned_twice = spawn ∷ spawn ∷ other ∷ return ∷ return ∷ sync ∷ other ∷ return ∷ []

abbrev pub table : List Row
table =
    -- a spawned write and one after it; two reads have the same events here
    record {
      events = spawn ∷ other ∷ return ∷ other ∷ return ∷ [];
      accesses = 1 ∷ 3 ∷ [];
      parallel = (1, 3) ∷ [];
    } ∷
    -- with a sync
    record {
      events = spawn ∷ other ∷ return ∷ sync ∷ other ∷ return ∷ [];
      accesses = 1 ∷ 4 ∷ [];
      parallel = [];
    } ∷
    -- one lock
    record {
      events = spawn ∷ other ∷ other ∷ other ∷ return ∷ other ∷ other ∷ other ∷ return ∷ [];
      accesses = 2 ∷ 6 ∷ [];
      parallel = (2, 6) ∷ [];
    } ∷
    -- implied sync
    record {
      events = spawn ∷ spawn ∷ other ∷ return ∷ return ∷ other ∷ return ∷ [];
      accesses = 2 ∷ 5 ∷ [];
      parallel = (2, 5) ∷ [];
    } ∷
    -- dropped entry: event 2 precedes 5, and both are parallel with 7
    record {
      events = spawn ∷ spawn ∷ other ∷ return ∷ sync ∷ other ∷ return ∷ other ∷ return ∷ [];
      accesses = 2 ∷ 5 ∷ 7 ∷ [];
      parallel = (2, 7) ∷ (5, 7) ∷ [];
    } ∷
    -- Figure 1: each access of a spawned procedure with each of the other two's, and none of main's
    record {
      events = figure1;
      accesses = 0 ∷ 4 ∷ 5 ∷ 11 ∷ 12 ∷ 17 ∷ 18 ∷ 22 ∷ [];
      parallel =
          (4, 11) ∷ (4, 12) ∷ (4, 17) ∷ (4, 18) ∷ (5, 11) ∷ (5, 12) ∷ (5, 17) ∷ (5, 18) ∷ (11, 17) ∷ (11, 18) ∷ (12, 17) ∷ (12, 18) ∷ [];
    } ∷
    -- a sync of the spawned procedure leaves its parent's children parallel: 1 with 5, though a sync lies between
    record {
      events = spawn ∷ other ∷ return ∷ spawn ∷ sync ∷ other ∷ return ∷ return ∷ [];
      accesses = 1 ∷ 5 ∷ [];
      parallel = (1, 5) ∷ [];
    } ∷
    -- 2 is spawned by 1 and both return: 1's return carries a sync, and then main's sync comes before 6
    record {
      events = returned_twice;
      accesses = 2 ∷ 6 ∷ [];
      parallel = [];
    } ∷ []

pub all_as_known : map (λ (row : Row). parallel_pairs (events_of row.events) row.accesses) table ≡ map (λ (row : Row). row.parallel) table
unfolding events_of parallel_with parallel_pairs member begun_after opens_after begun opens maker head_d bags_of_new synced handed bags_after bags in_p_bag bags_say_parallel
all_as_known = refl

other_no_return : other ≢ return
other_no_return e = cc

-- The definition itself, on the first of them: spawn 0, made by main, has its matching return 2 with 0 < 1 < 2 < 3, and nothing lies between 2 and 3.
pub spawned_write : Parallel (events_of (spawn ∷ other ∷ return ∷ other ∷ return ∷ [])) 1 3
unfolding events_of begun_after opens_after begun opens maker head_d
spawned_write = record {
  s = 0;
  G = 0;
  made_by_g = refl;
  r = 2;
  matching = record { spawns = refl; returns = refl; made_by_started = refl };
  s<i = omega arith;
  i<r = omega arith;
  r<j = omega arith;
  no_sync_of_g = λ k from to. absurd (omega arith);
  no_return_of_g = λ k from to. absurd (omega arith);
}

-- And by the theorem that the SP-bags agree with it: in Figure 1 the race of events 12 and 17, and the sync between 12 and main's read; and that what 1
-- spawned is not parallel with what follows main's sync, though 1 itself has made no sync.
pub figure1_parallel : Parallel (events_of figure1) 12 17
unfolding events_of member begun_after opens_after begun opens is_main_open maker head_d bags_of_new synced handed bags_after bags in_p_bag bags_say_parallel
figure1_parallel = (bags_agree (events_of figure1) 12 17 (omega arith) other_no_return refl).1 refl

pub figure1_synced : Precedes (events_of figure1) 12 22
unfolding events_of member begun_after opens_after begun opens is_main_open maker head_d bags_of_new synced handed bags_after bags in_p_bag bags_say_parallel
figure1_synced w = true≢false (sym ((bags_agree (events_of figure1) 12 22 (omega arith) other_no_return refl).0 w))

pub returned_and_synced : Precedes (events_of returned_twice) 2 6
unfolding events_of member begun_after opens_after begun opens is_main_open maker head_d bags_of_new synced handed bags_after bags in_p_bag bags_say_parallel
returned_and_synced w = true≢false (sym ((bags_agree (events_of returned_twice) 2 6 (omega arith) other_no_return refl).0 w))

-- ---- Pieces -----------------------------------------------------------------------------------------------------------------------------------

abbrev answers : List ℕ → List ℕ → Pairs → List ℕ → List Answer
answers starts joins pairs = map (λ (p : ℕ). answer_for p (bags_in starts joins pairs))

-- Main has spawned 1, which has spawned 2 and 3; 2 has returned, and 3 runs. Then 3 has returned too and 1 has synced.
abbrev three_runs : Pairs
three_runs = record { count = 3; begun = 4; start = 3; join = 4 }

abbrev one_synced : Pairs
one_synced = record { count = 2; begun = 4; start = 1; join = 4 }

-- Five procedures, each spawned by the one before, all open.
abbrev five_open : Pairs
five_open = record { count = 5; begun = 5; start = 4; join = 5 }

-- One more may begin, and none.
abbrev one_left : Pairs
one_left = record { count = 2; begun = 4095; start = 1; join = 2 }

abbrev none_left : Pairs
none_left = record { count = 2; begun = 4096; start = 1; join = 2 }

pub pieces_as_known :
    (bags_in (0 ∷ 1 ∷ 3 ∷ []) (1 ∷ 2 ∷ 4 ∷ []) three_runs
    ≡ record { owner = 3; S = 3 ∷ []; P = [] } ∷ record { owner = 1; S = 1 ∷ []; P = 2 ∷ [] } ∷ record { owner = 0; S = 0 ∷ []; P = [] } ∷ [])
    × (answers (0 ∷ 1 ∷ 3 ∷ []) (1 ∷ 2 ∷ 4 ∷ []) three_runs (0 ∷ 1 ∷ 2 ∷ 3 ∷ 4 ∷ [])
    ≡ InSeries ∷ InSeries ∷ InParallel ∷ InSeries ∷ InNoBag ∷ [])
    × (answers (0 ∷ 1 ∷ 3 ∷ []) (1 ∷ 4 ∷ 4 ∷ []) one_synced (0 ∷ 1 ∷ 2 ∷ 3 ∷ 4 ∷ [])
    ≡ InSeries ∷ InSeries ∷ InSeries ∷ InSeries ∷ InNoBag ∷ [])
    × (runner (bags_in (0 ∷ 1 ∷ 3 ∷ []) (1 ∷ 2 ∷ 4 ∷ []) three_runs) ≡ 3)
    × (in_some_bag 3 (bags_in (0 ∷ 1 ∷ 3 ∷ []) (1 ∷ 2 ∷ 4 ∷ []) three_runs) ≡ true)
    × (in_some_bag 4 (bags_in (0 ∷ 1 ∷ 3 ∷ []) (1 ∷ 2 ∷ 4 ∷ []) three_runs) ≡ false)
    × (answers (0 ∷ 1 ∷ 2 ∷ 3 ∷ 4 ∷ []) (1 ∷ 2 ∷ 3 ∷ 4 ∷ 5 ∷ []) five_open (0 ∷ 1 ∷ 2 ∷ 3 ∷ 4 ∷ 5 ∷ [])
    ≡ InSeries ∷ InSeries ∷ InSeries ∷ InSeries ∷ InSeries ∷ InNoBag ∷ [])
    × (spawned one_left ≡ Ok tt)
    × (spawned none_left ≡ Err (record {}))
    × (pairs_after one_left ≡ record { count = 3; begun = 4096; start = 4095; join = 4096 })
    × (pairs_after none_left ≡ none_left)
    × (pushed one_left 7 (0 ∷ 1 ∷ 3 ∷ []) ≡ 0 ∷ 1 ∷ 7 ∷ [])
    × (pushed none_left 7 (0 ∷ 1 ∷ 3 ∷ []) ≡ 0 ∷ 1 ∷ 3 ∷ [])
unfolding member in_s_bag in_p_bag numbers_from run as_bags pairs_in bags_in answer_for in_some_bag runner head_d spawned pairs_after pushed
pieces_as_known = (refl, refl, refl, refl, refl, refl, refl, refl, refl, refl, refl, refl, refl)

-- ---- Pieces that break a contract -------------------------------------------------------------------------------------------------------------

-- In each, `more` and `more'` stand for the rest of the two pieces, whatever it is.
module _ (more more' : List ℕ) where
  -- 1 has returned to main, and 2 runs and syncs. A sync that also clears the children of the caller's parents, or main's instead of the caller's,
  -- takes 1 out of main's P-bag.
  abbrev two_runs : Pairs
  two_runs = record { count = 2; begun = 3; start = 2; join = 3 }

  pub parents_cleared : Carries sync (0 ∷ 2 ∷ more) (1 ∷ 3 ∷ more') two_runs (0 ∷ 2 ∷ more) (2 ∷ 3 ∷ more') two_runs → ⊥
  unfolding member synced bags_after in_p_bag numbers_from run as_bags pairs_in bags_in
  parents_cleared c = true≢false (sym (ap (in_p_bag 1) c.bags))

  pub mains_cleared : Carries sync (0 ∷ 2 ∷ more) (1 ∷ 3 ∷ more') two_runs (0 ∷ 2 ∷ more) (3 ∷ 3 ∷ more') two_runs → ⊥
  unfolding member synced bags_after in_p_bag numbers_from run as_bags pairs_in bags_in
  mains_cleared c = true≢false (sym (ap (in_p_bag 1) c.bags))

  -- 1 has spawned 2, which has returned to it, and returns itself. A return without the implied sync hands over the S-bag alone, and 2 is lost: the
  -- pieces could say so only by one procedure less.
  pub lost_at_return :
      Carries return (0 ∷ 1 ∷ more) (1 ∷ 2 ∷ more') (record { count = 2; begun = 3; start = 1; join = 2 }) (0 ∷ 1 ∷ more) (1 ∷ 2 ∷ more')
      (record { count = 1; begun = 2; start = 0; join = 1 }) → ⊥
  unfolding member synced handed bags_after in_p_bag numbers_from run as_bags pairs_in bags_in
  lost_at_return c = true≢false (sym (ap (in_p_bag 2) c.bags))

  -- 1 returns to main. If its pair stays, it runs on; if it stays at hand, what is at hand is not the last pair.
  abbrev one_runs : Pairs
  one_runs = record { count = 2; begun = 2; start = 1; join = 2 }

  pub pair_kept : Carries return (0 ∷ 1 ∷ more) (1 ∷ 2 ∷ more') one_runs (0 ∷ 1 ∷ more) (1 ∷ 2 ∷ more') one_runs → ⊥
  unfolding synced handed bags_after numbers_from run as_bags pairs_in bags_in runner head_d
  pair_kept c = let z : ◌≡◌ {A = ℕ} 1 0 = ap runner c.bags in omega arith

  pub pair_kept_at_hand :
      Carries return (0 ∷ 1 ∷ more) (1 ∷ 2 ∷ more') one_runs (0 ∷ 1 ∷ more) (1 ∷ 2 ∷ more') (record { count = 1; begun = 2; start = 1; join = 2 }) → ⊥
  pair_kept_at_hand c = let z : ◌≡◌ {A = ℕ} 1 0 = (c.room_after (omega arith)).top_start in omega arith

  -- Main spawns 1, or begins. A join that is not past the start puts the new procedure into its own P-bag.
  abbrev main_runs : Pairs
  main_runs = record { count = 1; begun = 1; start = 0; join = 1 }

  pub new_in_own_p_bag :
      Carries spawn (0 ∷ 9 ∷ more) (1 ∷ 9 ∷ more') main_runs (0 ∷ 1 ∷ more) (1 ∷ 1 ∷ more') (record { count = 2; begun = 2; start = 1; join = 1 }) → ⊥
  unfolding member bags_of_new bags_after in_p_bag numbers_from run as_bags pairs_in bags_in
  new_in_own_p_bag c = true≢false (ap (in_p_bag 1) c.bags)

  pub main_in_own_p_bag : Begins (9 ∷ more) (9 ∷ more') (0 ∷ more) (0 ∷ more') (record { count = 1; begun = 1; start = 0; join = 0 }) → ⊥
  unfolding member bags_of_new in_p_bag numbers_from run as_bags pairs_in bags_in
  main_in_own_p_bag b = true≢false (ap (in_p_bag 0) b.bags)
