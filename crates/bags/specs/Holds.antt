-- The pieces through a trace: what `begin`, the events and `ask` come to. Each statement can be cited from proofs/Laws.antt, under the name in brackets.
use Rattle.std.specs.Prelude.{ℕ, suc, ◌<◌, ◌≡◌, ◌≢◌, ◌↔◌, true, List, ltb}
use Rattle.bags.specs.declared.ask.Pairs.{Pairs}
use Rattle.bags.specs.declared.ask.Answer.TheVariants.{InSeries, InParallel}
use Rattle.bags.specs.Parallel.{Act, return, other, begun, is_main_open, maker, Parallel, Precedes}
use Rattle.bags.specs.Bags.{bags}
use Rattle.bags.specs.Runs.{bags_in, Room}
use Rattle.bags.specs.Ask.{answer_for}
use Rattle.bags.specs.Steps.{Begins, Carries}

module _ (events : ℕ → Act) where
  -- The pieces hold the bags as they stand before event k, and tell whether main is open.
  pub record Holds (k : ℕ) (starts joins : List ℕ) (pairs : Pairs) : Type 0 where
    pub main_told : is_main_open events k ≡ ltb 0 pairs.count
    pub room : 0 < pairs.count → Room starts joins pairs
    pub begun_held : pairs.begun ≡ begun events k
    pub bags_held : bags_in starts joins pairs ≡ bags events k

  -- So they do once main has begun [holds_first], and after each event [holds_next]; an event that is no spawn, return or sync leaves them as they
  -- are [holds_other].
  abbrev pub HoldsFirst : Type 0
  HoldsFirst = (starts joins starts' joins' : List ℕ) (pairs : Pairs) → Begins starts joins starts' joins' pairs → Holds 0 starts' joins' pairs

  abbrev pub HoldsNext : Type 0
  HoldsNext =
      (k : ℕ) (act : Act) (starts joins starts' joins' : List ℕ) (pairs pairs' : Pairs) → events k ≡ act → Holds k starts joins pairs
      → Carries act starts joins pairs starts' joins' pairs' → Holds (suc k) starts' joins' pairs'

  abbrev pub HoldsOther : Type 0
  HoldsOther = (k : ℕ) (starts joins : List ℕ) (pairs : Pairs) → events k ≡ other → Holds k starts joins pairs → Holds (suc k) starts joins pairs

  -- Then the answer of `ask` about the maker of an earlier event i that is no return is "in parallel" exactly if i and event k are parallel, and
  -- "in series" exactly if i precedes it, main being open [ask_agrees].
  abbrev pub AskAgrees : Type 0
  AskAgrees =
      (i k : ℕ) (starts joins : List ℕ) (pairs : Pairs) → Holds k starts joins pairs → is_main_open events k ≡ true → i < k → events i ≢ return
      → ((answer_for (maker events i) (bags_in starts joins pairs) ≡ InParallel) ↔ Parallel events i k)
      × ((answer_for (maker events i) (bags_in starts joins pairs) ≡ InSeries) ↔ Precedes events i k)
