-- The theorems of specs/Theorems.antt and specs/Holds.antt, and a few consequences for the layers above, which cite what stands here and nothing else of
-- this crate's proofs. Assumes nothing.
pub use Rattle.bags.proofs.Pieces.{pushed_length}
use Prim.Native.Nat.{ℕ, suc, ◌<◌}
use mathlib.Core.Path.{◌≡◌, refl, sym, ap, ap₂, ◌∙◌}
use mathlib.Core.Logic.Iff
use mathlib.Core.Logic.{◌≢◌, ◌↔◌}
use mathlib.Core.Bool.{Bool, true, false, cond, not, or-true, not-or_self, true≢false}
use mathlib.Core.List.{List, ◌∷◌, head_d, map}
use native.Mathlib.Decide.{dec_lt}
use native.Mathlib.Omega.{arith}
use lib.Dec.{eqb}
use lib.ListN.{length}
use borrow.Author.Tests.{lt-ltb, ltb-true}
use Rattle.bags.specs.declared.ask.Answer.TheVariants.{InSeries, InParallel, InNoBag}
use Rattle.bags.specs.declared.ask.Pairs.{Pairs}
use Rattle.bags.specs.Parallel.{Act, spawn, return, sync, other, member, begun_after, opens_after, begun, opens, is_main_open, maker}
use Rattle.bags.specs.Bags.{Bags, bags_after, bags, in_p_bag, bags_say_parallel, in_some_bag}
use Rattle.bags.specs.Runs.{bags_in, Room}
use Rattle.bags.specs.Ask.{answer_for}
use Rattle.bags.specs.Steps.{runner}
use Rattle.bags.specs.Theorems.{BagsAgree, InOneBag, InSOrP, NobodyElse, MakerInSomeBag, ReturnsOnce, HandsBack, TwoLaws}
use Rattle.bags.specs.Holds.{Holds, HoldsFirst, HoldsNext, HoldsOther, AskAgrees}
use Rattle.bags.proofs.Stack.{running, never_again, stack_back}
use Rattle.bags.proofs.Runs as runs
use Rattle.bags.proofs.Pieces.{main_owns, owners_counted}
use Rattle.bags.proofs.Agreement.{pairs_before, in_order, bags_are_runs, parallel_in_p_bag, in_p_bag_parallel}
-- Later events change nothing.
pub use Rattle.bags.proofs.Later.{later_events}
-- The two laws of 002.
pub use Rattle.bags.proofs.TwoLaws.{lemma_1, lemma_2}
-- Main was open before if it is open now, and whoever makes an event has begun then and later.
pub use Rattle.bags.proofs.Stack.{main_open_before}
pub use Rattle.bags.proofs.Agreement.{maker_begun_later}
-- The bags are those of the open procedures.
pub use Rattle.bags.proofs.Agreement.{bags_of_open}

-- ---- The SP-bags and the definition -----------------------------------------------------------------------------------------------------------

pub bags_agree : (events : ℕ → Act) → BagsAgree events
unfolding bags_say_parallel
bags_agree events i j h going main = (parallel_in_p_bag events i j main, in_p_bag_parallel events i j h going main)

pub in_one_bag : (events : ℕ → Act) → InOneBag events
in_one_bag events k p main h = rw (bags_are_runs events k main) (runs.once_below p (begun events k) (pairs_before events k) (in_order events k main) h)

pub in_s_or_p : (events : ℕ → Act) → InSOrP events
in_s_or_p events k p main h = rw (bags_are_runs events k main) (runs.in_s_or_p p (begun events k) (pairs_before events k) (in_order events k main) h)

pub nobody_else : (events : ℕ → Act) → NobodyElse events
nobody_else events k p main h =
    rw (bags_are_runs events k main)
    (ap (λ (u : ℕ × Bool × Bool). u.0) (runs.in_none_above p (begun events k) (pairs_before events k) (in_order events k main) h))

pub maker_in_some_bag : (events : ℕ → Act) → MakerInSomeBag events
unfolding in_some_bag
maker_in_some_bag events i k h main =
    rw (in_s_or_p events k (maker events i) main (maker_begun_later events i k h main)) (not-or_self (in_p_bag (maker events i) (bags events k)))

-- ---- Returns ----------------------------------------------------------------------------------------------------------------------------------

pub returns_once : (events : ℕ → Act) → ReturnsOnce events
returns_once events r r' m m' e e' q =
    let t = running events r m in
    let t' = running events r' m' in
    let again : r < r' → ⊥ = λ h. never_again events r r' (maker events r) t.0 t'.0 e t.1 h (t'.1 ∙ ap (◌∷ t'.0) (sym q)) in
    let before : r' < r → ⊥ = λ h. never_again events r' r (maker events r') t'.0 t.0 e' t'.1 h (t.1 ∙ ap (◌∷ t.0) q) in
    elim (dec_lt r r') [ yes h ↦ absurd (again h) | no h ↦ elim (dec_lt r' r) [ yes l ↦ absurd (before l) | no l ↦ omega arith ] ]

pub hands_back : (events : ℕ → Act) → HandsBack events
unfolding maker
hands_back events s r w = let back = stack_back events s r w in (back, ap (λ (gs : List ℕ). head_d gs 0) back)

-- What the yes or no asks: is the maker of the earlier event in a P-bag?
pub asks_the_maker : (events : ℕ → Act) (i j : ℕ) → bags_say_parallel events i j ≡ in_p_bag (maker events i) (bags events j)
unfolding bags_say_parallel
asks_the_maker events i j = refl

-- ---- The two laws -----------------------------------------------------------------------------------------------------------------------------

pub two_laws : (events : ℕ → Act) → TwoLaws events
unfolding bags_say_parallel
two_laws events = record {
  lemma_1 = λ a e j at_a at-e at_j h l precedes parallel.
      parallel_in_p_bag events e j at_j.0
      (lemma_1 events a e j h l at-e.1
      (λ w. true≢false (sym (parallel_in_p_bag events a e at-e.0 w) ∙ precedes))
      (in_p_bag_parallel events a j (omega arith) at_a.1 at_j.0 parallel));
  lemma_2 = λ a e j at_a at-e at_j h l first second.
      parallel_in_p_bag events a j at_j.0
      (lemma_2 events a e j at_j.0 h l
      (in_p_bag_parallel events a e h at_a.1 at-e.0 first)
      (in_p_bag_parallel events e j l at-e.1 at_j.0 second));
}

-- ---- What the pieces hold ---------------------------------------------------------------------------------------------------------------------

-- Main stays open but for a return.
pub main_stays_open : (events : ℕ → Act) (k : ℕ) → is_main_open events k ≡ true → events k ≢ return → is_main_open events (suc k) ≡ true
unfolding is_main_open opens member opens_after
main_stays_open events k main going = after (events k) going
  where
    after : (act : Act) → act ≢ return → member 0 (opens_after act (begun events k) (opens events k)) ≡ true
    after spawn e = rw main (or-true (eqb 0 (begun events k)))
    after return e = absurd (e refl)
    after sync e = main
    after other e = main

pub holds_first : (events : ℕ → Act) → HoldsFirst events
unfolding begun bags is_main_open member opens
holds_first events starts joins starts' joins' pairs b = record {
  main_told = sym (lt-ltb _ _ b.room_after.main_open);
  room = λ some. b.room_after;
  begun_held = b.begun_one;
  bags_held = b.bags;
}

pub holds_next : (events : ℕ → Act) → HoldsNext events
unfolding begun bags is_main_open bags_in
holds_next events k act starts joins starts' joins' pairs pairs' e now goes =
    let held : bags_in starts' joins' pairs' ≡ bags events (suc k) =
    goes.bags ∙ ap₂ (bags_after act) now.begun_held now.bags_held ∙ ap (λ (a : Act). bags_after a (begun events k) (bags events k)) (sym e) in
    record {
      main_told =
          ap (member 0) (sym (bags_of_open events (suc k)) ∙ sym (ap (map (λ (b : Bags). b.owner)) held))
          ∙ main_owns starts' joins' pairs'.count pairs'.begun (λ some. (goes.room_after some).in_order);
      room = goes.room_after;
      begun_held = goes.begun_after_lem ∙ ap₂ begun_after (sym e) now.begun_held;
      bags_held = held;
    }

pub holds_other : (events : ℕ → Act) → HoldsOther events
unfolding begun_after bags_after
holds_other events k starts joins pairs e now =
    holds_next events k other starts joins starts joins pairs pairs e now
    (record { begun_after_lem = refl; bags = refl; room_after = now.room; starts_rest = refl; joins_rest = refl })

-- While main is open they are as the functions ask for,
pub room_held : (events : ℕ → Act) (k : ℕ) (starts joins : List ℕ) (pairs : Pairs) → Holds events k starts joins pairs → is_main_open events k ≡ true
    → Room starts joins pairs
room_held events k starts joins pairs now main = now.room (ltb-true _ _ (sym now.main_told ∙ main))

-- and the procedure that runs is the one that makes the present event.
pub runner_makes : (events : ℕ → Act) (k : ℕ) (starts joins : List ℕ) (pairs : Pairs) → Holds events k starts joins pairs
    → runner (bags_in starts joins pairs) ≡ maker events k
unfolding runner maker
runner_makes events k starts joins pairs now =
    ap (λ (gs : List ℕ). head_d gs 0) (ap (map (λ (b : Bags). b.owner)) now.bags_held ∙ bags_of_open events k)

-- Each open procedure has a pair.
pub pairs_are_open : (events : ℕ → Act) (k : ℕ) (starts joins : List ℕ) (pairs : Pairs) → Holds events k starts joins pairs
    → length (opens events k) ≡ pairs.count
unfolding bags_in
pairs_are_open events k starts joins pairs now =
    ap length (sym (bags_of_open events k) ∙ sym (ap (map (λ (b : Bags). b.owner)) now.bags_held))
    ∙ owners_counted starts joins pairs.count pairs.begun

-- Later events change nothing about that.
pub holds_same : (events events' : ℕ → Act) (k : ℕ) (starts joins : List ℕ) (pairs : Pairs) → ((i : ℕ) → i < k → events i ≡ events' i)
    → Holds events k starts joins pairs → Holds events' k starts joins pairs
unfolding is_main_open
holds_same events events' k starts joins pairs same now =
    let agree = later_events k events events' same in
    record {
      main_told = sym (ap (member 0) agree.same_opens) ∙ now.main_told;
      room = now.room;
      begun_held = now.begun_held ∙ agree.same_begun;
      bags_held = now.bags_held ∙ agree.same_bags;
    }

-- ---- The answer of `ask` ----------------------------------------------------------------------------------------------------------------------

-- The answer that two yes or no give, in a P-bag and in an S-bag, where one of them is yes.
says_parallel_lem : (P : Bool) → (cond P InParallel (cond (not P) InSeries InNoBag) ≡ InParallel) ↔ (P ≡ true)
says_parallel_lem true = (λ e. refl, λ e. refl)
says_parallel_lem false = (λ e. cc, λ e. cc)

says_series : (P : Bool) → (cond P InParallel (cond (not P) InSeries InNoBag) ≡ InSeries) ↔ (P ≡ true → ⊥)
says_series true = (λ e yes. cc, λ none. absurd (none refl))
says_series false = (λ e yes. true≢false (sym yes), λ none. refl)

pub ask_agrees : (events : ℕ → Act) → AskAgrees events
unfolding answer_for bags_say_parallel
ask_agrees events i k starts joins pairs now main h going =
    let agree = bags_agree events i k h going main in
    let begins = maker_begun_later events i k (omega arith) main in
    let P = in_p_bag (maker events i) (bags events k) in
    let series = says_series P in
    rw (now.bags_held, in_s_or_p events k (maker events i) main begins) (
      Iff.trans (says_parallel_lem P) (Iff.symm agree),
      (λ e w. series.0 e (agree.0 w), λ none. series.1 (λ yes. none (agree.1 yes))),
    )
