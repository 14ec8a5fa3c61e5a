-- What is proved of procedures, parallelism and bags, for every sequence of events. Each statement can be cited from proofs/Laws.antt, under the name in
-- brackets.
use Rattle.std.specs.Prelude.{ℕ, suc, ◌≤◌, ◌<◌, ◌≡◌, ◌≢◌, ◌↔◌, true, not, map}
use Rattle.bags.specs.Parallel.{Act, return, begun, opens, is_main_open, maker, MatchingReturn, Parallel, Precedes}
use Rattle.bags.specs.Bags.{Bags, bags, in_s_bag, in_p_bag, bags_say_parallel, in_some_bag, times_in_bags}
use Rattle.bags.specs.YesOrNo.{YesOrNo}

module _ (events : ℕ → Act) where
  -- The SP-bags give the same yes or no as the definition, for every earlier event i that is no return (an access never is) and the present
  -- event j, main being open [bags_agree].
  abbrev pub BagsAgree : Type 0
  BagsAgree = (i j : ℕ) → i < j → events i ≢ return → is_main_open events j ≡ true → Parallel events i j ↔ (bags_say_parallel events i j ≡ true)

  -- While main is open every procedure begun is in exactly one bag [in_one_bag], which is an S-bag or a P-bag [in_s_or_p], nobody else is in any
  -- [nobody_else]; and the bags are those of the procedures that are open [bags_of_open].
  abbrev pub InOneBag : Type 0
  InOneBag = (k p : ℕ) → is_main_open events k ≡ true → p < begun events k → times_in_bags p (bags events k) ≡ 1

  abbrev pub InSOrP : Type 0
  InSOrP = (k p : ℕ) → is_main_open events k ≡ true → p < begun events k → in_s_bag p (bags events k) ≡ not (in_p_bag p (bags events k))

  abbrev pub NobodyElse : Type 0
  NobodyElse = (k p : ℕ) → is_main_open events k ≡ true → begun events k ≤ p → times_in_bags p (bags events k) ≡ 0

  abbrev pub BagsOfOpen : Type 0
  BagsOfOpen = (k : ℕ) → map (λ (b : Bags). b.owner) (bags events k) ≡ opens events k

  -- So the maker of an event is in a bag from then on, while main is open: code 12 has no case [maker_in_some_bag].
  abbrev pub MakerInSomeBag : Type 0
  MakerInSomeBag = (i k : ℕ) → i ≤ k → is_main_open events k ≡ true → in_some_bag (maker events i) (bags events k) ≡ true

  -- A procedure returns at most once, main being open [returns_once]; its return hands control back to the one that spawned it: the open procedures
  -- are again those at the spawn [hands_back].
  abbrev pub ReturnsOnce : Type 0
  ReturnsOnce =
      (r r' : ℕ) → is_main_open events r ≡ true → is_main_open events r' ≡ true → events r ≡ return → events r' ≡ return
      → maker events r ≡ maker events r' → r ≡ r'

  abbrev pub HandsBack : Type 0
  HandsBack = (s r : ℕ) → MatchingReturn events s r → (opens events (suc r) ≡ opens events s) × (maker events (suc r) ≡ maker events s)

  -- The two laws of YesOrNo.antt for the definition itself. In the first the middle event is no return [lemma-1], in the second main is open
  -- [lemma-2].
  abbrev pub Lemma1 : Type 0
  Lemma1 = (a e j : ℕ) → a < e → e < j → events e ≢ return → Precedes events a e → Parallel events a j → Parallel events e j

  abbrev pub Lemma2 : Type 0
  Lemma2 = (a e j : ℕ) → is_main_open events j ≡ true → a < e → e < j → Parallel events a e → Parallel events e j → Parallel events a j

  -- So the bags' yes or no obeys them, asked of events that are no return, made while main is open [two_laws].
  abbrev pub Askable : ℕ → Type 0
  Askable k = (is_main_open events k ≡ true) × (events k ≢ return)

  abbrev pub TwoLaws : Type 0
  TwoLaws = YesOrNo Askable (bags_say_parallel events)

-- Later events change nothing: two sequences with the same events before j agree on all of this at j [later_events].
pub record SameAt (j : ℕ) (events events' : ℕ → Act) : Type 0 where
  pub same_begun : begun events j ≡ begun events' j
  pub same_opens : opens events j ≡ opens events' j
  pub same_maker : maker events j ≡ maker events' j
  pub same_bags : bags events j ≡ bags events' j
  pub same_parallel : (i : ℕ) → Parallel events i j ↔ Parallel events' i j

abbrev pub LaterEvents : Type 0
LaterEvents = (j : ℕ) (events events' : ℕ → Act) → ((k : ℕ) → k < j → events k ≡ events' k) → SameAt j events events'
