-- The visits to a location's list: what is seen of each entry is what the rules say of it, so that what is seen in the end is what they say of the
-- whole list. Assumes nothing.
use Prim.Native.Nat.{ℕ, suc, ◌+◌, ◌≤◌, ◌<◌}
use mathlib.Core.Path.{◌≡◌, refl, sym, ap, ◌∙◌}
use mathlib.Core.Bool.{Bool, true, false, cond, not, ◌||◌, and-false, true≢false}
use mathlib.Core.List.{List, [], ◌∷◌}
use native.Mathlib.Omega.{arith}
use lib.ListN.{length, get_or}
use borrow.Author.Tests.{not-true, not-false}
use Rattle.locks.specs.Sets.{apart, within}
use Rattle.bags.specs.declared.ask.Answer.{Answer}
use Rattle.bags.specs.Bags.{Bags, in_p_bag, in_some_bag}
use Rattle.bags.specs.Ask.{says_parallel}
use Rattle.kept.specs.declared.Entry.{Entry}
use Rattle.kept.specs.declared.Seen.{Seen}
use Rattle.kept.specs.declared.NotKept.TheVariants.{InNoBag}
use Rattle.std.specs.Prelude.{Ok, Err}
use Rattle.kept.specs.declared.Weighed.{Weighed}
use Rattle.kept.specs.declared.Weighed.TheVariants.{Stays, Goes, Beside}
use Rattle.kept.specs.Lists.{any}
use Rattle.kept.specs.Rules.{races, dropped, omits}
use Rattle.kept.specs.Pieces.{piece_size, Chain}
use Rattle.kept.specs.Access.{parallel_by}
use Rattle.kept.specs.Parts.{entry_of, nothing_seen, into, is_dropped, weighed_entry, seen_over, some_stray, looked_over}

-- ---- one entry

module _ (bs : List Bags) (e : Entry) (at procedure locks : ℕ) (seen : Seen) {a w c : Bool} (apart-is : a ≡ apart locks e.locks)
    (within-is : w ≡ within locks e.locks) (contains-is : c ≡ within e.locks locks) where
  abbrev told : Seen
  told = weighed_entry bs e at (entry_of procedure locks) seen

  -- Where the sets share something and neither lies within the other, "parallel" plays no part.
  pub stays_unasked : not ((a || w) || c) ≡ true → into Stays at seen ≡ told
  unfolding weighed_entry races dropped omits
  stays_unasked t = go a w c apart-is within-is contains-is t
    where
      go : (a w c : Bool) → a ≡ apart locks e.locks → w ≡ within locks e.locks → c ≡ within e.locks locks → not ((a || w) || c) ≡ true
          → into Stays at seen ≡ told
      go false false false p q s t = simp (sym p, sym q, sym s, and-false)
      go true w c p q s t = absurd (true≢false (sym t))
      go false true c p q s t = absurd (true≢false (sym t))
      go false false true p q s t = absurd (true≢false (sym t))

  -- Else the bags' answer tells.
  module _ (answer : Answer) {parallel : Bool} (asked : says_parallel answer ≡ in_p_bag procedure bs) (said : parallel ≡ says_parallel answer) where
    pub beside_asked : parallel ≡ true → into (Beside a w) at seen ≡ told
    unfolding weighed_entry races dropped omits
    beside_asked so = simp (sym asked ∙ sym said ∙ so, apart-is, within-is)

    pub goes_asked : parallel ≡ false → c ≡ true → into Goes at seen ≡ told
    unfolding weighed_entry races dropped omits
    goes_asked not_so contains = simp (sym asked ∙ sym said ∙ not_so, sym contains-is ∙ contains)

    pub stays_asked : parallel ≡ false → c ≡ false → into Stays at seen ≡ told
    unfolding weighed_entry races dropped omits
    stays_asked not_so contains = simp (sym asked ∙ sym said ∙ not_so, sym contains-is ∙ contains)

-- What becomes of an entry says whether the rules drop it.
pub dropped_told : (bs : List Bags) (e : Entry) (k : Entry) (v : Weighed) → ((at : ℕ) (seen : Seen) → into v at seen ≡ weighed_entry bs e at k seen)
    → is_dropped v ≡ dropped (parallel_by bs) e k
unfolding weighed_entry
dropped_told bs e k v told = same v (dropped (parallel_by bs) e k) (ap (λ (s : Seen). s.dropped) (told 0 nothing_seen))
  where
    same : (v : Weighed) (b : Bool) → (into v 0 nothing_seen).dropped ≡ cond b 1 0 → is_dropped v ≡ b
    same Stays true q = absurd (omega (arith, q))
    same Stays false q = refl
    same Goes true q = refl
    same Goes false q = absurd (omega (arith, q))
    same (Beside racing omits) true q = absurd (omega (arith, q))
    same (Beside racing omits) false q = refl

-- Only what goes is dropped.
pub not_dropped : (v : Weighed) → (v ≡ Goes → ⊥) → is_dropped v ≡ false
not_dropped Stays other = refl
not_dropped Goes other = absurd (other refl)
not_dropped (Beside racing omits) other = refl

-- ---- the walk

-- One visit more, and at most one dropped more.
few_more : (b : Bool) (d v : ℕ) → d ≤ v → cond b (d + 1) d ≤ v + 1
few_more true d v h = omega arith
few_more false d v h = omega arith

-- An entry weighed is a visit.
pub one_visit_more : (w : Weighed) (at : ℕ) (seen r : Seen) → r ≡ into w at seen → r.visits ≡ seen.visits + 1
one_visit_more Stays at seen r q = ap (λ (s : Seen). s.visits) q
one_visit_more Goes at seen r q = ap (λ (s : Seen). s.visits) q
one_visit_more (Beside races omits) at seen r q = ap (λ (s : Seen). s.visits) q

abbrev entry : (procedures sets : List ℕ) → ℕ → Entry
entry procedures sets s = entry_of (get_or procedures s 0) (get_or sets s 0)

module _ (bs : List Bags) (e : Entry) (links procedures sets whole : List ℕ) where
  -- The entries still to be visited, seen after those already seen, make up what is seen of the whole list; and none so far was in no bag.
  pub record Walking (seen : Seen) (at : ℕ) : Type 0 where
    pub rest : List ℕ
    pub chain : Chain links at rest
    pub counted : seen.visits + length rest ≤ piece_size
    pub fewer : seen.dropped ≤ seen.visits
    pub same : seen_over bs e procedures sets rest seen ≡ seen_over bs e procedures sets whole nothing_seen
    pub stray_ahead : some_stray bs e procedures sets rest ≡ some_stray bs e procedures sets whole

module _ {bs : List Bags} {e : Entry} {links procedures sets whole : List ℕ} where
  -- While a link leads on, it leads to a slot within the pieces, and not everything is counted.
  pub walk_inside : {seen : Seen} {at slot : ℕ} → Walking bs e links procedures sets whole seen at → at ≡ suc slot → (slot < piece_size) × (seen.visits < piece_size)
  unfolding Chain
  walk_inside {seen} {at} {slot} w leads = go w.rest w.chain w.counted
    where
      go : (rest : List ℕ) → Chain links at rest → seen.visits + length rest ≤ piece_size → (slot < piece_size) × (seen.visits < piece_size)
      go [] chain counted = absurd (omega (arith, chain, leads))
      go (s ∷ ss) chain counted = (omega (arith, chain.0, chain.1), omega arith)

  -- An entry in no bag is the answer.
  pub walk_strays : {seen : Seen} {at slot : ℕ} {b : Bool} → Walking bs e links procedures sets whole seen at → at ≡ suc slot → b ≡ in_some_bag (get_or procedures slot 0) bs → not b ≡ true
      → Err InNoBag ≡ looked_over bs e procedures sets whole
  unfolding Chain some_stray looked_over any
  walk_strays {seen} {at} {slot} {b} w leads is stray = go w.rest w.chain w.stray_ahead
    where
      go : (rest : List ℕ) → Chain links at rest → some_stray bs e procedures sets rest ≡ some_stray bs e procedures sets whole
          → Err InNoBag ≡ looked_over bs e procedures sets whole
      go [] chain ahead = absurd (omega (arith, chain, leads))
      go (s ∷ ss) chain ahead =
          let here : slot ≡ s = omega (arith, chain.0, leads) in
          let gone : in_some_bag (get_or procedures s 0) bs ≡ false = rw here at (sym is ∙ not-true b stray) in
          rw (sym ahead, gone)

  -- Else it is weighed, and the walk goes on.
  pub walk_goes_on : {seen : Seen} {at slot next : ℕ} (v : Weighed) {r : Seen} {b : Bool} → Walking bs e links procedures sets whole seen at → at ≡ suc slot
      → b ≡ in_some_bag (get_or procedures slot 0) bs → not b ≡ false
      → ((at' : ℕ) (seen' : Seen) → into v at' seen' ≡ weighed_entry bs e at' (entry procedures sets slot) seen') → r ≡ into v at seen
      → next ≡ get_or links slot 0 → Walking bs e links procedures sets whole r next
  unfolding Chain seen_over weighed_entry some_stray any
  walk_goes_on {seen} {at} {slot} {next} v {r} {b} w leads is bagged told q onward = go w.rest w.chain w.counted w.same w.stray_ahead
    where
      go : (rest : List ℕ) → Chain links at rest → seen.visits + length rest ≤ piece_size
          → seen_over bs e procedures sets rest seen ≡ seen_over bs e procedures sets whole nothing_seen
          → some_stray bs e procedures sets rest ≡ some_stray bs e procedures sets whole → Walking bs e links procedures sets whole r next
      go [] chain counted same ahead = absurd (omega (arith, chain, leads))
      go (s ∷ ss) chain counted same ahead =
          let here : slot ≡ s = omega (arith, chain.0, leads) in
          let now : r ≡ weighed_entry bs e (suc s) (entry procedures sets s) seen = rw (here, chain.0) at (q ∙ told at seen) in
          let found : in_some_bag (get_or procedures s 0) bs ≡ true = rw here at (sym is ∙ not-false b bagged) in
          record {
            rest = ss;
            chain = rw (onward, here) chain.2;
            counted = rw now (omega arith);
            fewer = rw now (few_more (dropped (parallel_by bs) e (entry procedures sets s)) seen.dropped seen.visits w.fewer);
            same = ap (seen_over bs e procedures sets ss) now ∙ same;
            stray_ahead = rw found at ahead;
          }

  pub walk_ends : {seen : Seen} {at : ℕ} → Walking bs e links procedures sets whole seen at → at ≡ 0 → Ok seen ≡ looked_over bs e procedures sets whole
  unfolding Chain seen_over some_stray looked_over any
  walk_ends {seen} {at} w z = go w.rest w.chain w.same w.stray_ahead
    where
      go : (rest : List ℕ) → Chain links at rest → seen_over bs e procedures sets rest seen ≡ seen_over bs e procedures sets whole nothing_seen
          → some_stray bs e procedures sets rest ≡ some_stray bs e procedures sets whole → Ok seen ≡ looked_over bs e procedures sets whole
      go [] chain same ahead = rw (sym ahead) (ap Ok same)
      go (s ∷ ss) chain same ahead = absurd (omega (arith, chain.0))
