-- What is seen of a whole list is what the rules say of it, one count or test at a time, each by induction over the slots. Assumes nothing.
use Prim.Native.Nat.{ℕ, zero, suc, ◌+◌, ◌≤◌, ◌<◌}
use mathlib.Core.Path.{◌≡◌, refl, sym, ap, ◌∙◌}
use mathlib.Core.Bool.{Bool, true, false, cond, not, ◌&&◌, ◌||◌, and-false, or-false, true≢false}
use mathlib.Core.List.{List, [], ◌∷◌, ◌++◌, map}
use native.Mathlib.Omega.{arith}
use lib.Dec.{eqb, eqb-suc-zero}
use lib.ListN.{length, get_or, length-map}
use borrow.Author.Tests.{eq-eqb, ne_eqb}
use Rattle.std.specs.Prelude.{Option, Some, Result, Ok, Err, is_err}
use Rattle.bags.specs.Bags.{Bags}
use Rattle.kept.specs.declared.Entry.{Entry}
use Rattle.kept.specs.declared.Seen.{Seen}
use Rattle.kept.specs.declared.NotKept.{NotKept}
use Rattle.kept.specs.declared.NotKept.TheVariants.{InNoBag}
use Rattle.kept.specs.declared.Slots.{Slots}
use Rattle.kept.specs.Lists.{any, first, those}
use Rattle.kept.specs.Rules.{races, named, dropped, omits}
use Rattle.kept.specs.Pieces.{Pieces, piece_size, slots_of, slots_freed, entry_at, lists_in, Chain, Room}
use Rattle.kept.specs.Access.{parallel_by, in_no_bag, drops, is_omitted, slots_left, link_to}
use Rattle.kept.specs.Parts.{entry_of, nothing_seen, weighed_entry, seen_over, some_stray, looked_over, Walkable, named_at}
use Rattle.kept.specs.Parts.{drops_by, how_many, last_of, FirstDropped}
use Rattle.kept.proofs.Lists.{either_way}
use Rattle.kept.proofs.Chains.{link_of}
use Rattle.kept.proofs.Laid.{laid_few}

-- ---- lists

-- A test of the entries in slots is a test of the slots.
any_of_map : {A B : Type 0} (f : A → B) (test : B → Bool) (list : List A) → any test (map f list) ≡ any (λ (a : A). test (f a)) list
unfolding any
any_of_map f test [] = refl
any_of_map f test (a ∷ list) = ap (cond (test (f a)) true) (any_of_map f test list)

-- The last slot, after those seen before.
unfoldable last_from : ℕ → List ℕ → ℕ
last_from before [] = before
last_from before (s ∷ ss) = last_from (suc s) ss

last_from_lem : (s : ℕ) (ss : List ℕ) (before : ℕ) → last_from before (s ∷ ss) ≡ last_of (s ∷ ss)
unfolding last_from last_of
last_from_lem s [] before = refl
last_from_lem s (t ∷ ss) before = last_from_lem t ss (suc s)

last_from_none : (ss : List ℕ) → last_from 0 ss ≡ last_of ss
unfolding last_from last_of
last_from_none [] = refl
last_from_none (s ∷ ss) = last_from_lem s ss 0

-- One test more.
or_of_more : (a b c : Bool) → ((a || b) || c) ≡ (a || cond b true c)
or_of_more true b c = refl
or_of_more false true c = refl
or_of_more false false c = refl

-- One more to drop, or one more that stays.
count_of_more : (b : Bool) (d s : ℕ) (rest : List ℕ) → cond b (d + 1) d + length rest ≡ d + length (cond b (s ∷ rest) rest)
count_of_more true d s rest = omega arith
count_of_more false d s rest = omega arith

last_from_more : (b : Bool) (before s : ℕ) (rest : List ℕ) → last_from (cond b before (suc s)) rest ≡ last_from before (cond (not b) (s ∷ rest) rest)
unfolding last_from
last_from_more true before s rest = refl
last_from_more false before s rest = refl

-- One more that races, or not: the first found stands.
race_of_more : (b : Bool) (r s : ℕ) (found : Option ℕ)
    → cond (eqb (cond (b && eqb r 0) (suc s) r) 0) (link_of found) (cond (b && eqb r 0) (suc s) r) ≡ cond (eqb r 0) (link_of (cond b (Some s) found)) r
unfolding link_of
race_of_more true zero s found = rw (eqb-suc-zero s)
race_of_more false zero s found = refl
race_of_more true (suc r) s found = rw (eqb-suc-zero r, eqb-suc-zero r)
race_of_more false (suc r) s found = rw (eqb-suc-zero r)

race_of_none : (r : ℕ) → r ≡ cond (eqb r 0) 0 r
race_of_none zero = refl
race_of_none (suc r) = rw (eqb-suc-zero r)

-- Once some are to be dropped, there are some; and another to be dropped is not the first.
some_more : (b : Bool) (d : ℕ) → (d ≡ 0 → ⊥) → cond b (d + 1) d ≡ 0 → ⊥
some_more true d ne z = omega (arith, z)
some_more false d ne z = ne z

not_the_first : (b : Bool) (d new old : ℕ) → (d ≡ 0 → ⊥) → cond (b && eqb d 0) new old ≡ old
not_the_first b d new old ne = rw (ne_eqb d 0 ne, and-false b) refl

-- The two answers differ, and everything seen is what it holds.
abbrev seen_in : Result Seen NotKept → Seen
seen_in (Err why) = nothing_seen
seen_in (Ok seen) = seen

abbrev why_in : NotKept → Result Seen NotKept → NotKept
why_in other (Err why) = why
why_in other (Ok seen) = other

stray_or_all : {why : NotKept} {seen : Seen} → ◌≡◌ {A = Result Seen NotKept} (Err why) (Ok seen) → ⊥
stray_or_all is = true≢false (ap is_err is)

all_is : {seen seen' : Seen} → ◌≡◌ {A = Result Seen NotKept} (Ok seen) (Ok seen') → seen ≡ seen'
all_is is = ap seen_in is

-- ---- what is seen

module _ (bs : List Bags) (e : Entry) (procedures sets : List ℕ) where
  abbrev at : ℕ → Entry
  at s = entry_of (get_or procedures s 0) (get_or sets s 0)

  abbrev seen_then : List ℕ → Seen → Seen
  seen_then = seen_over bs e procedures sets

  abbrev races_at : ℕ → Bool
  races_at s = races (parallel_by bs) e (at s)

  abbrev next : ℕ → Seen → Seen
  next s = weighed_entry bs e (suc s) (at s)

  visits_seen : (ss : List ℕ) (seen : Seen) → (seen_then ss seen).visits ≡ seen.visits + length ss
  unfolding seen_over weighed_entry
  visits_seen [] seen = omega arith
  visits_seen (s ∷ ss) seen = omega (arith, visits_seen ss (next s seen))

  omitted_seen : (ss : List ℕ) (seen : Seen) → (seen_then ss seen).omitted ≡ (seen.omitted || any (λ s. omits (parallel_by bs) e (at s)) ss)
  unfolding seen_over weighed_entry any
  omitted_seen [] seen = sym (or-false seen.omitted)
  omitted_seen (s ∷ ss) seen =
      omitted_seen ss (next s seen)
      ∙ or_of_more seen.omitted (omits (parallel_by bs) e (at s)) (any (λ s. omits (parallel_by bs) e (at s)) ss)

  dropped_seen : (ss : List ℕ) (seen : Seen) → (seen_then ss seen).dropped ≡ seen.dropped + how_many (drops_by bs e procedures sets) ss
  unfolding seen_over weighed_entry those
  dropped_seen [] seen = omega arith
  dropped_seen (s ∷ ss) seen =
      dropped_seen ss (next s seen) ∙ count_of_more (drops_by bs e procedures sets s) seen.dropped s (those (drops_by bs e procedures sets) ss)

  last_seen : (ss : List ℕ) (seen : Seen) → (seen_then ss seen).last.0 ≡ last_from seen.last.0 (those (λ s. not (drops_by bs e procedures sets s)) ss)
  unfolding seen_over weighed_entry those last_from
  last_seen [] seen = refl
  last_seen (s ∷ ss) seen =
      last_seen ss (next s seen)
      ∙ last_from_more (drops_by bs e procedures sets s) seen.last.0 s (those (λ s. not (drops_by bs e procedures sets s)) ss)

  -- The first to be dropped stands; and where there was none before, it comes after slots that stay.
  first_stands : (ss : List ℕ) (seen : Seen) → (seen.dropped ≡ 0 → ⊥)
      → ((seen_then ss seen).first.0 ≡ seen.first.0) × ((seen_then ss seen).before.0 ≡ seen.before.0)
  unfolding seen_over weighed_entry
  first_stands [] seen found = (refl, refl)
  first_stands (s ∷ ss) seen found =
      let falls = drops_by bs e procedures sets s in
      let rest = first_stands ss (next s seen) (some_more falls seen.dropped found) in (
        rest.0 ∙ not_the_first falls seen.dropped (suc s) seen.first.0 found,
        rest.1 ∙ not_the_first falls seen.dropped seen.last.0 seen.before.0 found,
      )

  abbrev FirstAfter : ℕ → List ℕ → Seen → Type 0
  FirstAfter last ss seen =
      (passed : List ℕ) × (ahead : List ℕ) × (passed ++ ahead ≡ ss) × (how_many (drops_by bs e procedures sets) passed ≡ 0)
      × (seen.before.0 ≡ last_from last passed) × (seen.first.0 ≡ link_to ahead)

  first_after : (s : ℕ) (ss : List ℕ) (last : ℕ) (seen : Seen) → drops_by bs e procedures sets s ≡ false
      → FirstAfter (cond (drops_by bs e procedures sets s) last (suc s)) ss seen → FirstAfter last (s ∷ ss) seen
  unfolding those last_from
  first_after s ss last seen q rest =
      (s ∷ rest.0, rest.1, ap (λ (t : List ℕ). s ∷ t) rest.2, rw q rest.3, rw q at rest.4, rest.5)

  first_seen : (ss : List ℕ) (seen : Seen) → seen.dropped ≡ 0 → (how_many (drops_by bs e procedures sets) ss ≡ 0 → ⊥)
      → FirstAfter seen.last.0 ss (seen_then ss seen)
  unfolding seen_over weighed_entry those last_from
  first_seen [] seen none_yet found = absurd (found refl)
  first_seen (s ∷ ss) seen none_yet found =
      either_way (drops_by bs e procedures sets s)
      (λ q.
      let stands = first_stands ss (next s seen) (rw q (λ (z : seen.dropped + 1 ≡ 0). omega (arith, z))) in
      let is_zero = eq-eqb seen.dropped 0 none_yet in
      ([], s ∷ ss, refl, refl, stands.1 ∙ rw (q, is_zero) refl, stands.0 ∙ rw (q, is_zero) refl))
      (λ q. first_after s ss seen.last.0 (seen_then ss (next s seen)) q (first_seen ss (next s seen) (rw q none_yet) (rw q at found)))

  race_seen : (ss : List ℕ) (seen : Seen) → (seen_then ss seen).race.0 ≡ cond (eqb seen.race.0 0) (link_of (first races_at ss)) seen.race.0
  unfolding seen_over weighed_entry first link_of
  race_seen [] seen = race_of_none seen.race.0
  race_seen (s ∷ ss) seen = race_seen ss (next s seen) ∙ race_of_more (races_at s) seen.race.0 s (first races_at ss)

-- ---- what the rules say

-- Counting begins at nothing.
zero_more : (n : ℕ) → 0 + n ≡ n
zero_more n = omega arith

-- The entry that the first link leads to is the first entry; and that link is small.
race_found : (p : Pieces) (test : Entry → Bool) (ss : List ℕ)
    → named_at p.events p.procedures p.sets (link_of (first (λ s. test (entry_at p s)) ss)) ≡ first test (map (entry_at p) ss)
unfolding first link_of
race_found p test [] = refl
race_found p test (s ∷ ss) = either_way (test (entry_at p s)) (λ q. rw q) (λ q. rw q (race_found p test ss))

race_fits : (links : List ℕ) (at : ℕ) (test : ℕ → Bool) (ss : List ℕ) → Chain links at ss → link_of (first test ss) ≤ piece_size
unfolding first link_of Chain
race_fits links at test [] chain = omega arith
race_fits links at test (s ∷ ss) chain =
    either_way (test s) (λ q. rw q (omega (arith, chain.1))) (λ q. rw q (race_fits links (get_or links s 0) test ss chain.2))

module _ (bs : List Bags) (x : ℕ) (e : Entry) (p : Pieces) (slots : Slots) where
  -- What is seen tells what the rules say of the list that the pieces hold.
  pub record Told (seen : Seen) : Type 0 where
    pub visits_told : seen.visits ≡ length (lists_in p x)
    pub omitted_told : seen.omitted ≡ is_omitted bs x e p
    pub dropped_told : seen.dropped ≡ how_many (drops bs e p) (slots_of p.heads p.links x)
    pub last_told : seen.last.0 ≡ last_of (slots_left bs x e p)
    pub first_told : (seen.dropped ≡ 0 → ⊥)
        → FirstDropped (drops_by bs e p.procedures p.sets) (slots_of p.heads p.links x) seen.first.0 seen.before.0
    pub race_told : named_at p.events p.procedures p.sets seen.race.0 ≡ named (parallel_by bs) e (lists_in p x)
    pub race_fit : seen.race.0 ≤ piece_size

  pub seen_tells : (seen : Seen) → Walkable p.heads p.links x
      → seen ≡ seen_over bs e p.procedures p.sets (slots_of p.heads p.links x) nothing_seen → Told seen
  unfolding lists_in named dropped omits races
  seen_tells seen walkable is =
      let ss = slots_of p.heads p.links x in
      let procedures = p.procedures in
      let sets = p.sets in
      let race = ap (λ (s : Seen). s.race.0) is ∙ race_seen bs e procedures sets ss nothing_seen in
      record {
        visits_told =
            ap (λ (s : Seen). s.visits) is ∙ visits_seen bs e procedures sets ss nothing_seen ∙ zero_more (length ss) ∙ sym (length-map ss (entry_at p));
        omitted_told =
            ap (λ (s : Seen). s.omitted) is ∙ omitted_seen bs e procedures sets ss nothing_seen
            ∙ sym (any_of_map (entry_at p) (omits (parallel_by bs) e) ss);
        dropped_told =
            ap (λ (s : Seen). s.dropped) is ∙ dropped_seen bs e procedures sets ss nothing_seen ∙ zero_more (how_many (drops bs e p) ss);
        last_told = ap (λ (s : Seen). s.last.0) is ∙ last_seen bs e procedures sets ss nothing_seen ∙ last_from_none (slots_left bs x e p);
        first_told = λ dropping.
            let counted = ap (λ (s : Seen). s.dropped) is ∙ dropped_seen bs e procedures sets ss nothing_seen ∙ zero_more _ in
            let found = first_seen bs e procedures sets ss nothing_seen refl (λ z. dropping (counted ∙ z)) in
            record {
              passed = found.0;
              ahead = found.1;
              whole = found.2;
              none_passed = found.3;
              named = ap (λ (s : Seen). s.before.0) is ∙ found.4 ∙ last_from_none found.0;
              leads = ap (λ (s : Seen). s.first.0) is ∙ found.5;
            };
        race_told = ap (named_at p.events procedures sets) race ∙ race_found p (races (parallel_by bs) e) ss;
        race_fit = rw race (race_fits p.links (get_or p.heads x 0) (λ s. races (parallel_by bs) e (entry_at p s)) ss walkable.chain);
      }

  -- The same count, by what the unlinking looks at.
  pub dropped_counted : (seen : Seen) → Told seen → seen.dropped ≡ how_many (drops_by bs e p.procedures p.sets) (slots_of p.heads p.links x)
  unfolding dropped
  dropped_counted seen told = told.dropped_told

-- Where the pieces hold lists, each can be walked.
pub room_walkable : (p : Pieces) (slots : Slots) (x : ℕ) → Room p slots → x < piece_size → Walkable p.heads p.links x
room_walkable p slots x room here = record {
  head_fit = omega (arith, room.fits.heads_fit);
  links_fit = room.fits.links_fit;
  chain = room.laid_out.chains x here;
  few = laid_few p.heads p.links slots (slots_of p.heads p.links) (slots_freed p.links slots) room.laid_out x here;
}

-- What looking at a list gives, by the list that the pieces hold: some entry's procedure is in no bag, or none is and everything is seen.
module _ (bs : List Bags) (x : ℕ) (e : Entry) (p : Pieces) (slots : Slots) where
  abbrev looked : Result Seen NotKept
  looked = looked_over bs e p.procedures p.sets (slots_of p.heads p.links x)

  stray_is : some_stray bs e p.procedures p.sets (slots_of p.heads p.links x) ≡ any (in_no_bag bs) (lists_in p x)
  unfolding some_stray lists_in
  stray_is = sym (any_of_map (entry_at p) (in_no_bag bs) (slots_of p.heads p.links x))

  -- Of the refusals it gives only that.
  pub looked_stray : (why : NotKept) → Err why ≡ looked → (any (in_no_bag bs) (lists_in p x) ≡ true) × (why ≡ InNoBag)
  unfolding looked_over
  looked_stray why is =
      either_way (some_stray bs e p.procedures p.sets (slots_of p.heads p.links x)) (λ q. (sym stray_is ∙ q, ap (why_in InNoBag) (rw q at is)))
      (λ q. absurd (stray_or_all (rw q at is)))

  pub looked_all : (seen : Seen) → Walkable p.heads p.links x → Ok seen ≡ looked
      → (any (in_no_bag bs) (lists_in p x) ≡ false) × (seen ≡ seen_over bs e p.procedures p.sets (slots_of p.heads p.links x) nothing_seen)
  unfolding looked_over
  looked_all seen walkable is =
      either_way (some_stray bs e p.procedures p.sets (slots_of p.heads p.links x)) (λ q. absurd (stray_or_all (sym (rw q at is))))
      (λ q. (sym stray_is ∙ q, all_is (rw q at is)))

  -- So all that is told of a list follows from what looking at it gives.
  pub looked_tells : (seen : Seen) → Room p slots → x < piece_size → Ok seen ≡ looked
      → (any (in_no_bag bs) (lists_in p x) ≡ false)
      × (seen ≡ seen_over bs e p.procedures p.sets (slots_of p.heads p.links x) nothing_seen)
      × Told bs x e p slots seen
  looked_tells seen room here is =
      let walkable = room_walkable p slots x room here in
      let all = looked_all seen walkable is in
      (all.0, all.1, seen_tells bs x e p slots seen walkable all.1)
