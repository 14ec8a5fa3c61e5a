-- The pieces through a run: they hold the lists kept before each event. An access that is not refused leaves what the rules make of the list of its
-- location, which is the list kept after it; and the answer is told by the two tests and the list. Assumes nothing.
use Prim.Native.Nat.{ℕ, zero, suc, ◌≤◌, zero-le}
use mathlib.Core.Path.{◌≡◌, refl, sym, ap, ◌∙◌}
use mathlib.Core.Bool.{Bool, true, false, cond, not}
use mathlib.Core.List.{List, [], ◌∷◌, ◌++◌}
use native.Mathlib.Omega.{arith}
use lib.Dec.{eqb, ltb}
use lib.ListN.{length, drop, replicate, length-append, length-drop, length-replicate}
use lib.Seq.{drop_at}
use borrow.Author.Tests.{ltb-true, ltb-false}
use Rattle.bags.specs.Bags.{Bags}
use Rattle.kept.specs.declared.Entry.{Entry}
use Rattle.kept.specs.declared.Visited.{Visited}
use Rattle.kept.specs.declared.NotKept.{NotKept}
use Rattle.kept.specs.declared.NotKept.TheVariants.{InNoBag, Full}
use Rattle.std.specs.Prelude.{is_some, Result, Ok, Err}
use Rattle.kept.specs.Lists.{any, first}
use Rattle.kept.specs.Rules.{races, reported, named, dropped, left, omits, added, after, changed_at, in_all}
use Rattle.kept.specs.Theorem.{Run, kept, visited}
use Rattle.kept.specs.Pieces.{piece_size, cleared}
use Rattle.kept.specs.Access.{parallel_by, in_no_bag, code_of, access_code, accessed}
use Rattle.kept.specs.Holds.{HoldsFirst, HoldsOther, AccessIs, HoldsNext, ClearedRest, ClearedSame, RestKeptOn}
use Rattle.kept.proofs.Lists.{either_way, those_no_more}
use Rattle.kept.proofs.Sums.{sum_agree}
use Rattle.kept.proofs.Meaning.{holds_empty, holds_access, rests_kept, code_told, done_told}

-- ---- the lists of a run

-- At first all lists are empty; an access changes the list of its location by the rules; another event changes none.
pub kept_first : (run : Run) (x : ℕ) → kept run 0 x ≡ []
unfolding kept
kept_first run x = refl

pub kept_after_access : (run : Run) (k x : ℕ) → run.accesses k ≡ true
    → kept run (suc k) x ≡ changed_at (run.location k) (after (run.parallel k) (run.entry k)) (kept run k) x
unfolding kept
kept_after_access run k x is = rw is

pub kept_after_other : (run : Run) (k x : ℕ) → run.accesses k ≡ false → kept run (suc k) x ≡ kept run k x
unfolding kept
kept_after_other run k x is = rw is

-- The rules add one entry at most, so before event k a list has at most k.
one_more_at_most : (parallel : Entry → Bool) (e : Entry) (list : List Entry) → length (after parallel e list) ≤ suc (length list)
unfolding left added after
one_more_at_most parallel e list =
    let stay = those_no_more (λ (k : Entry). not (dropped parallel e k)) list in
    let in_all = length-append (left parallel e list) (added parallel e list) in
    either_way (any (omits parallel e) list)
    (λ q. let none : length (added parallel e list) ≡ 0 = rw q refl in omega arith)
    (λ q. let one : length (added parallel e list) ≡ 1 = rw q refl in omega arith)

pub kept_at_most : (run : Run) (k x : ℕ) → length (kept run k x) ≤ k
unfolding kept changed_at
kept_at_most run zero x = zero-le
kept_at_most run (suc k) x =
    let before = kept_at_most run k x in
    let more = one_more_at_most (run.parallel k) (run.entry k) (kept run k x) in
    either_way (run.accesses k) (λ q. either_way (eqb x (run.location k)) (λ t. rw (q, t) (omega arith)) (λ t. rw (q, t) (omega arith))) (λ q. rw q (omega arith))

-- An entry is named exactly if the access is reported.
named_if_reported : (parallel : Entry → Bool) (e : Entry) (list : List Entry) → is_some (named parallel e list) ≡ reported parallel e list
unfolding named reported any first
named_if_reported parallel e [] = refl
named_if_reported parallel e (k ∷ list) = either_way (races parallel e k) (λ q. rw q) (λ q. rw q (named_if_reported parallel e list))

-- ---- the pieces

pub holds_first : (run : Run) → HoldsFirst run
holds_first run p fits =
    let empty = holds_empty p fits in
    record { room = empty.room; held = λ y h. empty.held y h ∙ sym (kept_first run y) }

pub holds_other : (run : Run) → HoldsOther run
holds_other run k p slots is holds = record { room = holds.room; held = λ y h. holds.held y h ∙ sym (kept_after_other run k y is) }

-- The code tells the tests.
stray_by_code : (stray full : Bool) → ◌≡◌ {A = ℕ} 12 (cond stray 12 (cond full 13 0)) → stray ≡ true
stray_by_code true full same = refl
stray_by_code false true same = absurd (let z : ◌≡◌ {A = ℕ} 12 13 = same in omega arith)
stray_by_code false false same = absurd (let z : ◌≡◌ {A = ℕ} 12 0 = same in omega arith)

full_by_code : (stray full : Bool) → ◌≡◌ {A = ℕ} 13 (cond stray 12 (cond full 13 0)) → (stray ≡ false) × (full ≡ true)
full_by_code true full same = absurd (let z : ◌≡◌ {A = ℕ} 13 12 = same in omega arith)
full_by_code false true same = (refl, refl)
full_by_code false false same = absurd (let z : ◌≡◌ {A = ℕ} 13 0 = same in omega arith)

done_by_code : (stray full : Bool) → ◌≡◌ {A = ℕ} 0 (cond stray 12 (cond full 13 0)) → (stray ≡ false) × (full ≡ false)
done_by_code true full same = absurd (let z : ◌≡◌ {A = ℕ} 0 12 = same in omega arith)
done_by_code false true same = absurd (let z : ◌≡◌ {A = ℕ} 0 13 = same in omega arith)
done_by_code false false same = (refl, refl)

module _ (run : Run) (k : ℕ) (bs : List Bags) (x : ℕ) (e : Entry) (is : AccessIs run k bs x e) where
  -- What the rules make of the lists before the access is what is kept after it.
  lists_after : (y : ℕ) → changed_at x (after (parallel_by bs) e) (kept run k) y ≡ kept run (suc k) y
  lists_after y = sym (rw (sym is.told_by_bags, sym is.its_entry, sym is.its_location) (kept_after_access run k y is.an_access))

  all_after : in_all piece_size (changed_at x (after (parallel_by bs) e) (kept run k)) ≡ in_all piece_size (kept run (suc k))
  unfolding in_all
  all_after =
      sum_agree piece_size (λ y. length (kept run (suc k) y)) (λ y. length (changed_at x (after (parallel_by bs) e) (kept run k) y))
      (λ y h. ap length (lists_after y))

  list_visited : kept run k x ≡ visited run k
  list_visited = ap (kept run k) (sym is.its_location)

  -- The list and the tests, by what is kept.
  stray_visited : any (in_no_bag bs) (kept run k x) ≡ any (in_no_bag bs) (visited run k)
  stray_visited = ap (any (in_no_bag bs)) list_visited

  named_visited : named (parallel_by bs) e (kept run k x) ≡ named (run.parallel k) (run.entry k) (visited run k)
  named_visited = rw (is.told_by_bags, is.its_entry, is.its_location)

-- What the code of an answer is, by the lists kept.
code_of_answer : (run : Run) (k : ℕ) (bs : List Bags) (x : ℕ) (e : Entry) (r : Result Visited NotKept) → r ≡ accessed bs x e (kept run k)
    → code_of r ≡ access_code bs x e (kept run k)
code_of_answer run k bs x e r is = ap code_of is ∙ code_told bs x e (kept run k)

pub holds_next : (run : Run) → HoldsNext run
holds_next run k bs x e p slots p' slots' (Ok given) here is holds result left =
    let both = holds_access bs x e (kept run k) p slots p' slots' (Ok given) here holds result left in
    let full = ltb piece_size (in_all piece_size (changed_at x (after (parallel_by bs) e) (kept run k))) in
    let tests = done_by_code (any (in_no_bag bs) (kept run k x)) full (code_of_answer run k bs x e (Ok given) both.0) in
    let parts = done_told bs x e (kept run k) given both.0 in
    let few = ltb-false piece_size (in_all piece_size (changed_at x (after (parallel_by bs) e) (kept run k))) tests.1 in
    let told = parts.1 ∙ named_visited run k bs x e is in (
      record {
        lists_held = record { room = both.1.room; held = λ y h. both.1.held y h ∙ lists_after run k bs x e is y };
        all_in_bags = sym (stray_visited run k bs x e is) ∙ tests.0;
        not_too_many = omega (arith, few, all_after run k bs x e is);
        visits_told = parts.0 ∙ ap length (list_visited run k bs x e is);
        race_told = told;
        reported_told = ap is_some told ∙ named_if_reported (run.parallel k) (run.entry k) (visited run k);
      },
      rests_kept bs x e p slots p' slots' (Ok given) here holds.room left,
    )
holds_next run k bs x e p slots p' slots' (Err InNoBag) here is holds result left =
    let both = holds_access bs x e (kept run k) p slots p' slots' (Err InNoBag) here holds result left in
    let full = ltb piece_size (in_all piece_size (changed_at x (after (parallel_by bs) e) (kept run k))) in
    let stray = stray_by_code (any (in_no_bag bs) (kept run k x)) full (code_of_answer run k bs x e (Err InNoBag) both.0) in
    ((sym (stray_visited run k bs x e is) ∙ stray, both.1), rests_kept bs x e p slots p' slots' (Err InNoBag) here holds.room left)
holds_next run k bs x e p slots p' slots' (Err Full) here is holds result left =
    let both = holds_access bs x e (kept run k) p slots p' slots' (Err Full) here holds result left in
    let full = ltb piece_size (in_all piece_size (changed_at x (after (parallel_by bs) e) (kept run k))) in
    let tests = full_by_code (any (in_no_bag bs) (kept run k x)) full (code_of_answer run k bs x e (Err Full) both.0) in
    let many = ltb-true piece_size (in_all piece_size (changed_at x (after (parallel_by bs) e) (kept run k))) tests.1 in (
      (sym (stray_visited run k bs x e is) ∙ tests.0, omega (arith, many, all_after run k bs x e is), both.1),
      rests_kept bs x e p slots p' slots' (Err Full) here holds.room left,
    )

-- ---- clearing

-- What `clear_piece` leaves of zeros is a piece cleared.
pub cleared_whole : (n : ℕ) (piece : List ℕ) → replicate n 0 ++ drop n piece ≡ cleared n piece
unfolding cleared
cleared_whole n piece = refl

pub cleared_rest : ClearedRest
unfolding cleared
cleared_rest n piece fit = record {
  same_length = omega (arith, length-append (replicate n 0) (drop n piece), length-replicate {A = ℕ} n 0, length-drop n piece);
  same_rest = drop_at (replicate n 0) (drop n piece) n (length-replicate n 0);
}

pub cleared_same : ClearedSame
unfolding cleared
cleared_same n piece piece' kept-rest = ap (λ (rest : List ℕ). replicate n 0 ++ rest) kept-rest.same_rest

pub rest_kept_on : RestKeptOn
rest_kept_on n piece piece' piece'' a b = record {
  same_length = b.same_length ∙ a.same_length;
  same_rest = b.same_rest ∙ a.same_rest;
}
