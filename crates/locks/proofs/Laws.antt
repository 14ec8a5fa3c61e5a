-- The laws of sets of locks that the layers above cite. Each follows from who is in a set (Members.antt), number by number; none speaks of
-- digits. `2 ^ 64` bounds a word; it is asked only where a number from 64 on matters.
-- Assumes nothing.
use Prim.Native.Nat.{ℕ, suc, ◌^◌, ◌≤◌, ◌<◌}
use mathlib.Core.Path.{◌≡◌, refl, sym, ap, ap₂, ◌∙◌, fun_ext}
use mathlib.Core.Logic.{◌↔◌}
use mathlib.Core.Bool.{Bool, true, false, cond, not, ◌&&◌, ◌||◌, and_comm, and-false, and-true, or-false, or-true}
use native.Mathlib.Omega.{arith}
use lib.Dec.{eqb, ltb}
use borrow.Author.Tests.{lt-ltb, ltb-true, eqb-true, eq-eqb, ne_eqb}
use Rattle.std.specs.Bool.{Decides}
use Rattle.std.proofs.lemmas.Bool.Decides.{same_from_decides, Decides-like, Decides-not, Decides-and}
use Rattle.locks.specs.Sets.{mark, is_lock, is_in, those, every, how_many, none, taken, released, set_of_access, is_empty, count, lowest, apart, within}
use Rattle.locks.proofs.Members.{is_in_below as below, is_in-those, is_in-those_below, those_lt, same_below, every_top, every_decides, every_agree, how_many_top, how_many_le, how_many_one_more, first_holds, first_of_none, none_before_first}
use Rattle.locks.proofs.Words.{is_in_added, is_in_removed, added_others, removed_others, zero_is_none, zero_is_empty}

-- ---- words stay words

-- Whatever is taken, released or read, the set is a word, even of a number that is none.
pub none_lt : none < 2 ^ 64
unfolding none
none_lt = those_lt 64 (λ k. false)

pub taken_lt : (l s : ℕ) → taken l s < 2 ^ 64
unfolding taken
taken_lt l s = those_lt 64 (λ k. is_in k s || (is_lock l && eqb k l))

pub released_lt : (l s : ℕ) → released l s < 2 ^ 64
unfolding released
released_lt l s = those_lt 64 (λ k. is_in k s && not (is_lock l && eqb k l))

pub set_of_access_lt : (reads : Bool) (s : ℕ) → set_of_access reads s < 2 ^ 64
unfolding set_of_access
set_of_access_lt reads s = those_lt 64 (λ k. is_in k s || (reads && eqb k mark))

-- ---- who is in a set

-- The members of a word are below 64.
pub is_in_below : (k s : ℕ) → s < 2 ^ 64 → is_in k s ≡ true → k < 64
is_in_below = below 64

-- No lock is in `none`.
pub is_in-none : (k : ℕ) → is_in k none ≡ false
unfolding none
is_in-none k = is_in-those 64 (λ j. false) k ∙ and-false (ltb k 64)

-- Taking l adds l, if l is a lock's number, and nothing else.
pub is_in-taken : (k l s : ℕ) → s < 2 ^ 64 → is_in k (taken l s) ≡ (is_in k s || (is_lock l && eqb k l))
unfolding taken
is_in-taken k l s h = is_in_added (is_lock l) k l s (λ (e : is_lock l ≡ true). omega (arith, ltb-true l 63 e)) h

-- Releasing l removes l, if l is a lock's number, and nothing else.
pub is_in-released : (k l s : ℕ) → s < 2 ^ 64 → is_in k (released l s) ≡ (is_in k s && not (is_lock l && eqb k l))
unfolding released
is_in-released k l s h = is_in_removed (is_lock l) k l s h

-- An access has the locks held, and the mark if it reads.
pub is_in-set_of_access : (reads : Bool) (k s : ℕ) → s < 2 ^ 64 → is_in k (set_of_access reads s) ≡ (is_in k s || (reads && eqb k mark))
unfolding set_of_access
is_in-set_of_access reads k s h = is_in_added reads k mark s (λ (e : reads ≡ true). omega arith) h

-- A lock taken is in the set, a lock released is not, and every other number below 64 is in it or not as before.
pub taken_has : (l s : ℕ) → is_lock l ≡ true → is_in l (taken l s) ≡ true
unfolding taken
taken_has l s e =
    is_in-those_below 64 (λ k. is_in k s || (is_lock l && eqb k l)) l (omega (arith, ltb-true l 63 e)) ∙ simp (e, eq-eqb l l refl, or-true)

pub taken_others : (k l s : ℕ) → k < 64 → (k ≡ l → ⊥) → is_in k (taken l s) ≡ is_in k s
unfolding taken
taken_others k l s = added_others (is_lock l) k l s

pub released_lacks : (l s : ℕ) → is_lock l ≡ true → is_in l (released l s) ≡ false
unfolding released
released_lacks l s e =
    is_in-those_below 64 (λ k. is_in k s && not (is_lock l && eqb k l)) l (omega (arith, ltb-true l 63 e)) ∙ simp (e, eq-eqb l l refl, and-false)

pub released_others : (k l s : ℕ) → k < 64 → (k ≡ l → ⊥) → is_in k (released l s) ≡ is_in k s
unfolding released
released_others k l s = removed_others (is_lock l) k l s

-- Two words with the same members are the same word.
pub same_members : (a b : ℕ) → a < 2 ^ 64 → b < 2 ^ 64 → ((k : ℕ) → k < 64 → is_in k a ≡ is_in k b) → a ≡ b
same_members = same_below 64

-- ---- the mark

-- The mark is no lock.
mark_is_no_lock : (l : ℕ) → (is_lock l && eqb mark l) ≡ false
mark_is_no_lock l = by_test (is_lock l) refl
  where
    by_test : (b : Bool) → is_lock l ≡ b → (b && eqb mark l) ≡ false
    by_test true e = ne_eqb mark l (λ (w : mark ≡ l). omega (arith, ltb-true l 63 e))
    by_test false e = refl

-- No lock held, no mark; and taking and releasing leave the mark as it was. So a set of locks held never has it.
pub none-mark : is_in mark none ≡ false
none-mark = is_in-none mark

pub taken-mark : (l s : ℕ) → is_in mark (taken l s) ≡ is_in mark s
unfolding taken
taken-mark l s =
    is_in-those_below 64 (λ k. is_in k s || (is_lock l && eqb k l)) mark (omega arith)
    ∙ ap (λ (x : Bool). is_in mark s || x) (mark_is_no_lock l) ∙ or-false (is_in mark s)

pub released-mark : (l s : ℕ) → is_in mark (released l s) ≡ is_in mark s
unfolding released
released-mark l s =
    is_in-those_below 64 (λ k. is_in k s && not (is_lock l && eqb k l)) mark (omega arith)
    ∙ ap (λ (x : Bool). is_in mark s && not x) (mark_is_no_lock l) ∙ and-true (is_in mark s)

-- The set of an access has the mark exactly if it reads, where the set of locks held has none; and the same locks.
pub set_of_access-mark : (reads : Bool) (s : ℕ) → is_in mark s ≡ false → is_in mark (set_of_access reads s) ≡ reads
unfolding set_of_access
set_of_access-mark reads s e =
    is_in-those_below 64 (λ k. is_in k s || (reads && eqb k mark)) mark (omega arith) ∙ ap (λ (x : Bool). x || (reads && true)) e ∙ and-true reads

pub set_of_access_lock : (reads : Bool) (k s : ℕ) → is_lock k ≡ true → is_in k (set_of_access reads s) ≡ is_in k s
unfolding set_of_access
set_of_access_lock reads k s e =
    let lock : k < 63 = ltb-true k 63 e in
    added_others reads k mark s (omega arith) (λ (w : k ≡ mark). omega arith)

-- ---- two sets

-- Apart: no number is in both.
pub apart_means : (a b : ℕ) → (apart a b ≡ true) ↔ ((k : ℕ) → k < 64 → is_in k a ≡ true → is_in k b ≡ true → ⊥)
unfolding apart
apart_means a b = every_decides (λ k. not (is_in k a && is_in k b)) (λ k. is_in k a ≡ true → is_in k b ≡ true → ⊥) not_both 64
  where
    not_both : (k : ℕ) → Decides (not (is_in k a && is_in k b)) (is_in k a ≡ true → is_in k b ≡ true → ⊥)
    not_both k =
        Decides-like (not (is_in k a && is_in k b)) (λ f p q. f (p, q)) (λ f both. f both.0 both.1)
        (Decides-not (is_in k a && is_in k b) (Decides-and (is_in k a) (is_in k b) (λ p. p, λ p. p) (λ q. q, λ q. q)))

-- Which of the two comes first does not matter.
pub apart_sym : (a b : ℕ) → apart a b ≡ apart b a
unfolding apart
apart_sym a b = ap (every 64) (fun_ext (λ (k : ℕ). ap not (and_comm (is_in k a) (is_in k b))))

-- Within: whatever is in the first is in the second.
pub within_means : (a b : ℕ) → (within a b ≡ true) ↔ ((k : ℕ) → k < 64 → is_in k a ≡ true → is_in k b ≡ true)
unfolding within
within_means a b =
    every_decides (λ k. not (is_in k a) || is_in k b) (λ k. is_in k a ≡ true → is_in k b ≡ true) (λ k. carries (is_in k a) (is_in k b)) 64
  where
    carries : (x y : Bool) → Decides (not x || y) (x ≡ true → y ≡ true)
    carries true y = (λ e p. e, λ f. f refl)
    carries false y = (λ e p. absurd cc, λ f. refl)

-- A set lies within itself, and within whatever holds a set that it lies within.
pub within_refl : (a : ℕ) → within a a ≡ true
within_refl a = (within_means a a).1 (λ k h p. p)

pub within_trans : (a b c : ℕ) → within a b ≡ true → within b c ≡ true → within a c ≡ true
within_trans a b c p q = (within_means a c).1 (λ k h x. (within_means b c).0 q k h ((within_means a b).0 p k h x))

-- Two words that lie within each other are the same word.
pub within_both_ways : (a b : ℕ) → a < 2 ^ 64 → b < 2 ^ 64 → within a b ≡ true → within b a ≡ true → a ≡ b
within_both_ways a b h m p q =
    same_members a b h m
    (λ k j. same_from_decides (is_in k a) (is_in k b) ((within_means a b).0 p k j, (within_means b a).0 q k j) (λ e. e, λ e. e))

-- What lies within a set that shares nothing with c shares nothing with c.
pub within_apart : (a b c : ℕ) → within a b ≡ true → apart b c ≡ true → apart a c ≡ true
within_apart a b c p q = (apart_means a c).1 (λ k h x. (apart_means b c).0 q k h ((within_means a b).0 p k h x))

-- ---- nothing held

-- The word of no lock is 0, and it is empty.
pub none_is_zero : none ≡ 0
none_is_zero = sym zero_is_none

pub none_is_empty : is_empty none ≡ true
unfolding is_empty every is_in none those
none_is_empty = refl

-- The empty word is 0.
pub empty_is_zero : (s : ℕ) → s < 2 ^ 64 → (is_empty s ≡ true) ↔ (s ≡ 0)
empty_is_zero s h = (λ e. eqb-true s 0 (zero_is_empty s h ∙ e), λ e. sym (zero_is_empty s h) ∙ eq-eqb s 0 e)

-- ---- counting

-- No lock held, none counted.
pub count_of_none : count none ≡ 0
unfolding count how_many is_in none those
count_of_none = refl

-- A set has at most 64 numbers, and a set of locks held at most 63.
pub count_le : (s : ℕ) → count s ≤ 64
unfolding count
count_le s = how_many_le 64 (λ k. is_in k s)

pub count_of_held_le : (s : ℕ) → is_in mark s ≡ false → count s ≤ 63
unfolding count
count_of_held_le s e =
    let unmarked : ◌≡◌ {A = ℕ} (cond (is_in mark s) 1 0) 0 = ap (λ (x : Bool). cond x 1 0) e in
    omega (arith, how_many_top 63 (λ k. is_in k s), how_many_le 63 (λ k. is_in k s))

-- A lock that is not in s, taken, is one more counted.
pub one_more_counted : (l s : ℕ) → is_lock l ≡ true → is_in l s ≡ false → count (taken l s) ≡ suc (count s)
unfolding count
one_more_counted l s e out =
    how_many_one_more 64 l (λ k. is_in k s) (λ k. is_in k (taken l s)) (omega (arith, ltb-true l 63 e)) out (taken_has l s e) (λ k h f. taken_others k l s h f)

-- A lock that is in s, released, is one less.
pub one_less_counted : (l s : ℕ) → is_lock l ≡ true → is_in l s ≡ true → count s ≡ suc (count (released l s))
unfolding count
one_less_counted l s e held =
    how_many_one_more 64 l (λ k. is_in k (released l s)) (λ k. is_in k s) (omega (arith, ltb-true l 63 e)) (released_lacks l s e) held
    (λ k h f. sym (released_others k l s h f))

-- ---- the lowest

-- The lowest of a set that is not empty is in it, and nothing below the lowest is; of an empty set it is 64.
pub lowest_is_in : (s : ℕ) → is_empty s ≡ false → is_in (lowest s) s ≡ true
unfolding lowest is_empty
lowest_is_in s e = first_holds 64 (λ k. is_in k s) e

pub none_is_lower : (k s : ℕ) → k < lowest s → is_in k s ≡ false
unfolding lowest
none_is_lower k s h = none_before_first 64 (λ j. is_in j s) k h

pub lowest_of_none : (s : ℕ) → is_empty s ≡ true → lowest s ≡ 64
unfolding lowest is_empty
lowest_of_none s e = first_of_none 64 (λ k. is_in k s) e

-- ---- the sets of two accesses

-- A test of every number in the sets of two accesses is that test of the sets of locks held, and of the marks.
every_of_accesses : (test : Bool → Bool → Bool) → test false false ≡ true → (r r' : Bool) (s s' : ℕ) → is_in mark s ≡ false → is_in mark s' ≡ false
    → every 64 (λ k. test (is_in k (set_of_access r s)) (is_in k (set_of_access r' s'))) ≡ (every 64 (λ k. test (is_in k s) (is_in k s')) && test r r')
every_of_accesses test neither r r' s s' e e' =
    let all : ℕ → Bool = λ k. test (is_in k (set_of_access r s)) (is_in k (set_of_access r' s')) in
    let locks : ℕ → Bool = λ k. test (is_in k s) (is_in k s') in
    let marks : all mark ≡ test r r' = ap₂ test (set_of_access-mark r s e) (set_of_access-mark r' s' e') in
    let same : every 63 all ≡ every 63 locks = every_agree 63 all locks (λ k h. ap₂ test (set_of_access_lock r k s (lt-ltb k 63 h)) (set_of_access_lock r' k s' (lt-ltb k 63 h))) in
    let no-mark : locks mark ≡ true = ap₂ test e e' ∙ neither in
    every_top 63 all ∙ ap₂ ◌&&◌ marks same ∙ and_comm (test r r') (every 63 locks)
    ∙ ap (λ (x : Bool). x && test r r') (sym (every_top 63 locks ∙ ap (λ (x : Bool). x && every 63 locks) no-mark))

-- The sets of two accesses have nothing in common exactly if no lock is shared and not both read.
pub apart_of_accesses : (r r' : Bool) (s s' : ℕ) → is_in mark s ≡ false → is_in mark s' ≡ false
    → apart (set_of_access r s) (set_of_access r' s') ≡ (apart s s' && not (r && r'))
unfolding apart
apart_of_accesses = every_of_accesses (λ x y. not (x && y)) refl

-- The set of an access lies within another's exactly if its locks do and, where it reads, the other reads too.
pub within_of_accesses : (r r' : Bool) (s s' : ℕ) → is_in mark s ≡ false → is_in mark s' ≡ false
    → within (set_of_access r s) (set_of_access r' s') ≡ (within s s' && (not r || r'))
unfolding within
within_of_accesses = every_of_accesses (λ x y. not x || y) refl
