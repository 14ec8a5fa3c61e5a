-- Small runs and small lists, evaluated: antt computes each line from the definitions. A lock set is a word: 0 holds no lock, 1 holds lock 0, 2 holds
-- lock 1, and 3 both; all the accesses here write. Assumes nothing.
use Prim.Native.Nat.{ℕ}
use mathlib.Core.Path.{◌≡◌, refl}
use mathlib.Core.Bool.{Bool, true, false, cond, ◌||◌}
use mathlib.Core.List.{List, [], ◌∷◌}
use native.Mathlib.Omega.{arith}
use lib.Dec.{eqb, ltb}
use Rattle.locks.specs.Sets.{is_in, every, apart, within}
use Rattle.bags.specs.Parallel.{member}
use Rattle.bags.specs.Bags.{Bags, in_s_bag, in_p_bag, in_some_bag}
use Rattle.kept.specs.declared.Entry.{Entry}
use Rattle.kept.specs.declared.Visited.{Visited}
use Rattle.kept.specs.declared.NotKept.TheVariants.{InNoBag, Full}
use Rattle.std.specs.Prelude.{None, Some, Ok, Err}
use Rattle.kept.specs.Lists.{any, first, those}
use Rattle.kept.specs.Rules.{races, reported, named, dropped, left, omits, added, after, changed_at}
use Rattle.kept.specs.Theorem.{Run, Race, Lawful, kept, visited}
use Rattle.kept.specs.Pieces.{pieces, slots_from, entry_at, cleared}
use Rattle.kept.specs.Access.{parallel_by, code_of, freeing, next_slot, freed_then, used_then}
use Rattle.kept.specs.Parts.{link, nothing_seen, weighed_entry, seen_over, some_stray, looked_over, is_full}

-- The entry of an event, made by a procedure under a lock set.
abbrev entry_by : ℕ → ℕ → ℕ → Entry
entry_by event procedure locks = record { event = record { 0 = event }; procedure = record { 0 = procedure }; locks = locks }

-- ---- dropped entry

-- Event 2 by procedure 2, event 5 by procedure 1 and event 7 by procedure 0 write to location 0, without locks; 2 precedes 5, and both are parallel
-- with 7.
abbrev pub dropped_entry : Run
dropped_entry = record {
  accesses = λ k. eqb k 2 || eqb k 5 || eqb k 7;
  location = λ k. 0;
  entry = λ k. entry_by k (cond (eqb k 2) 2 (cond (eqb k 5) 1 0)) 0;
  parallel = λ k l. eqb k 7;
}

-- The run obeys the laws: with which access another is parallel depends on the later one alone.
pub dropped_entry_lawful : Lawful dropped_entry
dropped_entry_lawful = record {
  two_laws = record { lemma_1 = λ a e j p q r o u before with-j. with-j; lemma_2 = λ a e j p q r o u with-e with-j. with-j };
  numbered = λ k a. refl;
}

-- Event 5 drops the entry of event 2, so that before event 7 its own is the only one kept, and at event 7 it is the one named.
pub dropped_entry_as_known :
    (kept dropped_entry 5 0 ≡ entry_by 2 2 0 ∷ [])
    × (kept dropped_entry 7 0 ≡ entry_by 5 1 0 ∷ [])
    × (named (dropped_entry.parallel 7) (dropped_entry.entry 7) (visited dropped_entry 7) ≡ Some (entry_by 5 1 0))
unfolding kept changed_at after left dropped added omits named races any first those is_in every apart within
dropped_entry_as_known = (refl, refl, refl)

-- Yet event 2 races with event 7 as well: the entry named is the lowest-numbered of those kept, not of all accesses that race.
pub dropped_entry_races : Race dropped_entry 2 7
unfolding is_in every apart
dropped_entry_races = record {
  earlier = record { before = omega arith; an_access = refl; there = refl };
  in_parallel = refl;
  nothing_in_common = refl;
}

-- ---- one writer and one reader for each location are too few

-- Events 0, 1 and 2 are parallel and write to location 0: event 0 under lock 0, event 1 under lock 1, and event 2 under some set.
abbrev pub two_locks : ℕ → Run
two_locks set = record {
  accesses = λ k. ltb k 3;
  location = λ k. 0;
  entry = λ k. entry_by k k (cond (eqb k 0) 1 (cond (eqb k 1) 2 set));
  parallel = λ k l. true;
}

-- These runs obey the laws too, as all accesses are parallel.
pub two_locks_lawful : (set : ℕ) → Lawful (two_locks set)
two_locks_lawful set = record {
  two_laws = record { lemma_1 = λ a e j p q r o u before with-j. refl; lemma_2 = λ a e j p q r o u with-e with-j. refl };
  numbered = λ k a. refl;
}

-- Both writers are kept: neither set lies within the other. Under lock 0 event 2 races with event 1 alone, and under lock 1 with event 0 alone.
pub both_kept :
    ((set : ℕ) → visited (two_locks set) 2 ≡ entry_by 0 0 1 ∷ entry_by 1 1 2 ∷ [])
    × (named ((two_locks 1).parallel 2) ((two_locks 1).entry 2) (visited (two_locks 1) 2) ≡ Some (entry_by 1 1 2))
    × (named ((two_locks 2).parallel 2) ((two_locks 2).entry 2) (visited (two_locks 2) 2) ≡ Some (entry_by 0 0 1))
unfolding kept changed_at after left dropped added omits named races any first those is_in every apart within
both_kept = (λ set. refl, refl, refl)

-- So with only one of the two writers kept, whichever it is, event 2 would not be reported under that writer's lock, though it races with the other.
pub one_is_too_few :
    (reported ((two_locks 1).parallel 2) ((two_locks 1).entry 2) (entry_by 0 0 1 ∷ []) ≡ false)
    × (reported ((two_locks 2).parallel 2) ((two_locks 2).entry 2) (entry_by 1 1 2 ∷ []) ≡ false)
unfolding reported races any is_in every apart
one_is_too_few = (refl, refl)

-- ---- the first access

-- Where nothing is kept, no access is reported, no entry is named, and the access is added.
pub first_access : (parallel : Entry → Bool) (e : Entry)
    → (reported parallel e [] ≡ false) × (named parallel e [] ≡ None) × (after parallel e [] ≡ e ∷ [])
unfolding reported named after left added any first those
first_access parallel e = (refl, refl, refl)

-- ---- each rule on a small list

-- Main runs; procedure 1 is parallel with it, and procedure 2 has not begun. An access by main, and entries of main, of procedure 1 and of procedure 2.
abbrev main_runs : List Bags
main_runs = record { owner = 0; S = 0 ∷ []; P = 1 ∷ [] } ∷ []

abbrev new : ℕ → Entry
new locks = entry_by 9 0 locks

-- An entry that precedes and whose set contains all of H is dropped, also where the sets share a lock; one that is parallel stays, and leaves the new
-- one out if its set lies within H.
pub dropped_or_not :
    (after (parallel_by main_runs) (new 1) (entry_by 3 0 1 ∷ []) ≡ new 1 ∷ [])
    × (after (parallel_by main_runs) (new 1) (entry_by 3 0 3 ∷ []) ≡ new 1 ∷ [])
    × (after (parallel_by main_runs) (new 1) (entry_by 3 1 1 ∷ []) ≡ entry_by 3 1 1 ∷ [])
    × (after (parallel_by main_runs) (new 1) (entry_by 3 1 3 ∷ []) ≡ entry_by 3 1 3 ∷ new 1 ∷ [])
unfolding after left dropped added omits any those is_in every within member in_p_bag
dropped_or_not = (refl, refl, refl, refl)

-- An entry that precedes, with a smaller set, neither goes nor leaves the new one out: both are kept, though both write.
pub smaller_set_stays : after (parallel_by main_runs) (new 1) (entry_by 3 0 0 ∷ []) ≡ entry_by 3 0 0 ∷ new 1 ∷ []
unfolding after left dropped added omits any those is_in every within member in_p_bag
smaller_set_stays = refl

-- Of two entries that race the first is named.
pub first_is_named : named (parallel_by main_runs) (new 0) (entry_by 3 1 1 ∷ entry_by 4 1 2 ∷ []) ≡ Some (entry_by 3 1 1)
unfolding named races first is_in every apart member in_p_bag
first_is_named = refl

-- ---- what is seen of a list

-- Slots 0 and 1 hold two entries of main, under no lock and under lock 0; the new access has lock 0. Both are visited though none races; the second
-- is to be dropped, and the link 2 leads to it; so the last that stays, also of those before it, is in slot 0, which the link 1 names.
pub seen_of_two :
    seen_over main_runs (new 1) (0 ∷ 0 ∷ []) (0 ∷ 1 ∷ []) (0 ∷ 1 ∷ []) nothing_seen
    ≡ record { visits = 2; race = link 0; omitted = false; dropped = 1; last = link 1; first = link 2; before = link 1 }
unfolding seen_over weighed_entry races dropped omits is_in every apart within member in_s_bag in_p_bag in_some_bag
seen_of_two = refl

-- An entry of procedure 2 is in no bag, also where the sets share a lock and neither lies within the other.
pub looked_in_no_bag : looked_over main_runs (new 3) (2 ∷ []) (6 ∷ []) (0 ∷ []) ≡ Err InNoBag
unfolding looked_over some_stray any member in_s_bag in_p_bag in_some_bag
looked_in_no_bag = refl

-- ---- slots

-- Slots 4 and 2 are in a list, and 2 is dropped: it is freed, and the next entry gets it; where none is freed, the first slot never used.
pub dropped_slot_again :
    (freeing (λ s. eqb s 2) (4 ∷ 2 ∷ []) [] ≡ 2 ∷ []) × (next_slot (2 ∷ []) 7 ≡ 2) × (freed_then (2 ∷ []) ≡ []) × (used_then (2 ∷ []) 7 ≡ 7)
    × (next_slot [] 7 ≡ 7) × (used_then [] 7 ≡ 8)
unfolding freeing
dropped_slot_again = (refl, refl, refl, refl, refl, refl)

-- There is no slot exactly where 4,096 are used, none is freed, none is to be dropped and the entry is not left out.
pub full_or_not :
    (is_full nothing_seen (record { freed = 0; used = 4096 }) ≡ true)
    × (is_full nothing_seen (record { freed = 0; used = 4095 }) ≡ false)
    × (is_full nothing_seen (record { freed = 3; used = 4096 }) ≡ false)
    × (is_full (record { visits = 1; race = link 0; omitted = false; dropped = 1; last = link 0; first = link 1; before = link 0 })
    (record { freed = 0; used = 4096 }) ≡ false)
    × (is_full (record { visits = 1; race = link 0; omitted = true; dropped = 0; last = link 1; first = link 0; before = link 0 })
    (record { freed = 0; used = 4096 }) ≡ false)
full_or_not = (refl, refl, refl, refl, refl)

-- Link 1 leads to slot 0, and from there the link 0 ends the list; a link to the slot itself would never end it.
pub slots_of_a_link : (slots_from 3 (0 ∷ []) 1 ≡ 0 ∷ []) × (slots_from 3 (1 ∷ []) 1 ≡ 0 ∷ 0 ∷ 0 ∷ [])
unfolding slots_from
slots_of_a_link = (refl, refl)

-- A slot holds an event, a procedure and a lock set, each in its own piece.
pub entry_in_a_slot : entry_at (pieces [] [] (5 ∷ []) (1 ∷ []) (3 ∷ [])) 0 ≡ entry_by 5 1 3
entry_in_a_slot = refl

-- Clearing two numbers leaves the third.
pub two_cleared : cleared 2 (5 ∷ 6 ∷ 7 ∷ []) ≡ 0 ∷ 0 ∷ 7 ∷ []
unfolding cleared
two_cleared = refl

-- The codes.
pub codes : (visited : Visited) → (code_of (Ok visited) ≡ 0) × (code_of (Err InNoBag) ≡ 12) × (code_of (Err Full) ≡ 13)
codes visited = (refl, refl, refl)
