-- The three demands of the request, over 01's definition of parallel.
use Rattle.std.specs.Prelude.{ℕ, suc, ◌≤◌, ◌<◌, ◌≡◌, ◌↔◌, true, false, cond, ◌&&◌, List, [], ◌∷◌, length}
use Rattle.trace.specs.declared.Event.{Event}
use Rattle.trace.specs.Kinds.{is_access, is_read, location}
use Rattle.locks.specs.Sets.{apart}
use Rattle.bags.specs.Parallel.{Parallel}
use Rattle.bags.specs.Bags.{bags_say_parallel}
use Rattle.kept.specs.declared.Entry.{Entry}
use Rattle.kept.specs.Lists.{In, sum_below}
use Rattle.kept.specs.Theorem.{AllDifferent}
use Rattle.checker.specs.Events.{place, events, acts, held, entry_of, run}
use Rattle.checker.specs.Rules.{goes_on, stops, verdict, AcceptedBefore}
use Rattle.checker.specs.Report.{Race, found, laid}
use Rattle.checker.specs.Call.{Lent, Left, unread, code_alone, cleared_room}

-- Demand 1. Each refusal is given exactly when its rule says: every event before n is accepted, and at n the rules say c.
pub record Stops (trace : List ℕ) (n c : ℕ) : Type 0 where
  pub accepted_before : AcceptedBefore trace n
  pub stops_there : verdict trace n ≡ stops c

-- What every lent buffer then holds is laid down, and what was reported before that place stands.
pub record Demand1 (l : Lent) (r : Left) : Type 0 where
  pub untouched : (c : ℕ) → unread l ≡ stops c → (r.answer ≡ code_alone c) × (r.report ≡ l.report) × (r.room ≡ l.room)
  pub code_exactly : unread l ≡ goes_on → (c n : ℕ) → ((r.answer.code ≡ c) × (r.answer.events ≡ n)) ↔ Stops l.trace n c
  pub offset : r.answer.offset ≡ place l.trace r.answer.events
  pub reported_stands : r.report ≡ laid (found (run (events l.trace)) r.answer.events) l.report
  pub room_zero : unread l ≡ goes_on → r.room ≡ cleared_room l.room

-- Accesses i and j race, as the ALL-SETS paper defines it: to the same location, logically parallel, sharing no lock, and at least one of the two
-- writes.
pub record Races (t : ℕ → Event) (i j : ℕ) : Type 0 where
  pub earlier : i < j
  pub accesses : (is_access (t i) ≡ true) × (is_access (t j) ≡ true)
  pub same_location : location (t i) ≡ location (t j)
  pub parallel : Parallel (acts t) i j
  pub no_lock_shared : apart (held t i) (held t j) ≡ true
  pub one_writes : (is_read (t i) && is_read (t j)) ≡ false

-- Accesses i and j as an entry of the report has them.
abbrev pub race_of : (ℕ → Event) → ℕ → ℕ → Race
race_of t i j = record { location = location (t j); earlier = entry_of t i; later = entry_of t j }

-- The later events of a list of races rise, from m on.
unfoldable pub Rising : ℕ → List Race → Type 0
Rising m [] = Unit {0}
Rising m (r ∷ rs) = (m ≤ r.later.event.0) × Rising (suc r.later.event.0) rs

-- Access j is in a list of races, as the later one.
abbrev pub Reported : List Race → ℕ → Type 0
Reported list j = (r : Race) × In r list × (r.later.event.0 ≡ j)

-- Demand 2, within the accepted part, the events t before event n. Some list of races, in order of the later event, has an access exactly if some
-- earlier access races with it; the earlier access named beside it is such a one; its length is the count, and the report has the first of it that fit.
pub record Demand2 (t : ℕ → Event) (n : ℕ) (report : List ℕ) (races : ℕ) (report' : List ℕ) : Type 0 where
  pub list : List Race
  pub in_order : Rising 0 list
  pub reported_exactly : (j : ℕ) → Reported list j ↔ ((j < n) × ((i : ℕ) × Races t i j))
  pub named_races : (r : Race) → In r list → (i j : ℕ) × (r ≡ race_of t i j) × (j < n) × Races t i j
  pub count_full : races ≡ length list
  pub first_written : report' ≡ laid list report

-- The different lock sets used earlier at location x, before event k: each that is listed was used there by an earlier access, each that was is listed,
-- and none is listed twice.
pub record DifferentSets (t : ℕ → Event) (k x : ℕ) (sets : List ℕ) : Type 0 where
  pub those_used : (set : ℕ) → In set sets ↔ ((i : ℕ) × (i < k) × (is_access (t i) ≡ true) × (location (t i) ≡ x) × ((entry_of t i).locks ≡ set))
  pub different : AllDifferent sets

-- Demand 3, within the accepted part. The access k is compared with the entries `compared k`: they number at most the different lock sets used earlier at
-- its location, reads told apart from writes by the mark; `total` is the true sum; yet where any earlier access races with it, so does one of them.
pub record Demand3 (t : ℕ → Event) (n : ℕ) (compared : ℕ → List Entry) (total : ℕ) : Type 0 where
  pub few : (k : ℕ) → k < n → is_access (t k) ≡ true
      → (sets : List ℕ) × DifferentSets t k (location (t k)) sets × (length (compared k) ≤ length sets)
  pub true_sum : total ≡ sum_below n (λ k. cond (is_access (t k)) (length (compared k)) 0)
  pub none_missed : (i k : ℕ) → k < n → Races t i k → (c : ℕ) × In (entry_of t c) (compared k) × Races t c k

-- The SP-bags of 002 give the same yes or no as the definition of parallel.
abbrev pub BagsAgree : (ℕ → Event) → ℕ → Type 0
BagsAgree t n = (i k : ℕ) → i < k → k < n → is_access (t i) ≡ true → Parallel (acts t) i k ↔ (bags_say_parallel (acts t) i k ≡ true)
