-- The impostors of specs/Impostors.antt are refuted, each on a small trace: on `two_races` the definition itself says that events 3 and 4 race with event 1,
-- and what a demand then asks for is more than the impostor gives. That the call stops there after six events is evaluated, as the table is. Assumes
-- nothing.
use Prim.Native.Nat.{ℕ, ◌≤◌, ◌<◌}
use mathlib.Core.Path.{◌≡◌, refl, sym, ap, ◌∙◌, subst}
use mathlib.Core.Logic.{◌≢◌, inl, inr}
use mathlib.Core.List.{List, [], ◌∷◌}
use native.Mathlib.Omega.{arith}
use lib.ListN.{length, get_or, replicate, length-replicate}
use borrow.Author.Tests.{le-ltb}
use Rattle.trace.specs.Kinds.{is_access, location}
use Rattle.locks.specs.Sets.{apart}
use Rattle.bags.specs.Parallel.{Act, return, sync, other, NoneBetween, Parallel}
use Rattle.kept.specs.Lists.{In}
use Rattle.kept.specs.Pieces.{piece_size}
use Rattle.checker.specs.declared.Answer.{Answer}
use Rattle.checker.specs.Events.{events, acts, held, entry_of, visits, visits_at}
use Rattle.checker.specs.Rules.{Verdict, goes_on, first_broken, stop}
use Rattle.checker.specs.Report.{Race, laid}
use Rattle.checker.specs.Call.{Lent, lent, room, most_bytes, unread, answer, outcome_after}
use Rattle.checker.specs.Demands.{Stops, Races, Reported, Demand2}
use Rattle.checker.specs.Table.{nines}
use Rattle.checker.specs.Impostors.{Program, RefusesEveryTrace, AlwaysNoRaces, WritesNothing, HonestOnce, SameTotal, WrongTotal}
use Rattle.checker.specs.Impostors.{Impostor, refuses_every_trace, always_no_races, writes_nothing, honest_once, same_total, wrong_total}
use Rattle.checker.specs.Impostors.{MeetsContract, MeetsDemand1, MeetsDemand2, MeetsDemand3, CountsEvents, two_races, ImpostorsRefuted}
use Rattle.checker.proofs.Table.{evaluation}

-- ---- What is lent -----------------------------------------------------------------------------------------------------------------------------

-- A short trace, four nines for the report, and pieces of just the size.
zeros : List ℕ
zeros = replicate piece_size 0

zeros_long : piece_size ≤ length zeros
unfolding zeros
zeros_long = omega (arith, length-replicate {A = ℕ} piece_size 0)

abbrev given : List ℕ → Lent
given trace = lent trace nines (room zeros zeros zeros zeros zeros zeros zeros)

reads : (trace : List ℕ) → length trace < piece_size → unread (given trace) ≡ goes_on
unfolding unread first_broken
reads trace short = rw (le-ltb (length zeros) piece_size zeros_long, le-ltb most_bytes (length trace) (omega arith)) refl

-- A program that counts the accepted events counts those before the call stops.
counted : (f : Program) → CountsEvents f → (trace : List ℕ) → length trace < piece_size → (f (given trace)).answer.events ≡ stop trace
unfolding outcome_after answer
counted f counts trace short = counts (given trace) ∙ ap (λ (v : Verdict). (outcome_after v (given trace)).answer.events) (reads trace short)

six_accepted : stop two_races ≡ 6
unfolding evaluation
six_accepted = refl

visits_in_six : visits (events two_races) 6 ≡ 2
unfolding evaluation
visits_in_six = refl

two_visits : visits (events two_races) (stop two_races) ≡ 2
two_visits = ap (visits (events two_races)) six_accepted ∙ visits_in_six

-- ---- The two races ----------------------------------------------------------------------------------------------------------------------------

-- Of the events after 2, event 3 alone can lie before event 3 or 4, and it is neither a sync nor a return.
none_between : (act : Act) → other ≢ act → (j : ℕ) → j < 5 → NoneBetween (acts (events two_races)) act 0 2 j
unfolding evaluation
none_between act differs j h k from to is by-main =
    let third : k ≡ 3 = omega arith in
    differs (sym (ap (acts (events two_races)) third) ∙ is)

-- Spawn 0, made by main, has its matching return 2 with 0 < 1 < 2 < j.
parallel_with_lem : (j : ℕ) → 2 < j → j < 5 → Parallel (acts (events two_races)) 1 j
unfolding evaluation
parallel_with_lem j after-2 before-5 = record {
  s = 0;
  G = 0;
  made_by_g = refl;
  r = 2;
  matching = record { spawns = refl; returns = refl; made_by_started = refl };
  s<i = omega arith;
  i<r = omega arith;
  r<j = after-2;
  no_sync_of_g = none_between sync (λ q. cc) j before-5;
  no_return_of_g = none_between return (λ q. cc) j before-5;
}

-- So a write like event 3, with the same locks held, races with event 1.
race_of_lem : (j : ℕ) → 2 < j → j < 5 → events two_races j ≡ events two_races 3 → held (events two_races) j ≡ held (events two_races) 3
    → Races (events two_races) 1 j
unfolding evaluation
race_of_lem j after-2 before-5 same same_held = record {
  earlier = omega arith;
  accesses = (refl, ap is_access same);
  same_location = sym (ap location same);
  parallel = parallel_with_lem j after-2 before-5;
  no_lock_shared = ap (apart (held (events two_races) 1)) same_held;
  one_writes = refl;
}

race_of_3 : Races (events two_races) 1 3
race_of_3 = race_of_lem 3 (omega arith) (omega arith) refl refl

race_of_4 : Races (events two_races) 1 4
unfolding evaluation
race_of_4 = race_of_lem 4 (omega arith) (omega arith) refl refl

-- So a list that has an access exactly if it races has event 3 and event 4, and thus two entries at least.
two_in : {A : Type 0} (list : List A) (a b : A) → In a list → In b list → a ≢ b → 2 ≤ length list
unfolding In
two_in [] a b h i differ = absurd h
two_in (c ∷ []) a b (inl p) (inl q) differ = absurd (differ (p ∙ sym q))
two_in (c ∷ []) a b (inl p) (inr i) differ = absurd i
two_in (c ∷ []) a b (inr h) i differ = absurd h
two_in (c ∷ d ∷ list) a b h i differ = omega arith

module _ {report report' : List ℕ} {races : ℕ} (d : Demand2 (events two_races) 6 report races report') where
  has_3 : Reported d.list 3
  has_3 = (d.reported_exactly 3).1 (omega arith, (1, race_of_3))

  has_4 : Reported d.list 4
  has_4 = (d.reported_exactly 4).1 (omega arith, (1, race_of_4))

  two_counted : 2 ≤ races
  two_counted =
      let differ : has_3.0 ≢ has_4.0 = λ same. omega (arith, has_3.2, has_4.2, ap (λ (r : Race). r.later.event.0) same) in
      omega (arith, d.count_full, two_in d.list has_3.0 has_4.0 has_3.1 has_4.1 differ)

  -- Each later event is below 6.
  below_6 : (r : Race) → In r d.list → r.later.event.0 < 6
  unfolding entry_of
  below_6 r h =
      let (i, j, same, before, races) = d.named_races r h in
      omega (arith, before, ap (λ (r : Race). r.later.event.0) same)

-- Where an entry fits it is written, its later event in the third place.
first_written_third : (list : List Race) (s : Race) → In s list → (r : Race) × In r list × (get_or (laid list nines) 2 0 ≡ r.later.event.0)
unfolding In laid
first_written_third [] s h = absurd h
first_written_third (r ∷ list) s h = (r, inl refl, refl)

-- ---- The impostors ----------------------------------------------------------------------------------------------------------------------------

-- Main returns at once: code 0, after one event.
accepted_return : Stops (0x01 ∷ []) 1 0
unfolding evaluation
accepted_return = record {
  accepted_before = λ k h. let at-0 : k ≡ 0 = omega arith in rw at-0 refl;
  stops_there = refl;
}

on_two_races : (f : Program) → CountsEvents f → MeetsDemand2 f
    → Demand2 (events two_races) 6 nines (f (given two_races)).answer.races (f (given two_races)).report
on_two_races f counts meets =
    let l = given two_races in
    subst (λ n. Demand2 (events two_races) n nines (f l).answer.races (f l).report) (counted f counts two_races (omega arith) ∙ six_accepted) (meets l)

-- The total is the sum of the visits.
total_told : (f : Program) → MeetsDemand3 f → (l : Lent) → (f l).answer.visits ≡ visits (events l.trace) (f l).answer.events
unfolding visits_at
total_told f meets l = (meets l).true_sum

total_given : (f : Program) → CountsEvents f → MeetsDemand3 f → (trace : List ℕ) → length trace < piece_size
    → (f (given trace)).answer.visits ≡ visits (events trace) (stop trace)
total_given f counts meets trace short = total_told f meets (given trace) ∙ ap (visits (events trace)) (counted f counts trace short)

-- What meets the contract counts the accepted events.
counts_events : (f : Program) → MeetsContract f → CountsEvents f
counts_events f meets l = ap (λ (a : Answer). a.events) (meets l).answer

refuses_all : (f : Program) → RefusesEveryTrace f → MeetsDemand1 f → ⊥
refuses_all f refuses meets =
    let l = given (0x01 ∷ []) in
    refuses l (((meets l).code_exactly (reads (0x01 ∷ []) (omega arith)) 0 1).1 accepted_return).0

no_races : (f : Program) → AlwaysNoRaces f → CountsEvents f → MeetsDemand2 f → ⊥
no_races f says counts meets = omega (arith, says (given two_races), two_counted (on_two_races f counts meets))

nothing_written : (f : Program) → WritesNothing f → CountsEvents f → MeetsDemand2 f → ⊥
unfolding In
nothing_written f leaves counts meets =
    let d = on_two_races f counts meets in
    let (r, h, third) = first_written_third d.list (has_3 d).0 (has_3 d).1 in
    let nine : ◌≡◌ {A = ℕ} 9 r.later.event.0 = ap (λ (report : List ℕ). get_or report 2 0) (sym (leaves (given two_races)) ∙ d.first_written) ∙ third in
    omega (arith, nine, below_6 d r h)

one_at_most : (f : Program) → HonestOnce f → CountsEvents f → MeetsDemand2 f → ⊥
one_at_most f says counts meets = omega (arith, says (given two_races), two_counted (on_two_races f counts meets))

-- No visits on the empty trace, and two on the other.
always_the_same : (f : Program) → SameTotal f → CountsEvents f → MeetsDemand3 f → ⊥
unfolding evaluation
always_the_same f invents counts meets =
    let gives = invents.1 in
    let nothing : invents.0 ≡ 0 = sym (gives (given [])) ∙ total_given f counts meets [] (omega arith) in
    let two : invents.0 ≡ 2 = sym (gives (given two_races)) ∙ total_given f counts meets two_races (omega arith) ∙ two_visits in
    omega (arith, nothing, two)

another_than_the_sum : (f : Program) → WrongTotal f → MeetsDemand3 f → ⊥
another_than_the_sum f wrong meets = wrong.1 (total_told f meets wrong.0)

none_meets : (f : Program) → Impostor f → MeetsContract f → ⊥
none_meets f (refuses_every_trace is) meets = refuses_all f is (λ l. (meets l).demand1)
none_meets f (always_no_races is) meets = no_races f is (counts_events f meets) (λ l. (meets l).demand2)
none_meets f (writes_nothing is) meets = nothing_written f is (counts_events f meets) (λ l. (meets l).demand2)
none_meets f (honest_once is) meets = one_at_most f is (counts_events f meets) (λ l. (meets l).demand2)
none_meets f (same_total is) meets = always_the_same f is (counts_events f meets) (λ l. (meets l).demand3)
none_meets f (wrong_total is) meets = another_than_the_sum f is (λ l. (meets l).demand3)

pub impostors_refuted : ImpostorsRefuted
unfolding In
impostors_refuted = record {
  refusing_breaks_1 = refuses_all;
  no_races_breaks_2 = no_races;
  no_writing_breaks_2 = nothing_written;
  honest_once_breaks_2 = one_at_most;
  same_total_breaks_3 = always_the_same;
  wrong_total_breaks_3 = another_than_the_sum;
  empty_list_breaks_3 = λ total d. (d.none_missed 1 3 (omega (arith, six_accepted)) race_of_3).1;
  none_meets_the_contract = none_meets;
}
