-- One event is brought in: where the state and the pieces stand as the definitions say before it, and each layer has done its part, they stand so after
-- it; or a rule refuses it, and what was reported stands. One law for each way out of `bring_other` and `bring_access`. Assumes nothing.
use Prim.Native.Nat.{ℕ, suc, ◌+◌, ◌≤◌, ◌<◌, max}
use mathlib.Core.Path.{◌≡◌, refl, sym, ap, ap₂, subst, ◌∙◌}
use mathlib.Core.Logic.{◌≢◌}
use mathlib.Core.Bool.{Bool, true, false, cond, not, ◌&&◌, ◌||◌}
use mathlib.Core.List.{List, [], ◌∷◌, ◌++◌, append-nil}
use native.Mathlib.Omega.{arith}
use lib.Dec.{leb, ltb}
use lib.ListN.{length, length-append}
use borrow.Author.Tests.{le-leb, lt-leb, lt-ltb, le-ltb, eqb-true, ne_eqb}
use Rattle.trace.specs.declared.Event.{Event}
use Rattle.trace.specs.Kinds.{is_spawn, is_locking, is_unlocking, entry, lawful_holding, is_access, is_read, location}
use Rattle.trace.specs.Events.{event_then, reading_at}
use Rattle.trace.proofs.Laws.{found as found_at}
use Rattle.locks.specs.declared.Held.{Held}
use Rattle.locks.specs.Sets.{is_in, is_empty, taken, released, set_of_access, count}
use Rattle.locks.proofs.Laws.{one_less_counted}
use Rattle.bags.specs.declared.Full.{Full as AllBegun}
use Rattle.bags.specs.declared.ask.ProcedureNumber.{ProcedureNumber}
use Rattle.bags.specs.declared.ask.Runs.{Runs}
use Rattle.bags.specs.Lent.{bags_of}
use Rattle.bags.specs.Parallel.{Act, spawn, return, sync, other, begun, maker}
use Rattle.bags.specs.Bags.{bags}
use Rattle.bags.specs.Steps.{most_begun, runner, Carries, AfterSpawn}
use Rattle.bags.specs.Holds.{Holds as BagsHold}
use Rattle.bags.proofs.Laws as bags
use Rattle.std.specs.Prelude.{Option, Result, Ok, Err}
use Rattle.kept.specs.declared.Entry.{Entry}
use Rattle.kept.specs.declared.KeptLists.{KeptLists}
use Rattle.kept.specs.declared.Visited.{Visited}
use Rattle.kept.specs.declared.NotKept.{NotKept}
use Rattle.kept.specs.declared.NotKept.TheVariants.{InNoBag, Full}
use Rattle.kept.specs.Lent.{pieces_of}
use Rattle.kept.specs.Lists.{any, sum_below}
use Rattle.kept.specs.Rules.{named, in_all}
use Rattle.kept.specs.Theorem.{kept, visited}
use Rattle.kept.specs.Pieces.{piece_size, RestKept, lists_in}
use Rattle.kept.specs.Access.{parallel_by, in_no_bag, number_of, accessed, AfterAccess}
use Rattle.kept.specs.Holds.{Holds as ListsHold, RestsKept, AccessIs, NotRefused, HoldsAfter}
use Rattle.kept.proofs.Laws as lists
use Rattle.checker.specs.declared.State.{State}
use Rattle.checker.specs.Events.{place, events, act_of, held_after, acts, held, most, entry_of, run, visits_at, visits}
use Rattle.checker.specs.Rules.{Verdict, goes_on, stops, first_broken, rules, verdict}
use Rattle.checker.specs.Report.{Race, race_with, race_at, found, laid}
use Rattle.checker.specs.Steps.{Stands, AllRestsKept, ComesNext, GoesOn, IsRefused, state_after, written}
use Rattle.checker.proofs.Stopping.{judged_found, accepted_too}
use Rattle.checker.proofs.AccessKinds.{kind_is_access_not, access_spawns_not, access_locks_not, access_unlocks_not, access_acts_not}
use Rattle.checker.proofs.AccessKinds.{access_holds_the_same, lawful_kinds}
use Rattle.checker.proofs.Holding.{held_at_most}
use Rattle.checker.proofs.Rests.{as_it_is, lists_as_they_are, all_as_they_are}
use Rattle.checker.proofs.Writing.{laid_then_written}

-- ---- The rules at an event --------------------------------------------------------------------------------------------------------------------

-- The rules of codes 11 to 13 at event k, which is e.
abbrev last_rules : (ℕ → Event) → ℕ → Event → List (Bool × ℕ)
last_rules t k e =
    (is_spawn e && leb most_begun (begun (acts t) k), 11) ∷
    (is_access e && any (in_no_bag (bags (acts t) k)) (visited (run t) k), 12) ∷
    (is_access e && ltb piece_size (in_all piece_size (kept (run t) (suc k))), 13) ∷ []

-- The rules of codes 8 to 10 speak of different kinds, so which of them is tested first does not matter: the one of the event's kind decides.
abbrev by_kind : Event → ℕ → Verdict → Verdict
by_kind e set later =
    cond (is_locking e) (cond (is_in e.operand set) (stops 9) later)
    (cond (is_unlocking e) (cond (is_in e.operand set) later (stops 10))
    (cond (is_access e || is_empty set) later (stops 8)))

one_decides : (e : Event) (set : ℕ) (later : List (Bool × ℕ))
    → first_broken
    ((not (lawful_holding e) && not (is_empty set), 8) ∷ (is_locking e && is_in e.operand set, 9) ∷
    (is_unlocking e && not (is_in e.operand set), 10) ∷ later)
    ≡ by_kind e set (first_broken later)
unfolding first_broken
one_decides e set later =
    rw (lawful_kinds e) (by_tests (is_locking e) (is_unlocking e) (is_access e) (is_in e.operand set) (is_empty set) (not_both (is_locking e) refl))
  where
    not_both : (b : Bool) → is_locking e ≡ b → b ≡ true → is_unlocking e ≡ false
    not_both true is so = let kind = eqb-true e.kind 3 is in ne_eqb e.kind 4 (omega arith)
    not_both false is so = cc

    by_tests : (locks unlocks accesses inside empty : Bool) → (locks ≡ true → unlocks ≡ false)
        → first_broken ((not (locks || (unlocks || accesses)) && not empty, 8) ∷ (locks && inside, 9) ∷ (unlocks && not inside, 10) ∷ later)
        ≡ cond locks (cond inside (stops 9) (first_broken later))
        (cond unlocks (cond inside (first_broken later) (stops 10)) (cond (accesses || empty) (first_broken later) (stops 8)))
    by_tests true unlocks accesses true empty apart = refl
    by_tests true unlocks accesses false empty apart = rw (apart refl) refl
    by_tests false true accesses true empty apart = refl
    by_tests false true accesses false empty apart = refl
    by_tests false false true inside empty apart = refl
    by_tests false false false inside true apart = refl
    by_tests false false false inside false apart = refl

module _ (trace : List ℕ) (k : ℕ) (s : State) (l : KeptLists) (r : Runs) (e : Event) (next : ℕ) (before : Stands trace k s l r)
    (bytes_left : s.at < length trace) (read : reading_at trace s.at ≡ event_then e next) where
  -- It is event k of the trace, and the next one stands after it.
  found_there : (verdict trace k ≡ first_broken (rules (events trace) k)) × (events trace k ≡ e) × (place trace (suc k) ≡ next)
  found_there =
      judged_found trace k next e (subst (λ (at : ℕ). at < length trace) before.at_place bytes_left)
      (subst (λ (at : ℕ). reading_at trace at ≡ event_then e next) before.at_place read)

  -- What is said of it after main's return, and before.
  pub stops_after_main : ltb 0 r.pairs.count ≡ false → verdict trace k ≡ stops 7
  unfolding rules first_broken
  stops_after_main over = found_there.0 ∙ rw (before.bags_held.main_told, over) refl

  pub verdict_by_kind : ltb 0 r.pairs.count ≡ true → verdict trace k ≡ by_kind e s.held.bits (first_broken (last_rules (events trace) k e))
  unfolding rules first_broken
  verdict_by_kind running =
      found_there.0
      ∙ rw (found_there.1, before.bags_held.main_told, sym before.held_told, running)
      (one_decides e s.held.bits (last_rules (events trace) k e))

-- ---- An event that is no access ---------------------------------------------------------------------------------------------------------------

module _ {trace : List ℕ} {l : KeptLists} {s : State} {r : Runs} {e : Event} {next : ℕ} (n : ComesNext trace s l r e next)
    (report : List ℕ) where
  abbrev k : ℕ
  k = s.counts.events

  abbrev t : ℕ → Event
  t = events trace

  is_e : t k ≡ e
  is_e = (found_there trace k s l r e next n.stands n.bytes_left n.read).1

  next_place : place trace (suc k) ≡ next
  next_place = (found_there trace k s l r e next n.stands n.bytes_left n.read).2

  by_kind_lem : verdict trace k ≡ by_kind e s.held.bits (first_broken (last_rules t k e))
  by_kind_lem = verdict_by_kind trace k s l r e next n.stands n.bytes_left n.read n.main_runs

  -- The rules of codes 8 to 10 let it pass.
  abbrev Passes : Type 0
  Passes = (later : Verdict) → by_kind e s.held.bits later ≡ later

  by_last_rules : Passes → verdict trace k ≡ first_broken (last_rules t k e)
  by_last_rules passes = by_kind_lem ∙ passes (first_broken (last_rules t k e))

  held_next : (set : ℕ) → held_after e s.held.bits ≡ set → held t (suc k) ≡ set
  unfolding held
  held_next set is = ap₂ held_after is_e (sym n.stands.held_told) ∙ is

  -- Nothing is found, visited or kept anew.
  same_found : is_access e ≡ false → found (run t) (suc k) ≡ found (run t) k
  unfolding found race_at run
  same_found no_access = rw (is_e, no_access) (append-nil (found (run t) k))

  same_visits : is_access e ≡ false → visits t (suc k) ≡ visits t k
  unfolding visits_at sum_below
  same_visits no_access = rw (is_e, no_access) (omega arith)

  same_lists : is_access e ≡ false → ListsHold (kept (run t) (suc k)) (pieces_of l) l.slots
  unfolding run
  same_lists no_access = lists.holds_other (run t) k (pieces_of l) l.slots (ap is_access is_e ∙ no_access) n.stands.lists_held

  -- The locks held before it were counted.
  counted : count s.held.bits ≤ most t k
  counted = rw n.stands.held_told (held_at_most t k)

  -- It is accepted, the locks held and the bags being brought forward.
  other_goes_on : (set : Held) (holding : ℕ) (r' : Runs) → Passes → is_access e ≡ false
      → (is_spawn e && leb most_begun (begun (acts t) k)) ≡ false → set.bits ≡ held_after e s.held.bits
      → max (most t k) holding ≡ max (most t k) (count set.bits) → BagsHold (acts t) (suc k) r'.starts.now r'.joins.now r'.pairs
      → RestKept piece_size r.starts.now r'.starts.now → RestKept piece_size r.joins.now r'.joins.now
      → GoesOn trace k report l r report l r' (state_after s next set s.counts.races 0 holding)
  unfolding first_broken most
  other_goes_on set holding r' passes no_access few is most-then then starts_rest joins_rest =
      let accepted : verdict trace k ≡ goes_on = by_last_rules passes ∙ rw (few, no_access) refl in
      let told : held t (suc k) ≡ set.bits = held_next set.bits (sym is) in
      record {
        accepted = accepted;
        stands = record {
          accepted_before = accepted_too trace k n.stands.accepted_before accepted;
          at_place = sym next_place;
          held_told = sym told;
          bags_held = then;
          lists_held = same_lists no_access;
          events_told = omega arith;
          races_told = n.stands.races_told ∙ ap length (sym (same_found no_access));
          visits_told = omega (arith, n.stands.visits_told, same_visits no_access);
          most_told = rw (n.stands.most_told, told) most-then;
        };
        reported = λ report₀ laid-before. laid-before ∙ ap (λ (w : List Race). laid w report₀) (sym (same_found no_access));
        rests_kept = record { lists_rest = lists_as_they_are (pieces_of l); starts_rest = starts_rest; joins_rest = joins_rest };
      }

  -- The bags are brought forward: a spawn, a return or a sync is accepted.
  bags_go_on : (act : Act) (r' : Runs) → Passes → is_access e ≡ false → held_after e s.held.bits ≡ s.held.bits
      → act_of e ≡ act → (is_spawn e && leb most_begun (begun (acts t) k)) ≡ false
      → Carries act r.starts.now r.joins.now r.pairs r'.starts.now r'.joins.now r'.pairs
      → length r'.starts.now ≡ length r.starts.now → length r'.joins.now ≡ length r.joins.now
      → GoesOn trace k report l r report l r' (state_after s next s.held s.counts.races 0 0)
  bags_go_on act r' passes no_access same_held acts-so few goes starts-length joins-length =
      other_goes_on s.held 0 r' passes no_access few (sym same_held) (omega (arith, counted))
      (bags.holds_next (acts t) k act _ _ _ _ r.pairs r'.pairs (ap act_of is_e ∙ acts-so) n.stands.bags_held goes)
      (record { same_length = starts-length; same_rest = goes.starts_rest }) (record { same_length = joins-length; same_rest = goes.joins_rest })

  -- The locks held are brought forward: a lock is taken or released.
  held_goes_on : (set : Held) (holding : ℕ) → Passes → is_access e ≡ false → is_spawn e ≡ false → act_of e ≡ other
      → set.bits ≡ held_after e s.held.bits → max (most t k) holding ≡ max (most t k) (count set.bits)
      → GoesOn trace k report l r report l r (state_after s next set s.counts.races 0 holding)
  held_goes_on set holding passes no_access spawns-not acts-not is most-then =
      other_goes_on set holding r passes no_access (rw spawns-not refl) is most-then
      (bags.holds_other (acts t) k _ _ r.pairs (ap act_of is_e ∙ acts-not) n.stands.bags_held) (as_it_is r.starts.now) (as_it_is r.joins.now)

  -- It is refused, and nothing was done.
  refused_at_once : (c : ℕ) → by_kind e s.held.bits (first_broken (last_rules t k e)) ≡ stops c
      → IsRefused trace k report l r report l r c
  refused_at_once c says = record { refused = by_kind_lem ∙ says; report_same = refl; rests_kept = all_as_they_are l r }

  -- A lock goes on, or is refused where it is held.
  pub lock_goes_on : (set : Held) (holding : ℕ) → e.kind ≡ 3 → is_access e ≡ false → is_in e.operand s.held.bits ≡ false
      → set.bits ≡ taken e.operand s.held.bits → holding ≡ count set.bits
      → GoesOn trace k report l r report l r (state_after s next set s.counts.races 0 holding)
  unfolding act_of held_after
  lock_goes_on set holding kind no_access free is counts =
      held_goes_on set holding (λ later. rw (kind, free) refl) no_access (rw kind refl) (rw kind refl) (is ∙ sym (rw kind refl)) (rw counts refl)

  pub lock_refused : e.kind ≡ 3 → is_in e.operand s.held.bits ≡ true → IsRefused trace k report l r report l r 9
  lock_refused kind holds = refused_at_once 9 (rw (kind, holds) refl)

  -- An unlock goes on, or is refused where the lock is not held.
  pub unlock_goes_on : (set : Held) → e.kind ≡ 4 → is_access e ≡ false → is_in e.operand s.held.bits ≡ true
      → set.bits ≡ released e.operand s.held.bits
      → GoesOn trace k report l r report l r (state_after s next set s.counts.races 0 0)
  unfolding act_of held_after entry
  unlock_goes_on set kind no_access holds is =
      let small : e.operand ≤ 62 = rw kind at (found_at trace s.at e next n.read).operand in
      let fewer = one_less_counted e.operand s.held.bits (lt-ltb e.operand 63 (omega arith)) holds in
      held_goes_on set 0 (λ later. rw (kind, holds) refl) no_access (rw kind refl) (rw kind refl) (is ∙ sym (rw kind refl))
      (rw is (omega (arith, counted, fewer)))

  pub unlock_refused : e.kind ≡ 4 → is_in e.operand s.held.bits ≡ false → IsRefused trace k report l r report l r 10
  unlock_refused kind free = refused_at_once 10 (rw (kind, free) refl)

  -- What is no access and neither of the two is refused where a lock is held.
  pub holding_refused : e.kind ≢ 3 → e.kind ≢ 4 → is_access e ≡ false → is_empty s.held.bits ≡ false
      → IsRefused trace k report l r report l r 8
  holding_refused not-3 not-4 no_access holding = refused_at_once 8 (rw (ne_eqb _ _ not-3, ne_eqb _ _ not-4, no_access, holding) refl)

  -- A spawn goes on, or is refused where 4,096 procedures have begun.
  pub spawn_goes_on : (r' : Runs) → e.kind ≡ 0 → is_access e ≡ false → is_empty s.held.bits ≡ true
      → AfterSpawn r.starts.now r.joins.now r.pairs r'.starts.now r'.joins.now r'.pairs (Ok tt)
      → length r'.starts.now ≡ length r.starts.now → length r'.joins.now ≡ length r.joins.now
      → GoesOn trace k report l r report l r' (state_after s next s.held s.counts.races 0 0)
  unfolding act_of held_after
  spawn_goes_on r' kind no_access empty so starts-length joins-length =
      bags_go_on spawn r' (λ later. rw (no_access, kind, empty) refl) no_access (rw kind refl) (rw kind refl)
      (rw (kind, lt-leb most_begun (begun (acts t) k) (rw (← n.stands.bags_held.begun_held) so.0)) refl) so.1 starts-length joins-length

  pub spawn_refused : (r' : Runs) (why : AllBegun) → e.kind ≡ 0 → is_access e ≡ false → is_empty s.held.bits ≡ true
      → AfterSpawn r.starts.now r.joins.now r.pairs r'.starts.now r'.joins.now r'.pairs (Err why) → IsRefused trace k report l r report l r' 11
  unfolding first_broken
  spawn_refused r' why kind no_access empty so = record {
    refused =
        by_last_rules (λ later. rw (no_access, kind, empty) refl)
        ∙ rw (kind, le-leb most_begun (begun (acts t) k) (rw (← n.stands.bags_held.begun_held) so.0)) refl;
    report_same = refl;
    rests_kept = record {
      lists_rest = lists_as_they_are (pieces_of l);
      starts_rest = rw so.1 (as_it_is r.starts.now);
      joins_rest = rw so.2 (as_it_is r.joins.now);
    };
  }

  -- A return and a sync go on. What is no access and none of the others is a sync.
  pub return_goes_on : (r' : Runs) → e.kind ≡ 1 → is_access e ≡ false → is_empty s.held.bits ≡ true
      → Carries return r.starts.now r.joins.now r.pairs r'.starts.now r'.joins.now r'.pairs
      → length r'.starts.now ≡ length r.starts.now → length r'.joins.now ≡ length r.joins.now
      → GoesOn trace k report l r report l r' (state_after s next s.held s.counts.races 0 0)
  unfolding act_of held_after
  return_goes_on r' kind no_access empty goes =
      bags_go_on return r' (λ later. rw (no_access, kind, empty) refl) no_access (rw kind refl) (rw kind refl) (rw kind refl) goes

  pub sync_goes_on : (r' : Runs) → e.kind ≢ 0 → e.kind ≢ 1 → e.kind ≢ 3 → e.kind ≢ 4 → is_access e ≡ false → is_empty s.held.bits ≡ true
      → Carries sync r.starts.now r.joins.now r.pairs r'.starts.now r'.joins.now r'.pairs
      → length r'.starts.now ≡ length r.starts.now → length r'.joins.now ≡ length r.joins.now
      → GoesOn trace k report l r report l r' (state_after s next s.held s.counts.races 0 0)
  unfolding act_of held_after entry
  sync_goes_on r' not-0 not-1 not-3 not-4 no_access empty goes =
      let small = (found_at trace s.at e next n.read).kind in
      let kind : e.kind ≡ 2 = omega (arith, kind_is_access_not e 5 refl no_access, kind_is_access_not e 6 refl no_access) in
      bags_go_on sync r' (λ later. rw (no_access, kind, empty) refl) no_access (rw kind refl) (rw kind refl) (rw kind refl) goes

  -- ---- An access --------------------------------------------------------------------------------------------------------------------------------

  -- The entry that an access may leave is the one that the run has.
  pub entry_told : (procedure : ProcedureNumber) (locks : ℕ) → procedure.0 ≡ runner (bags_of r)
      → locks ≡ set_of_access (is_read e) s.held.bits
      → entry_of t k ≡ record { event = record { 0 = k }; procedure = procedure; locks = locks }
  unfolding entry_of
  entry_told procedure locks runs set =
      let made : procedure.0 ≡ maker (acts t) k = runs ∙ bags.runner_makes (acts t) k _ _ r.pairs n.stands.bags_held in
      let same : locks ≡ set_of_access (is_read (t k)) (held t k) = set ∙ ap₂ set_of_access (ap is_read (sym is_e)) n.stands.held_told in
      rw (sym made, sym same) refl

  -- What the lists made of it.
  module _ (x : ℕ) (there : x ≡ location e) (ours : Entry) (told : entry_of t k ≡ ours) (accesses : is_access e ≡ true)
      (small : x < piece_size) (l' : KeptLists) where
    abbrev Gives : Result Visited NotKept → Type 0
    Gives given =
        (given ≡ accessed (bags_of r) x ours (lists_in (pieces_of l)))
        × AfterAccess (bags_of r) x ours (pieces_of l) l.slots (pieces_of l') l'.slots given

    access_is : AccessIs (run t) k (bags_of r) x ours
    unfolding run
    access_is = record {
      an_access = ap is_access is_e ∙ accesses;
      its_location = ap location is_e ∙ sym there;
      its_entry = told;
      told_by_bags = ap parallel_by (sym n.stands.bags_held.bags_held);
    }

    lists_then : (given : Result Visited NotKept) → Gives given
        → HoldsAfter (run t) k (bags_of r) (pieces_of l') l'.slots given × RestsKept (pieces_of l) (pieces_of l')
    lists_then given so =
        lists.holds_next (run t) k _ x ours (pieces_of l) l.slots (pieces_of l') l'.slots given small access_is n.stands.lists_held so.0 so.1

    rests_then : RestsKept (pieces_of l) (pieces_of l') → AllRestsKept l r l' r
    rests_then rests = record { lists_rest = rests; starts_rest = as_it_is r.starts.now; joins_rest = as_it_is r.joins.now }

    -- The rules of codes 8 to 10 do not speak of it.
    access_passes : Passes
    access_passes later = rw (access_locks_not e accesses, access_unlocks_not e accesses, accesses) refl

    -- It is refused with code 12 or 13,
    pub access_refused : (why : NotKept) → Gives (Err why) → IsRefused trace k report l r report l' r (number_of why)
    unfolding first_broken
    access_refused InNoBag gives =
        let then = lists_then (Err InNoBag) gives in
        record {
          refused = by_last_rules access_passes ∙ rw (access_spawns_not e accesses, accesses, sym n.stands.bags_held.bags_held, then.0.0) refl;
          report_same = refl;
          rests_kept = rests_then then.1;
        }
    access_refused Full gives =
        let then = lists_then (Err Full) gives in
        record {
          refused =
              by_last_rules access_passes
              ∙ rw (access_spawns_not e accesses, accesses, sym n.stands.bags_held.bags_held, then.0.0, lt-ltb _ _ then.0.1) refl;
          report_same = refl;
          rests_kept = rests_then then.1;
        }

    -- or accepted, and then the race found is the one with the entry named,
    race_anew : (seen : ℕ) (race : Option Entry) → NotRefused (run t) k (bags_of r) (pieces_of l') l'.slots seen race
        → race_at (run t) k ≡ race_with x ours race
    unfolding race_at
    race_anew seen race so =
        rw access_is.an_access
        (ap₂ (λ (at : ℕ) (y : Entry). race_with at y (named ((run t).parallel k) ((run t).entry k) (visited (run t) k))) access_is.its_location
        access_is.its_entry
        ∙ ap (race_with x ours) (sym so.race_told))

    -- which is noted.
    pub access_goes_on : (given : Visited) (races : ℕ) (report' : List ℕ) → Gives (Ok given)
        → races ≡ s.counts.races + length (race_with x ours given.race)
        → report' ≡ written s.counts.races (race_with x ours given.race) report
        → GoesOn trace k report l r report' l' r (state_after s next s.held races given.visits 0)
    unfolding first_broken found visits_at sum_below most
    access_goes_on given races report' gives more wrote =
        let then = lists_then (Ok given) gives in
        let so = then.0 in
        let race = given.race in
        let accepted : verdict trace k ≡ goes_on =
        by_last_rules access_passes
        ∙ rw (access_spawns_not e accesses, accesses, sym n.stands.bags_held.bags_held, so.all_in_bags, le-ltb _ _ so.not_too_many) refl in
        let anew = race_anew given.visits race so in
        let in_all : found (run t) (suc k) ≡ found (run t) k ++ race_with x ours race = ap (found (run t) k ++◌) anew in
        let same_set : held t (suc k) ≡ s.held.bits = held_next s.held.bits (access_holds_the_same e s.held.bits accesses) in
        record {
          accepted = accepted;
          stands = record {
            accepted_before = accepted_too trace k n.stands.accepted_before accepted;
            at_place = sym next_place;
            held_told = sym same_set;
            bags_held = bags.holds_other (acts t) k _ _ r.pairs (ap act_of is_e ∙ access_acts_not e accesses) n.stands.bags_held;
            lists_held = so.lists_held;
            events_told = omega arith;
            races_told =
                more ∙ ap (◌+ length (race_with x ours race)) n.stands.races_told
                ∙ sym (length-append (found (run t) k) (race_with x ours race)) ∙ ap length (sym in_all);
            visits_told = rw (is_e, accesses) (ap₂ ◌+◌ n.stands.visits_told so.visits_told);
            most_told = rw (n.stands.most_told, same_set) (omega (arith, counted));
          };
          reported = λ report₀ laid-before.
              wrote ∙ ap₂ (λ (m : ℕ) (w : List ℕ). written m (race_with x ours race) w) n.stands.races_told laid-before
              ∙ sym (laid_then_written (found (run t) k) (race_with x ours race) report₀)
              ∙ ap (λ (w : List Race). laid w report₀) (sym in_all);
          rests_kept = rests_then then.1;
        }
