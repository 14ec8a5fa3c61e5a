-- What `step` needs and gives beside the laws of `Bringing`: the counts stay small, the layers below are asked for no more than they allow, and an event
-- that is refused before it is brought in changes nothing. Assumes nothing.
use Prim.Native.Nat.{ℕ, zero, suc, ◌*◌, ◌≤◌, ◌<◌, zero-le}
use mathlib.Core.Path.{◌≡◌, refl, sym, ap, subst, ◌∙◌}
use mathlib.Core.Bool.{Bool, true, false, cond}
use mathlib.Core.List.{List, []}
use Rattle.std.specs.Prelude.{Option, None, Some}
use native.Mathlib.Omega.{arith}
use lib.Dec.{ltb}
use lib.ListN.{length, length-append}
use borrow.Author.Tests.{ltb-true}
use Rattle.trace.specs.declared.Event.{Event}
use Rattle.trace.specs.declared.Refusal.{Refusal}
use Rattle.trace.specs.Kinds.{is_access, location}
use Rattle.trace.specs.Events.{code_of, event_then, refused_at, reading_at}
use Rattle.trace.proofs.Laws.{found as found_at, location_small}
use Rattle.kept.specs.declared.Entry.{Entry}
use Rattle.kept.specs.Lists.{sum_below}
use Rattle.kept.specs.Rules.{named}
use Rattle.kept.specs.Theorem.{Run, visited}
use Rattle.bags.specs.declared.ask.Runs.{Runs}
use Rattle.kept.specs.declared.KeptLists.{KeptLists}
use Rattle.kept.specs.Pieces.{piece_size}
use Rattle.kept.proofs.Laws.{kept_at_most}
use Rattle.checker.specs.declared.State.{State}
use Rattle.checker.specs.Events.{events, run, visits_at, visits}
use Rattle.checker.specs.Rules.{stops}
use Rattle.checker.specs.Report.{race_with, race_at, found}
use Rattle.checker.specs.Call.{most_bytes}
use Rattle.checker.specs.Steps.{Stands, ComesNext, Safe, IsRefused}
use Rattle.checker.proofs.Stopping.{judged_refused, place_within}
use Rattle.checker.proofs.Rests.{all_as_they_are}
use Rattle.checker.proofs.Bringing.{stops_after_main}

-- ---- The counts stay small --------------------------------------------------------------------------------------------------------------------

-- An event is reported once at most.
once_at_most : (run : Run) (k : ℕ) → length (race_at run k) ≤ 1
unfolding race_at
once_at_most run k = by_access (run.accesses k)
  where
    by_name : (x : ℕ) (e : Entry) (chosen : Option Entry) → length (race_with x e chosen) ≤ 1
    by_name x e None = omega arith
    by_name x e (Some l) = omega arith

    by_access : (b : Bool) → length (cond b (race_with (run.location k) (run.entry k) (named (run.parallel k) (run.entry k) (visited run k))) []) ≤ 1
    by_access true = by_name (run.location k) (run.entry k) (named (run.parallel k) (run.entry k) (visited run k))
    by_access false = omega arith

found_at_most : (run : Run) (k : ℕ) → length (found run k) ≤ k
unfolding found
found_at_most run zero = zero-le
found_at_most run (suc k) = omega (arith, length-append (found run k) (race_at run k), found_at_most run k, once_at_most run k)

-- A list has at most as many entries as there were events, and a trace at most so many events.
visits_at_most : (t : ℕ → Event) (k : ℕ) → visits_at t k ≤ k
unfolding visits_at run
visits_at_most t k = by_access (is_access (t k))
  where
    by_access : (b : Bool) → cond b (length (visited (run t) k)) 0 ≤ k
    by_access true = kept_at_most (run t) k (location (t k))
    by_access false = zero-le

visits_in_all : (t : ℕ → Event) (n : ℕ) → n ≤ most_bytes → visits t n ≤ n * most_bytes
unfolding sum_below
visits_in_all t zero small = zero-le
visits_in_all t (suc n) small = omega (arith, visits_in_all t n (omega arith), visits_at_most t n)

-- ---- What the layers below ask for ------------------------------------------------------------------------------------------------------------

module _ (trace : List ℕ) (l : KeptLists) (s : State) (r : Runs) (e : Event) (next : ℕ) (n : ComesNext trace s l r e next) where
  pub is_safe : length trace ≤ most_bytes → Safe s l r
  is_safe short =
      let before = n.stands in
      let k = s.counts.events in
      let within = place_within trace k before.accepted_before in
      let small : k < most_bytes = omega (arith, n.bytes_left, before.at_place) in
      record {
        bags_room = before.bags_held.room (ltb-true _ _ n.main_runs);
        lists_room = before.lists_held.room;
        counts_small =
            record {
              events_small = small;
              visits_small = omega (arith, before.visits_told, visits_in_all (events trace) k (omega arith));
            };
        races_small = omega (arith, before.races_told, found_at_most (run (events trace)) k);
      }

  pub is_located : is_access e ≡ true → location e < piece_size
  is_located access = location_small e access (found_at trace s.at e next n.read).operand

-- ---- Refused before it is brought in ----------------------------------------------------------------------------------------------------------

module _ {trace : List ℕ} {k : ℕ} {l : KeptLists} {s : State} {r : Runs} (before : Stands trace k s l r) (left : s.at < length trace)
    (report : List ℕ) where
  -- No event was read,
  pub reading_refused : {why : Refusal} {at c : ℕ} → reading_at trace s.at ≡ refused_at why at → c ≡ code_of why
      → IsRefused trace k report l r report l r c
  reading_refused {why} {at} read is = record {
    refused =
        judged_refused trace k at why (subst (λ (place : ℕ). place < length trace) before.at_place left)
        (subst (λ (place : ℕ). reading_at trace place ≡ refused_at why at) before.at_place read)
        ∙ ap stops (sym is);
    report_same = refl;
    rests_kept = all_as_they_are l r;
  }

  -- or main has returned.
  pub refused_after_main : {e : Event} {next : ℕ} → reading_at trace s.at ≡ event_then e next → ltb 0 r.pairs.count ≡ false
      → IsRefused trace k report l r report l r 7
  refused_after_main {e} {next} read over = record {
    refused = stops_after_main trace k s l r e next before left read over;
    report_same = refl;
    rests_kept = all_as_they_are l r;
  }
