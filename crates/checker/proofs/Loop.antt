-- Through a trace: the invariant of the loop, that it holds at first, that each accepted event is nearer to the end, and what follows where the call
-- stops: the state stands there as the definitions say, so the answer and the report are those of the definitions. Assumes nothing.
use Prim.Native.Nat.{ℕ, ◌-◌, ◌≤◌, ◌<◌}
use mathlib.Core.Path.{◌≡◌, refl, sym, ap, subst, ◌∙◌}
use mathlib.Core.Bool.{Bool, cond}
use mathlib.Core.List.{List}
use native.Mathlib.Omega.{arith}
use lib.Dec.{ltb}
use lib.ListN.{length}
use Rattle.locks.specs.declared.Held.{Held}
use Rattle.locks.specs.Sets.{none}
use Rattle.bags.specs.declared.ask.Runs.{Runs}
use Rattle.bags.specs.Steps.{Begins}
use Rattle.bags.proofs.Laws as bags
use Rattle.kept.specs.declared.KeptLists.{KeptLists}
use Rattle.kept.specs.Lent.{pieces_of, entries_kept}
use Rattle.kept.specs.Lists.{sum_below}
use Rattle.kept.specs.Pieces.{piece_size, Fits, none_used, cleared}
use Rattle.kept.proofs.Laws as lists
use Rattle.checker.specs.declared.State.{State}
use Rattle.checker.specs.Events.{place, events, acts, held, most, run}
use Rattle.checker.specs.Rules.{stops, ended, verdict, stop}
use Rattle.checker.specs.Report.{found, laid}
use Rattle.checker.specs.Call.{answer}
use Rattle.checker.specs.Steps.{Stands, AllRestsKept, GoesOn, IsRefused, answer_with}
use Rattle.checker.proofs.Stopping.{judged_ended, place_grows, stops_at}
use Rattle.checker.proofs.Rests.{as_it_is}

-- ---- The invariant ----------------------------------------------------------------------------------------------------------------------------

-- Since the loop began with this report, these lists and these runs.
pub record Going (trace report₀ : List ℕ) (l₀ : KeptLists) (r₀ : Runs) (report : List ℕ) (l : KeptLists) (r : Runs) (s : State) : Type 0 where
  pub stands : Stands trace s.counts.events s l r
  pub reported : report ≡ laid (found (run (events trace)) s.counts.events) report₀
  pub rests_kept : AllRestsKept l₀ r₀ l r

-- At first nothing is held, main's bags alone are there, all lists are empty, and nothing is counted.
abbrev pub state_at_first : Held → State
state_at_first set = record { at = 0; held = set; counts = record { events = 0; races = 0; visits = 0; most = 0 } }

module _ {l l' : KeptLists} {r r' : Runs} (fits : Fits (pieces_of l))
    (begins : Begins r.starts.now r.joins.now r'.starts.now r'.joins.now r'.pairs)
    (empty : l'.heads.now ≡ cleared piece_size l.heads.now) (same_links : l'.links.now ≡ l.links.now) (same : entries_kept l l') where
  pub going_first : {trace report : List ℕ} {set : Held} → set.bits ≡ none → l'.slots ≡ none_used
      → length r'.starts.now ≡ length r.starts.now → length r'.joins.now ≡ length r.joins.now
      → Going trace report l r report l' r' (state_at_first set)
  unfolding place held most found sum_below laid
  going_first {trace} nothing unused starts-length joins-length = record {
    stands = record {
      accepted_before = λ k h. absurd (omega arith);
      at_place = refl;
      held_told = nothing;
      bags_held = bags.holds_first (acts (events trace)) _ _ _ _ r'.pairs begins;
      lists_held = rw (empty, same_links, same.0, same.1, same.2, unused) (lists.holds_first (run (events trace)) (pieces_of l) fits);
      events_told = refl;
      races_told = refl;
      visits_told = refl;
      most_told = refl;
    };
    reported = refl;
    rests_kept = record {
      lists_rest = record {
        heads = rw empty (lists.cleared_rest piece_size l.heads.now fits.heads_fit);
        links = rw same_links (as_it_is l.links.now);
        events = rw same.0 (as_it_is l.events.now);
        procedures = rw same.1 (as_it_is l.procedures.now);
        sets = rw same.2 (as_it_is l.sets.now);
      };
      starts_rest = record { same_length = starts-length; same_rest = begins.starts_rest };
      joins_rest = record { same_length = joins-length; same_rest = begins.joins_rest };
    };
  }

module _ {trace report₀ : List ℕ} {l₀ : KeptLists} {r₀ : Runs} {report : List ℕ} {l : KeptLists} {r : Runs} {s : State}
    (going : Going trace report₀ l₀ r₀ report l r s) where
  abbrev k : ℕ
  k = s.counts.events

  -- After an accepted event the end of the trace is nearer.
  pub nearer_the_end : {report' : List ℕ} {l' : KeptLists} {r' : Runs} {s' : State} → GoesOn trace k report l r report' l' r' s'
      → s.at < length trace → length trace - s'.at < length trace - s.at
  nearer_the_end on left =
      omega (arith, going.stands.at_place, on.stands.at_place, place_grows trace k on.accepted)

  -- Where the call stops, everything is as the definitions say.
  pub record Answered (c : ℕ) (report' : List ℕ) : Type 0 where
    pub answer_told : answer_with c s ≡ answer trace
    pub report_told : report' ≡ laid (found (run (events trace)) (stop trace)) report₀

  stops_here : (c : ℕ) → verdict trace k ≡ stops c → Answered c report
  unfolding answer
  stops_here c says =
      let here = stops_at trace k c (record { accepted_before = going.stands.accepted_before; stops_there = says }) in
      let before = going.stands in
      record {
        answer_told =
            rw (here.0, here.1, before.at_place, before.races_told, before.visits_told, before.most_told) refl;
        report_told = going.reported ∙ ap (λ (m : ℕ). laid (found (run (events trace)) m) report₀) (sym here.0);
      }

  pub stopped : {c : ℕ} {report' : List ℕ} {l' : KeptLists} {r' : Runs} → IsRefused trace k report l r report' l' r' c → Answered c report'
  stopped {c} off =
      let here = stops_here c off.refused in
      record { answer_told = here.answer_told; report_told = off.report_same ∙ here.report_told }

  -- At the end of the trace main is open, or it is not.
  pub at_the_end : {tested is_open : Bool} → length trace ≤ s.at → tested ≡ ltb 0 r.pairs.count → tested ≡ is_open → Answered (cond is_open 14 0) report
  unfolding ended
  at_the_end {tested} {is_open} end is so =
      stops_here (cond is_open 14 0)
      (judged_ended trace k (subst (λ (at : ℕ). length trace ≤ at) going.stands.at_place end)
      ∙ ap stops (ap (λ (b : Bool). cond b 14 0) (going.stands.bags_held.main_told ∙ sym is ∙ so)))
