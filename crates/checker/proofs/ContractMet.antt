-- What the definitions give and leave meets the contract: the demands are met by it. So whoever gives and leaves just that meets the contract too.
-- Assumes nothing.
use Prim.Native.Nat.{ℕ, ◌≤◌, ◌<◌}
use mathlib.Core.Path.{◌≡◌, refl, sym, ap, subst, ◌∙◌}
use mathlib.Core.Bool.{true, false}
use mathlib.Core.List.{List}
use native.Mathlib.Omega.{arith}
use lib.ListN.{length}
use borrow.Author.Tests.{ltb-false, lt-ltb, le-ltb}
use Rattle.std.proofs.lemmas.Bool.{or_parts}
use Rattle.kept.specs.Theorem.{visited}
use Rattle.kept.specs.Lists.{sum_below}
use Rattle.bags.specs.declared.ask.Runs.{Runs}
use Rattle.kept.specs.declared.KeptLists.{KeptLists}
use Rattle.kept.specs.Pieces.{pieces, piece_size, Fits, cleared}
use Rattle.kept.proofs.Laws.{cleared_same}
use Rattle.checker.specs.declared.Answer.{Answer}
use Rattle.checker.specs.Events.{events, run}
use Rattle.checker.specs.Rules.{Verdict, goes_on, stops, first_broken, stop}
use Rattle.checker.specs.Report.{found, laid}
use Rattle.checker.specs.Call.{WorkingRoom, room, Lent, Left, lent, left, any_short, most_bytes, unread, answer, code_alone, cleared_room}
use Rattle.checker.specs.Call.{outcome_after, outcome}
use Rattle.checker.specs.Demands.{Demand2, Demand3, BagsAgree}
use Rattle.checker.specs.Contract.{Contract}
use Rattle.checker.specs.Steps.{AllRestsKept}
use Rattle.checker.proofs.Stopping.{accepted_means, stops_somewhere}
use Rattle.checker.proofs.DemandOne.{demand1_met}
use Rattle.checker.proofs.DemandsTwoAndThree.{MainOpenBefore, demand2_met, demand3_met, bags_agree_met}

-- ---- The definitions meet the contract --------------------------------------------------------------------------------------------------------

-- Main is open before every accepted event.
main_open_until : (trace : List ℕ) → MainOpenBefore (events trace) (stop trace)
main_open_until trace k below = (accepted_means trace k ((stops_somewhere trace).1.accepted_before k below)).main_open

-- Before the first event nothing is asked.
nothing_asked : (trace : List ℕ) → MainOpenBefore (events trace) 0
nothing_asked trace k below = absurd (omega arith)

outcome_meets : (l : Lent) → Contract l (outcome l)
unfolding outcome_after answer found laid sum_below
outcome_meets l = record {
  answer = refl;
  report = refl;
  room = refl;
  demand1 = demand1_met l;
  demand2 = two (unread l);
  demand3 = three (unread l);
  bags_agree = agree (unread l);
}
  where
    two : (v : Verdict)
        → Demand2 (events l.trace) (outcome_after v l).answer.events l.report (outcome_after v l).answer.races (outcome_after v l).report
    two goes_on = demand2_met (events l.trace) (stop l.trace) (main_open_until l.trace) l.report
    two (stops c) = demand2_met (events l.trace) 0 (nothing_asked l.trace) l.report

    three : (v : Verdict)
        → Demand3 (events l.trace) (outcome_after v l).answer.events (visited (run (events l.trace))) (outcome_after v l).answer.visits
    three goes_on = demand3_met (events l.trace) (stop l.trace) (main_open_until l.trace)
    three (stops c) = demand3_met (events l.trace) 0 (nothing_asked l.trace)

    agree : (v : Verdict) → BagsAgree (events l.trace) (outcome_after v l).answer.events
    agree goes_on = bags_agree_met (events l.trace) (stop l.trace) (main_open_until l.trace)
    agree (stops c) = bags_agree_met (events l.trace) 0 (nothing_asked l.trace)

-- So does whoever gives and leaves the same.
pub meets : (l : Lent) (v : Verdict) (r : Left) → unread l ≡ v → r ≡ outcome_after v l → Contract l r
meets l v r says same = subst (Contract l) (sym (same ∙ ap (λ (w : Verdict). outcome_after w l) (sym says))) (outcome_meets l)

-- ---- The ways out of the call -----------------------------------------------------------------------------------------------------------------

-- Refused before anything is read: the code alone, and nothing touched.
pub short_refused : (trace report : List ℕ) (r : WorkingRoom) (a : Answer) → any_short r ≡ true → a ≡ code_alone 1
    → Contract (lent trace report r) (left a report r)
unfolding unread first_broken outcome_after
short_refused trace report r a short is =
    meets (lent trace report r) (stops 1) (left a report r) (rw short refl) (ap (λ (b : Answer). left b report r) is)

pub long_refused : (trace report : List ℕ) (r : WorkingRoom) (a : Answer) → any_short r ≡ false → most_bytes < length trace → a ≡ code_alone 2
    → Contract (lent trace report r) (left a report r)
unfolding unread first_broken outcome_after
long_refused trace report r a fits long is =
    meets (lent trace report r) (stops 2) (left a report r) (rw (fits, lt-ltb _ _ long) refl) (ap (λ (b : Answer). left b report r) is)

-- Where no piece is short, each is long enough.
pub room_fits : (r : WorkingRoom) → any_short r ≡ false
    → Fits (pieces r.heads r.links r.events r.procedures r.sets) × (piece_size ≤ length r.starts) × (piece_size ≤ length r.joins)
room_fits r fits =
    let but-joins = or_parts _ _ fits in
    let but-starts = or_parts _ _ but-joins.0 in
    let but-sets = or_parts _ _ but-starts.0 in
    let but-procedures = or_parts _ _ but-sets.0 in
    let but-events = or_parts _ _ but-procedures.0 in
    let but-links = or_parts _ _ but-events.0 in (
      record {
        heads_fit = ltb-false _ _ but-links.0;
        links_fit = ltb-false _ _ but-links.1;
        events_fit = ltb-false _ _ but-events.1;
        procedures_fit = ltb-false _ _ but-procedures.1;
        sets_fit = ltb-false _ _ but-sets.1;
      },
      ltb-false _ _ but-starts.1,
      ltb-false _ _ but-joins.1,
    )

-- Read, and the room cleared: what clearing makes of a piece does not depend on what its used part held.
module _ (trace report report' : List ℕ) (l l' : KeptLists) (r r' : Runs) (rests : AllRestsKept l r l' r') where
  abbrev before : WorkingRoom
  before = room l.heads.now l.links.now l.events.now l.procedures.now l.sets.now r.starts.now r.joins.now

  room_cleared : room (cleared piece_size l'.heads.now) (cleared piece_size l'.links.now) (cleared piece_size l'.events.now)
      (cleared piece_size l'.procedures.now) (cleared piece_size l'.sets.now) (cleared piece_size r'.starts.now) (cleared piece_size r'.joins.now)
      ≡ cleared_room before
  unfolding cleared_room
  room_cleared =
      let lists = rests.lists_rest in
      rw (
        cleared_same piece_size _ _ lists.heads,
        cleared_same piece_size _ _ lists.links,
        cleared_same piece_size _ _ lists.events,
        cleared_same piece_size _ _ lists.procedures,
        cleared_same piece_size _ _ lists.sets,
        cleared_same piece_size _ _ rests.starts_rest,
        cleared_same piece_size _ _ rests.joins_rest,
      )
      refl

  pub read_and_cleared : (a : Answer) (heads links events' procedures sets starts joins : List ℕ) → any_short before ≡ false → length trace ≤ most_bytes
      → a ≡ answer trace → report' ≡ laid (found (run (events trace)) (stop trace)) report
      → heads ≡ cleared piece_size l'.heads.now → links ≡ cleared piece_size l'.links.now → events' ≡ cleared piece_size l'.events.now
      → procedures ≡ cleared piece_size l'.procedures.now → sets ≡ cleared piece_size l'.sets.now → starts ≡ cleared piece_size r'.starts.now
      → joins ≡ cleared piece_size r'.joins.now
      → Contract (lent trace report before) (left a report' (room heads links events' procedures sets starts joins))
  unfolding unread first_broken outcome_after
  read_and_cleared a heads links events' procedures sets starts joins fits short is laid_so h k e pr s st j =
      meets (lent trace report before) goes_on (left a report' (room heads links events' procedures sets starts joins))
      (rw (fits, le-ltb _ _ short) refl)
      (rw (is, laid_so, h, k, e, pr, s, st, j) (ap (left (answer trace) _) room_cleared))
