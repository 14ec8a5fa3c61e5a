-- Demand 1 is met by what the definitions say is given and left: by the cases of the rules that are tested before anything is read, and, on a trace
-- that is read, because there is one stop and `stop` is it. Assumes nothing.
use Prim.Native.Nat.{ℕ}
use mathlib.Core.Path.{◌≡◌, refl, sym, ap, subst, ◌∙◌}
use mathlib.Core.Logic.{◌↔◌}
use mathlib.Core.List.{List}
use Rattle.checker.specs.Events.{place}
use Rattle.checker.specs.Rules.{Verdict, goes_on, stops, verdict, stop, code_in}
use Rattle.checker.specs.Report.{found, laid}
use Rattle.checker.specs.Call.{Lent, unread, answer, outcome_after, outcome}
use Rattle.checker.specs.Demands.{Stops, Demand1}
use Rattle.checker.proofs.Stopping.{stop_is_no_go, stops_at, stops_somewhere}

-- The code and the event where the call stops are exactly those of a stop.
stops_exactly : (trace : List ℕ) (c n : ℕ) → ((code_in (verdict trace (stop trace)) ≡ c) × (stop trace ≡ n)) ↔ Stops trace n c
stops_exactly trace c n =
    (is_stop, λ s. let there = stops_at trace n c s in (ap (λ (k : ℕ). code_in (verdict trace k)) there.0 ∙ there.1, there.0))
  where
    is_stop : (code_in (verdict trace (stop trace)) ≡ c) × (stop trace ≡ n) → Stops trace n c
    is_stop same =
        let there = stops_somewhere trace in
        let code : there.0 ≡ c = sym (ap code_in there.1.stops_there) ∙ same.0 in
        subst (λ (k : ℕ). Stops trace k c) same.1 (subst (Stops trace (stop trace)) code there.1)

pub demand1_met : (l : Lent) → Demand1 l (outcome l)
unfolding outcome_after answer place found laid
demand1_met l = after (unread l) refl
  where
    after : (v : Verdict) → unread l ≡ v → Demand1 l (outcome_after v l)
    after (stops c) e = record {
      untouched = λ d e'. let same : c ≡ d = cc in rw same (refl, refl, refl);
      code_exactly = λ e'. absurd (stop_is_no_go c (sym e ∙ e'));
      offset = refl;
      reported_stands = refl;
      room_zero = λ e'. absurd (stop_is_no_go c (sym e ∙ e'));
    }
    after goes_on e = record {
      untouched = λ d e'. absurd (stop_is_no_go d (sym e' ∙ e));
      code_exactly = λ e' c n. stops_exactly l.trace c n;
      offset = refl;
      reported_stands = refl;
      room_zero = λ e'. refl;
    }
