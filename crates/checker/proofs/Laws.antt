-- What those above may say of a call: each accepted event was found at its place, and with code 0 these are all the bytes. By demand 1 and the
-- cases of the rules, none of which has code 0. Assumes nothing.
use Prim.Native.Nat.{ℕ, suc, ◌≤◌, ◌<◌}
use mathlib.Core.Path.{◌≡◌, refl, sym, ap, ◌∙◌}
use mathlib.Core.Bool.{Bool, true, false, ◌&&◌, and-eq-true_iff}
use mathlib.Core.List.{List, [], ◌∷◌}
use native.Mathlib.Omega.{arith}
use native.Mathlib.Decide.{dec_lt}
use lib.Dec.{lit<, ltb}
use lib.ListN.{length}
use borrow.Author.Tests.{ltb-true}
use Rattle.trace.specs.declared.Event.{Event}
use Rattle.trace.specs.declared.Refusal.{Refusal}
use Rattle.trace.specs.declared.Refusal.TheVariants.{BytesEnd, FormLong, Reserved, OperandLarge}
use Rattle.std.specs.Prelude.{Result, Ok, Err}
use Rattle.trace.specs.declared.Found.{Found}
use Rattle.trace.specs.declared.Refused.{Refused}
use Rattle.trace.specs.Events.{code_of, event_then, reading_at}
use Rattle.checker.specs.declared.Answer.{Answer}
use Rattle.checker.specs.Events.{place, events}
use Rattle.checker.specs.Rules.{Verdict, goes_on, stops, first_broken, rules, verdict, AcceptedBefore}
use Rattle.checker.specs.Call.{Lent, Left, unread}
use Rattle.checker.specs.Demands.{Stops}
use Rattle.checker.specs.Contract.{Contract}
use Rattle.checker.proofs.Stopping.{judged_found, judged_refused, stop_is_no_go, accepted_means, first_place, place_within}

-- ---- no refusal has code 0

coded : List (Bool × ℕ) → Bool
coded [] = true
coded (rule ∷ rules) = ltb 0 rule.1 && coded rules

broken_coded : (rules : List (Bool × ℕ)) → coded rules ≡ true → (c : ℕ) → first_broken rules ≡ stops c → 0 < c
unfolding coded first_broken
broken_coded [] all c e = absurd (stop_is_no_go c (sym e))
broken_coded ((true, d) ∷ rules) all c e =
    let same : d ≡ c = cc in
    omega (arith, ltb-true 0 d ((and-eq-true_iff (ltb 0 d) (coded rules)).0 all).0)
broken_coded ((false, d) ∷ rules) all c e = broken_coded rules ((and-eq-true_iff (ltb 0 d) (coded rules)).0 all).1 c e

refusal_coded : (why : Refusal) → 0 < code_of why
refusal_coded BytesEnd = lit< tt
refusal_coded FormLong = lit< tt
refusal_coded Reserved = lit< tt
refusal_coded OperandLarge = lit< tt

unread_coded : (l : Lent) (c : ℕ) → unread l ≡ stops c → 0 < c
unfolding unread coded
unread_coded l c e = broken_coded _ refl c e

all_coded : (t : ℕ → Event) (k : ℕ) → coded (rules t k) ≡ true
unfolding rules coded
all_coded t k = refl

rules_coded : (t : ℕ → Event) (k c : ℕ) → first_broken (rules t k) ≡ stops c → 0 < c
rules_coded t k c e = broken_coded (rules t k) (all_coded t k) c e

at_the_end : (trace : List ℕ) (k : ℕ) → verdict trace k ≡ stops 0 → length trace ≤ place trace k
at_the_end trace k e = elim (dec_lt (place trace k) (length trace)) [
  | yes left ↦ absurd (judge left (reading_at trace (place trace k)) refl)
  | no end ↦ omega arith
]
  where
    judge : place trace k < length trace → (r : Result Found Refused) → reading_at trace (place trace k) ≡ r → ⊥
    judge left (Err r) is =
        let same : code_of r.why ≡ 0 = let s : stops (code_of r.why) ≡ stops 0 = sym (judged_refused trace k r.at r.why left is) ∙ e in cc in
        omega (arith, refusal_coded r.why)
    judge left (Ok f) is = omega (arith, rules_coded (events trace) k 0 (sym (judged_found trace k f.next f.event left is).0 ∙ e))

-- ---- the accepted part

pub starts_at_0 : (trace : List ℕ) → place trace 0 ≡ 0
starts_at_0 = first_place

module _ (l : Lent) (r : Left) (contract : Contract l r) where
  accepted_before : AcceptedBefore l.trace r.answer.events
  accepted_before = go (unread l) refl
    where
      go : (v : Verdict) → unread l ≡ v → AcceptedBefore l.trace r.answer.events
      go goes_on e = ((contract.demand1.code_exactly e r.answer.code r.answer.events).0 (refl, refl)).accepted_before
      go (stops c) e = λ k h. let none = ap (λ (a : Answer). a.events) (contract.demand1.untouched c e).0 in absurd (omega arith)

  pub accepted_read : (k : ℕ) → k < r.answer.events
      → reading_at l.trace (place l.trace k) ≡ event_then (events l.trace k) (place l.trace (suc k))
  accepted_read k h = (accepted_means l.trace k (accepted_before k h)).read

  pub accepted_whole : r.answer.code ≡ 0 → r.answer.offset ≡ length l.trace
  accepted_whole none = go (unread l) refl
    where
      go : (v : Verdict) → unread l ≡ v → r.answer.offset ≡ length l.trace
      go goes_on e =
          let stop : Stops l.trace r.answer.events 0 = (contract.demand1.code_exactly e 0 r.answer.events).0 (none, refl) in
          omega (
            arith,
            contract.demand1.offset,
            at_the_end l.trace r.answer.events stop.stops_there,
            (place_within l.trace r.answer.events accepted_before).1,
          )
      go (stops c) e =
          let code = ap (λ (a : Answer). a.code) (contract.demand1.untouched c e).0 in
          absurd (omega (arith, unread_coded l c e))
