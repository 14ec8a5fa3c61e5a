-- Where a call stops: what is said at an event by what was read at its place, what an accepted event is, that the places grow and stay within the
-- trace, and that there is one place, `stop`, before which every event is accepted and at which one is not. By the cases of the definitions, and by
-- trace's law of an event that was found: each takes a byte at least, so after as many events as bytes the trace is at its end, which is a stop.
-- Assumes nothing.
use Prim.Native.Nat.{ℕ, zero, suc, ◌+◌, ◌≤◌, ◌<◌}
use mathlib.Core.Path.{◌≡◌, refl, sym, ap, subst, ◌∙◌}
use mathlib.Core.Bool.{Bool, true, false, cond, not}
use mathlib.Core.List.{List, ◌∷◌}
use native.Mathlib.Omega.{arith}
use native.Mathlib.Decide.{dec_lt}
use lib.ListN.{length}
use borrow.Author.Tests.{le-leb, lt-leb, not-false}
use Rattle.trace.specs.declared.Event.{Event}
use Rattle.trace.specs.declared.Refusal.{Refusal}
use Rattle.std.specs.Prelude.{Result, Ok, Err}
use Rattle.trace.specs.declared.Found.{Found}
use Rattle.trace.specs.declared.Refused.{Refused}
use Rattle.trace.specs.Events.{code_of, event_then, refused_at, reading_at}
use Rattle.trace.proofs.Laws.{found}
use Rattle.bags.specs.Parallel.{is_main_open}
use Rattle.checker.specs.Events.{event_in, place_after, place, events, acts}
use Rattle.checker.specs.Rules.{Verdict, goes_on, stops, first_broken, rules, by_reading, ended, verdict, AcceptedBefore, accepts, stop_from}
use Rattle.checker.specs.Rules.{stop, code_in}
use Rattle.checker.specs.Demands.{Stops}

-- ---- What is said at an event -----------------------------------------------------------------------------------------------------------------

-- At the end of the trace,
pub judged_ended : (trace : List ℕ) (k : ℕ) → length trace ≤ place trace k → verdict trace k ≡ ended (events trace) k
unfolding verdict
judged_ended trace k end = rw (le-leb (length trace) (place trace k) end) refl

-- and where a byte is left: what was read there is by_reading,
judged_read : (trace : List ℕ) (k : ℕ) → place trace k < length trace
    → verdict trace k ≡ by_reading (events trace) k (reading_at trace (place trace k))
unfolding verdict
judged_read trace k left = rw (lt-leb (length trace) (place trace k) left) refl

-- be it an event
pub judged_found : (trace : List ℕ) (k next : ℕ) (e : Event) → place trace k < length trace → reading_at trace (place trace k) ≡ event_then e next
    → (verdict trace k ≡ first_broken (rules (events trace) k)) × (events trace k ≡ e) × (place trace (suc k) ≡ next)
unfolding by_reading events place
judged_found trace k next e left read = (judged_read trace k left ∙ ap (by_reading (events trace) k) read, ap event_in read, ap place_after read)

-- or none.
pub judged_refused : (trace : List ℕ) (k at : ℕ) (why : Refusal) → place trace k < length trace
    → reading_at trace (place trace k) ≡ refused_at why at → verdict trace k ≡ stops (code_of why)
unfolding by_reading
judged_refused trace k at why left read = judged_read trace k left ∙ ap (by_reading (events trace) k) read

-- ---- An accepted event ------------------------------------------------------------------------------------------------------------------------

-- No stop accepts an event, the end of the trace as little as a broken rule.
pub stop_is_no_go : (c : ℕ) → stops c ≡ goes_on → ⊥
stop_is_no_go c e = cc

ended_is_no_go : (t : ℕ → Event) (k : ℕ) → ended t k ≡ goes_on → ⊥
unfolding ended
ended_is_no_go t k e = stop_is_no_go _ e

-- The first of the rules is that main has not returned.
first_kept : (broken : Bool) (c : ℕ) (rest : List (Bool × ℕ)) → first_broken ((broken, c) ∷ rest) ≡ goes_on → broken ≡ false
unfolding first_broken
first_kept true c rest e = absurd (stop_is_no_go c e)
first_kept false c rest e = refl

main_open_then : (t : ℕ → Event) (k : ℕ) → first_broken (rules t k) ≡ goes_on → is_main_open (acts t) k ≡ true
unfolding rules
main_open_then t k e = not-false (is_main_open (acts t) k) (first_kept (not (is_main_open (acts t) k)) 7 _ e)

-- A byte is left, an event was found there, no rule is broken, and main has not returned.
pub record Accepted (trace : List ℕ) (k : ℕ) : Type 0 where
  pub bytes_left : place trace k < length trace
  pub read : reading_at trace (place trace k) ≡ event_then (events trace k) (place trace (suc k))
  pub no_rule_broken : first_broken (rules (events trace) k) ≡ goes_on
  pub main_open : is_main_open (acts (events trace)) k ≡ true

pub accepted_means : (trace : List ℕ) (k : ℕ) → verdict trace k ≡ goes_on → Accepted trace k
accepted_means trace k e = elim (dec_lt (place trace k) (length trace)) [
  | yes left ↦ judge left (reading_at trace (place trace k)) refl
  | no end ↦ absurd (ended_is_no_go (events trace) k (sym (judged_ended trace k (omega arith)) ∙ e))
]
  where
    judge : place trace k < length trace → (r : Result Found Refused) → reading_at trace (place trace k) ≡ r → Accepted trace k
    judge left (Err r) is = absurd (stop_is_no_go (code_of r.why) (sym (judged_refused trace k r.at r.why left is) ∙ e))
    judge left (Ok f) is =
        let said = judged_found trace k f.next f.event left is in
        let none-broken : first_broken (rules (events trace) k) ≡ goes_on = sym said.0 ∙ e in
        record {
          bytes_left = left;
          read = rw (said.1, said.2) is;
          no_rule_broken = none-broken;
          main_open = main_open_then (events trace) k none-broken;
        }

-- ---- The places -------------------------------------------------------------------------------------------------------------------------------

-- An accepted event ends after its place, and within the trace.
pub place_grows : (trace : List ℕ) (k : ℕ) → verdict trace k ≡ goes_on → place trace k < place trace (suc k)
place_grows trace k e = (found trace (place trace k) (events trace k) (place trace (suc k)) (accepted_means trace k e).read).after

pub first_place : (trace : List ℕ) → place trace zero ≡ 0
unfolding place
first_place trace = refl

pub place_within : (trace : List ℕ) (n : ℕ) → AcceptedBefore trace n → (n ≤ place trace n) × (place trace n ≤ length trace)
place_within trace zero accepted = (omega arith, omega (arith, first_place trace))
place_within trace (suc n) accepted =
    let last = accepted n (omega arith) in (
      omega (arith, (place_within trace n (λ k h. accepted k (omega arith))).0, place_grows trace n last),
      (found trace (place trace n) (events trace n) (place trace (suc n)) (accepted_means trace n last).read).within,
    )

-- ---- The stop ---------------------------------------------------------------------------------------------------------------------------------

-- One more event is accepted.
pub accepted_too : (trace : List ℕ) (n : ℕ) → AcceptedBefore trace n → verdict trace n ≡ goes_on → AcceptedBefore trace (suc n)
accepted_too trace n accepted e k h = elim (dec_lt k n) [
  | yes before ↦ accepted k before
  | no after ↦ let last : n ≡ k = omega arith in subst (λ (i : ℕ). verdict trace i ≡ goes_on) last e
]

-- After as many events as bytes the trace is at its end,
stops_at_end : (trace : List ℕ) (n : ℕ) → AcceptedBefore trace n → length trace ≤ n → (c : ℕ) × (verdict trace n ≡ stops c)
unfolding ended
stops_at_end trace n accepted enough = (_, judged_ended trace n (omega (arith, (place_within trace n accepted).0)))

-- so the search ends at a stop.
search_stops : (trace : List ℕ) (steps k : ℕ) → AcceptedBefore trace k → length trace ≤ k + steps → (c : ℕ) × Stops trace (stop_from trace steps k) c
unfolding stop_from
search_stops trace zero k accepted enough =
    let end = stops_at_end trace k accepted (omega arith) in (end.0, record { accepted_before = accepted; stops_there = end.1 })
search_stops trace (suc steps) k accepted enough =
    said (verdict trace k) refl (λ e. search_stops trace steps (suc k) (accepted_too trace k accepted e) (omega arith))
  where
    said : (v : Verdict) → verdict trace k ≡ v → (verdict trace k ≡ goes_on → (c : ℕ) × Stops trace (stop_from trace steps (suc k)) c)
        → (c : ℕ) × Stops trace (cond (accepts v) (stop_from trace steps (suc k)) k) c
    said goes_on e on = on e
    said (stops c) e on = (c, record { accepted_before = accepted; stops_there = e })

pub stops_somewhere : (trace : List ℕ) → (c : ℕ) × Stops trace (stop trace) c
unfolding stop
stops_somewhere trace = search_stops trace (length trace) 0 (λ k h. absurd (omega arith)) (omega arith)

-- There is no other.
no_stop_before : (trace : List ℕ) (n m c d : ℕ) → Stops trace n c → Stops trace m d → n < m → ⊥
no_stop_before trace n m c d s later h = stop_is_no_go c (sym s.stops_there ∙ later.accepted_before n h)

pub stops_at : (trace : List ℕ) (n c : ℕ) → Stops trace n c → (stop trace ≡ n) × (code_in (verdict trace n) ≡ c)
stops_at trace n c s =
    let there = stops_somewhere trace in
    let not-before : stop trace < n → ⊥ = no_stop_before trace (stop trace) n there.0 c there.1 s in
    let not_after : n < stop trace → ⊥ = no_stop_before trace n (stop trace) c there.0 s there.1 in (
      elim (dec_lt (stop trace) n) [
        | yes h ↦ absurd (not-before h)
        | no l ↦ elim (dec_lt n (stop trace)) [ yes h ↦ absurd (not_after h) | no g ↦ omega arith ]
      ],
      ap code_in s.stops_there,
    )
