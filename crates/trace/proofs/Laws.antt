-- What the layers above may say of a reading: where an event was found, its number stands there, it ends after its place and within the trace, and the
-- table allows it; where there was none, the place is as it was. By the cases of the definitions. Assumes nothing.
pub use Rattle.trace.proofs.Naming.{named, named_other, unnamed}
use Prim.Native.Nat.{ℕ, ◌+◌, ◌-◌, ◌*◌, ◌%◌, ◌/◌, ◌≤◌, ◌<◌}
use mathlib.Core.Path.{◌≡◌, refl, subst, sym, ap, ap₂, ◌∙◌}
use mathlib.Core.Bool.{Bool, true, false, cond, ◌&&◌}
use mathlib.Core.List.{List, []}
use native.Mathlib.Omega.{arith}
use native.Mathlib.Decide.{dec_lt}
use lib.Arith.{lt_of_le-ne}
use lib.Dec.{eqb, ltb}
use lib.ListN.{length, get_or, take, drop, length-drop}
use borrow.Author.Tests.{lt-ltb, ltb-true, ltb-false, eqb-false}
use Rattle.std.proofs.lemmas.Bool.{or_parts}
use Rattle.std.proofs.lemmas.List.{get_or_past}
use Rattle.std.proofs.lemmas.List.Recursion.{and_at}
use Rattle.std.specs.List.{list_all}
use Rattle.std.specs.Prelude.{Result, Ok, Err}
use Rattle.trace.specs.declared.Refusal.{Refusal}
use Rattle.trace.specs.declared.Refusal.TheVariants.{BytesEnd, FormLong, Reserved, OperandLarge}
use Rattle.trace.specs.declared.Event.{Event}
use Rattle.trace.specs.declared.Number.{Number}
use Rattle.trace.specs.declared.Found.{Found}
use Rattle.trace.specs.declared.Refused.{Refused}
use Rattle.trace.specs.Numbers.{value, followed, size, most_groups, group, end_inside, too_long, number_then, number_of, number_at}
use Rattle.trace.specs.Kinds.{event_of, as_number, kinds, reserved, entry, largest_operand, is_access, location}
use Rattle.trace.specs.Events.{event_then, refused_at, judged, reading_at}

-- ---- a number that was read

-- What its bytes are.
pub record Whole (bytes : List ℕ) (at number next : ℕ) : Type 0 where
  pub inside : size bytes ≤ length bytes
  pub few : size bytes ≤ most_groups
  pub shortest : 1 < size bytes → group (get_or bytes (followed bytes) 0) ≡ 0 → ⊥
  pub worth : number ≡ value (take (size bytes) bytes)
  pub ends : next ≡ at + size bytes

same_ok : {A E : Type 0} {x y : A} → ◌≡◌ {A = Result A E} (Ok x) (Ok y) → x ≡ y
same_ok e = cc

same_err : {A E : Type 0} {x y : E} → ◌≡◌ {A = Result A E} (Err x) (Err y) → x ≡ y
same_err e = cc

pub whole : (bytes : List ℕ) (at number next : ℕ) → number_of bytes at ≡ number_then number next → Whole bytes at number next
unfolding number_of
whole bytes at number next e = go (end_inside bytes) (too_long bytes) refl refl e
  where
    go : (ended long : Bool) → end_inside bytes ≡ ended → too_long bytes ≡ long
        → cond ended (Err BytesEnd) (cond long (Err FormLong) (number_then (value (take (size bytes) bytes)) (at + size bytes))) ≡ number_then number next
        → Whole bytes at number next
    go true long p q r = absurd cc
    go false true p q r = absurd cc
    go false false p q r =
        let last = group (get_or bytes (followed bytes) 0) in
        let fits = or_parts (ltb most_groups (size bytes)) (ltb 1 (size bytes) && eqb last 0) q in
        let few : size bytes ≤ most_groups = ltb-false _ _ fits.0 in
        record {
          inside =
              elim (dec_lt (length bytes) (size bytes)) [
                | yes short ↦ omega (arith, ltb-false (length bytes) most_groups (rw (lt-ltb _ _ short) at p))
                | no long ↦ omega arith
              ];
          few = few;
          shortest = λ several none. eqb-false last 0 (rw (lt-ltb 1 (size bytes) several) at fits.1) none;
          worth = sym (ap (λ (n : Number). n.value) (same_ok r));
          ends = sym (ap (λ (n : Number). n.next) (same_ok r));
        }

-- ---- an event that was found

pub record FoundAt (trace : List ℕ) (at : ℕ) (e : Event) (next : ℕ) : Type 0 where
  pub number : number_at trace at ≡ number_then (as_number e) next
  pub after : at < next
  pub near : next ≤ at + most_groups
  pub within : next ≤ length trace
  pub kind : e.kind < reserved
  pub operand : e.operand ≤ largest_operand e

pub found : (trace : List ℕ) (at : ℕ) (e : Event) (next : ℕ) → reading_at trace at ≡ event_then e next → FoundAt trace at e next
unfolding reading_at judged number_at
found trace at e next r = go (number_at trace at) refl r
  where
    judge : (number after : ℕ) → number_at trace at ≡ number_then number after → Whole (drop at trace) at number after → (kind large : Bool)
        → eqb (number % 8) reserved ≡ kind
        → ltb (largest_operand (event_of number)) (number / 8) ≡ large
        → cond kind (refused_at Reserved at) (cond large (refused_at OperandLarge at) (event_then (event_of number) after)) ≡ event_then e next
        → FoundAt trace at e next
    judge number after is w true large p q r = absurd cc
    judge number after is w false true p q r = absurd cc
    judge number after is w false false p q r =
        let back : number ≡ 8 * (number / 8) + number % 8 = omega arith in
        let same : event_of number ≡ e = ap (λ (f : Found). f.event) (same_ok r) in
        let place : after ≡ next = ap (λ (f : Found). f.next) (same_ok r) in
        let room : size (drop at trace) ≤ length trace - at = rw length-drop at w.inside in
        record {
          number = is ∙ ap₂ number_then (subst (λ (x : Event). number ≡ as_number x) same back) place;
          after = omega arith;
          near = omega arith;
          within = omega arith;
          kind = subst (λ (x : Event). x.kind < reserved) same (lt_of_le-ne (omega arith) (eqb-false (number % 8) reserved p));
          operand = subst (λ (x : Event). x.operand ≤ largest_operand x) same (ltb-false _ _ q);
        }

    go : (n : Result Number Refusal) → number_at trace at ≡ n → judged at n ≡ event_then e next → FoundAt trace at e next
    go (Err why) is r = absurd cc
    go (Ok n) is r =
        judge n.value n.next is (whole (drop at trace) at n.value n.next is) (eqb (n.value % 8) reserved) (ltb (largest_operand (event_of n.value)) (n.value / 8)) refl refl r

-- a refusal leaves the place as it was
pub refused : (trace : List ℕ) (at : ℕ) (why : Refusal) (place : ℕ) → reading_at trace at ≡ refused_at why place → place ≡ at
unfolding reading_at judged
refused trace at why place r = go (number_at trace at) r
  where
    judge : (e : Event) (after : ℕ) (kind large : Bool)
        → cond kind (refused_at Reserved at) (cond large (refused_at OperandLarge at) (event_then e after)) ≡ refused_at why place → place ≡ at
    judge e after true large r = sym (ap (λ (f : Refused). f.at) (same_err r))
    judge e after false true r = sym (ap (λ (f : Refused). f.at) (same_err r))
    judge e after false false r = cc

    go : (n : Result Number Refusal) → judged at n ≡ refused_at why place → place ≡ at
    go (Err w) r = sym (ap (λ (f : Refused). f.at) (same_err r))
    go (Ok n) r = judge (event_of n.value) n.next (eqb (n.value % 8) reserved) (ltb (largest_operand (event_of n.value)) (n.value / 8)) r

-- ---- the table

-- no operand that the table allows, and so no location, is above 4,095
pub operand_small : (e : Event) → e.operand ≤ largest_operand e → e.operand < 4096
unfolding entry
operand_small e within =
    elim (dec_lt e.kind (length kinds)) [
      | yes there ↦
          let small = λ (row : List ℕ). ltb (get_or row 0 0) 4096 in
          omega (arith, ltb-true (largest_operand e) 4096 (and_at (list_all small) small refl (λ row rows. refl) kinds e.kind [] there refl))
      | no past ↦ omega (arith, rw (get_or_past kinds e.kind [] (omega arith)) at within)
    ]

pub location_small : (e : Event) → is_access e ≡ true → e.operand ≤ largest_operand e → location e < 4096
location_small e access within = operand_small e within
