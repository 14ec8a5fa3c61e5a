-- The round trip. What is written is read back as the same events and the same next place: byte by byte by trace's laws of what stands at a place.
-- And what was read, written again, is the same bytes: the same number stands in both, and a number has only one form. By induction on the groups
-- and on the events. Assumes nothing.
use Prim.Native.Nat.{ℕ, zero, suc, ◌+◌, ◌-◌, ◌/◌, ◌%◌, ◌^◌, ◌≤◌, ◌<◌}
use mathlib.Core.Path.{◌≡◌, refl, sym, ap, ap₂, subst, ◌∙◌}
use mathlib.Core.Logic.{◌⊎◌, ⊎_elim}
use mathlib.Core.List.{List, [], ◌∷◌, ◌++◌, append-nil, append_assoc}
use native.Mathlib.Omega.{arith}
use native.Mathlib.Decide.{dec_lt}
use lib.Dec.{lit<}
use lib.ListN.{length, get_or, take, drop, length-append, length-drop, get_or-append}
use lib.Seq.{get_or-drop, get_or-take, get_or-append_right, drop-drop, take-add, take_all, drop-append_seam, drop_at, take_at, length-take-le}
use Rattle.trace.specs.declared.Event.{Event}
use Rattle.trace.specs.Numbers.{Bytes, most_groups, number_then, number_at}
use Rattle.trace.specs.Kinds.{as_number, reserved, largest_operand}
use Rattle.trace.specs.Events.{event_then, reading_at}
use Rattle.trace.proofs.Laws.{found}
use Rattle.trace.proofs.FromBytes.{last_group as last-read, group_before, event_there}
use Rattle.trace.proofs.OneForm.{one_form}
use Rattle.writer.specs.declared.Written.{Written}
use Rattle.writer.specs.declared.Why.{Why}
use Rattle.writer.specs.Form.{groups, bytes_of, bytes_of_all}
use Rattle.writer.specs.Contract.{code_for, event_code, list_code, next_place, overwritten, buffer_after, ReadAs, Wrote}
use Rattle.writer.specs.Lists.{events_in, numbers_of}
use Rattle.writer.proofs.Codes.{code_some, one_alone, fits, not_refused, first_passes, all_pass, empty_fits, list_inside}
use Rattle.writer.proofs.Groups.{last_group, next_group, rest_small, groups_few, number_small}

-- ---- a place whose bytes are known

record Begins (trace : List ℕ) (at byte : ℕ) (bytes : List ℕ) : Type 0 where
  there : at < length trace
  first : get_or trace at 0 ≡ byte
  others : drop (suc at) trace ≡ bytes

begins : (trace : List ℕ) (at byte : ℕ) (bytes : List ℕ) → drop at trace ≡ byte ∷ bytes → Begins trace at byte bytes
begins trace at byte bytes is =
    let long : length trace - at ≡ suc (length bytes) = sym (length-drop at trace) ∙ ap length is in
    let place : at + 0 ≡ at = omega arith in
    let after : at + 1 ≡ suc at = omega arith in
    record {
      there = omega arith;
      first = ap (λ (k : ℕ). get_or trace k 0) (sym place) ∙ sym (get_or-drop at trace 0 0) ∙ ap (λ (l : List ℕ). get_or l 0 0) is;
      others = ap (λ (k : ℕ). drop k trace) (sym after) ∙ sym (drop-drop 1 at trace) ∙ ap (drop 1) is;
    }

-- ---- what is written is read back

last_back : (more number : ℕ) (trace : List ℕ) (at : ℕ) (others : List ℕ) → number < 128 → drop at trace ≡ groups (suc more) number ++ others
    → number_at trace at ≡ number_then number (at + length (groups (suc more) number))
last_back more number trace at others low is =
    let b : Begins trace at number others = begins trace at number others (is ∙ ap (λ (l : List ℕ). l ++ others) (last_group more number low)) in
    last-read trace at b.there (rw b.first low) ∙ ap₂ number_then b.first (rw (last_group more number low) (omega arith))

number_back : (more number : ℕ) (trace : List ℕ) (at : ℕ) (others : List ℕ) → number < 128 ^ suc more → suc more ≤ most_groups
    → drop at trace ≡ groups (suc more) number ++ others → number_at trace at ≡ number_then number (at + length (groups (suc more) number))
number_back zero number trace at others small few is = last_back zero number trace at others small is
number_back (suc more) number trace at others small few is =
    elim (dec_lt number 128) [
      | yes low ↦ last_back (suc more) number trace at others low is
      | no top ↦
          let byte = 128 + number % 128 in
          let left = groups (suc more) (number / 128) in
          let form : groups (suc (suc more)) number ≡ byte ∷ left = next_group (suc more) number (omega arith) in
          let b : Begins trace at byte (left ++ others) = begins trace at byte (left ++ others) (is ∙ ap (λ (l : List ℕ). l ++ others) form) in
          let back = number_back more (number / 128) trace (suc at) others (rest_small (suc more) number small) (omega arith) b.others in
          let short : length left ≤ suc more = groups_few (suc more) (number / 128) in
          group_before trace at b.there (number / 128) (suc at + length left) (rw b.first (omega arith)) back (omega arith) (omega arith)
          ∙ ap₂ number_then (rw b.first (omega arith)) (rw form (omega arith))
    ]

event_back : (trace : List ℕ) (at : ℕ) (e : Event) (others : List ℕ) → e.kind < reserved → e.operand ≤ largest_operand e
    → drop at trace ≡ bytes_of e ++ others → reading_at trace at ≡ event_then e (at + length (bytes_of e))
unfolding bytes_of
event_back trace at e others kind operand is =
    event_there trace at e (at + length (groups most_groups (as_number e)))
    (number_back (most_groups - 1) (as_number e) trace at others (number_small e kind operand) (omega arith) is) kind operand

events_back : (room : ℕ) (trace : List ℕ) (at : ℕ) (es : List Event) (others : List ℕ) → list_code room at es ≡ 0
    → drop at trace ≡ bytes_of_all es ++ others → ReadAs trace at es (at + length (bytes_of_all es))
unfolding ReadAs bytes_of_all
events_back room trace at [] others passes is = omega arith
events_back room trace at (e ∷ es) others passes is =
    let both = all_pass room at e es passes in
    let f = fits room at e both.0 in
    let after = at + length (bytes_of e) in
    let whole : drop at trace ≡ bytes_of e ++ (bytes_of_all es ++ others) = is ∙ append_assoc (bytes_of e) (bytes_of_all es) others in
    let later : drop after trace ≡ bytes_of_all es ++ others =
    sym (drop-drop (length (bytes_of e)) at trace) ∙ ap (drop (length (bytes_of e))) whole ∙ drop-append_seam (bytes_of e) (bytes_of_all es ++ others) in
    let ends : after + length (bytes_of_all es) ≡ at + length (bytes_of e ++ bytes_of_all es) = omega (arith, length-append (bytes_of e) (bytes_of_all es)) in (
      after,
      event_back trace at e (bytes_of_all es ++ others) f.kind f.operand whole,
      subst (ReadAs trace after es) ends (events_back room trace after es others both.1 later),
    )

-- ---- what is read, written again, is the same bytes

byte_before : (byte : ℕ) (bytes : List ℕ) → byte < 256 → Bytes bytes → Bytes (byte ∷ bytes)
byte_before byte bytes small rest zero = small
byte_before byte bytes small rest (suc i) = rest i

group_bytes : (most number : ℕ) → Bytes (groups most number)
unfolding groups
group_bytes zero number = λ i. lit< tt
group_bytes (suc more) number =
    elim (dec_lt number 128) [
      | yes low ↦ rw (last_group more number low) (byte_before number [] (omega arith) (λ i. lit< tt))
      | no top ↦
          rw (next_group more number (omega arith))
          (byte_before (128 + number % 128) (groups more (number / 128)) (omega arith) (group_bytes more (number / 128)))
    ]

event_again : (trace : List ℕ) (at : ℕ) (e : Event) (after : ℕ) → Bytes trace → reading_at trace at ≡ event_then e after
    → bytes_of e ≡ take (after - at) (drop at trace)
unfolding bytes_of
event_again trace at e after bytes is =
    let f = found trace at e after is in
    let form = groups most_groups (as_number e) in
    let back = number_back (most_groups - 1) (as_number e) form 0 [] (number_small e f.kind f.operand) (omega arith) (sym (append-nil form)) in
    sym
    (one_form trace form at 0 (as_number e) after (0 + length form) bytes (group_bytes most_groups (as_number e)) f.number back
    ∙ take_all (0 + length form - 0) form (omega arith))

event_long : (trace : List ℕ) (at : ℕ) (e : Event) (after : ℕ) → Bytes trace → reading_at trace at ≡ event_then e after
    → at + length (bytes_of e) ≡ after
event_long trace at e after bytes is =
    let f = found trace at e after is in
    let inside : after - at ≤ length (drop at trace) = rw (length-drop at trace) (omega arith) in
    let long : length (take (after - at) (drop at trace)) ≡ after - at = length-take-le (after - at) (drop at trace) inside in
    omega (arith, ap length (event_again trace at e after bytes is))

again : (trace : List ℕ) (at next : ℕ) (es : List Event) → Bytes trace → ReadAs trace at es next
    → (at + length (bytes_of_all es) ≡ next) × (bytes_of_all es ≡ take (next - at) (drop at trace))
unfolding ReadAs bytes_of_all
again trace at next [] bytes e =
    let none : 0 ≡ next - at = omega arith in
    (omega arith, ap (λ (k : ℕ). take k (drop at trace)) none)
again trace at next (e ∷ es) bytes (after, is, rest) =
    let long = event_long trace at e after bytes is in
    let later = again trace after next es bytes rest in
    let split : next - at ≡ (after - at) + (next - after) = omega (arith, later.0) in
    let place : at + (after - at) ≡ after = omega arith in (
      omega (arith, later.0, length-append (bytes_of e) (bytes_of_all es)),
      ap₂ ◌++◌ (event_again trace at e after bytes is)
          (later.1 ∙ ap (take (next - after)) (sym (drop-drop (after - at) at trace ∙ ap (λ (k : ℕ). drop k trace) place)))
          ∙ sym (ap (λ (k : ℕ). take k (drop at trace)) split ∙ take-add (after - at) (next - after) (drop at trace)),
    )

passes_again : (trace : List ℕ) (at next : ℕ) (es : List Event) → Bytes trace → ReadAs trace at es next
    → (room at' : ℕ) → at' + (next - at) ≤ room → list_code room at' es ≡ 0
unfolding ReadAs
passes_again trace at next [] bytes e room at' inside = empty_fits room at' (omega arith)
passes_again trace at next (e ∷ es) bytes (after, is, rest) room at' inside =
    let f = found trace at e after is in
    let long = event_long trace at e after bytes is in
    let later = (again trace after next es bytes rest).0 in
    let passes = not_refused room at' e f.kind f.operand (omega arith) in
    first_passes room at' e es passes ∙ passes_again trace after next es bytes rest room (at' + length (bytes_of e)) (omega arith)

-- ---- so the contract is met where code, place and buffer are as they should be

outside : (before bytes : List ℕ) (at : ℕ) → at + length bytes ≤ length before → (i : ℕ) → (i < at) ⊎ (at + length bytes ≤ i)
    → get_or (overwritten before at bytes) i 0 ≡ get_or before i 0
outside before bytes at inside i =
    let front = take at before ++ bytes in
    let end = at + length bytes in
    let taken : length (take at before) ≡ at = length-take-le at before (omega arith) in
    let long : length front ≡ end = omega (arith, length-append (take at before) bytes) in
    ⊎_elim
    (λ (earlier : i < at).
    get_or-append front (drop end before) 0 i (omega arith) ∙ get_or-append (take at before) bytes 0 i (omega arith)
    ∙ get_or-take at before i 0 earlier)
    (λ (later : end ≤ i).
    let there : end + (i - length front) ≡ i = omega arith in
    get_or-append_right front (drop end before) i 0 (omega arith) ∙ get_or-drop end before (i - length front) 0
    ∙ ap (λ (k : ℕ). get_or before k 0) there)

module _ (es : List Event) (before : List ℕ) (at : ℕ) (r : Written) where
  pub wrote_all : (after : List ℕ) → r.code ≡ 0 → list_code (length before) at es ≡ 0 → r.next ≡ at + length (bytes_of_all es)
      → after ≡ overwritten before at (bytes_of_all es) → Wrote es before at r after
  unfolding next_place buffer_after
  wrote_all after none passes place left =
      let inside : at + length (bytes_of_all es) ≤ length before = list_inside (length before) at es passes in
      let front = take at before ++ bytes_of_all es in
      let taken : length (take at before) ≡ at = length-take-le at before (omega arith) in
      let long : length front ≡ at + length (bytes_of_all es) = omega (arith, length-append (take at before) (bytes_of_all es)) in
      let kept : take (at + length (bytes_of_all es)) after ≡ front =
      ap (take (at + length (bytes_of_all es))) left ∙ take_at front (drop (at + length (bytes_of_all es)) before) (at + length (bytes_of_all es)) long in
      let from : (behind : List ℕ) → drop at (front ++ behind) ≡ bytes_of_all es ++ behind =
      λ behind. ap (drop at) (append_assoc (take at before) (bytes_of_all es) behind) ∙ drop_at (take at before) (bytes_of_all es ++ behind) at taken in
      record {
        code = none ∙ sym passes;
        next = place ∙ sym (ap (λ (c : ℕ). next_place c at es) none);
        buffer = left ∙ sym (ap (λ (c : ℕ). buffer_after c before at es) none);
        reads_back = λ z behind. rw (place, kept) (events_back (length before) (front ++ behind) at es behind passes (from behind));
        written_again = λ trace begin end bytes read room.
            let whole = again trace begin end es bytes read in
            (none, place ∙ omega (arith, whole.0), left ∙ ap (overwritten before at) whole.1);
        untouched = λ some. absurd (some none);
        outside_kept = λ i far. ap (λ (l : List ℕ). get_or l i 0) left ∙ outside before (bytes_of_all es) at inside i (rw place at far);
      }

  -- a refusal, where the buffer that is left is known to be the one before
  pub wrote_none : (after : List ℕ) → after ≡ before → (why : Why) → list_code (length before) at es ≡ code_for why
      → (r.code ≡ code_for why) × (r.next ≡ at) → Wrote es before at r after
  unfolding next_place buffer_after
  wrote_none after same why judged is =
      let some : 0 < r.code = rw is.0 (code_some why) in
      record {
        code = is.0 ∙ sym judged;
        next = is.1 ∙ place r.code some;
        buffer = same ∙ kept r.code some;
        reads_back = λ none behind. absurd (omega arith);
        written_again = λ trace begin end bytes read room.
            let passes = passes_again trace begin end es bytes read (length before) at room in
            absurd (omega (arith, code_some why));
        untouched = λ some. (is.1, same);
        outside_kept = λ i far. ap (λ (l : List ℕ). get_or l i 0) same;
      }
    where
      kept : (c : ℕ) → 0 < c → before ≡ buffer_after c before at es
      kept zero some = absurd (omega arith)
      kept (suc c) some = refl

      place : (c : ℕ) → 0 < c → at ≡ next_place c at es
      place zero some = absurd (omega arith)
      place (suc c) some = refl

-- an event is a list of one
pub wrote_one : (e : Event) (before : List ℕ) (at : ℕ) (r : Written) (after : List ℕ) → r.code ≡ 0 → event_code (length before) at e ≡ 0
    → r.next ≡ at + length (bytes_of e) → after ≡ overwritten before at (bytes_of e) → Wrote (e ∷ []) before at r after
unfolding bytes_of_all
wrote_one e before at r after none passes place left =
    let one : bytes_of e ++ [] ≡ bytes_of e = append-nil (bytes_of e) in
    wrote_all (e ∷ []) before at r after none (one_alone (length before) at e ∙ passes) (place ∙ ap (λ (l : List ℕ). at + length l) (sym one))
    (left ∙ ap (overwritten before at) (sym one))

-- ---- every list of events can be lent as numbers

pub any_list_lent : (es : List Event) → events_in (numbers_of es) ≡ es
unfolding events_in numbers_of
any_list_lent [] = refl
any_list_lent (e ∷ es) = ap (◌∷◌ e) (any_list_lent es)
