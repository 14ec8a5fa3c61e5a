-- The events of a list of numbers one by one, and what holds of judging and of writing them while some are left. By the cases of the definitions.
-- Assumes nothing.
use Prim.Native.Nat.{ℕ, zero, suc, ◌+◌, ◌*◌, ◌/◌, ◌≤◌, ◌<◌}
use mathlib.Core.Path.{◌≡◌, refl, sym, ap, ◌∙◌}
use mathlib.Core.Logic.{◌≢◌}
use mathlib.Core.List.{List, [], ◌∷◌, ◌++◌, map}
use native.Mathlib.Omega.{arith}
use lib.ListN.{length, get_or, drop, set, length-append, length-drop, drop_of_length-le}
use lib.Seq.{drop-cons, sets, sets-eq, length-sets}
use Rattle.std.specs.Prelude.{Result, Ok, Err, Some, None, slice_get}
use Rattle.std.specs.Simd.{first_chunks}
use Rattle.trace.specs.declared.Event.{Event}
use Rattle.trace.proofs.Laws.{operand_small}
use Rattle.writer.specs.declared.Why.{Why}
use Rattle.writer.specs.declared.Why.TheVariants.{Place}
use Rattle.writer.specs.Form.{bytes_of, bytes_of_all}
use Rattle.writer.specs.Lists.{no_operand, events_in}
use Rattle.writer.specs.Contract.{code_for, event_code, list_code, overwritten}
use Rattle.writer.specs.Parts.{Judged}
use Rattle.writer.proofs.Codes.{fits, first_stops, first_passes, all_pass, one_alone, empty_fits, empty_refused, list_inside}

-- ---- the events of a list of numbers: those of its pairs, and one more where a last kind has no operand

abbrev pub event_of_pair : List ℕ → Event
event_of_pair pair = record { kind = get_or pair 0 0; operand = get_or pair 1 0 }

abbrev pub last_of : List ℕ → List ℕ
last_of numbers = drop (length numbers / 2 * 2) numbers

-- those from a pair on
abbrev pub events_from : List (List ℕ) → List ℕ → ℕ → List Event
events_from pairs numbers i = map event_of_pair (drop i pairs) ++ events_in (last_of numbers)

in_pairs : (k : ℕ) (numbers : List ℕ) → k * 2 ≤ length numbers
    → map event_of_pair (first_chunks 2 k numbers) ++ events_in (drop (k * 2) numbers) ≡ events_in numbers
unfolding events_in
in_pairs zero numbers inside = refl
in_pairs (suc k) [] inside = absurd (omega arith)
in_pairs (suc k) (kind ∷ []) inside = absurd (omega arith)
in_pairs (suc k) (kind ∷ operand ∷ numbers) inside =
    let two : suc k * 2 ≡ suc (suc (k * 2)) = omega arith in
    rw two (ap (◌∷◌ (record { kind = kind; operand = operand })) (in_pairs k numbers (omega arith)))

pub all_left : {pairs : List (List ℕ)} (numbers : List ℕ) → pairs ≡ first_chunks 2 (length numbers / 2) numbers → events_from pairs numbers 0 ≡ events_in numbers
all_left numbers is = rw is (in_pairs (length numbers / 2) numbers (omega arith))

pub one_more : (pairs : List (List ℕ)) (numbers : List ℕ) (i : ℕ) → i < length pairs
    → events_from pairs numbers i ≡ event_of_pair (get_or pairs i []) ∷ events_from pairs numbers (i + 1)
one_more pairs numbers i there =
    let next : suc i ≡ i + 1 = omega arith in
    ap (λ (l : List (List ℕ)). map event_of_pair l ++ events_in (last_of numbers)) (drop-cons pairs i [] there)
    ∙ ap (λ (k : ℕ). event_of_pair (get_or pairs i []) ∷ (map event_of_pair (drop k pairs) ++ events_in (last_of numbers))) next

last_left : (pairs : List (List ℕ)) (numbers : List ℕ) (i : ℕ) → length pairs ≤ i → events_from pairs numbers i ≡ events_in (last_of numbers)
last_left pairs numbers i end = ap (λ (l : List (List ℕ)). map event_of_pair l ++ events_in (last_of numbers)) (drop_of_length-le pairs end)

few_left : (numbers : List ℕ) → length (last_of numbers) < 2
few_left numbers = rw (length-drop (length numbers / 2 * 2) numbers) (omega arith)

-- behind the pairs is a kind without an operand, or nothing
module _ (pairs : List (List ℕ)) (numbers : List ℕ) (i : ℕ) (end : length pairs ≤ i) {last : List ℕ} (is : last ≡ last_of numbers) where
  pub one_behind : (kind : ℕ) → Some kind ≡ slice_get last 0 → events_from pairs numbers i ≡ record { kind = kind; operand = no_operand } ∷ []
  unfolding events_in
  one_behind kind first = last_left pairs numbers i end ∙ go (last_of numbers) (few_left numbers) (rw is at first)
    where
      go : (l : List ℕ) → length l < 2 → Some kind ≡ slice_get l 0 → events_in l ≡ record { kind = kind; operand = no_operand } ∷ []
      go [] few first = absurd cc
      go (x ∷ []) few first = let same : kind ≡ x = cc in ap (λ (k : ℕ). record { kind = k; operand = no_operand } ∷ []) (sym same)
      go (x ∷ y ∷ l) few first = absurd (omega arith)

  pub none_behind : None ≡ slice_get last 0 → events_from pairs numbers i ≡ []
  unfolding events_in
  none_behind first = last_left pairs numbers i end ∙ go (last_of numbers) (rw is at first)
    where
      go : (l : List ℕ) → None ≡ slice_get l 0 → events_in l ≡ []
      go [] first = refl
      go (x ∷ l) first = absurd cc

-- a last kind without an operand is refused
missing_refused : (room at : ℕ) (e : Event) → e.operand ≡ no_operand → event_code room at e ≢ 0
missing_refused room at e missing none = omega (arith, operand_small e (fits room at e none).operand)

-- ---- judging them: those left get, from the next place on, the code of the whole list

pub record Judging (room at : ℕ) (es : List Event) (next : ℕ) (left : List Event) : Type 0 where
  pub same : list_code room next left ≡ list_code room at es
  pub ends : next + length (bytes_of_all left) ≡ at + length (bytes_of_all es)

pub judging_begins : (room at : ℕ) {es left : List Event} → left ≡ es → Judging room at es at left
judging_begins room at is = record { same = ap (list_code room at) is; ends = ap (λ (l : List Event). at + length (bytes_of_all l)) is }

module _ {room at : ℕ} {es : List Event} {next : ℕ} {left : List Event} (j : Judging room at es next left) where
  module _ (e : Event) {others : List Event} (first : left ≡ e ∷ others) where
    pub judging_goes_on : {next' : ℕ} → (event_code room next e ≡ 0) × (next' ≡ next + length (bytes_of e)) → Judging room at es next' others
    unfolding bytes_of_all
    judging_goes_on (passes, after) =
        let all : next + length (bytes_of e ++ bytes_of_all others) ≡ at + length (bytes_of_all es) = rw first at j.ends in
        rw after
        record {
          same = sym (first_passes room next e others passes) ∙ rw first at j.same;
          ends = omega (arith, all, length-append (bytes_of e) (bytes_of_all others));
        }

    pub judging_stops : (why : Why) → event_code room next e ≡ code_for why → list_code room at es ≡ code_for why
    judging_stops why is = sym (rw first at j.same) ∙ first_stops room next e others why is

  -- a last one without an operand is left
  pub judging_ends_alone : (e : Event) → left ≡ e ∷ [] → e.operand ≡ no_operand → (r : Result ℕ Why)
      → Judged (event_code room next e) (next + length (bytes_of e)) r → Judged (list_code room at es) (at + length (bytes_of_all es)) r
  judging_ends_alone e last missing (Ok place) judged = absurd (missing_refused room next e missing judged.0)
  judging_ends_alone e last missing (Err why) judged = judging_stops e last why judged

  -- none is left
  module _ (none : left ≡ []) where
    pub judging_ends_outside : room < next → list_code room at es ≡ code_for Place
    judging_ends_outside outside = sym (rw none at j.same) ∙ empty_refused room next outside

    pub judging_ends_inside : next ≤ room → (list_code room at es ≡ 0) × (next ≡ at + length (bytes_of_all es))
    unfolding bytes_of_all
    judging_ends_inside inside =
        let all : next + 0 ≡ at + length (bytes_of_all es) = rw none at j.ends in
        (sym (rw none at j.same) ∙ empty_fits room next inside, omega arith)

-- ---- writing them: those left, stored from the next place on, make the whole

pub sets_append : (xs ys buffer : List ℕ) (at : ℕ) → sets buffer at (xs ++ ys) ≡ sets (sets buffer at xs) (at + length xs) ys
sets_append [] ys buffer at = ap (λ (k : ℕ). sets buffer k ys) (omega arith)
sets_append (x ∷ xs) ys buffer at =
    sets_append xs ys (set buffer at x) (suc at) ∙ ap (λ (k : ℕ). sets (sets (set buffer at x) (suc at) xs) k ys) (omega arith)

pub record Writing (before : List ℕ) (at : ℕ) (es : List Event) (buffer : List ℕ) (next : ℕ) (left : List Event) : Type 0 where
  pub passes : list_code (length buffer) next left ≡ 0
  pub same : sets buffer next (bytes_of_all left) ≡ sets before at (bytes_of_all es)
  pub long : length buffer ≡ length before

pub writing_begins : (before : List ℕ) (at : ℕ) {es left : List Event} → left ≡ es → list_code (length before) at es ≡ 0
    → Writing before at es before at left
writing_begins before at is passes = record {
  passes = rw is passes;
  same = ap (λ (l : List Event). sets before at (bytes_of_all l)) is;
  long = refl;
}

module _ {before : List ℕ} {at : ℕ} {es : List Event} {buffer : List ℕ} {next : ℕ} {left : List Event} (w : Writing before at es buffer next left) where
  module _ (e : Event) {others : List Event} (first : left ≡ e ∷ others) where
    both : (event_code (length buffer) next e ≡ 0) × (list_code (length buffer) (next + length (bytes_of e)) others ≡ 0)
    both = all_pass (length buffer) next e others (rw first at w.passes)

    pub writing_passes : event_code (length buffer) next e ≡ 0
    writing_passes = both.0

    pub writing_goes_on : {buffer' : List ℕ} {next' : ℕ} → (next' ≡ next + length (bytes_of e)) × (buffer' ≡ overwritten buffer next (bytes_of e))
        → Writing before at es buffer' next' others
    unfolding bytes_of_all
    writing_goes_on {buffer'} put =
        let room = (fits (length buffer) next e both.0).inside in
        let written : buffer' ≡ sets buffer next (bytes_of e) = put.1 ∙ sym (sets-eq (bytes_of e) buffer next room) in
        rw (put.0, written)
        record {
          passes = rw (length-sets buffer next (bytes_of e)) both.1;
          same = sym (sets_append (bytes_of e) (bytes_of_all others) buffer next) ∙ rw first at w.same;
          long = length-sets buffer next (bytes_of e) ∙ w.long;
        }

  -- none is left
  pub writing_ends : left ≡ [] → list_code (length before) at es ≡ 0 → buffer ≡ overwritten before at (bytes_of_all es)
  unfolding bytes_of_all
  writing_ends none passes = rw none at w.same ∙ sets-eq (bytes_of_all es) before at (list_inside (length before) at es passes)

-- ---- where none is refused, none is left behind the pairs

pub passes_ends : (pairs : List (List ℕ)) (numbers : List ℕ) (i room at : ℕ) → length pairs ≤ i → list_code room at (events_from pairs numbers i) ≡ 0
    → events_from pairs numbers i ≡ []
unfolding events_in
passes_ends pairs numbers i room at end passes =
    let left = last_left pairs numbers i end in
    left ∙ go (last_of numbers) (few_left numbers) (rw left at passes)
  where
    go : (last : List ℕ) → length last < 2 → list_code room at (events_in last) ≡ 0 → events_in last ≡ []
    go [] few passes = refl
    go (kind ∷ []) few passes =
        let e : Event = record { kind = kind; operand = no_operand } in
        absurd (missing_refused room at e refl (sym (one_alone room at e) ∙ passes))
    go (kind ∷ other ∷ others) few passes = absurd (omega arith)

-- ---- what the check is given: for judging a list, for writing it

pub ruleset judging = (all_left, one_behind, none_behind, judging_begins, judging_ends_alone, judging_ends_outside, judging_ends_inside)

pub ruleset writing = (all_left, passes_ends, writing_begins, writing_ends)
