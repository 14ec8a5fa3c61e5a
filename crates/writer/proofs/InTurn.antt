-- Events written one after another, each from the place that the one before it gave, are the list written at once: what a recorder does, event by event.
-- Assumes nothing.
use Prim.Native.Nat.{ℕ, ◌+◌, ◌≤◌}
use mathlib.Core.Path.{◌≡◌, refl, sym, ap, ◌∙◌}
use mathlib.Core.List.{List, [], ◌∷◌, ◌++◌, append_assoc}
use native.Mathlib.Omega.{arith}
use lib.ListN.{length, length-append}
use lib.Seq.{sets, sets-eq, length-sets}
use Rattle.trace.specs.declared.Event.{Event}
use Rattle.writer.specs.declared.Written.{Written}
use Rattle.writer.specs.Form.{bytes_of, bytes_of_all}
use Rattle.writer.specs.Contract.{list_code, next_place, overwritten, buffer_after, Wrote}
use Rattle.writer.proofs.Codes.{first_passes, all_pass, list_inside}
use Rattle.writer.proofs.Lists.{sets_append}
use Rattle.writer.proofs.RoundTrip.{wrote_all}

bytes_append : (es es' : List Event) → bytes_of_all (es ++ es') ≡ bytes_of_all es ++ bytes_of_all es'
unfolding bytes_of_all
bytes_append [] es' = refl
bytes_append (e ∷ es) es' = ap (λ (l : List ℕ). bytes_of e ++ l) (bytes_append es es') ∙ sym (append_assoc (bytes_of e) (bytes_of_all es) (bytes_of_all es'))

code_append : (room at : ℕ) (es es' : List Event) → list_code room at es ≡ 0 → list_code room (at + length (bytes_of_all es)) es' ≡ 0
    → list_code room at (es ++ es') ≡ 0
unfolding bytes_of_all
code_append room at [] es' first then = let same : at + 0 ≡ at = omega arith in rw same at then
code_append room at (e ∷ es) es' first then =
    let both = all_pass room at e es first in
    let same : at + length (bytes_of e ++ bytes_of_all es) ≡ at + length (bytes_of e) + length (bytes_of_all es) =
    omega (arith, length-append (bytes_of e) (bytes_of_all es)) in
    first_passes room at e (es ++ es') both.0 ∙ code_append room (at + length (bytes_of e)) es es' both.1 (rw same at then)

pub in_turn : (es es' : List Event) (before : List ℕ) (at : ℕ) (r : Written) (between : List ℕ) (r' : Written) (after : List ℕ)
    → Wrote es before at r between → r.code ≡ 0 → Wrote es' between r.next r' after → r'.code ≡ 0 → Wrote (es ++ es') before at r' after
unfolding next_place buffer_after
in_turn es es' before at r between r' after w none w' none' =
    let bytes = bytes_of_all es in
    let bytes' = bytes_of_all es' in
    let passes : list_code (length before) at es ≡ 0 = sym w.code ∙ none in
    let inside : at + length bytes ≤ length before = list_inside (length before) at es passes in
    let place : r.next ≡ at + length bytes = w.next ∙ ap (λ (c : ℕ). next_place c at es) none in
    let first : between ≡ sets before at bytes =
    w.buffer ∙ ap (λ (c : ℕ). buffer_after c before at es) none ∙ sym (sets-eq bytes before at inside) in
    let long : length between ≡ length before = ap length first ∙ length-sets before at bytes in
    let passes' : list_code (length before) (at + length bytes) es' ≡ 0 = rw (long, place) at (sym w'.code ∙ none') in
    let passes-both = code_append (length before) at es es' passes passes' in
    let inside_both : at + length (bytes_of_all (es ++ es')) ≤ length before = list_inside (length before) at (es ++ es') passes-both in
    let all : length (bytes_of_all (es ++ es')) ≡ length bytes + length bytes' = ap length (bytes_append es es') ∙ length-append bytes bytes' in
    let place' : r'.next ≡ r.next + length bytes' = w'.next ∙ ap (λ (c : ℕ). next_place c r.next es') none' in
    let left : after ≡ overwritten between r.next bytes' = w'.buffer ∙ ap (λ (c : ℕ). buffer_after c between r.next es') none' in
    let then : after ≡ sets (sets before at bytes) (at + length bytes) bytes' =
    left ∙ rw (place, first) (sym (sets-eq bytes' (sets before at bytes) (at + length bytes) (rw (length-sets before at bytes) (omega arith)))) in
    let both : after ≡ overwritten before at (bytes_of_all (es ++ es')) =
    then ∙ sym (sets_append bytes bytes' before at) ∙ ap (sets before at) (sym (bytes_append es es')) ∙ sets-eq (bytes_of_all (es ++ es')) before at inside_both in
    wrote_all (es ++ es') before at r' after none' passes-both (omega arith) both
