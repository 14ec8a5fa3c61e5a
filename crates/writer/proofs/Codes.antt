-- Which code an event and a list get, by the tests, and what code 0 says of them. By the cases of the definitions. Assumes nothing.
use Prim.Native.Nat.{ℕ, zero, suc, ◌+◌, ◌≤◌, ◌<◌}
use mathlib.Core.Path.{◌≡◌, refl, sym, ap, ◌∙◌}
use mathlib.Core.Bool.{Bool, true, false, cond}
use mathlib.Core.List.{List, [], ◌∷◌}
use native.Mathlib.Omega.{arith}
use lib.Dec.{leb, ltb}
use lib.ListN.{length, length-append}
use borrow.Author.Tests.{lt-ltb, le-ltb, le-leb, lt-leb, ltb-false, leb-false}
use Rattle.std.specs.Prelude.{Result, Ok, Err, IsErrAnd}
use Rattle.trace.specs.declared.Event.{Event}
use Rattle.trace.specs.declared.Refusal.TheVariants.{BytesEnd, FormLong, Reserved, OperandLarge}
use Rattle.trace.specs.Events.{code_of}
use Rattle.trace.specs.Kinds.{reserved, largest_operand}
use Rattle.writer.specs.declared.Why.{Why}
use Rattle.writer.specs.declared.Why.TheVariants.{Unreadable, Place}
use Rattle.writer.specs.Form.{bytes_of, bytes_of_all}
use Rattle.writer.specs.Contract.{code_for, event_code, first_refused, list_code}
use Rattle.writer.specs.Parts.{Judged}

-- ---- one event

-- An event that the table allows, and that fits.
pub record Fits (room at : ℕ) (e : Event) : Type 0 where
  pub kind : e.kind < reserved
  pub operand : e.operand ≤ largest_operand e
  pub inside : at + length (bytes_of e) ≤ room

module _ (room at : ℕ) (e : Event) where
  pub kind_refused : reserved ≤ e.kind → event_code room at e ≡ code_of Reserved
  unfolding event_code
  kind_refused above = rw (le-leb reserved e.kind above)

  pub operand_refused : e.kind < reserved → largest_operand e < e.operand → event_code room at e ≡ code_of OperandLarge
  unfolding event_code
  operand_refused kind above = rw (lt-leb reserved e.kind kind, lt-ltb (largest_operand e) e.operand above)

  pub place_refused : e.kind < reserved → e.operand ≤ largest_operand e → room < at + length (bytes_of e) → event_code room at e ≡ code_for Place
  unfolding event_code
  place_refused kind operand outside =
      rw (lt-leb reserved e.kind kind, le-ltb (largest_operand e) e.operand operand, lt-ltb room (at + length (bytes_of e)) outside)

  pub not_refused : e.kind < reserved → e.operand ≤ largest_operand e → at + length (bytes_of e) ≤ room → event_code room at e ≡ 0
  unfolding event_code
  not_refused kind operand inside =
      rw (lt-leb reserved e.kind kind, le-ltb (largest_operand e) e.operand operand, le-ltb room (at + length (bytes_of e)) inside)

  pub fits : event_code room at e ≡ 0 → Fits room at e
  unfolding event_code
  fits none = go (leb reserved e.kind) (ltb (largest_operand e) e.operand) (ltb room (at + length (bytes_of e))) refl refl refl none
    where
      go : (k o p : Bool) → leb reserved e.kind ≡ k → ltb (largest_operand e) e.operand ≡ o → ltb room (at + length (bytes_of e)) ≡ p
          → cond k (code_of Reserved) (cond o (code_of OperandLarge) (cond p (code_for Place) 0)) ≡ 0 → Fits room at e
      go true o p f g h z = omega arith
      go false true p f g h z = omega arith
      go false false true f g h z = omega arith
      go false false false f g h z = record { kind = leb-false _ _ f; operand = ltb-false _ _ g; inside = ltb-false _ _ h }

-- no refusal has code 0
pub code_some : (why : Why) → 0 < code_for why
code_some (Unreadable BytesEnd) = omega arith
code_some (Unreadable FormLong) = omega arith
code_some (Unreadable Reserved) = omega arith
code_some (Unreadable OperandLarge) = omega arith
code_some Place = omega arith

-- a refusal that is handed on
pub handed_on : (code next : ℕ) (r : Result ℕ Why) (why : Why) → IsErrAnd r (λ w. w ≡ why) → code ≡ code_for why → Judged code next r
handed_on code next (Ok place) why handed is = absurd handed
handed_on code next (Err w) why handed is = is ∙ ap code_for (sym handed)

-- ---- a list

module _ (room at : ℕ) (e : Event) (es : List Event) where
  pub first_refused_lem : (c : ℕ) → event_code room at e ≡ suc c → suc c ≡ list_code room at (e ∷ es)
  unfolding list_code
  first_refused_lem c is = rw is

  pub first_stops : (why : Why) → event_code room at e ≡ code_for why → list_code room at (e ∷ es) ≡ code_for why
  first_stops why is = go (code_for why) (code_some why) is
    where
      go : (c : ℕ) → 0 < c → event_code room at e ≡ c → list_code room at (e ∷ es) ≡ c
      go zero some is = absurd (omega arith)
      go (suc c) some is = sym (first_refused_lem c is)

  pub first_passes : event_code room at e ≡ 0 → list_code room at (e ∷ es) ≡ list_code room (at + length (bytes_of e)) es
  unfolding list_code
  first_passes none = rw none

  pub all_pass : list_code room at (e ∷ es) ≡ 0 → (event_code room at e ≡ 0) × (list_code room (at + length (bytes_of e)) es ≡ 0)
  unfolding list_code
  all_pass none = go (event_code room at e) none
    where
      go : (c : ℕ) → first_refused c (list_code room (at + length (bytes_of e)) es) ≡ 0 → (c ≡ 0) × (list_code room (at + length (bytes_of e)) es ≡ 0)
      go zero z = (refl, z)
      go (suc c) z = absurd (omega arith)

pub empty_fits : (room at : ℕ) → at ≤ room → list_code room at [] ≡ 0
unfolding list_code
empty_fits room at inside = rw (le-ltb room at inside)

pub empty_refused : (room at : ℕ) → room < at → list_code room at [] ≡ code_for Place
unfolding list_code
empty_refused room at outside = rw (lt-ltb room at outside)

pub one_alone : (room at : ℕ) (e : Event) → list_code room at (e ∷ []) ≡ event_code room at e
unfolding list_code
one_alone room at e = go (event_code room at e) refl
  where
    go : (c : ℕ) → event_code room at e ≡ c → first_refused c (cond (ltb room (at + length (bytes_of e))) (code_for Place) 0) ≡ c
    go zero is = rw (le-ltb room (at + length (bytes_of e)) (fits room at e is).inside)
    go (suc c) is = refl

pub list_inside : (room at : ℕ) (es : List Event) → list_code room at es ≡ 0 → at + length (bytes_of_all es) ≤ room
unfolding list_code bytes_of_all
list_inside room at [] none = go (ltb room at) refl none
  where
    go : (b : Bool) → ltb room at ≡ b → cond b (code_for Place) 0 ≡ 0 → at + 0 ≤ room
    go true e z = omega arith
    go false e z = omega (arith, ltb-false room at e)
list_inside room at (e ∷ es) none =
    let rest = list_inside room (at + length (bytes_of e)) es (all_pass room at e es none).1 in
    omega (arith, length-append (bytes_of e) (bytes_of_all es))
