-- Which number names which kind. By the cases of the definition. Assumes nothing.
use Prim.Native.Nat.{ℕ, zero, suc, ◌≤◌}
use mathlib.Core.Path.{◌≡◌, refl, sym, ap, subst, ◌∙◌}
use mathlib.Core.Logic.{◌≢◌}
use native.Mathlib.Omega.{arith}
use Rattle.std.specs.Prelude.{Result, Ok, Err, MatchResult}
use Rattle.trace.specs.declared.Refusal.{Refusal}
use Rattle.trace.specs.declared.Refusal.TheVariants.{Reserved}
use Rattle.trace.specs.declared.Kind.{Kind}
use Rattle.trace.specs.declared.Kind.TheVariants.{Spawn, Return, Sync, Lock, Unlock, Read, Write}
use Rattle.trace.specs.Kinds.{kind_named, reserved}

abbrev pub number_for : Kind → ℕ
number_for Spawn = 0
number_for Return = 1
number_for Sync = 2
number_for Lock = 3
number_for Unlock = 4
number_for Read = 5
number_for Write = 6

abbrev Named : ℕ → Result Kind Refusal → Type 0
Named number result = MatchResult result (λ kind. number ≡ number_for kind) (λ why. (why ≡ Reserved) × (reserved ≤ number))

as_named : (number : ℕ) → Named number (kind_named number)
as_named zero = refl
as_named (suc zero) = refl
as_named (suc (suc zero)) = refl
as_named (suc (suc (suc zero))) = refl
as_named (suc (suc (suc (suc zero)))) = refl
as_named (suc (suc (suc (suc (suc zero))))) = refl
as_named (suc (suc (suc (suc (suc (suc zero)))))) = refl
as_named (suc (suc (suc (suc (suc (suc (suc number))))))) = (refl, omega arith)

pub named : (number : ℕ) (kind : Kind) → kind_named number ≡ Ok kind → number ≡ number_for kind
named number kind is = subst (Named number) is (as_named number)

pub unnamed : (number : ℕ) (why : Refusal) → kind_named number ≡ Err why → (why ≡ Reserved) × (reserved ≤ number)
unnamed number why is = subst (Named number) is (as_named number)

name_of : (kind : Kind) → kind_named (number_for kind) ≡ Ok kind
name_of Spawn = refl
name_of Return = refl
name_of Sync = refl
name_of Lock = refl
name_of Unlock = refl
name_of Read = refl
name_of Write = refl

-- no other kind is named by its number
pub named_other : (number : ℕ) (kind other : Kind) → kind_named number ≡ Ok kind → (kind ≡ other → ⊥) → number ≢ number_for other
named_other number kind other is apart same =
    let both : ◌≡◌ {A = Result Kind Refusal} (Ok kind) (Ok other) = sym is ∙ ap kind_named same ∙ name_of other in
    apart cc
