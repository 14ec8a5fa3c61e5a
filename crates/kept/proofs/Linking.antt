-- What a link names. Assumes nothing.
use Prim.Native.Nat.{ℕ, zero, suc, ◌-◌}
use mathlib.Core.Path.{◌≡◌, refl}
use mathlib.Core.List.{List}
use native.Mathlib.Omega.{arith}
use Rattle.std.specs.Prelude.{Some}
use Rattle.kept.specs.Pieces.{entry_in}
use Rattle.kept.specs.Parts.{named_at}

-- The number below a successor.
one_less : (s : ℕ) → suc s - 1 ≡ s
one_less s = omega arith

-- A link that is not 0 names an entry.
pub race_named_lem : (events procedures sets : List ℕ) (at : ℕ) → (at ≡ 0 → ⊥)
    → Some (entry_in events procedures sets (at - 1)) ≡ named_at events procedures sets at
race_named_lem events procedures sets zero ne = absurd (ne refl)
race_named_lem events procedures sets (suc s) ne = simp (one_less s)
