-- The three numbers by which the counts are brought forward, as the machine passes them, and that what they own is had for nothing: for a walk by hand of
-- a function that takes them. Assumes nothing.
use Prim.Native.Nat.{ℕ}
use mathlib.Core.List.{[], ◌∷◌, List}
use seplogic.Ra.Ura.{Ura}
use mir.Syntax.{w32}
use mir.Val.{Val, vint}
use base.Logic.{ent, emp}
use base.Fml.{Fml}
use types.Logic.{Logic, sem}
use types.Kit.{◌$◌, ◌∵◌, !, qed, fjoin, done}
use denote.RattleType.{owns}
use denote.Laws.{Is, Are, Ises}
use denote.Plain.{uint_Makes}
use denote.Builtin.{u32}
use denote.Steps.{owned, nothing}
use Rattle.checker.specs.declared.Counts.{Counts}
use Rattle.checker.specs.Steps.{counts_after}

-- How many accesses are reported, how many visits came to them, and how many locks are held.
abbrev pub Numbers : Type 0
Numbers = ℕ × (ℕ × (ℕ × Unit {0}))

abbrev pub brought_by : Counts → Numbers → Counts
brought_by c n = counts_after c n.0 n.1.0 n.1.1.0

abbrev pub passed : Numbers → List Val × (List Val × (List Val × Unit {0}))
passed n = (vint w32 n.0 ∷ [], (vint w32 n.1.0 ∷ [], (vint w32 n.1.1.0 ∷ [], tt)))

abbrev pub Fit : Numbers → Type 0
Fit n = Are (u32 ∷ u32 ∷ u32 ∷ []) (Ises (u32 ∷ u32 ∷ u32 ∷ [])) n (passed n)

abbrev pub own : Numbers → Fml
own n = owns (u32 ∷ u32 ∷ u32 ∷ []) n (passed n)

pub had : {M : Type 1} {𝓤 : Ura M} (𝓛 : Logic 𝓤) → (n : Numbers) → Fit n → ent 𝓤 (emp 𝓤) (sem 𝓛 (own n))
had 𝓛 n fit =
    qed 𝓛 [] ∵ nothing ! $ owned ! u32 (Is u32) (uint_Makes 𝓛 w32) n.1.1.0 _ fit.1.1.0 $ fjoin ! $
    owned ! u32 (Is u32) (uint_Makes 𝓛 w32) n.1.0 _ fit.1.0 $ fjoin ! $
    owned ! u32 (Is u32) (uint_Makes 𝓛 w32) n.0 _ fit.0 $ fjoin ! $ done !
