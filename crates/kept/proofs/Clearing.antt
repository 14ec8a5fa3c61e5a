-- Zeros stored one after the other from the front. Assumes nothing.
use Prim.Native.Nat.{ℕ, zero, suc, ◌+◌, ◌<◌}
use mathlib.Core.Path.{◌≡◌, refl, ap}
use mathlib.Core.List.{List, [], ◌∷◌, ◌++◌}
use native.Mathlib.Omega.{arith}
use lib.ListN.{length, set, drop, replicate, length-append, length-replicate, length-drop}

-- One more in front.
pub one_more_stored : {A : Type 0} (n : ℕ) (z : A) (d : List A) → n < length d
    → set (replicate n z ++ drop n d) n z ≡ replicate (n + 1) z ++ drop (n + 1) d
one_more_stored n z [] l = absurd (omega arith)
one_more_stored zero z (x ∷ d) l = refl
one_more_stored {A} (suc n) z (x ∷ d) l =
    let next : suc n + 1 ≡ suc (n + 1) = omega arith in
    rw next (ap (λ (t : List A). z ∷ t) (one_more_stored n z d (omega arith)))

pub ruleset clearing = (arith, one_more_stored, length-append, length-replicate, length-drop)
