-- The search inside `ask`: what is known above the places that are tried one by one, and what halving the rest finds. Assumes nothing.
use Prim.Native.Nat.{ℕ, suc, ◌-◌, ◌≤◌, ◌<◌}
use mathlib.Core.Path.{◌≡◌, sym, ap, ◌∙◌}
use mathlib.Core.List.{List}
use native.Mathlib.Omega.{arith}
use native.Mathlib.Decide.{dec_lt}
use lib.Dec.{leb}
use lib.ListN.{length, get_or, take}
use mathlib.Core.Bool.{true, false}
use Rattle.std.specs.List.Sorted.{IsPartitionedBy, IsPartitionPoint}
use Rattle.std.proofs.lemmas.Bool.{leb-true, leb-false}
use Rattle.std.proofs.lemmas.List.{get_or-take, length-take, length-take-le}
use Rattle.std.proofs.lemmas.List.Sorted.{IsPartitionedBy-leb, IsNonDecreasingBy-from_default}
use Rattle.bags.specs.Search.{Found, Rising}

-- The place that is sought lies below `at`, and at `floor` or above it or below that.
pub record Below (starts : List ℕ) (top p floor at : ℕ) : Type 0 where
  pub down_to : floor ≤ at
  pub within : at ≤ top
  pub above : p < get_or starts at 0

-- Of the pairs below `floor` the first so many start at or below p, and no others: it is the last of these.
abbrev pub FirstSoMany : List ℕ → ℕ → ℕ → ℕ → Type 0
FirstSoMany starts p floor so_many = IsPartitionPoint (λ y. leb y p ≡ true) (λ y. leb y p ≡ false) (take floor starts) so_many

pub partitioned : (starts : List ℕ) (top p floor : ℕ) → Rising starts top → top < length starts → floor ≤ top
    → IsPartitionedBy (λ y. leb y p) (take floor starts)
partitioned starts top p floor rising inside down =
    IsPartitionedBy-leb (λ y. y) (take floor starts) p (IsNonDecreasingBy-from_default (λ y. y) (take floor starts) 0 rise)
  where
    rise : (i j : ℕ) → i ≤ j → j < length (take floor starts) → get_or (take floor starts) i 0 ≤ get_or (take floor starts) j 0
    rise i j l m =
        let below : j < floor = omega (arith, length-take floor starts) in
        rw (get_or-take floor starts i 0 (omega arith), get_or-take floor starts j 0 below) (rising.rises i j l (omega arith))

pub last_of_those : (starts : List ℕ) (top p floor at so_many : ℕ) → Below starts top p floor at → at ≤ floor → 0 < floor → top < length starts
    → get_or starts 0 0 ≤ p → so_many ≤ length (take floor starts) → FirstSoMany starts p floor so_many
    → (1 ≤ so_many) × Found starts top p (so_many - 1)
last_of_those starts top p floor at so_many h end some inside lowest most point =
    let size : length (take floor starts) ≡ floor = length-take-le floor starts (omega (arith, h.down_to, h.within)) in
    let these : (i : ℕ) → i < so_many → get_or starts i 0 ≤ p =
    λ i l. leb-true _ _ (sym (ap (λ y. leb y p) (get_or-take floor starts i 0 (omega arith))) ∙ point.0 i 0 (omega arith) l) in
    let others : (i : ℕ) → so_many ≤ i → i < floor → p < get_or starts i 0 =
    λ i l m. leb-false _ _ (sym (ap (λ y. leb y p) (get_or-take floor starts i 0 m)) ∙ point.1 i 0 l (omega arith)) in
    let one : 1 ≤ so_many = elim (dec_lt 0 so_many) [
      | yes more ↦ more
      | no none ↦ let l : p < get_or starts 0 0 = others 0 (omega arith) some in absurd (omega arith)
    ] in
    let next : suc (so_many - 1) ≡ so_many = omega arith in (
      one,
      record {
        within = omega (arith, h.within, h.down_to);
        starts_below = these (so_many - 1) (omega arith);
        next_above = λ l. rw next (elim (dec_lt so_many floor) [
          | yes among ↦ others so_many (omega arith) among
          | no last ↦ let same : so_many ≡ at = omega (arith, h.down_to) in rw same h.above
        ]);
      },
    )
