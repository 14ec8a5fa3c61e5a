-- The shortest form is the only one: where the same number is read twice, the same bytes stand. By induction on the bytes of both: a group that another
-- follows leaves a rest that is not zero, so the first groups, and which of them are followed, can be told from the value. Assumes nothing.
use Prim.Native.Nat.{ℕ, suc, ◌+◌, ◌-◌, ◌*◌, ◌%◌, ◌≤◌, ◌<◌}
use mathlib.Core.Path.{◌≡◌, refl, sym, ap, ap₂, ◌∙◌}
use mathlib.Core.Bool.{Bool, true, false}
use mathlib.Core.List.{List, [], ◌∷◌}
use native.Mathlib.Omega.{arith}
use native.Mathlib.Nat.{pos_of_ne-zero}
use lib.Dec.{leb}
use lib.ListN.{length, get_or, take, drop}
use lib.Seq.{get_or-drop}
use borrow.Author.Tests.{leb-true, leb-false}
use Rattle.trace.specs.Numbers.{Bytes, group, value, followed, size, number_then, number_at}
use Rattle.trace.proofs.Laws.{whole}

abbrev last : List ℕ → ℕ
last bytes = group (get_or bytes (followed bytes) 0)

worth : List ℕ → ℕ
worth bytes = value (take (size bytes) bytes)

-- ---- one group

worth_followed : (x : ℕ) (bytes : List ℕ) → leb 128 x ≡ true → worth (x ∷ bytes) ≡ x % 128 + 128 * worth bytes
unfolding followed value worth
worth_followed x bytes top = rw top

worth_last : (x : ℕ) (bytes : List ℕ) → leb 128 x ≡ false → worth (x ∷ bytes) ≡ x % 128
unfolding followed value worth
worth_last x bytes low = rw low (omega arith)

followed_top : (x : ℕ) (bytes : List ℕ) → leb 128 x ≡ true → followed (x ∷ bytes) ≡ size bytes
unfolding followed
followed_top x bytes top = rw top

followed_low : (x : ℕ) (bytes : List ℕ) → leb 128 x ≡ false → followed (x ∷ bytes) ≡ 0
unfolding followed
followed_low x bytes low = rw low

last_followed : (x : ℕ) (bytes : List ℕ) → leb 128 x ≡ true → last (x ∷ bytes) ≡ last bytes
unfolding followed
last_followed x bytes top = rw top

last_last : (x : ℕ) (bytes : List ℕ) → leb 128 x ≡ false → last (x ∷ bytes) ≡ x % 128
unfolding followed
last_last x bytes low = rw low

-- ---- a last group that is not zero makes a number that is not zero

not_zero : (bytes : List ℕ) → size bytes ≤ length bytes → (last bytes ≡ 0 → ⊥) → 0 < worth bytes
not_zero [] inside some = omega arith
not_zero (x ∷ bytes) inside some = go (leb 128 x) refl (not_zero bytes)
  where
    go : (top : Bool) → leb 128 x ≡ top → (size bytes ≤ length bytes → (last bytes ≡ 0 → ⊥) → 0 < worth bytes) → 0 < worth (x ∷ bytes)
    go true top rest =
        let more : 0 < worth bytes = rest (omega (arith, followed_top x bytes top)) (λ none. some (last_followed x bytes top ∙ none)) in
        rw (worth_followed x bytes top) (omega arith)
    go false low rest = rw (worth_last x bytes low) (pos_of_ne-zero (λ none. some (last_last x bytes low ∙ none)))

-- ---- the same value, the same bytes

abbrev Shortest : List ℕ → Type 0
Shortest bytes = 1 < size bytes → last bytes ≡ 0 → ⊥

same_bytes : (xs ys : List ℕ) → Bytes xs → Bytes ys → size xs ≤ length xs → size ys ≤ length ys → Shortest xs → Shortest ys → worth xs ≡ worth ys
    → take (size xs) xs ≡ take (size ys) ys
same_bytes [] ys bx by ix iy sx sy e = absurd (omega arith)
same_bytes (x ∷ xs) [] bx by ix iy sx sy e = absurd (omega arith)
same_bytes (x ∷ xs) (y ∷ ys) bx by ix iy sx sy e = go (leb 128 x) (leb 128 y) refl refl (same_bytes xs ys)
  where
    some : (z : ℕ) (zs : List ℕ) → leb 128 z ≡ true → Shortest (z ∷ zs) → last zs ≡ 0 → ⊥
    some z zs top short none = short (omega (arith, followed_top z zs top)) (last_followed z zs top ∙ none)

    rest_inside : (z : ℕ) (zs : List ℕ) → leb 128 z ≡ true → size (z ∷ zs) ≤ length (z ∷ zs) → size zs ≤ length zs
    rest_inside z zs top inside = omega (arith, followed_top z zs top)

    go : (p q : Bool) → leb 128 x ≡ p → leb 128 y ≡ q
        → (Bytes xs → Bytes ys → size xs ≤ length xs → size ys ≤ length ys → Shortest xs → Shortest ys → worth xs ≡ worth ys → take (size xs) xs ≡ take (size ys) ys)
        → take (size (x ∷ xs)) (x ∷ xs) ≡ take (size (y ∷ ys)) (y ∷ ys)
    go true true p q rest =
        let f : x % 128 + 128 * worth xs ≡ y % 128 + 128 * worth ys = sym (worth_followed x xs p) ∙ e ∙ worth_followed y ys q in
        let first : x ≡ y = omega (arith, leb-true 128 x p, leb-true 128 y q, bx 0, by 0) in
        let others = rest (λ i. bx (suc i)) (λ i. by (suc i)) (rest_inside x xs p ix) (rest_inside y ys q iy) (λ several. some x xs p sx) (λ several. some y ys q sy) (omega arith) in
        ap₂ ◌∷◌ first (ap (λ (n : ℕ). take n xs) (followed_top x xs p) ∙ others ∙ sym (ap (λ (n : ℕ). take n ys) (followed_top y ys q)))
    go true false p q rest =
        let more : 0 < worth xs = not_zero xs (rest_inside x xs p ix) (some x xs p sx) in
        let f : x % 128 + 128 * worth xs ≡ y % 128 = sym (worth_followed x xs p) ∙ e ∙ worth_last y ys q in
        absurd (omega arith)
    go false true p q rest =
        let more : 0 < worth ys = not_zero ys (rest_inside y ys q iy) (some y ys q sy) in
        let f : x % 128 ≡ y % 128 + 128 * worth ys = sym (worth_last x xs p) ∙ e ∙ worth_followed y ys q in
        absurd (omega arith)
    go false false p q rest =
        let f : x % 128 ≡ y % 128 = sym (worth_last x xs p) ∙ e ∙ worth_last y ys q in
        let first : x ≡ y = omega (arith, leb-false 128 x p, leb-false 128 y q) in
        ap₂ ◌∷◌ first (ap (λ (n : ℕ). take n xs) (followed_low x xs p) ∙ sym (ap (λ (n : ℕ). take n ys) (followed_low y ys q)))

-- so at two places of two traces
pub one_form : (trace trace' : List ℕ) (at at' number next next' : ℕ) → Bytes trace → Bytes trace'
    → number_at trace at ≡ number_then number next → number_at trace' at' ≡ number_then number next'
    → take (next - at) (drop at trace) ≡ take (next' - at') (drop at' trace')
unfolding number_at worth
one_form trace trace' at at' number next next' b b' e e' =
    let w = whole (drop at trace) at number next e in
    let w' = whole (drop at' trace') at' number next' e' in
    let long : next - at ≡ size (drop at trace) = omega arith in
    let long' : next' - at' ≡ size (drop at' trace') = omega arith in
    rw (long, long')
    (same_bytes (drop at trace) (drop at' trace') (λ i. rw (get_or-drop at trace i 0) (b (at + i))) (λ i. rw (get_or-drop at' trace' i 0) (b' (at' + i)))
    w.inside w'.inside w.shortest w'.shortest (sym w.worth ∙ w'.worth))
