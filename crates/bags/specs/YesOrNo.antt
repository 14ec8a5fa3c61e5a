-- A yes or no for "parallel", with the two laws of 002: all that the kept lists are to know of parallelism.
use Rattle.std.specs.Prelude.{ℕ, ◌<◌, ◌≡◌, Bool, true, false}

-- It is asked of some events, and says whether the earlier one is parallel with the later; else the earlier one precedes.
pub record YesOrNo (Asked : ℕ → Type 0) (parallel : ℕ → ℕ → Bool) : Type 0 where
  -- Lemma 1 of 002: a precedes e, and is parallel with j; then e is parallel with j.
  pub lemma_1 : (a e j : ℕ) → Asked a → Asked e → Asked j → a < e → e < j → parallel a e ≡ false → parallel a j ≡ true → parallel e j ≡ true
  -- Lemma 2 of 002: a is parallel with e, and e with j; then a is parallel with j.
  pub lemma_2 : (a e j : ℕ) → Asked a → Asked e → Asked j → a < e → e < j → parallel a e ≡ true → parallel e j ≡ true → parallel a j ≡ true
