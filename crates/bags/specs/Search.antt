-- The search inside `ask`. A reader who wants only its answer can skip this file.
use Rattle.std.specs.Prelude.{ℕ, suc, ◌≤◌, ◌<◌, List, get_or}

-- A place, at most `top`, whose pair starts at or below p, while the next one up to `top` starts above it. Where starts rise, that is the last pair
-- that starts at or below p.
pub record Found (starts : List ℕ) (top p at : ℕ) : Type 0 where
  pub within : at ≤ top
  pub starts_below : get_or starts at 0 ≤ p
  pub next_above : at < top → p < get_or starts (suc at) 0

-- Up to `top` the starts rise, and each is at least its place.
pub record Rising (starts : List ℕ) (top : ℕ) : Type 0 where
  pub rises : (i j : ℕ) → i ≤ j → j ≤ top → get_or starts i 0 ≤ get_or starts j 0
  pub at_least : (i : ℕ) → i ≤ top → i ≤ get_or starts i 0
