-- A run cut off at an event n: nothing from n on is an access. Up to n the same lists are kept, by induction on the event, since each list kept comes from
-- the events before. So what holds of runs whose accesses all obey some law can be used of a run that obeys it before n. Assumes nothing.
use Prim.Native.Nat.{ℕ, zero, suc, ◌≤◌, ◌<◌}
use mathlib.Core.Path.{◌≡◌, refl, ap₂}
use mathlib.Core.Bool.{true, ◌&&◌, and-eq-true_iff}
use native.Mathlib.Omega.{arith}
use lib.Dec.{ltb}
use borrow.Author.Tests.{lt-ltb, ltb-true}
use Rattle.kept.specs.Rules.{changed_at}
use Rattle.kept.specs.Theorem.{Run, kept}

abbrev pub shortened : ℕ → Run → Run
shortened n run = record {
  accesses = λ k. ltb k n && run.accesses k;
  location = run.location;
  entry = run.entry;
  parallel = run.parallel;
}

module _ (n : ℕ) (run : Run) where
  -- Its accesses are those before n.
  pub access_before : (k : ℕ) → (shortened n run).accesses k ≡ true → (k < n) × (run.accesses k ≡ true)
  access_before k is = let both = (and-eq-true_iff (ltb k n) (run.accesses k)).0 is in (ltb-true k n both.0, both.1)

  pub before_access : (k : ℕ) → k < n → run.accesses k ≡ true → (shortened n run).accesses k ≡ true
  before_access k h is = ap₂ ◌&&◌ (lt-ltb k n h) is

  -- Up to n it keeps the same lists.
  pub kept_shortened : (k x : ℕ) → k ≤ n → kept (shortened n run) k x ≡ kept run k x
  unfolding kept changed_at
  kept_shortened zero x h = refl
  kept_shortened (suc k) x h = rw (lt-ltb k n h, kept_shortened k x (omega arith))
