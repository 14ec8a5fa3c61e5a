-- A witness of `Parallel` serves other events too. Assumes nothing.
use Prim.Native.Nat.{ℕ, ◌<◌, ◌≤◌}
use native.Mathlib.Omega.{arith}
use Rattle.bags.specs.Parallel.{Act, return, sync, NoneBetween, Parallel}

module _ (events : ℕ → Act) (i j i' j' : ℕ) (w : Parallel events i j) where
  -- It serves an event in its body and one after its return, unless its procedure syncs or returns between the return and that one.
  unfoldable pub serves : w.s < i' → i' < w.r → w.r < j' → NoneBetween events sync w.G w.r j'
      → NoneBetween events return w.G w.r j' → Parallel events i' j'
  serves after-s before-r after-r no-sync no_return =
      record {
        s = w.s;
        G = w.G;
        made_by_g = w.made_by_g;
        r = w.r;
        matching = w.matching;
        s<i = after-s;
        i<r = before-r;
        r<j = after-r;
        no_sync_of_g = no-sync;
        no_return_of_g = no_return;
      }

  -- Up to the event that the witness was made for, its procedure does neither.
  unfoldable pub serves_earlier : w.s < i' → i' < w.r → w.r < j' → j' ≤ j → Parallel events i' j'
  serves_earlier after-s before-r after-r no-later =
      serves after-s before-r after-r (λ k from to. w.no_sync_of_g k from (omega arith)) (λ k from to. w.no_return_of_g k from (omega arith))
