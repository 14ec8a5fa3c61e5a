-- Procedures and logical parallelism. Nothing here knows of bytes, locks or accesses: of all events only spawn, return and sync count.
use Rattle.std.specs.Prelude.{ℕ, zero, suc, ◌<◌, ◌≡◌, ◌≢◌, Bool, false, ◌||◌, eqb}
use mathlib.Core.List.{List, [], ◌∷◌, tail, head_d}

-- What an event does, as far as it counts here.
pub data Act : Type 0 where
  spawn return sync other : Act

-- Is p in a list of procedures?
unfoldable pub member : ℕ → List ℕ → Bool
member p [] = false
member p (x ∷ xs) = eqb p x || member p xs

-- A spawn starts the next procedure number at once; its return hands control back to the procedure that spawned it. What an event makes of the
-- number of procedures begun, n, and of the open procedures, the running one first.
unfoldable pub begun_after : Act → ℕ → ℕ
begun_after spawn n = suc n
begun_after return n = n
begun_after sync n = n
begun_after other n = n

unfoldable pub opens_after : Act → ℕ → List ℕ → List ℕ
opens_after spawn n gs = n ∷ gs
opens_after return n gs = tail gs
opens_after sync n gs = gs
opens_after other n gs = gs

-- The events by their numbers, from 0.
module _ (events : ℕ → Act) where
  -- Main is procedure 0 and runs from the start. Before event k: how many procedures have begun, so that a spawn there starts the procedure with
  -- that number; the open ones; whether main is open; and the procedure that makes event k.
  unfoldable pub begun : ℕ → ℕ
  begun zero = 1
  begun (suc k) = begun_after (events k) (begun k)

  unfoldable pub opens : ℕ → List ℕ
  opens zero = 0 ∷ []
  opens (suc k) = opens_after (events k) (begun k) (opens k)

  unfoldable pub is_main_open : ℕ → Bool
  is_main_open k = member 0 (opens k)

  unfoldable pub maker : ℕ → ℕ
  maker k = head_d (opens k) 0

  -- r is the matching return of spawn s: the return made by the procedure that s started.
  pub record MatchingReturn (s r : ℕ) : Type 0 where
    pub spawns : events s ≡ spawn
    pub returns : events r ≡ return
    pub made_by_started : maker r ≡ begun s

  -- No event of this act, made by G itself, lies between r and j (r and j themselves left out).
  abbrev pub NoneBetween : Act → ℕ → ℕ → ℕ → Type 0
  NoneBetween act G r j = (k : ℕ) → r < k → k < j → events k ≡ act → maker k ≢ G

  -- Let i come before j. They are parallel exactly if some spawn s, made by procedure G, has its matching return r with s < i < r < j, and neither
  -- a sync made by G itself nor G's own return lies between r and j.
  pub record Parallel (i j : ℕ) : Type 0 where
    pub s : ℕ
    pub G : ℕ
    pub made_by_g : maker s ≡ G
    pub r : ℕ
    pub matching : MatchingReturn s r
    pub s<i : s < i
    pub i<r : i < r
    pub r<j : r < j
    pub no_sync_of_g : NoneBetween sync G r j
    pub no_return_of_g : NoneBetween return G r j

  -- Otherwise i, which comes before j, precedes it.
  abbrev pub Precedes : ℕ → ℕ → Type 0
  Precedes i j = Parallel i j → ⊥
