-- What main's beginning and each event make of the pieces.
use Rattle.std.specs.Prelude.{ℕ, ◌+◌, ◌≤◌, ◌<◌, ◌≡◌, cond, ltb, set, drop, Result, Ok, Err}
use mathlib.Core.List.{List, [], ◌∷◌, head_d, map}
use Rattle.bags.specs.declared.ask.Pairs.{Pairs}
use Rattle.bags.specs.declared.Full.{Full}
use Rattle.bags.specs.Parallel.{Act, spawn, begun_after}
use Rattle.bags.specs.Bags.{Bags, bags_of_new, bags_after}
use Rattle.bags.specs.Runs.{piece_size, bags_in, Room}

-- The procedure that runs.
unfoldable pub runner : List Bags → ℕ
runner bs = head_d (map (λ (b : Bags). b.owner) bs) 0

-- What lies past the used part of a piece is kept.
abbrev pub RestKept : List ℕ → List ℕ → Type 0
RestKept piece piece' = drop piece_size piece' ≡ drop piece_size piece

-- Main begins: the pieces hold its bags alone.
pub record Begins (starts joins starts' joins' : List ℕ) (pairs : Pairs) : Type 0 where
  pub begun_one : pairs.begun ≡ 1
  pub bags : bags_in starts' joins' pairs ≡ bags_of_new 0 ∷ []
  pub room_after : Room starts' joins' pairs
  pub starts_rest : RestKept starts starts'
  pub joins_rest : RestKept joins joins'

-- An event is brought in: whatever bags the pieces held, they now hold what the event makes of them.
pub record Carries (act : Act) (starts joins : List ℕ) (pairs : Pairs) (starts' joins' : List ℕ) (pairs' : Pairs) : Type 0 where
  pub begun_after_lem : pairs'.begun ≡ begun_after act pairs.begun
  pub bags : bags_in starts' joins' pairs' ≡ bags_after act pairs.begun (bags_in starts joins pairs)
  pub room_after : 0 < pairs'.count → Room starts' joins' pairs'
  pub starts_rest : RestKept starts starts'
  pub joins_rest : RestKept joins joins'

-- A spawn is refused where so many procedures have begun, main counted.
abbrev pub most_begun : ℕ
most_begun = 4096

-- What it gives: nothing, or the refusal.
unfoldable pub spawned : Pairs → Result (Unit {0}) Full
spawned pairs = cond (ltb pairs.begun most_begun) (Ok tt) (Err (record {}))

-- The code of each, 0 where nothing is refused.
abbrev pub code_of : Result (Unit {0}) Full → ℕ
code_of (Ok done) = 0
code_of (Err why) = 11

-- What it leaves of the pairs: one more, or as they were;
unfoldable pub pairs_after : Pairs → Pairs
pairs_after pairs =
    cond (ltb pairs.begun most_begun) (record { count = pairs.count + 1; begun = pairs.begun + 1; start = pairs.begun; join = pairs.begun + 1 }) pairs

-- and of a piece: with a number put on top, or as it was.
unfoldable pub pushed : Pairs → ℕ → List ℕ → List ℕ
pushed pairs number piece = cond (ltb pairs.begun most_begun) (set piece pairs.count number) piece

-- So the pieces hold what a spawn makes of the bags, or are as they were.
abbrev pub AfterSpawn : List ℕ → List ℕ → Pairs → List ℕ → List ℕ → Pairs → Result (Unit {0}) Full → Type 0
AfterSpawn starts joins pairs starts' joins' pairs' (Ok done) = (pairs.begun < most_begun) × Carries spawn starts joins pairs starts' joins' pairs'
AfterSpawn starts joins pairs starts' joins' pairs' (Err why) =
    (most_begun ≤ pairs.begun) × (starts' ≡ starts) × (joins' ≡ joins) × (pairs' ≡ pairs)
