-- Bags as runs of numbers. Procedures are numbered as they begin, so the bags of the open procedures, from main's on, follow one another without a
-- gap: of each procedure first the S-bag, from `start` up to `join`, then the P-bag, from `join` up to where the next one starts.
use Rattle.std.specs.Prelude.{ℕ, zero, suc, ◌-◌, ◌≤◌, ◌<◌, ◌≡◌, List, [], ◌∷◌, length, get_or}
use Rattle.bags.specs.declared.ask.Pairs.{Pairs}
use Rattle.bags.specs.Bags.{Bags}

pub record Pair : Type 0 where
  pub start : ℕ
  pub join : ℕ

-- n numbers from a on; those from a up to b, b left out.
unfoldable pub numbers_from : ℕ → ℕ → List ℕ
numbers_from a zero = []
numbers_from a (suc n) = a ∷ numbers_from (suc a) n

unfoldable pub run : ℕ → ℕ → List ℕ
run a b = numbers_from a (b - a)

-- The bags that pairs stand for, the last pair first; `end` is where the last run ends: the number of procedures begun.
unfoldable pub as_bags : List Pair → ℕ → List Bags
as_bags [] end = []
as_bags (p ∷ ps) end = record { owner = p.start; S = run p.start p.join; P = run p.join end } ∷ as_bags ps p.start

-- The runs lie in order, and fill the numbers from 0 up to `end`.
unfoldable pub InOrder : List Pair → ℕ → Type 0
InOrder [] end = end ≡ 0
InOrder (p ∷ ps) end = (p.start < p.join) × (p.join ≤ end) × InOrder ps p.start

-- The first d pairs that two lent pieces hold, the last one first.
unfoldable pub pairs_in : List ℕ → List ℕ → ℕ → List Pair
pairs_in starts joins zero = []
pairs_in starts joins (suc d) = record { start = get_or starts d 0; join = get_or joins d 0 } ∷ pairs_in starts joins d

-- The size of a piece.
abbrev pub piece_size : ℕ
piece_size = 4096

-- The bags that the pieces hold.
unfoldable pub bags_in : List ℕ → List ℕ → Pairs → List Bags
bags_in starts joins pairs = as_bags (pairs_in starts joins pairs.count) pairs.begun

-- The pieces are long enough, and hold the bags of open procedures, main's among them; the last pair is at hand.
pub record Room (starts joins : List ℕ) (pairs : Pairs) : Type 0 where
  pub starts_fit : piece_size ≤ length starts
  pub joins_fit : piece_size ≤ length joins
  pub pairs_fit : pairs.count ≤ piece_size
  pub main_open : 0 < pairs.count
  pub in_order : InOrder (pairs_in starts joins pairs.count) pairs.begun
  pub top_start : pairs.start ≡ get_or starts (pairs.count - 1) 0
  pub top_join : pairs.join ≡ get_or joins (pairs.count - 1) 0
