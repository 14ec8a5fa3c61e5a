-- Lists in lent memory: which entries five pieces of numbers hold for each location.
use Rattle.std.specs.Prelude.{ℕ, zero, suc, ◌+◌, ◌≤◌, ◌<◌, ◌≡◌, cond, List, [], ◌∷◌, ◌++◌, map, eqb, ltb, length, get_or, drop, replicate}
use Rattle.kept.specs.declared.Entry.{Entry}
use Rattle.kept.specs.declared.Slots.{Slots}
use Rattle.kept.specs.Lists.{sum_below}
use Rattle.kept.specs.Rules.{Lists}

-- The heads of the lists, by location; and by slot: the link to the next slot, and the entry's event, procedure and lock set.
pub record Pieces : Type 0 where
  pub heads : List ℕ
  pub links : List ℕ
  pub events : List ℕ
  pub procedures : List ℕ
  pub sets : List ℕ

abbrev pub pieces : List ℕ → List ℕ → List ℕ → List ℕ → List ℕ → Pieces
pieces heads links events procedures sets = record { heads = heads; links = links; events = events; procedures = procedures; sets = sets }

-- The size of a piece: so many locations, and so many slots.
abbrev pub piece_size : ℕ
piece_size = 4096

-- A link is 0 at the end of a list, and else the next slot and one more. The slots that come from a link on, n at most.
unfoldable pub slots_from : ℕ → List ℕ → ℕ → List ℕ
slots_from zero links at = []
slots_from (suc n) links zero = []
slots_from (suc n) links (suc s) = s ∷ slots_from n links (get_or links s 0)

-- The slots of a location's list, and those freed.
unfoldable pub slots_of : List ℕ → List ℕ → ℕ → List ℕ
slots_of heads links y = slots_from piece_size links (get_or heads y 0)

unfoldable pub slots_freed : List ℕ → Slots → List ℕ
slots_freed links slots = slots_from piece_size links slots.freed

-- The entry in a slot, and the list of a location.
abbrev pub entry_in : List ℕ → List ℕ → List ℕ → ℕ → Entry
entry_in events procedures sets s = record { event = record { 0 = get_or events s 0 }; procedure = record { 0 = get_or procedures s 0 }; locks = get_or sets s 0 }

abbrev pub entry_at : Pieces → ℕ → Entry
entry_at p = entry_in p.events p.procedures p.sets

unfoldable pub lists_in : Pieces → Lists
lists_in p y = map (entry_at p) (slots_of p.heads p.links y)

-- A link leads through just these slots, which lie within the piece.
unfoldable pub Chain : List ℕ → ℕ → List ℕ → Type 0
Chain links at [] = at ≡ 0
Chain links at (s ∷ ss) = (at ≡ suc s) × (s < piece_size) × Chain links (get_or links s 0) ss

-- How often a slot stands in a list of slots.
unfoldable pub times_in : ℕ → List ℕ → ℕ
times_in s [] = 0
times_in s (t ∷ ts) = cond (eqb s t) 1 0 + times_in s ts

-- Heads and links are laid out as these lists of slots, one a location, and these slots freed: each slot below `used` stands in one of them, once,
-- and no other slot in any; and their lengths add up to `used`.
pub record LaidOut (heads links : List ℕ) (slots : Slots) (lists : ℕ → List ℕ) (freed : List ℕ) : Type 0 where
  pub used_fit : slots.used ≤ piece_size
  pub chains : (y : ℕ) → y < piece_size → Chain links (get_or heads y 0) (lists y)
  pub freed_chain : Chain links slots.freed freed
  pub once : (s : ℕ) → sum_below piece_size (λ y. times_in s (lists y)) + times_in s freed ≡ cond (ltb s slots.used) 1 0
  pub total : sum_below piece_size (λ y. length (lists y)) + length freed ≡ slots.used

-- The pieces are long enough; and they hold lists.
pub record Fits (p : Pieces) : Type 0 where
  pub heads_fit : piece_size ≤ length p.heads
  pub links_fit : piece_size ≤ length p.links
  pub events_fit : piece_size ≤ length p.events
  pub procedures_fit : piece_size ≤ length p.procedures
  pub sets_fit : piece_size ≤ length p.sets

pub record Room (p : Pieces) (slots : Slots) : Type 0 where
  pub fits : Fits p
  pub laid_out : LaidOut p.heads p.links slots (slots_of p.heads p.links) (slots_freed p.links slots)

-- What a piece has from place n on is kept, and its length.
pub record RestKept (n : ℕ) (piece piece' : List ℕ) : Type 0 where
  pub same_length : length piece' ≡ length piece
  pub same_rest : drop n piece' ≡ drop n piece

-- No slot is used.
abbrev pub none_used : Slots
none_used = record { freed = 0; used = 0 }

-- The first n numbers of a piece are zero, and the rest is as it was.
unfoldable pub cleared : ℕ → List ℕ → List ℕ
cleared n piece = replicate n 0 ++ drop n piece
