-- What the parts of an access do: the visits, the unlinking, the appending. A reader who wants only what `access` promises can skip this file.
use Rattle.std.specs.Prelude.{ℕ, zero, suc, ◌+◌, ◌-◌, ◌≤◌, ◌<◌, ◌≡◌, Bool, true, false, cond, not, ◌&&◌, ◌||◌, List, [], ◌∷◌, ◌++◌, eqb, length, get_or, set, Option, None, Some, Result, Ok, Err}
use Rattle.bags.specs.Bags.{Bags}
use Rattle.kept.specs.declared.Entry.{Entry}
use Rattle.kept.specs.declared.Slots.{Slots}
use Rattle.kept.specs.declared.Link.{Link}
use Rattle.kept.specs.declared.Seen.{Seen}
use Rattle.kept.specs.declared.NotKept.{NotKept}
use Rattle.kept.specs.declared.NotKept.TheVariants.{InNoBag}
use Rattle.kept.specs.declared.Weighed.{Weighed}
use Rattle.kept.specs.declared.Weighed.TheVariants.{Stays, Goes, Beside}
use Rattle.kept.specs.Lists.{any, those}
use Rattle.kept.specs.Rules.{races, dropped, omits}
use Rattle.kept.specs.Pieces.{piece_size, entry_in, slots_of, slots_freed, Chain, LaidOut, RestKept}
use Rattle.kept.specs.Access.{parallel_by, in_no_bag, place_at, freeing, link_to}

-- An entry as far as the rules look at it: its procedure and its lock set.
abbrev pub entry_of : ℕ → ℕ → Entry
entry_of procedure locks = record { event = record { 0 = 0 }; procedure = record { 0 = procedure }; locks = locks }

-- A link; and the slot that it leads to.
abbrev pub link : ℕ → Link
link at = record { 0 = at }

abbrev pub slot_at : ℕ → Option ℕ
slot_at zero = None
slot_at (suc s) = Some s

-- Nothing is seen yet; one entry more, by what becomes of it or by the rules; and, at an access e, the entries in these slots one after the other.
abbrev pub nothing_seen : Seen
nothing_seen = record { visits = 0; race = link 0; omitted = false; dropped = 0; last = link 0; first = link 0; before = link 0 }

abbrev pub weighed : ℕ → Bool → Bool → Bool → Seen → Seen
weighed at racing drops omits seen = record {
  visits = seen.visits + 1;
  race = link (cond (racing && eqb seen.race.0 0) at seen.race.0);
  omitted = seen.omitted || omits;
  dropped = cond drops (seen.dropped + 1) seen.dropped;
  last = link (cond drops seen.last.0 at);
  first = link (cond (drops && eqb seen.dropped 0) at seen.first.0);
  before = link (cond (drops && eqb seen.dropped 0) seen.last.0 seen.before.0);
}

abbrev pub into : Weighed → ℕ → Seen → Seen
into Stays at = weighed at false false false
into Goes at = weighed at false true false
into (Beside racing omits) at = weighed at racing false omits

abbrev pub is_dropped : Weighed → Bool
is_dropped Stays = false
is_dropped Goes = true
is_dropped (Beside racing omits) = false

module _ (bs : List Bags) (e : Entry) where
  unfoldable pub weighed_entry : ℕ → Entry → Seen → Seen
  weighed_entry at k = weighed at (races (parallel_by bs) e k) (dropped (parallel_by bs) e k) (omits (parallel_by bs) e k)

  unfoldable pub seen_over : List ℕ → List ℕ → List ℕ → Seen → Seen
  seen_over procedures sets [] seen = seen
  seen_over procedures sets (s ∷ ss) seen = seen_over procedures sets ss (weighed_entry (suc s) (entry_of (get_or procedures s 0) (get_or sets s 0)) seen)

  -- Some entry's procedure is in no bag; and what looking at the entries gives.
  unfoldable pub some_stray : List ℕ → List ℕ → List ℕ → Bool
  some_stray procedures sets ss = any (λ s. in_no_bag bs (entry_of (get_or procedures s 0) (get_or sets s 0))) ss

  unfoldable pub looked_over : List ℕ → List ℕ → List ℕ → Result Seen NotKept
  looked_over procedures sets ss = cond (some_stray procedures sets ss) (Err InNoBag) (Ok (seen_over procedures sets ss nothing_seen))

-- The entry would find no slot.
abbrev pub is_full : Seen → Slots → Bool
is_full seen slots = not seen.omitted && eqb seen.dropped 0 && eqb slots.freed 0 && eqb slots.used piece_size

-- A location's list can be walked.
pub record Walkable (heads links : List ℕ) (x : ℕ) : Type 0 where
  pub head_fit : x < length heads
  pub links_fit : piece_size ≤ length links
  pub chain : Chain links (get_or heads x 0) (slots_of heads links x)
  pub few : length (slots_of heads links x) ≤ piece_size

-- The entry that a link names.
abbrev pub named_at : List ℕ → List ℕ → List ℕ → ℕ → Option Entry
named_at events procedures sets zero = None
named_at events procedures sets (suc s) = Some (entry_in events procedures sets s)

-- What comes after slot `last - 1` of a location's list, or first in it where `last` is 0, is now what the link `to` leads to.
abbrev pub heads_linked : ℕ → ℕ → ℕ → List ℕ → List ℕ
heads_linked zero x to heads = set heads x to
heads_linked (suc s) x to heads = heads

abbrev pub links_linked : ℕ → ℕ → List ℕ → List ℕ
links_linked zero to links = links
links_linked (suc s) to links = set links s to

-- Which slots hold an entry that is dropped, and how many of a list.
abbrev pub drops_by : List Bags → Entry → List ℕ → List ℕ → ℕ → Bool
drops_by bs e procedures sets s = dropped (parallel_by bs) e (entry_of (get_or procedures s 0) (get_or sets s 0))

abbrev pub how_many : (ℕ → Bool) → List ℕ → ℕ
how_many drops ss = length (those drops ss)

-- The link that names the last of these slots, 0 if there is none.
unfoldable pub last_of : List ℕ → ℕ
last_of [] = 0
last_of (s ∷ []) = suc s
last_of (s ∷ t ∷ ss) = last_of (t ∷ ss)

-- A list begins with slots passed, none of which holds an entry that is dropped; `before` names the last of them, and `first` leads to those ahead.
pub record FirstDropped (drops : ℕ → Bool) (ss : List ℕ) (first before : ℕ) : Type 0 where
  pub passed : List ℕ
  pub ahead : List ℕ
  pub whole : passed ++ ahead ≡ ss
  pub none_passed : how_many drops passed ≡ 0
  pub named : before ≡ last_of passed
  pub leads : first ≡ link_to ahead

-- The dropped are out of the location's list, and freed.
pub record Pruned (drops : ℕ → Bool) (x : ℕ) (heads links : List ℕ) (slots : Slots) (heads' links' : List ℕ) (slots' : Slots) : Type 0 where
  pub laid_out : LaidOut heads' links' slots' (place_at x (those (λ s. not (drops s)) (slots_of heads links x)) (slots_of heads links))
      (freeing drops (slots_of heads links x) (slots_freed links slots))
  pub same_used : slots'.used ≡ slots.used
  pub heads_rest : RestKept piece_size heads heads'
  pub links_rest : RestKept slots.used links links'

-- The slot for the next entry, and which hold none then.
abbrev pub slot_for : Slots → ℕ
slot_for slots = cond (eqb slots.freed 0) slots.used (slots.freed - 1)

abbrev pub slots_then : List ℕ → Slots → Slots
slots_then links slots =
    cond (eqb slots.freed 0) (record { freed = 0; used = slots.used + 1 }) (record { freed = get_or links (slots.freed - 1) 0; used = slots.used })
