-- What an access gives, and what it leaves in the pieces.
use Rattle.std.specs.Prelude.{ℕ, suc, ◌≡◌, Bool, cond, not, List, [], ◌∷◌, ◌++◌, eqb, ltb, length, set, Result, Ok, Err}
use Rattle.bags.specs.Bags.{Bags, in_p_bag, in_some_bag}
use Rattle.kept.specs.declared.Entry.{Entry}
use Rattle.kept.specs.declared.Slots.{Slots}
use Rattle.kept.specs.declared.Visited.{Visited}
use Rattle.kept.specs.declared.NotKept.{NotKept}
use Rattle.kept.specs.declared.NotKept.TheVariants.{InNoBag, Full}
use Rattle.kept.specs.Lists.{any, those}
use Rattle.kept.specs.Rules.{named, dropped, omits, after, Lists, changed_at, in_all}
use Rattle.kept.specs.Pieces.{Pieces, piece_size, slots_of, slots_freed, entry_at, lists_in, LaidOut, RestKept}

-- The bags' yes or no, of an entry; and whether its procedure is in no bag.
abbrev pub parallel_by : List Bags → Entry → Bool
parallel_by bs k = in_p_bag k.procedure.0 bs

abbrev pub in_no_bag : List Bags → Entry → Bool
in_no_bag bs k = not (in_some_bag k.procedure.0 bs)

-- The number of each refusal, and the code of each answer, 0 where nothing is refused.
abbrev pub number_of : NotKept → ℕ
number_of InNoBag = 12
number_of Full = 13

abbrev pub code_of : Result Visited NotKept → ℕ
code_of (Ok visited) = 0
code_of (Err why) = number_of why

-- At an access e to location x, the bags and the lists being as they stand before it: one thing if an entry kept for the location has its procedure
-- in no bag; then another if after the rules more than 4,096 entries would be kept in all; and else a third.
abbrev pub by_tests : {A : Type 0} → List Bags → ℕ → Entry → Lists → A → A → A → A
by_tests bs x e lists one another third =
    cond (any (in_no_bag bs) (lists x)) one (cond (ltb piece_size (in_all piece_size (changed_at x (after (parallel_by bs) e) lists))) another third)

-- Its code; and what it gives: a refusal, or the length of the list and the entry named.
abbrev pub access_code : List Bags → ℕ → Entry → Lists → ℕ
access_code bs x e lists = by_tests bs x e lists 12 13 0

unfoldable pub accessed : List Bags → ℕ → Entry → Lists → Result Visited NotKept
accessed bs x e lists =
    by_tests bs x e lists (Err InNoBag) (Err Full) (Ok (record { visits = length (lists x); race = named (parallel_by bs) e (lists x) }))

-- One list of slots put in place of another.
unfoldable pub place_at : ℕ → List ℕ → (ℕ → List ℕ) → ℕ → List ℕ
place_at x slots lists y = cond (eqb y x) slots (lists y)

-- The slots dropped go before those freed earlier, one after the other.
unfoldable pub freeing : (ℕ → Bool) → List ℕ → List ℕ → List ℕ
freeing drops [] freed = freed
freeing drops (s ∷ ss) freed = freeing drops ss (cond (drops s) (s ∷ freed) freed)

-- The next slot is the one freed last, or else the first never used; and what is left then.
abbrev pub next_slot : List ℕ → ℕ → ℕ
next_slot [] used = used
next_slot (s ∷ ss) used = s

abbrev pub freed_then : List ℕ → List ℕ
freed_then [] = []
freed_then (s ∷ ss) = ss

abbrev pub used_then : List ℕ → ℕ → ℕ
used_then [] used = suc used
used_then (s ∷ ss) used = used

-- The link that leads through these slots.
abbrev pub link_to : List ℕ → ℕ
link_to [] = 0
link_to (s ∷ ss) = suc s

-- By the rules: does the entry in a slot go; is the new entry left out; and which slots are left in the location's list.
abbrev pub drops : List Bags → Entry → Pieces → ℕ → Bool
drops bs e p s = dropped (parallel_by bs) e (entry_at p s)

abbrev pub is_omitted : List Bags → ℕ → Entry → Pieces → Bool
is_omitted bs x e p = any (omits (parallel_by bs) e) (lists_in p x)

abbrev pub slots_left : List Bags → ℕ → Entry → Pieces → List ℕ
slots_left bs x e p = those (λ s. not (drops bs e p s)) (slots_of p.heads p.links x)

module _ (bs : List Bags) (x : ℕ) (e : Entry) (p : Pieces) (slots : Slots) where
  -- The slots that are free once the dropped are out; then, the entry added or left out, those of its list, and those that are free.
  abbrev pub pool : List ℕ
  pool = freeing (drops bs e p) (slots_of p.heads p.links x) (slots_freed p.links slots)

  abbrev pub slots_here : List ℕ
  slots_here = cond (is_omitted bs x e p) (slots_left bs x e p) (slots_left bs x e p ++ next_slot pool slots.used ∷ [])

  abbrev pub freed_after : List ℕ
  freed_after = cond (is_omitted bs x e p) pool (freed_then pool)

  abbrev pub slots_after : Slots
  slots_after = record { freed = link_to freed_after; used = cond (is_omitted bs x e p) slots.used (used_then pool slots.used) }

  -- A piece of the entries with a number put in the slot of the entry added.
  abbrev pub stored : ℕ → List ℕ → List ℕ
  stored number piece = cond (is_omitted bs x e p) piece (set piece (next_slot pool slots.used) number)

  -- What is left where nothing is refused. The links of slots never used, and all that lies past 4,096, are kept.
  pub record Accepted (p' : Pieces) : Type 0 where
    pub laid_out : LaidOut p'.heads p'.links slots_after (place_at x slots_here (slots_of p.heads p.links)) freed_after
    pub heads_rest : RestKept piece_size p.heads p'.heads
    pub links_rest : RestKept slots_after.used p.links p'.links
    pub events : p'.events ≡ stored e.event.0 p.events
    pub procedures : p'.procedures ≡ stored e.procedure.0 p.procedures
    pub sets : p'.sets ≡ stored e.locks p.sets

  -- So it is then; and a refusal leaves everything as it was.
  abbrev pub AfterAccess : Pieces → Slots → Result Visited NotKept → Type 0
  AfterAccess p' slots' (Ok visited) = (slots' ≡ slots_after) × Accepted p'
  AfterAccess p' slots' (Err why) = (p' ≡ p) × (slots' ≡ slots)
