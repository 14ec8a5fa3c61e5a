-- The pieces through a run: what `empty`, the accesses and `clear` come to. Each statement can be cited from proofs/Laws.antt, under the name in
-- brackets.
use Rattle.std.specs.Prelude.{ℕ, suc, ◌≤◌, ◌<◌, ◌≡◌, true, false, List, length, Option, is_some, Result, Ok, Err}
use Rattle.bags.specs.Bags.{Bags}
use Rattle.kept.specs.declared.Entry.{Entry}
use Rattle.kept.specs.declared.Slots.{Slots}
use Rattle.kept.specs.declared.Visited.{Visited}
use Rattle.kept.specs.declared.NotKept.{NotKept}
use Rattle.kept.specs.declared.NotKept.TheVariants.{InNoBag, Full}
use Rattle.kept.specs.Lists.{any}
use Rattle.kept.specs.Rules.{reported, named, Lists, in_all}
use Rattle.kept.specs.Theorem.{Run, kept, visited}
use Rattle.kept.specs.Pieces.{Pieces, pieces, piece_size, lists_in, Fits, Room, RestKept, none_used, cleared}
use Rattle.kept.specs.Access.{parallel_by, in_no_bag, accessed, AfterAccess}

-- The pieces hold these lists.
pub record Holds (lists : Lists) (p : Pieces) (slots : Slots) : Type 0 where
  pub room : Room p slots
  pub held : (y : ℕ) → y < piece_size → lists_in p y ≡ lists y

-- What lies past 4,096 of each piece is kept.
pub record RestsKept (p p' : Pieces) : Type 0 where
  pub heads : RestKept piece_size p.heads p'.heads
  pub links : RestKept piece_size p.links p'.links
  pub events : RestKept piece_size p.events p'.events
  pub procedures : RestKept piece_size p.procedures p'.procedures
  pub sets : RestKept piece_size p.sets p'.sets

module _ (run : Run) where
  -- Once the heads are cleared, the pieces hold the lists that are kept at first, whatever the other pieces hold [holds_first]. An event that is no
  -- access changes nothing [holds_other].
  abbrev pub HoldsFirst : Type 0
  HoldsFirst =
      (p : Pieces) → Fits p → Holds (kept run 0) (pieces (cleared piece_size p.heads) p.links p.events p.procedures p.sets) none_used

  abbrev pub HoldsOther : Type 0
  HoldsOther = (k : ℕ) (p : Pieces) (slots : Slots) → run.accesses k ≡ false → Holds (kept run k) p slots → Holds (kept run (suc k)) p slots

  -- Event k is this access, and these bags tell which entries are parallel with it.
  pub record AccessIs (k : ℕ) (bs : List Bags) (x : ℕ) (e : Entry) : Type 0 where
    pub an_access : run.accesses k ≡ true
    pub its_location : run.location k ≡ x
    pub its_entry : run.entry k ≡ e
    pub told_by_bags : run.parallel k ≡ parallel_by bs

  -- The access k is not refused: no entry kept for its location has its procedure in no bag, and at most 4,096 entries are kept after it. The visits are
  -- the length of the list, and who is named is named by the rule.
  pub record NotRefused (k : ℕ) (bs : List Bags) (p' : Pieces) (slots' : Slots) (visits : ℕ) (race : Option Entry) : Type 0 where
    pub lists_held : Holds (kept run (suc k)) p' slots'
    pub all_in_bags : any (in_no_bag bs) (visited run k) ≡ false
    pub not_too_many : in_all piece_size (kept run (suc k)) ≤ piece_size
    pub visits_told : visits ≡ length (visited run k)
    pub race_told : race ≡ named (run.parallel k) (run.entry k) (visited run k)
    pub reported_told : is_some race ≡ reported (run.parallel k) (run.entry k) (visited run k)

  -- What each answer of `access` says, and what the pieces hold then.
  abbrev pub HoldsAfter : ℕ → List Bags → Pieces → Slots → Result Visited NotKept → Type 0
  HoldsAfter k bs p' slots' (Ok visited) = NotRefused k bs p' slots' visited.visits visited.race
  HoldsAfter k bs p' slots' (Err InNoBag) = (any (in_no_bag bs) (visited run k) ≡ true) × Holds (kept run k) p' slots'
  HoldsAfter k bs p' slots' (Err Full) =
      (any (in_no_bag bs) (visited run k) ≡ false) × (piece_size < in_all piece_size (kept run (suc k))) × Holds (kept run k) p' slots'

  -- So it is, by what `access` promises [holds_next].
  abbrev pub HoldsNext : Type 0
  HoldsNext =
      (k : ℕ) (bs : List Bags) (x : ℕ) (e : Entry) (p : Pieces) (slots : Slots) (p' : Pieces) (slots' : Slots) (r : Result Visited NotKept)
      → x < piece_size → AccessIs k bs x e → Holds (kept run k) p slots → r ≡ accessed bs x e (lists_in p)
      → AfterAccess bs x e p slots p' slots' r → HoldsAfter k bs p' slots' r × RestsKept p p'

-- Clearing keeps what lies past [cleared_rest]; it makes the same of pieces with the same rest [cleared_same]; and a rest that is kept twice is
-- kept [rest_kept_on].
abbrev pub ClearedRest : Type 0
ClearedRest = (n : ℕ) (piece : List ℕ) → n ≤ length piece → RestKept n piece (cleared n piece)

abbrev pub ClearedSame : Type 0
ClearedSame = (n : ℕ) (piece piece' : List ℕ) → RestKept n piece piece' → cleared n piece' ≡ cleared n piece

abbrev pub RestKeptOn : Type 0
RestKeptOn = (n : ℕ) (piece piece' piece'' : List ℕ) → RestKept n piece piece' → RestKept n piece' piece'' → RestKept n piece piece''
