-- What lies past the used part of each piece: it is kept where nothing changes. Assumes nothing.
use Prim.Native.Nat.{ℕ}
use mathlib.Core.Path.{refl}
use mathlib.Core.List.{List}
use Rattle.bags.specs.declared.ask.Runs.{Runs}
use Rattle.kept.specs.declared.KeptLists.{KeptLists}
use Rattle.kept.specs.Lent.{pieces_of}
use Rattle.kept.specs.Pieces.{Pieces, piece_size, RestKept}
use Rattle.kept.specs.Holds.{RestsKept}
use Rattle.checker.specs.Steps.{AllRestsKept}

-- Nothing changes.
pub as_it_is : (piece : List ℕ) → RestKept piece_size piece piece
as_it_is piece = record { same_length = refl; same_rest = refl }

pub lists_as_they_are : (p : Pieces) → RestsKept p p
lists_as_they_are p = record {
  heads = as_it_is p.heads;
  links = as_it_is p.links;
  events = as_it_is p.events;
  procedures = as_it_is p.procedures;
  sets = as_it_is p.sets;
}

pub all_as_they_are : (l : KeptLists) (r : Runs) → AllRestsKept l r l r
all_as_they_are l r =
    record { lists_rest = lists_as_they_are (pieces_of l); starts_rest = as_it_is r.starts.now; joins_rest = as_it_is r.joins.now }
