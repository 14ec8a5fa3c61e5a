-- What is said of the runs in lent pieces: that they are in room, the bags that they hold, and that the pieces are still those that were lent.
use Rattle.std.specs.Prelude.{◌≡◌, List}
use Rattle.bags.specs.declared.ask.Runs.{Runs}
use Rattle.bags.specs.declared.ask.Asked.{Asked}
use Rattle.bags.specs.Bags.{Bags}
use Rattle.bags.specs.Runs.{bags_in, Room}

abbrev pub InRoom : Runs → Type 0
InRoom runs = Room runs.starts.now runs.joins.now runs.pairs

abbrev pub bags_of : Runs → List Bags
bags_of runs = bags_in runs.starts.now runs.joins.now runs.pairs

abbrev pub SameLoans : Runs → Runs → Type 0
SameLoans runs runs' = (runs'.starts.ghost_name ≡ runs.starts.ghost_name) × (runs'.joins.ghost_name ≡ runs.joins.ghost_name)

-- The same of runs that are only read.
abbrev pub AskedInRoom : Asked → Type 0
AskedInRoom runs = Room runs.starts.now runs.joins.now runs.pairs

abbrev pub bags_asked : Asked → List Bags
bags_asked runs = bags_in runs.starts.now runs.joins.now runs.pairs
