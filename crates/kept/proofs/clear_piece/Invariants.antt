-- One zero more is stored each turn. Assumes nothing.
use mathlib.Core.Path.{◌≡◌}
use mathlib.Core.List.{◌++◌}
use lib.ListN.{drop, replicate}
use Rattle.kept.proofs.clear_piece.Given as goal

abbrev pub invariant-loop-at : goal.invariant-loop-at
invariant-loop-at g l = l.piece ≡ replicate l.at l.zero ++ drop l.at l.initial.piece
