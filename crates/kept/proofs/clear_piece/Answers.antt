-- All of the zeros are stored. Assumes nothing.
use mathlib.Core.Path.{◌≡◌}
use native.Mathlib.Omega.{arith}
use Rattle.kept.specs.Pieces.{piece_size}
use Rattle.kept.proofs.clear_piece.Goals as goal

pub returns : goal.returns
returns g c = let all : c.loop-at.at ≡ piece_size = omega arith in rw all at c.loop-at.invariant
