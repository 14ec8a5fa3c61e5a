-- `returns` has one pair less, and reads the one below: the law `returned`. Assumes nothing.
use native.Mathlib.Omega.{arith}
use Rattle.bags.proofs.Pieces.{returned}
use Rattle.bags.proofs.ask.Asked.returns.Goals as goal

pub returns-clause-bags : goal.returns-clause-bags
returns-clause-bags c = λ room. returned _ _ _ _ (omega arith) room
