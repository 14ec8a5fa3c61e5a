-- `spawn` stores the new procedure's pair above the others: the law `spawns`. Assumes nothing.
use native.Mathlib.Omega.{arith}
use borrow.Author.Rules.{rules}
use Rattle.bags.proofs.Pieces.{spawns}
use Rattle.bags.proofs.ask.Runs.spawn.Goals as goal

pub returns-clause-bags : goal.returns-clause-bags
returns-clause-bags c = (omega arith, spawns _ _ _ c.requires (search rules))
