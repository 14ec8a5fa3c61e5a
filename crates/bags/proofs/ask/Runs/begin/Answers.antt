-- `begin` leaves main's bags alone: two stores, and the law `begins` of what they hold. Assumes nothing.
use borrow.Author.Rules.{rules}
use Rattle.bags.proofs.Pieces.{begins}
use Rattle.bags.proofs.ask.Runs.begin.Goals as goal

pub returns-clause-bags : goal.returns-clause-bags
returns-clause-bags c = begins _ _ (search rules) (search rules)
