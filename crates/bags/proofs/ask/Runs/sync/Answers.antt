-- `sync` moves the top pair's join to the end: the law `syncs`. Assumes nothing.
use Rattle.bags.proofs.Pieces.{syncs}
use Rattle.bags.proofs.ask.Runs.sync.Goals as goal

pub returns-clause-bags : goal.returns-clause-bags
returns-clause-bags c = λ starts room. syncs starts _ _ room
