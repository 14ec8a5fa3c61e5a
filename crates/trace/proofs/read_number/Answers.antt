-- `trace::read_number` meets its contract: the sums that fit and the other ways out are found with the laws of `Gathering`. Assumes nothing.
use borrow.Author.Rules.{rules}
use native.Mathlib.Omega.{arith}
use Rattle.trace.proofs.Gathering.{begins, goes_on, zero_last}
use Rattle.trace.proofs.read_number.Goals as goal

pub loop-followed-init : goal.loop-followed-init
loop-followed-init c = (begins _ _, omega arith)

pub returns-then-followed-gt0 : goal.returns-then-followed-gt0
returns-then-followed-gt0 c =
    zero_last c.loop-followed.invariant.0 c.in-Some.field-0.now (search rules) (search rules) (search rules) c.from.ensures (search rules) (search rules)

pub loop-followed-preserved : goal.loop-followed-preserved
loop-followed-preserved c = (
  goes_on c.loop-followed.invariant.0 c.in-Some.field-0.now (search rules) (search rules) (search rules) c.from.ensures (search rules),
  omega (arith, c.loop-followed.invariant.1),
)
