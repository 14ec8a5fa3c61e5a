-- Where a procedure is.
use Rattle.std.specs.Prelude.{ℕ, Bool, true, false, cond, List}
use Rattle.bags.specs.declared.ask.Answer.{Answer}
use Rattle.bags.specs.declared.ask.Answer.TheVariants.{InSeries, InParallel, InNoBag}
use Rattle.bags.specs.Bags.{Bags, in_s_bag, in_p_bag}

-- In an S-bag, and so in series with now; in a P-bag, and so in parallel with it; or in no bag.
unfoldable pub answer_for : ℕ → List Bags → Answer
answer_for p bs = cond (in_p_bag p bs) InParallel (cond (in_s_bag p bs) InSeries InNoBag)

-- What each answer says: yes or no to "parallel", and the code, 0 where nothing is refused.
abbrev pub says_parallel : Answer → Bool
says_parallel InSeries = false
says_parallel InParallel = true
says_parallel InNoBag = false

abbrev pub code_of : Answer → ℕ
code_of InSeries = 0
code_of InParallel = 0
code_of InNoBag = 12
