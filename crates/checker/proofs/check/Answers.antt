-- `check` refuses, or reads the trace and clears the room: each way out is a law of `ContractMet`. Assumes nothing.
use mathlib.Core.Path.{◌∙◌}
use borrow.Author.Rules.{rules}
use Rattle.kept.proofs.Laws.{cleared_whole}
use Rattle.checker.proofs.ContractMet.{short_refused, long_refused, read_and_cleared}
use Rattle.checker.proofs.check.Goals as goal

pub returns-then-short : goal.returns-then-short
returns-then-short c = record { contract = short_refused _ _ _ _ c.if-short.true c.refuse.ensures }

pub returns-then-trace-gt-MOST_BYTES : goal.returns-then-trace-gt-MOST_BYTES
returns-then-trace-gt-MOST_BYTES c = record {
  contract = long_refused _ _ _ _ c.if-short.false c.if-trace-gt-MOST_BYTES.true c.refuse-then-trace-gt-MOST_BYTES.ensures;
}

pub returns : goal.returns
returns c =
    let done = c.examine-answer.ensures in
    record {
      contract =
          read_and_cleared _ _ _ _ c.examine-answer.new.lists _ c.examine-answer.new.runs done.rests _ _ _ _ _ _ _ _ c.if-short.false
          c.if-trace-gt-MOST_BYTES.false done.result done.report (search rules) (search rules) (search rules) (search rules) (search rules)
          (search (rules, c.clear_piece.ensures ∙ cleared_whole 4096 c.examine-answer.new.runs.starts.now)) (search (rules, c.clear_piece-2.ensures ∙ cleared_whole 4096 c.examine-answer.new.runs.joins.now));
    }
