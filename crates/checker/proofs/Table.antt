-- The starred traces of 01, by evaluation of the definitions: all of the table at once. Assumes nothing.
use mathlib.Core.Path.{refl}
use mathlib.Core.List.{head_d}
use Rattle.trace.specs.Numbers.{value, followed, number_of, number_at}
use Rattle.trace.specs.Kinds.{entry}
use Rattle.trace.specs.Events.{judged as judgedNumber, reading_at}
use Rattle.locks.specs.Sets.{is_in, those, every, how_many, none, taken, released, set_of_access, is_empty, count, apart, within}
use Rattle.bags.specs.Parallel.{member, begun_after, opens_after, begun, opens, is_main_open, maker}
use Rattle.bags.specs.Bags.{bags_of_new, synced, handed, bags_after, bags, in_s_bag, in_p_bag, in_some_bag}
use Rattle.kept.specs.Lists.{any, first, those as those', sum_below}
use Rattle.kept.specs.Rules.{races, reported, named, dropped, left, omits, added, after, changed_at, in_all}
use Rattle.kept.specs.Theorem.{kept}
use Rattle.checker.specs.Events.{place, events, act_of, held_after, held, most, entry_of, run, visits_at}
use Rattle.checker.specs.Rules.{first_broken, rules, by_reading, ended, verdict, stop_from, stop}
use Rattle.checker.specs.Report.{race_at, found, laid}
use Rattle.checker.specs.Call.{answer}
use Rattle.checker.specs.Table.{AllAsKnown}

-- The definitions of each layer; a proof that says `unfolding evaluation` computes with all of these.
unfoldable evaluation_of_trace : Unit {0}
unfolding value followed number_of number_at entry judgedNumber reading_at
evaluation_of_trace = tt

unfoldable evaluation_of_locks : Unit {0}
unfolding is_in those every how_many none taken released set_of_access is_empty count apart within
evaluation_of_locks = tt

unfoldable evaluation_of_bags : Unit {0}
unfolding head_d member begun_after opens_after begun opens is_main_open maker bags_of_new synced handed bags_after bags in_s_bag in_p_bag in_some_bag
evaluation_of_bags = tt

unfoldable evaluation_of_kept : Unit {0}
unfolding any first those' sum_below races reported named dropped left omits added after changed_at in_all kept
evaluation_of_kept = tt

unfoldable evaluation_of_checker : Unit {0}
unfolding place events act_of held_after held most entry_of run visits_at first_broken rules by_reading ended verdict stop_from stop race_at found laid answer
evaluation_of_checker = tt

unfoldable pub evaluation : Unit {0}
unfolding evaluation_of_trace evaluation_of_locks evaluation_of_bags evaluation_of_kept evaluation_of_checker
evaluation = tt

pub all_as_known : AllAsKnown
unfolding evaluation
all_as_known = refl
