-- Laws of the groups that a number is written in, and of writing them one by one: what holds while some of them are left. Assumes nothing.
use Prim.Native.Nat.{ℕ, zero, suc, ◌+◌, ◌-◌, ◌*◌, ◌/◌, ◌%◌, ◌^◌, ◌≤◌, ◌<◌, zero-le, suc-le-suc}
use mathlib.Core.Path.{◌≡◌, refl, ◌∙◌}
use mathlib.Core.List.{List, [], ◌∷◌}
use native.Mathlib.Omega.{arith}
use native.Mathlib.Nat.{pow-succ'}
use native.Mathlib.Numerals.{add-one}
use native.Mathlib.Decide.{dec_lt}
use lib.ListN.{length, set, length-set}
use lib.Seq.{sets, sets-eq}
use borrow.Author.Tests.{lt-ltb, le-ltb}
use Rattle.trace.specs.declared.Event.{Event}
use Rattle.trace.specs.Numbers.{most_groups}
use Rattle.trace.specs.Kinds.{as_number, reserved, largest_operand}
use Rattle.trace.proofs.Laws.{operand_small, unnamed}
use Rattle.writer.specs.Form.{groups, bytes_of}
use Rattle.writer.proofs.Codes.{Fits, fits, operand_refused, place_refused, not_refused, kind_refused, handed_on}

-- ---- one group

pub last_group : (more number : ℕ) → number < 128 → groups (suc more) number ≡ number ∷ []
unfolding groups
last_group more number low = rw (lt-ltb number 128 low)

pub next_group : (more number : ℕ) → 128 ≤ number → groups (suc more) number ≡ (128 + number % 128) ∷ groups more (number / 128)
unfolding groups
next_group more number top = rw (le-ltb number 128 top)

-- what is left after a group has one group less
pub rest_small : (more number : ℕ) → number < 128 ^ suc more → number / 128 < 128 ^ more
rest_small more number small = let h : number < 128 * 128 ^ more = rw (← pow-succ' 128 more) small in omega arith

pub groups_few : (most number : ℕ) → length (groups most number) ≤ most
unfolding groups
groups_few zero number = zero-le
groups_few (suc more) number =
    elim (dec_lt number 128) [
      | yes low ↦ rw (last_group more number low) (suc-le-suc zero-le)
      | no top ↦ rw (next_group more number (omega arith)) (suc-le-suc (groups_few more (number / 128)))
    ]

pub groups_some : (more number : ℕ) → 0 < length (groups (suc more) number)
groups_some more number =
    elim (dec_lt number 128) [
      | yes low ↦ rw (last_group more number low) (suc-le-suc zero-le)
      | no top ↦ rw (next_group more number (omega arith)) (suc-le-suc zero-le)
    ]

-- ---- some groups are left: the first of what is left of a number, and so many more at most

pub record Remains (number at next rest : ℕ) : Type 0 where
  pub more : ℕ
  pub small : rest < 128 ^ suc more
  pub ends : next + length (groups (suc more) rest) ≡ at + length (groups most_groups number)

pub all_remain : (number at : ℕ) → number < 128 ^ most_groups → Remains number at at number
all_remain number at small = record { more = most_groups - 1; small = small; ends = refl }

module _ {number at next rest : ℕ} where
  pub one_written : Remains number at next rest → 128 ≤ rest → Remains number at (next + 1) (rest / 128)
  one_written r top = go r.more r.small r.ends
    where
      go : (more : ℕ) → rest < 128 ^ suc more → next + length (groups (suc more) rest) ≡ at + length (groups most_groups number)
          → Remains number at (next + 1) (rest / 128)
      go zero small ends = absurd (omega arith)
      go (suc more) small ends =
          let others = length (groups (suc more) (rest / 128)) in
          let later : next + suc others ≡ at + length (groups most_groups number) = rw (next_group (suc more) rest top) at ends in
          record { more = more; small = rest_small (suc more) rest small; ends = omega arith }

-- ---- the number of an event that the table allows

pub number_small : (e : Event) → e.kind < reserved → e.operand ≤ largest_operand e → as_number e < 128 ^ most_groups
number_small e kind operand = omega (arith, operand_small e operand)

-- ---- writing them into a buffer: those left, stored from the next place on, make the whole

pub record Putting (before : List ℕ) (at number : ℕ) (buffer : List ℕ) (next rest : ℕ) : Type 0 where
  pub more : ℕ
  pub small : rest < 128 ^ suc more
  pub ends : next + length (groups (suc more) rest) ≡ at + length (groups most_groups number)
  pub same : sets buffer next (groups (suc more) rest) ≡ sets before at (groups most_groups number)
  pub inside : at + length (groups most_groups number) ≤ length before
  pub long : length buffer ≡ length before

-- an event that is not refused
pub putting_begins : (before : List ℕ) (at : ℕ) (e : Event) (number : ℕ) → number ≡ as_number e → Fits (length before) at e
    → Putting before at number before at number
unfolding bytes_of
putting_begins before at e number is f =
    rw is
    record {
      more = most_groups - 1;
      small = number_small e f.kind f.operand;
      ends = refl;
      same = refl;
      inside = f.inside;
      long = refl;
    }

module _ {before : List ℕ} {at number : ℕ} {buffer : List ℕ} {next rest : ℕ} where
  pub putting_goes_on : Putting before at number buffer next rest → 128 ≤ rest
      → Putting before at number (set buffer next (128 + rest % 128)) (next + 1) (rest / 128)
  unfolding one_written
  putting_goes_on p top = go p.more p.small p.ends p.same
    where
      go : (more : ℕ) → rest < 128 ^ suc more → next + length (groups (suc more) rest) ≡ at + length (groups most_groups number)
          → sets buffer next (groups (suc more) rest) ≡ sets before at (groups most_groups number)
          → Putting before at number (set buffer next (128 + rest % 128)) (next + 1) (rest / 128)
      go zero small ends same = absurd (omega arith)
      go (suc more) small ends same =
          let r : Remains number at (next + 1) (rest / 128) = one_written (record { more = suc more; small = small; ends = ends }) top in
          record {
            more = more;
            small = r.small;
            ends = r.ends;
            same = rw (add-one next) (rw (next_group (suc more) rest top) at same);
            inside = p.inside;
            long = length-set buffer next (128 + rest % 128) ∙ p.long;
          }

-- ---- what the check is given: for counting groups, for judging an event, for writing it

pub ruleset counting = (all_remain, one_written, last_group, groups_few, groups_some)

pub ruleset deciding = (operand_refused, place_refused, not_refused, number_small, unnamed, kind_refused, handed_on)

pub ruleset putting = (fits, putting_begins, putting_goes_on, last_group, groups_some, sets-eq)
