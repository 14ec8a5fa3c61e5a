-- Lock sets and what is kept, from any yes or no for "parallel". Nothing here knows of bytes, kinds of events or bags.
use Rattle.std.specs.Prelude.{ℕ, Bool, cond, not, ◌&&◌, List, [], ◌∷◌, ◌++◌, eqb, length, Option}
use Rattle.locks.specs.Sets.{apart, within}
use Rattle.kept.specs.declared.Entry.{Entry}
use Rattle.kept.specs.Lists.{any, first, those, sum_below}

-- At an access e with set H; `parallel` says of an entry whether it is parallel with e, and else it precedes e.
module _ (parallel : Entry → Bool) (e : Entry) where
  -- Two accesses to one location race if they are parallel and their lock sets have nothing in common.
  unfoldable pub races : Entry → Bool
  races k = parallel k && apart k.locks e.locks

  -- e is reported if a kept entry races with it; the earlier event named is the lowest-numbered such entry: the first one, as the list is in event
  -- order.
  unfoldable pub reported : List Entry → Bool
  reported = any races

  unfoldable pub named : List Entry → Option Entry
  named = first races

  -- An entry that precedes e and whose set contains all of H is dropped.
  unfoldable pub dropped : Entry → Bool
  dropped k = not (parallel k) && within e.locks k.locks

  unfoldable pub left : List Entry → List Entry
  left = those (λ (k : Entry). not (dropped k))

  -- e is added unless some entry is parallel with e and its set lies within H: such an entry omits e.
  unfoldable pub omits : Entry → Bool
  omits k = parallel k && within k.locks e.locks

  unfoldable pub added : List Entry → List Entry
  added list = cond (any omits list) [] (e ∷ [])

  -- All three rules look at the list as it stood before e.
  unfoldable pub after : List Entry → List Entry
  after list = left list ++ added list

-- Lists by location, and one of them changed.
abbrev pub Lists : Type 0
Lists = ℕ → List Entry

unfoldable pub changed_at : ℕ → (List Entry → List Entry) → Lists → Lists
changed_at x change lists y = cond (eqb y x) (change (lists y)) (lists y)

-- How many entries the first n lists have in all.
unfoldable pub in_all : ℕ → Lists → ℕ
in_all n lists = sum_below n (λ y. length (lists y))
