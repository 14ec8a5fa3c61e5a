-- The SP-bags that 002 uses, as they are made from the events before: each open procedure has an S-bag and a P-bag of procedures. What spawn, sync
-- and return do to them, 002 takes over from the SP-bags algorithm; 004 states it in its section 3.1, for async and finish. There a return hands over
-- both bags; with 01's implied sync the P-bag is empty then, so it is the same.
use Rattle.std.specs.Prelude.{ℕ, zero, suc, ◌+◌, Bool, false, cond, ◌||◌, List, [], ◌∷◌, ◌++◌, eqb}
use Rattle.bags.specs.Parallel.{Act, spawn, return, sync, other, member, begun, maker}

-- The bags of one open procedure.
pub record Bags : Type 0 where
  pub owner : ℕ
  pub S : List ℕ
  pub P : List ℕ

-- A procedure begins: it is alone in its S-bag, and its P-bag is empty.
unfoldable pub bags_of_new : ℕ → Bags
bags_of_new p = record { owner = p; S = p ∷ []; P = [] }

-- A sync empties the P-bag of the running procedure, whose bags stand first, into its S-bag.
unfoldable pub synced : List Bags → List Bags
synced [] = []
synced (b ∷ bs) = record { owner = b.owner; S = b.S ++ b.P; P = [] } ∷ bs

-- A procedure returns: what its S-bag holds goes into the P-bag of the one that spawned it.
unfoldable pub handed : List Bags → List Bags
handed [] = []
handed (c ∷ []) = []
handed (c ∷ b ∷ bs) = record { owner = b.owner; S = b.S; P = b.P ++ c.S } ∷ bs

-- What an event makes of the bags, n procedures having begun. A return carries an implied sync.
unfoldable pub bags_after : Act → ℕ → List Bags → List Bags
bags_after spawn n bs = bags_of_new n ∷ bs
bags_after return n bs = handed (synced bs)
bags_after sync n bs = synced bs
bags_after other n bs = bs

-- The bags before event k, those of the running procedure first.
unfoldable pub bags : (ℕ → Act) → ℕ → List Bags
bags events zero = bags_of_new 0 ∷ []
bags events (suc k) = bags_after (events k) (begun events k) (bags events k)

-- Is p in some S-bag? In some P-bag?
unfoldable pub in_s_bag : ℕ → List Bags → Bool
in_s_bag p [] = false
in_s_bag p (b ∷ bs) = member p b.S || in_s_bag p bs

unfoldable pub in_p_bag : ℕ → List Bags → Bool
in_p_bag p [] = false
in_p_bag p (b ∷ bs) = member p b.P || in_p_bag p bs

-- The bags' yes or no: event i is called parallel with a later event j if its maker is in a P-bag before j. That the definition says the same is the
-- theorem `bags_agree`.
unfoldable pub bags_say_parallel : (ℕ → Act) → ℕ → ℕ → Bool
bags_say_parallel events i j = in_p_bag (maker events i) (bags events j)

-- Is p in a bag at all? How often is it in one list of procedures, and in all the bags together?
unfoldable pub in_some_bag : ℕ → List Bags → Bool
in_some_bag p bs = in_s_bag p bs || in_p_bag p bs

unfoldable pub times_in : ℕ → List ℕ → ℕ
times_in p [] = 0
times_in p (x ∷ xs) = cond (eqb p x) 1 0 + times_in p xs

unfoldable pub times_in_bags : ℕ → List Bags → ℕ
times_in_bags p [] = 0
times_in_bags p (b ∷ bs) = times_in p b.S + times_in p b.P + times_in_bags p bs
