-- Chains of slots: a chain is found by walking it, and only the links of its own slots matter for it. A new link, put after some first slots of a
-- chain (in the head, if there are none), makes a chain of these slots and of those that the new link leads to, if no slot stands twice among them.
-- Each is by induction on the list of slots. Assumes nothing.
use Prim.Native.Nat.{ℕ, zero, suc, ◌+◌, ◌≤◌, ◌<◌, zero-le}
use mathlib.Core.Path.{◌≡◌, refl, sym, ap, ◌∙◌}
use mathlib.Core.Logic.{◌≢◌}
use mathlib.Core.List.{List, [], ◌∷◌, ◌++◌}
use native.Mathlib.Decide.{ℕ_discrete}
use native.Mathlib.Nat.{not-suc-le-zero}
use native.Mathlib.Omega.{arith}
use lib.ListN.{length, get_or, set, length-set}
use lib.Seq.{get_or-set_same, get_or-set_other}
use borrow.Author.Tests.{eq-eqb, ne_eqb}
use Rattle.kept.specs.Pieces.{piece_size, slots_from, Chain, times_in}
use Rattle.kept.specs.Access.{link_to}
use Rattle.std.specs.Prelude.{Option, None, Some}
use Rattle.kept.specs.Parts.{slot_at, heads_linked, links_linked, last_of}

-- ---- where a link leads

-- The link to a slot, if there is one.
unfoldable pub link_of : Option ℕ → ℕ
link_of None = 0
link_of (Some s) = suc s

link_back : (at : ℕ) → link_of (slot_at at) ≡ at
unfolding link_of
link_back zero = refl
link_back (suc s) = refl

-- A link leads to a slot or nowhere.
pub leads_to : {at : ℕ} {found : Option ℕ} {slot : ℕ} → found ≡ slot_at at → found ≡ Some slot → at ≡ suc slot
unfolding link_of
leads_to {at} is some = sym (link_back at) ∙ ap link_of (sym is ∙ some)

pub leads_nowhere : {at : ℕ} {found : Option ℕ} → found ≡ slot_at at → ((slot : ℕ) → found ≡ Some slot → ⊥) → at ≡ 0
leads_nowhere {at = zero} is none = refl
leads_nowhere {at = suc s} is none = absurd (none s is)

-- ---- how often a slot stands in a list

-- In two lists together a slot stands as often as in both.
pub times_append : (s : ℕ) (ss ts : List ℕ) → times_in s (ss ++ ts) ≡ times_in s ss + times_in s ts
unfolding times_in
times_append s [] ts = omega arith
times_append s (t ∷ ss) ts =
    let rest = times_append s ss ts in
    omega arith

-- A slot stands once more with itself in front, and as often with another.
pub times_self : (s : ℕ) (ss : List ℕ) → times_in s (s ∷ ss) ≡ suc (times_in s ss)
unfolding times_in
times_self s ss = rw (eq-eqb s s refl) (omega arith)

times_other : (s t : ℕ) (ss : List ℕ) → s ≢ t → times_in s (t ∷ ss) ≡ times_in s ss
unfolding times_in
times_other s t ss different = rw (ne_eqb s t different) (omega arith)

-- The last of these slots is one of them.
last_stands : (s : ℕ) (ss : List ℕ) → (p : ℕ) × (last_of (s ∷ ss) ≡ suc p) × (0 < times_in p (s ∷ ss))
unfolding last_of times_in
last_stands s [] = (s, refl, rw (eq-eqb s s refl) (omega arith))
last_stands s (t ∷ ss) =
    let rest = last_stands t ss in
    (rest.0, rest.1, omega (arith, rest.2))

-- So the link that names it is no more than what all of them are below.
pub last_below : (ss : List ℕ) (n : ℕ) → ((s : ℕ) → 0 < times_in s ss → s < n) → last_of ss ≤ n
unfolding last_of
last_below [] n below = zero-le
last_below (s ∷ ss) n below =
    let last = last_stands s ss in
    rw last.1 (below last.0 last.2)

-- ---- chains

-- A chain is found by walking it.
pub chain_slots : (n : ℕ) (links : List ℕ) (at : ℕ) (ss : List ℕ) → Chain links at ss → length ss ≤ n → slots_from n links at ≡ ss
unfolding slots_from Chain
chain_slots zero links at [] chain few = refl
chain_slots zero links at (s ∷ ss) chain few = absurd (not-suc-le-zero few)
chain_slots (suc n) links at [] chain few = rw chain
chain_slots (suc n) links at (s ∷ ss) chain few =
    rw chain.0 (ap (λ (ts : List ℕ). s ∷ ts) (chain_slots n links (get_or links s 0) ss chain.2 (omega arith)))

-- A chain starts with the link to its first slot.
pub chain_link : (links : List ℕ) (at : ℕ) (ss : List ℕ) → Chain links at ss → at ≡ link_to ss
unfolding Chain
chain_link links at [] chain = chain
chain_link links at (s ∷ ss) chain = chain.0

-- That link is no more than what all of its slots are below.
pub chain_below : (links : List ℕ) (at : ℕ) (ss : List ℕ) (n : ℕ) → Chain links at ss → ((s : ℕ) → 0 < times_in s ss → s < n) → at ≤ n
unfolding Chain times_in
chain_below links at [] n chain below = omega arith
chain_below links at (s ∷ ss) n chain below =
    let stands = below s (rw (eq-eqb s s refl) (omega arith)) in
    omega (arith, chain.0)

-- Past its first slots it is a chain still.
pub chain_rest : (links : List ℕ) (at : ℕ) (ps : List ℕ) (s : ℕ) (rest : List ℕ) → Chain links at (ps ++ s ∷ rest) → Chain links (get_or links s 0) rest
unfolding Chain
chain_rest links at [] s rest chain = chain.2
chain_rest links at (p ∷ ps) s rest chain = chain_rest links (get_or links p 0) ps s rest chain.2

-- Chains of the same slots have the same links in them.
pub chain_determines : (links links' : List ℕ) (at at' : ℕ) (ss : List ℕ) (s : ℕ) → Chain links at ss → Chain links' at' ss → 0 < times_in s ss
    → get_or links s 0 ≡ get_or links' s 0
unfolding Chain times_in
chain_determines links links' at at' [] s chain chain' stands = absurd (not-suc-le-zero stands)
chain_determines links links' at at' (t ∷ ss) s chain chain' stands =
    elim (ℕ_discrete s t) [
      | yes same ↦ rw same (chain_link links (get_or links t 0) ss chain.2 ∙ sym (chain_link links' (get_or links' t 0) ss chain'.2))
      | no different ↦
          chain_determines links links' (get_or links t 0) (get_or links' t 0) ss s chain.2 chain'.2
          (let fewer = times_other s t ss different in omega (arith, fewer))
    ]

-- The link of a slot that does not stand in a chain does not matter for it.
pub chain_frame : (links : List ℕ) (p v at : ℕ) (ss : List ℕ) → times_in p ss ≡ 0 → Chain links at ss → Chain (set links p v) at ss
unfolding Chain times_in
chain_frame links p v at [] away chain = chain
chain_frame links p v at (s ∷ ss) away chain =
    let different : s ≢ p = λ (same : s ≡ p). let self = times_self p ss in let none : times_in p (p ∷ ss) ≡ 0 = rw same at away in omega arith in (
      chain.0,
      chain.1,
      rw (get_or-set_other links p s v 0 different) (chain_frame links p v (get_or links s 0) ss (omega arith) chain.2),
    )

-- ---- a new link after some slots

-- Setting a link keeps how many there are.
pub linked_heads_length : (last x v : ℕ) (heads : List ℕ) → length (heads_linked last x v heads) ≡ length heads
linked_heads_length zero x v heads = length-set heads x v
linked_heads_length (suc p) x v heads = refl

pub linked_length : (last v : ℕ) (links : List ℕ) → length (links_linked last v links) ≡ length links
linked_length zero v links = refl
linked_length (suc p) v links = length-set links p v

-- Links other than that of the last slot stay, and so do heads elsewhere.
linked_elsewhere : (ps : List ℕ) (v s : ℕ) (links : List ℕ) → times_in s ps ≡ 0 → get_or (links_linked (last_of ps) v links) s 0 ≡ get_or links s 0
unfolding last_of
linked_elsewhere [] v s links away = refl
linked_elsewhere (p ∷ ps) v s links away =
    let last = last_stands p ps in
    let different : s ≢ last.0 = λ (same : s ≡ last.0). let stands : 0 < times_in s (p ∷ ps) = rw same last.2 in omega arith in
    rw last.1 (get_or-set_other links last.0 s v 0 different)

pub linked_heads_elsewhere : (last x v y : ℕ) (heads : List ℕ) → y ≢ x → get_or (heads_linked last x v heads) y 0 ≡ get_or heads y 0
linked_heads_elsewhere zero x v y heads different = get_or-set_other heads x y v 0 different
linked_heads_elsewhere (suc p) x v y heads different = refl

-- A chain that has none of these slots does not change.
pub linked_frame : (ps : List ℕ) (v at : ℕ) (links ss : List ℕ) → ((s : ℕ) → 0 < times_in s ps → times_in s ss ≡ 0) → Chain links at ss
    → Chain (links_linked (last_of ps) v links) at ss
unfolding last_of
linked_frame [] v at links ss apart chain = chain
linked_frame (p ∷ ps) v at links ss apart chain =
    let last = last_stands p ps in
    rw last.1 (chain_frame links last.0 v at ss (apart last.0 last.2) chain)

-- After the last of some slots comes what the new link leads to,
relinked_after : (links : List ℕ) (at v s : ℕ) (ps rest rest' : List ℕ) → piece_size ≤ length links → Chain links at (s ∷ (ps ++ rest))
    → Chain links v rest' → ((t : ℕ) → times_in t (s ∷ (ps ++ rest')) ≤ 1) → Chain (links_linked (last_of (s ∷ ps)) v links) at (s ∷ (ps ++ rest'))
unfolding Chain last_of
relinked_after links at v s [] rest rest' fit chain new few =
    let once = times_self s rest' in
    let away : times_in s rest' ≡ 0 = omega (arith, few s) in
    (chain.0, chain.1, rw (get_or-set_same links s v 0 (omega (arith, chain.1))) (chain_frame links s v v rest' away new))
relinked_after links at v s (p ∷ ps) rest rest' fit chain new few =
    let after = relinked_after links (get_or links s 0) v p ps rest rest' fit chain.2 new fewer_behind in
    let once = times_self s ((p ∷ ps) ++ rest') in
    let both = times_append s (p ∷ ps) rest' in
    let away : times_in s (p ∷ ps) ≡ 0 = omega (arith, few s) in
    (chain.0, chain.1, rw (linked_elsewhere (p ∷ ps) v s links away) after)
  where
    fewer_behind : (t : ℕ) → times_in t (p ∷ (ps ++ rest')) ≤ 1
    fewer_behind t =
        elim (ℕ_discrete t s) [
          | yes same ↦
              let once = times_self s (p ∷ (ps ++ rest')) in
              rw same (omega (arith, few s))
          | no different ↦
              let as-often = times_other t s (p ∷ (ps ++ rest')) different in
              omega (arith, few t)
        ]

-- and if there are none of these slots, the head is the new link.
pub relinked : (heads links : List ℕ) (x v : ℕ) (ps rest rest' : List ℕ) → x < length heads → piece_size ≤ length links
    → Chain links (get_or heads x 0) (ps ++ rest) → Chain links v rest' → ((t : ℕ) → times_in t (ps ++ rest') ≤ 1)
    → Chain (links_linked (last_of ps) v links) (get_or (heads_linked (last_of ps) x v heads) x 0) (ps ++ rest')
unfolding last_of
relinked heads links x v [] rest rest' x-fit fit chain new few = rw (get_or-set_same heads x v 0 x-fit) new
relinked heads links x v (s ∷ ps) rest rest' x-fit fit chain new few =
    let last = last_stands s ps in
    let same_head : get_or (heads_linked (last_of (s ∷ ps)) x v heads) x 0 ≡ get_or heads x 0 = rw last.1 refl in
    rw same_head (relinked_after links (get_or heads x 0) v s ps rest rest' fit chain new few)
