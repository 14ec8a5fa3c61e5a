-- What an access promises of the pieces leaves no choice: the layout says what every head and every used link is, since each used slot stands in one of
-- its lists; what lies past them is kept; and the other pieces are stated outright. Assumes nothing.
use Prim.Native.Nat.{ℕ, ◌+◌, ◌-◌, ◌<◌}
use mathlib.Core.Path.{◌≡◌, sym, ap, ◌∙◌}
use mathlib.Core.List.{List}
use native.Mathlib.Decide.{dec_lt}
use native.Mathlib.Omega.{arith}
use lib.ListN.{length, get_or, drop}
use lib.Seq.{ext_get_or, get_or-drop}
use borrow.Author.Tests.{lt-ltb}
use Rattle.bags.specs.Bags.{Bags}
use Rattle.kept.specs.declared.Entry.{Entry}
use Rattle.kept.specs.declared.Slots.{Slots}
use Rattle.kept.specs.declared.Visited.{Visited}
use Rattle.kept.specs.declared.NotKept.{NotKept}
use Rattle.std.specs.Prelude.{Result, Ok, Err}
use Rattle.kept.specs.Lists.{sum_below}
use Rattle.kept.specs.Pieces.{Pieces, pieces, piece_size, slots_of, times_in, LaidOut, RestKept}
use Rattle.kept.specs.Access.{place_at, slots_here, freed_after, slots_after, Accepted, AfterAccess}
use Rattle.kept.proofs.Sums.{sum_some}
use Rattle.kept.proofs.Chains.{chain_link, chain_determines}

-- Pieces are the same if each is.
pub same_pieces : {heads heads' links links' events events' procedures procedures' sets sets' : List ℕ} → heads ≡ heads' → links ≡ links'
    → events ≡ events' → procedures ≡ procedures' → sets ≡ sets' → pieces heads links events procedures sets ≡ pieces heads' links' events' procedures' sets'
same_pieces p q r s t = simp (p, q, r, s, t)

-- Two pieces that agree below n, and keep the same from n on, are the same.
same_below_and_past : (n : ℕ) (before l l' : List ℕ) → RestKept n before l → RestKept n before l'
    → ((i : ℕ) → i < n → get_or l i 0 ≡ get_or l' i 0) → l ≡ l'
same_below_and_past n before l l' kept kept' below = ext_get_or 0 l l' (kept.same_length ∙ sym kept'.same_length) same
  where
    same : (i : ℕ) → i < length l → get_or l i 0 ≡ get_or l' i 0
    same i h =
        elim (dec_lt i n) [
          | yes low ↦ below i low
          | no high ↦
              let place : n + (i - n) ≡ i = omega arith in
              let past : drop n l ≡ drop n l' = kept.same_rest ∙ sym kept'.same_rest in
              rw (← place) (sym (get_or-drop n l (i - n) 0) ∙ ap (λ (r : List ℕ). get_or r (i - n) 0) past ∙ get_or-drop n l' (i - n) 0)
        ]

-- The layout, and what lies past it, determine heads and links.
module _ (heads links heads' links' : List ℕ) (slots : Slots) (lists : ℕ → List ℕ) (freed : List ℕ)
    (laid : LaidOut heads links slots lists freed) (laid' : LaidOut heads' links' slots lists freed) where
  same_head : (y : ℕ) → y < piece_size → get_or heads y 0 ≡ get_or heads' y 0
  same_head y h =
      chain_link links (get_or heads y 0) (lists y) (laid.chains y h) ∙ sym (chain_link links' (get_or heads' y 0) (lists y) (laid'.chains y h))

  same_link : (s : ℕ) → s < slots.used → get_or links s 0 ≡ get_or links' s 0
  same_link s h =
      elim (dec_lt 0 (times_in s freed)) [
        | yes stands ↦ chain_determines links links' slots.freed slots.freed freed s laid.freed_chain laid'.freed_chain stands
        | no not-freed ↦
            let one : sum_below piece_size (λ y. times_in s (lists y)) + times_in s freed ≡ 1 = rw (lt-ltb s slots.used h) at (laid.once s) in
            let found = sum_some piece_size (λ y. times_in s (lists y)) (omega arith) in
            let y = found.0 in
            chain_determines links links' (get_or heads y 0) (get_or heads' y 0) (lists y) s (laid.chains y found.1)
            (laid'.chains y found.1) found.2
      ]

module _ (bs : List Bags) (x : ℕ) (e : Entry) (p : Pieces) (slots : Slots) (p' p'' : Pieces) where
  accepted_determines : Accepted bs x e p slots p' → Accepted bs x e p slots p'' → p' ≡ p''
  accepted_determines a b =
      let lists = place_at x (slots_here bs x e p slots) (slots_of p.heads p.links) in
      let freed = freed_after bs x e p slots in
      let slots' = slots_after bs x e p slots in
      let heads-same : p'.heads ≡ p''.heads =
      same_below_and_past piece_size p.heads p'.heads p''.heads a.heads_rest b.heads_rest
      (same_head p'.heads p'.links p''.heads p''.links slots' lists freed a.laid_out b.laid_out) in
      let links-same : p'.links ≡ p''.links =
      same_below_and_past slots'.used p.links p'.links p''.links a.links_rest b.links_rest
      (same_link p'.heads p'.links p''.heads p''.links slots' lists freed a.laid_out b.laid_out) in
      same_pieces heads-same links-same (a.events ∙ sym b.events) (a.procedures ∙ sym b.procedures) (a.sets ∙ sym b.sets)

  -- No two ways to leave the pieces and the slots go with one result.
  pub access_determines : (slots' slots'' : Slots) (r : Result Visited NotKept) → AfterAccess bs x e p slots p' slots' r
      → AfterAccess bs x e p slots p'' slots'' r → (p' ≡ p'') × (slots' ≡ slots'')
  access_determines slots' slots'' (Ok visited) a b = (accepted_determines a.1 b.1, a.0 ∙ sym b.0)
  access_determines slots' slots'' (Err why) a b = (a.0 ∙ sym b.0, a.1 ∙ sym b.1)
