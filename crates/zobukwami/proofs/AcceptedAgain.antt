-- Every accepted trace, read and written again where it fits, is the same bytes: each accepted event was found at its place, so the reader reads
-- the accepted part as these events, and what was read is written again as it stood (the part `written_again` of `Wrote`). Assumes nothing.
use Prim.Native.Nat.{ℕ, zero, suc, ◌+◌, ◌-◌, ◌≤◌}
use mathlib.Core.Path.{◌≡◌, sym, ap, subst, ◌∙◌}
use native.Mathlib.Omega.{arith}
use lib.ListN.{take}
use lib.Seq.{take-length}
use Rattle.trace.specs.Numbers.{Bytes}
use Rattle.writer.specs.Contract.{ReadAs}
use Rattle.checker.specs.Events.{place, events}
use Rattle.checker.specs.Call.{Lent, Left}
use Rattle.checker.specs.Contract.{Contract}
use Rattle.checker.proofs.Laws.{starts_at_0, accepted_read, accepted_whole}
use Rattle.zobukwami.specs.AcceptedAgain.{listed, AcceptedAgain}

module _ (l : Lent) (r : Left) (contract : Contract l r) where
  -- the reader reads the accepted events one after the other
  read_as_listed : (n k : ℕ) → k + n ≤ r.answer.events
      → ReadAs l.trace (place l.trace k) (listed (events l.trace) k n) (place l.trace (k + n))
  unfolding ReadAs listed
  read_as_listed zero k inside = let same : k ≡ k + 0 = omega arith in ap (place l.trace) same
  read_as_listed (suc n) k inside =
      let same : suc k + n ≡ k + suc n = omega arith in (
        place l.trace (suc k),
        accepted_read l r contract k (omega arith),
        subst (λ (m : ℕ). ReadAs l.trace (place l.trace (suc k)) (listed (events l.trace) (suc k) n) (place l.trace m)) same
            (read_as_listed n (suc k) (omega arith)),
      )

  pub accepted_again : Bytes l.trace → AcceptedAgain l r
  accepted_again bytes = record {
    again = λ before at inside w after wrote.
        let n = r.answer.events in
        let first : 0 + n ≡ n = omega arith in
        let end : place l.trace (0 + n) ≡ r.answer.offset = ap (place l.trace) first ∙ sym contract.demand1.offset in
        let read : ReadAs l.trace 0 (listed (events l.trace) 0 n) r.answer.offset =
        subst (λ (from : ℕ). ReadAs l.trace from (listed (events l.trace) 0 n) r.answer.offset) (starts_at_0 l.trace)
        (rw (← end) (read_as_listed n 0 (omega arith))) in
        let long : r.answer.offset - 0 ≡ r.answer.offset = omega arith in
        rw long at (wrote.written_again l.trace 0 r.answer.offset bytes read (omega arith));
    whole = λ none. ap (λ (n : ℕ). take n l.trace) (accepted_whole l r contract none) ∙ take-length l.trace;
  }
