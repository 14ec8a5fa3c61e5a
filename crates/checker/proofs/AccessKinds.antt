-- Which kinds are accesses: an access spawns, returns, syncs, locks and unlocks nothing; and which are lawful with a lock held. By the rows of the
-- table. Assumes nothing.
use Prim.Native.Nat.{ℕ, zero, suc, ◌<◌}
use mathlib.Core.Path.{◌≡◌, refl, sym, ap, ◌∙◌}
use mathlib.Core.Logic.{◌≢◌}
use mathlib.Core.Bool.{Bool, true, false, not, ◌&&◌, ◌||◌, true≢false}
use native.Mathlib.Omega.{arith}
use lib.Dec.{eqb}
use borrow.Author.Tests.{eqb-true, ne_eqb, not-true, not-false}
use Rattle.std.specs.Prelude.{Ok}
use Rattle.trace.specs.declared.Event.{Event}
use Rattle.trace.specs.declared.Kind.{Kind}
use Rattle.trace.specs.declared.Kind.TheVariants.{Lock, Unlock}
use Rattle.trace.specs.Kinds.{is_spawn, is_locking, is_unlocking, kind_named, entry, lawful_holding, is_access}
use Rattle.trace.proofs.Laws.{named_other}
use Rattle.bags.specs.Parallel.{return, other}
use Rattle.checker.specs.Events.{act_of, held_after}

-- An event of a kind whose row says no access is no_access.
not_of_kind : (e : Event) (kind : ℕ) → is_access (record { kind = kind; operand = 0 }) ≡ false → is_access e ≡ true → eqb e.kind kind ≡ false
unfolding entry
not_of_kind e kind row access = by_test (eqb e.kind kind) refl
  where
    by_test : (b : Bool) → eqb e.kind kind ≡ b → b ≡ false
    by_test true is =
        absurd (true≢false (sym access ∙ ap (λ (m : ℕ). is_access (record { kind = m; operand = 0 })) (eqb-true e.kind kind is) ∙ row))
    by_test false is = refl

-- An event that is no access is of no kind whose row says access.
pub kind_is_access_not : (e : Event) (kind : ℕ) → is_access (record { kind = kind; operand = 0 }) ≡ true → is_access e ≡ false → e.kind ≢ kind
unfolding entry
kind_is_access_not e kind row no_access is =
    true≢false (sym row ∙ ap (λ (m : ℕ). is_access (record { kind = m; operand = 0 })) (sym is) ∙ no_access)

-- So an access spawns, locks and unlocks nothing, the bags do not know it, and it leaves the locks held.
pub access_spawns_not : (e : Event) → is_access e ≡ true → is_spawn e ≡ false
unfolding entry
access_spawns_not e = not_of_kind e 0 refl

pub access_locks_not : (e : Event) → is_access e ≡ true → is_locking e ≡ false
unfolding entry
access_locks_not e = not_of_kind e 3 refl

pub access_unlocks_not : (e : Event) → is_access e ≡ true → is_unlocking e ≡ false
unfolding entry
access_unlocks_not e = not_of_kind e 4 refl

pub access_acts_not : (e : Event) → is_access e ≡ true → act_of e ≡ other
unfolding entry act_of
access_acts_not e access = rw (not_of_kind e 0 refl access, not_of_kind e 1 refl access, not_of_kind e 2 refl access) refl

pub access_holds_the_same : (e : Event) (set : ℕ) → is_access e ≡ true → held_after e set ≡ set
unfolding held_after
access_holds_the_same e set access = rw (access_locks_not e access, access_unlocks_not e access) refl

pub access_is_no_return : (e : Event) → is_access e ≡ true → act_of e ≢ return
access_is_no_return e access returns = cc (access_acts_not e access)

-- Lawful with a lock held are a lock, an unlock and an access.
pub lawful_kinds : (e : Event) → lawful_holding e ≡ (is_locking e || (is_unlocking e || is_access e))
unfolding entry
lawful_kinds e = by_row e.kind
  where
    of : ℕ → Event
    of kind = record { kind = kind; operand = 0 }

    past : (kind : ℕ) → 7 < kind → (is_locking (of kind) || (is_unlocking (of kind) || false)) ≡ false
    past kind high = rw (ne_eqb kind 3 (omega arith), ne_eqb kind 4 (omega arith)) refl

    by_row : (kind : ℕ) → lawful_holding (of kind) ≡ (is_locking (of kind) || (is_unlocking (of kind) || is_access (of kind)))
    by_row zero = refl
    by_row (suc zero) = refl
    by_row (suc (suc zero)) = refl
    by_row (suc (suc (suc zero))) = refl
    by_row (suc (suc (suc (suc zero)))) = refl
    by_row (suc (suc (suc (suc (suc zero))))) = refl
    by_row (suc (suc (suc (suc (suc (suc zero)))))) = refl
    by_row (suc (suc (suc (suc (suc (suc (suc zero))))))) = refl
    by_row (suc (suc (suc (suc (suc (suc (suc (suc m)))))))) = sym (past (suc (suc (suc (suc (suc (suc (suc (suc m)))))))) (omega arith))

-- So an event that is none of these is not; and then the table and the set of locks held tell whether a lock is held.
pub none_held : (e : Event) {kind : Kind} {l b empty : Bool} → kind_named e.kind ≡ Ok kind → (kind ≡ Lock → ⊥) → (kind ≡ Unlock → ⊥)
    → is_access e ≡ false → l ≡ lawful_holding e → b ≡ empty → (not l && not b) ≡ false → empty ≡ true
none_held e {b = b} is not_lock not_unlock no_access p q tested =
    let not-3 = ne_eqb _ _ (named_other _ _ Lock is not_lock) in
    let not-4 = ne_eqb _ _ (named_other _ _ Unlock is not_unlock) in
    let unlawful : lawful_holding e ≡ false = lawful_kinds e ∙ rw (not-3, not-4, no_access) refl in
    sym q ∙ not-false b (rw (p ∙ unlawful) at tested)

pub some_held : (l : Bool) {b empty : Bool} → b ≡ empty → (not l && not b) ≡ true → empty ≡ false
some_held false {b} q tested = sym q ∙ not-true b tested
some_held true q tested = absurd (true≢false (sym tested))
