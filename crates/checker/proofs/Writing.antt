-- The report is written entry by entry: what is laid out of some races and more is what is laid out of the former, with the latter written after them.
-- By the cases of whether an entry fits. Assumes nothing.
use Prim.Native.Nat.{ℕ, suc, ◌+◌, ◌*◌, ◌≤◌, ◌<◌}
use mathlib.Core.Path.{◌≡◌, refl, sym, ap, ◌∙◌}
use mathlib.Core.List.{List, [], ◌∷◌, ◌++◌}
use native.Mathlib.Omega.{arith}
use native.Mathlib.Decide.{dec_lt}
use lib.ListN.{length, set, drop}
use borrow.Author.Tests.{le-leb, lt-leb}
use Rattle.checker.specs.Report.{Race, numbers, laid}
use Rattle.checker.specs.Steps.{written_at, written}

-- ---- One entry --------------------------------------------------------------------------------------------------------------------------------

-- It fits, or it does not.
pub entry_fits : (n location earlier later : ℕ) (report : List ℕ) → n * 3 + 3 ≤ length report
    → set (set (set report (n * 3) location) (n * 3 + 1) earlier) (n * 3 + 2) later ≡ written_at n location earlier later report
unfolding written_at
entry_fits n location earlier later report h = rw (le-leb (n * 3 + 3) (length report) h) refl

pub no_entry_fits : (n location earlier later : ℕ) (report : List ℕ) → length report < n * 3 + 3 → report ≡ written_at n location earlier later report
unfolding written_at
no_entry_fits n location earlier later report h = rw (lt-leb (n * 3 + 3) (length report) h) refl

-- ---- One after the other ----------------------------------------------------------------------------------------------------------------------

-- Behind an entry that stands there, the rest is written as a report of its own.
after_an_entry : (n a b c location earlier later : ℕ) (rest : List ℕ)
    → written_at (suc n) location earlier later (a ∷ b ∷ c ∷ rest) ≡ a ∷ b ∷ c ∷ written_at n location earlier later rest
after_an_entry n a b c location earlier later rest =
    elim (dec_lt (length rest) (n * 3 + 3)) [
      | yes short ↦
          sym (no_entry_fits (suc n) location earlier later (a ∷ b ∷ c ∷ rest) (omega arith))
          ∙ ap (λ (l : List ℕ). a ∷ b ∷ c ∷ l) (no_entry_fits n location earlier later rest short)
      | no long ↦
          sym (entry_fits (suc n) location earlier later (a ∷ b ∷ c ∷ rest) (omega arith))
          ∙ further (suc n * 3) (suc n * 3 + 1) (suc n * 3 + 2) (n * 3) (n * 3 + 1) (n * 3 + 2) (omega arith) (omega arith) (omega arith)
          ∙ ap (λ (l : List ℕ). a ∷ b ∷ c ∷ l) (entry_fits n location earlier later rest (omega arith))
    ]
  where
    further : (x y z x' y' z' : ℕ) → x ≡ suc (suc (suc x')) → y ≡ suc (suc (suc y')) → z ≡ suc (suc (suc z'))
        → set (set (set (a ∷ b ∷ c ∷ rest) x location) y earlier) z later ≡ a ∷ b ∷ c ∷ set (set (set rest x' location) y' earlier) z' later
    further x y z x' y' z' p q r = rw (p, q, r) refl

after_a_race : (n a b c : ℕ) (more : List Race) (rest : List ℕ) → written (suc n) more (a ∷ b ∷ c ∷ rest) ≡ a ∷ b ∷ c ∷ written n more rest
unfolding written
after_a_race n a b c [] rest = refl
after_a_race n a b c (r ∷ more) rest =
    ap (written (suc (suc n)) more) (after_an_entry n a b c r.location r.earlier.event.0 r.later.event.0 rest)
    ∙ after_a_race (suc n) a b c more (written_at n r.location r.earlier.event.0 r.later.event.0 rest)

-- Where an entry does not fit, none after it does.
none_fits : (n : ℕ) (more : List Race) (report : List ℕ) → length report < n * 3 + 3 → written n more report ≡ report
unfolding written
none_fits n [] report h = refl
none_fits n (r ∷ more) report h =
    ap (written (suc n) more) (sym (no_entry_fits n r.location r.earlier.event.0 r.later.event.0 report h))
    ∙ none_fits (suc n) more report (omega arith)

-- Races laid out are races written, none before them,
laid_is_written : (more : List Race) (report : List ℕ) → laid more report ≡ written 0 more report
unfolding laid written
laid_is_written [] report = refl
laid_is_written (r ∷ more) [] = sym (none_fits 0 (r ∷ more) [] (omega arith))
laid_is_written (r ∷ more) (a ∷ []) = sym (none_fits 0 (r ∷ more) (a ∷ []) (omega arith))
laid_is_written (r ∷ more) (a ∷ b ∷ []) = sym (none_fits 0 (r ∷ more) (a ∷ b ∷ []) (omega arith))
laid_is_written (r ∷ more) (a ∷ b ∷ c ∷ rest) =
    rw (le-leb 3 (length (a ∷ b ∷ c ∷ rest)) (omega arith))
    (ap (λ (l : List ℕ). numbers r ++ l) (laid_is_written more rest)
    ∙ sym (after_a_race 0 r.location r.earlier.event.0 r.later.event.0 more rest)
    ∙ ap (written 1 more) (entry_fits 0 r.location r.earlier.event.0 r.later.event.0 (a ∷ b ∷ c ∷ rest) (omega arith)))

-- or after the races laid out before.
pub laid_then_written : (races more : List Race) (report : List ℕ) → laid (races ++ more) report ≡ written (length races) more (laid races report)
unfolding laid
laid_then_written [] more report = laid_is_written more report
laid_then_written (r ∷ races) more report =
    elim (dec_lt (length report) 3) [
      | yes short ↦ rw (lt-leb 3 (length report) short) (sym (none_fits (suc (length races)) more report (omega arith)))
      | no long ↦
          rw (le-leb 3 (length report) (omega arith))
          (ap (λ (l : List ℕ). numbers r ++ l) (laid_then_written races more (drop 3 report))
          ∙ sym (after_a_race (length races) r.location r.earlier.event.0 r.later.event.0 more (laid races (drop 3 report))))
    ]

-- Whatever is laid out, the report is as long as before.
pub laid-length : (races : List Race) (report : List ℕ) → length (laid races report) ≡ length report
unfolding laid
laid-length [] report = refl
laid-length (r ∷ races) [] = refl
laid-length (r ∷ races) (a ∷ []) = refl
laid-length (r ∷ races) (a ∷ b ∷ []) = refl
laid-length (r ∷ races) (a ∷ b ∷ c ∷ rest) =
    rw (le-leb 3 (length (a ∷ b ∷ c ∷ rest)) (omega arith))
    (ap (λ (n : ℕ). suc (suc (suc n))) (laid-length races rest))
