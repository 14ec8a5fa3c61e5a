-- For the private functions alone.
use Rattle.std.specs.Prelude.{ℕ, ◌≡◌, Result, MatchResult}
use Rattle.writer.specs.declared.Why.{Why}
use Rattle.writer.specs.Contract.{code_for}

-- A result that stands for a code and a next place: the place with code 0, or why there is another code.
abbrev pub Judged : ℕ → ℕ → Result ℕ Why → Type 0
Judged code next r = MatchResult r (λ place. (code ≡ 0) × (place ≡ next)) (λ why. code ≡ code_for why)
