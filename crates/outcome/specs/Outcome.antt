-- A contract leaves no choice.
use Rattle.std.specs.Prelude.{◌≡◌}

-- `contract` is what a function's `ensures` says of the lifetimes it is called at, its arguments, its result, and its parameters at exit: of each
-- function the toolchain reads it off the source, as `Reads.Post`. No two results satisfy it for the same arguments.
abbrev pub OneResult :
    {Lifetimes : Type 0} {Arguments Result Exit : Lifetimes → Type 0} → ((κ : Lifetimes) → Arguments κ → Result κ → Exit κ → Type 0) → Type 0
OneResult {Lifetimes} {Arguments} {Result} {Exit} contract =
    (κ : Lifetimes) (a : Arguments κ) (x y : Result κ) (s s' : Exit κ) → contract κ a x s → contract κ a y s' → x ≡ y

-- The same of the numbers that are lent: `left` reads them off the parameters at exit.
abbrev pub OneLeft :
    {Lifetimes : Type 0} {Arguments Result Exit : Lifetimes → Type 0} {Numbers : Type 0}
    → ((κ : Lifetimes) → Arguments κ → Result κ → Exit κ → Type 0) → ((κ : Lifetimes) → Exit κ → Numbers) → Type 0
OneLeft {Lifetimes} {Arguments} {Result} {Exit} contract left =
    (κ : Lifetimes) (a : Arguments κ) (x y : Result κ) (s s' : Exit κ) → contract κ a x s → contract κ a y s' → left κ s ≡ left κ s'

-- And of what a result leads to: `given` reads it off the result.
abbrev pub OneGiven :
    {Lifetimes : Type 0} {Arguments Result Exit : Lifetimes → Type 0} {Numbers : Type 0}
    → ((κ : Lifetimes) → Arguments κ → Result κ → Exit κ → Type 0) → ((κ : Lifetimes) → Result κ → Numbers) → Type 0
OneGiven {Lifetimes} {Arguments} {Result} {Exit} contract given =
    (κ : Lifetimes) (a : Arguments κ) (x y : Result κ) (s s' : Exit κ) → contract κ a x s → contract κ a y s' → given κ x ≡ given κ y
