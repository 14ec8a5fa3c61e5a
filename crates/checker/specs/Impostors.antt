-- Programs that would fool a weaker contract, and the demand that each breaks, whatever else it does.
use Rattle.std.specs.Prelude.{ℕ, ◌≤◌, ◌≡◌, ◌≢◌, List, [], ◌∷◌}
use Rattle.kept.specs.Theorem.{visited}
use Rattle.checker.specs.Events.{events, run, visits}
use Rattle.checker.specs.Rules.{stop}
use Rattle.checker.specs.Call.{Lent, Left, outcome}
use Rattle.checker.specs.Demands.{Demand1, Demand2, Demand3}
use Rattle.checker.specs.Contract.{Contract}

-- A program gives and leaves something, whatever it is lent.
abbrev pub Program : Type 0
Program = Lent → Left

module _ (f : Program) where
  -- One that refuses every trace, with whatever codes.
  abbrev pub RefusesEveryTrace : Type 0
  RefusesEveryTrace = (l : Lent) → (f l).answer.code ≢ 0

  -- One that always says that there are no races.
  abbrev pub AlwaysNoRaces : Type 0
  AlwaysNoRaces = (l : Lent) → (f l).answer.races ≡ 0

  -- One that writes nothing to the report, whatever it counts.
  abbrev pub WritesNothing : Type 0
  WritesNothing = (l : Lent) → (f l).report ≡ l.report

  -- One that compares honestly until it has found a race, and waves the rest through: it never counts more than one.
  abbrev pub HonestOnce : Type 0
  HonestOnce = (l : Lent) → (f l).answer.races ≤ 1

  -- One that invents its visit total: the same for every trace; or, be it on a single call, another than the sum of the visits.
  abbrev pub SameTotal : Type 0
  SameTotal = (total : ℕ) × ((l : Lent) → (f l).answer.visits ≡ total)

  abbrev pub WrongTotal : Type 0
  WrongTotal = (l : Lent) × ((f l).answer.visits ≢ visits (events l.trace) (f l).answer.events)

  pub data Impostor : Type 0 where
    refuses_every_trace : RefusesEveryTrace → Impostor
    always_no_races : AlwaysNoRaces → Impostor
    writes_nothing : WritesNothing → Impostor
    honest_once : HonestOnce → Impostor
    same_total : SameTotal → Impostor
    wrong_total : WrongTotal → Impostor

  -- It meets the contract, or one of the demands as the contract words it, on everything that it may be lent.
  abbrev pub MeetsContract : Type 0
  MeetsContract = (l : Lent) → Contract l (f l)

  abbrev pub MeetsDemand1 : Type 0
  MeetsDemand1 = (l : Lent) → Demand1 l (f l)

  abbrev pub MeetsDemand2 : Type 0
  MeetsDemand2 = (l : Lent) → Demand2 (events l.trace) (f l).answer.events l.report (f l).answer.races (f l).report

  abbrev pub MeetsDemand3 : Type 0
  MeetsDemand3 = (l : Lent) → Demand3 (events l.trace) (f l).answer.events (visited (run (events l.trace))) (f l).answer.visits

  -- Demands 2 and 3 speak of the accepted part alone, and demand 1 says how far that goes. So that demand 2 or 3 is what breaks, the impostor counts the
  -- accepted events rightly.
  abbrev pub CountsEvents : Type 0
  CountsEvents = (l : Lent) → (f l).answer.events ≡ (outcome l).answer.events

-- A spawned write, its return, and two writes of the parent, both of which race with it; then main returns.
abbrev pub two_races : List ℕ
two_races = 0x00 ∷ 0x06 ∷ 0x01 ∷ 0x06 ∷ 0x06 ∷ 0x01 ∷ []

pub record ImpostorsRefuted : Type 0 where
  -- By which demand each is caught.
  pub refusing_breaks_1 : (f : Program) → RefusesEveryTrace f → MeetsDemand1 f → ⊥
  pub no_races_breaks_2 : (f : Program) → AlwaysNoRaces f → CountsEvents f → MeetsDemand2 f → ⊥
  pub no_writing_breaks_2 : (f : Program) → WritesNothing f → CountsEvents f → MeetsDemand2 f → ⊥
  pub honest_once_breaks_2 : (f : Program) → HonestOnce f → CountsEvents f → MeetsDemand2 f → ⊥
  pub same_total_breaks_3 : (f : Program) → SameTotal f → CountsEvents f → MeetsDemand3 f → ⊥
  pub wrong_total_breaks_3 : (f : Program) → WrongTotal f → MeetsDemand3 f → ⊥
  -- Demand 3 is stated over the race definition: a list that is always empty is short, but breaks it, whatever the total.
  pub empty_list_breaks_3 : (total : ℕ) → Demand3 (events two_races) (stop two_races) (λ k. []) total → ⊥
  -- So none of them meets the contract.
  pub none_meets_the_contract : (f : Program) → Impostor f → MeetsContract f → ⊥
