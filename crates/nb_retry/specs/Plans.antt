-- What a plan promises, as lists of delays and of times.
use Rattle.std.specs.Prelude.{ℕ, ◌+◌, List, [], ◌∷◌, Option, nat_le}
use Rattle.std.specs.List.{find}
use Rattle.std.specs.Option.{option_map_or}
use Rattle.nb_retry.specs.declared.plan.Plan.{Plan}
use Rattle.nb_retry.specs.declared.plan.Plan.TheVariants.{Common, Dhcp, Probe}
use Rattle.nb_retry.specs.declared.retry.Due.{Due}
use Rattle.nb_retry.specs.declared.retry.Due.TheVariants.{Again, Over}

-- the delays of a plan, in milliseconds
abbrev pub delays : Plan → List ℕ
delays Common = 250 ∷ 500 ∷ 1000 ∷ 2000 ∷ 4000 ∷ 8000 ∷ []
delays Dhcp = 1000 ∷ 2000 ∷ 4000 ∷ 8000 ∷ []
delays Probe = 15000 ∷ 15000 ∷ 15000 ∷ 15000 ∷ 15000 ∷ []

-- the try that is made at the start; a probe is first sent one delay later
abbrev pub first_try : Plan → ℕ
first_try Common = 1
first_try Dhcp = 1
first_try Probe = 0

-- a time at which the timer was asked, and what it said
pub record Asked : Type 0 where
  pub at : ℕ
  pub said : Due

abbrev pub asked_at : ℕ → Due → Asked
asked_at at said = record { at = at; said = said }

-- a delay, and what the timer says once it has passed
pub record Wait : Type 0 where
  pub delay : ℕ
  pub says : Due

abbrev pub wait : ℕ → Due → Wait
wait delay says = record { delay = delay; says = says }

-- a plan as what it says after each delay
abbrev pub waits : Plan → List Wait
waits Common = wait 250 (Again 2) ∷ wait 500 (Again 3) ∷ wait 1000 (Again 4) ∷ wait 2000 (Again 5) ∷ wait 4000 (Again 6) ∷ wait 8000 Over ∷ []
waits Dhcp = wait 1000 (Again 2) ∷ wait 2000 (Again 3) ∷ wait 4000 (Again 4) ∷ wait 8000 Over ∷ []
waits Probe = wait 15000 (Again 1) ∷ wait 15000 (Again 2) ∷ wait 15000 (Again 3) ∷ wait 15000 (Again 4) ∷ wait 15000 Over ∷ []

-- the first of the times at or after a moment
abbrev pub first_from : ℕ → List ℕ → Option ℕ
first_from moment times = find (λ time. nat_le moment time) times

-- The firings of a plan whose last firing, or start, was at a moment: each wait ends at the first of
-- all the times at or after that moment and its delay, and the next one counts from there.
abbrev pub firings : ℕ → List Wait → List ℕ → List Asked
firings last [] times = []
firings last (w ∷ ws) times =
    option_map_or (λ time. asked_at time w.says ∷ firings time ws times) (first_from (last + w.delay) times) []
