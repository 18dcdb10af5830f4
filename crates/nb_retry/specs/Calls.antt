-- All the calls of a timer since its start.
use Rattle.std.specs.Prelude.{◌≡◌, ◌^◌, ◌<◌, Bool, true, false, List, [], ◌∷◌, map, filter}
use Rattle.nb_retry.specs.declared.retry.Due.{Due}
use Rattle.nb_retry.specs.declared.retry.Due.TheVariants.{Not, Again, Over}
use Rattle.nb_retry.specs.declared.retry.Retry.{Retry}
use Rattle.nb_retry.specs.Plans.{Asked, firings, waits}
use Rattle.nb_retry.specs.Timer.{started, due_at, after}

-- a timer that is asked at these times says this each time, and is another one in the end
abbrev pub TimerSays : Retry → List Asked → Retry → Type 0
TimerSays old [] new = new ≡ old
TimerSays old (call ∷ calls) new = (call.at < 2 ^ 64) × (call.said ≡ due_at old call.at) × TimerSays (after old call.at) calls new

-- the timer stands for these calls since its start
abbrev pub TimerStands : Retry → List Asked → Type 0
TimerStands retry calls = TimerSays (started retry.since retry.plan) calls retry

-- an answer that asks for something
abbrev pub fires : Due → Bool
fires Not = false
fires (Again n) = true
fires Over = true

-- The calls at which it fired are the plan's firings, over all the times at which it was asked.
abbrev pub FollowsPlan : Retry → List Asked → Type 0
FollowsPlan retry calls = filter (λ call. fires call.said) calls ≡ firings retry.since (waits retry.plan) (map (λ call. call.at) calls)
