-- One call of a timer: what it says at a moment, and what it is afterwards.
use Rattle.std.specs.Prelude.{ℕ, ◌+◌, ◌-◌, ◌^◌, Bool, false, Option, Some, None, length, nat_le, nat_lt, slice_index, if◌then◌else◌}
use Rattle.std.specs.Option.{option_map_or}
use Rattle.nb_retry.specs.declared.plan.Plan.{Plan}
use Rattle.nb_retry.specs.declared.retry.Due.{Due}
use Rattle.nb_retry.specs.declared.retry.Due.TheVariants.{Not, Again, Over}
use Rattle.nb_retry.specs.declared.retry.Retry.{Retry}
use Rattle.nb_retry.specs.Plans.{delays, first_try}

-- a moment this much later, where a number of 64 bits is that late
abbrev pub moment_after : ℕ → ℕ → Option ℕ
moment_after now delay = if nat_lt (now + delay) (2 ^ 64) then Some (now + delay) else None

-- the timer that was started at a moment
abbrev pub started : ℕ → Plan → Retry
started now plan = record { since = now; fired = first_try plan; next = moment_after now (slice_index (delays plan) 0); plan = plan }

-- it runs, and its moment is here
abbrev pub is_due : Retry → ℕ → Bool
is_due retry now = option_map_or (λ next. nat_le next now) retry.next false

-- how many delays will have passed once it has fired
abbrev pub passed : Retry → ℕ
passed retry = (retry.fired - first_try retry.plan) + 1

-- a delay is left after the one that it waits for
abbrev pub goes_on : Retry → Bool
goes_on retry = nat_lt (passed retry) (length (delays retry.plan))

-- what it says
abbrev pub due_at : Retry → ℕ → Due
due_at retry now = if is_due retry now then (if goes_on retry then Again (retry.fired + 1) else Over) else Not

-- a timer that fired: its next moment is one delay from now, or it is stopped
abbrev pub fired_at : Retry → ℕ → Retry
fired_at retry now =
    if goes_on retry
    then record retry { fired = retry.fired + 1; next = moment_after now (slice_index (delays retry.plan) (passed retry)) }
    else record retry { next = None }

-- the timer afterwards
abbrev pub after : Retry → ℕ → Retry
after retry now = if is_due retry now then fired_at retry now else retry
