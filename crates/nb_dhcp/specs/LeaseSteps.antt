-- One call of a core: what it asks, and what it is afterwards. What this amounts to over all calls is said in
-- Promises.
use Rattle.std.specs.Prelude.{ℕ, ◌==◌, Bool, true, false, List, [], Option, Some, None, if◌then◌else◌}
use Rattle.nb_retry.specs.declared.plan.Plan.TheVariants.{Dhcp}
use Rattle.nb_retry.specs.declared.retry.Due.{Due}
use Rattle.nb_retry.specs.declared.retry.Due.TheVariants.{Not, Again, Over}
use Rattle.nb_retry.specs.Timer.{started, due_at, after}
use Rattle.nb_terms.specs.declared.acts.Acts.{Acts}
use Rattle.nb_dhcp.specs.declared.asker.Asker.{Asker}
use Rattle.nb_dhcp.specs.declared.offer.Offer.{Offer}
use Rattle.nb_dhcp.specs.declared.state.Phase.{Phase}
use Rattle.nb_dhcp.specs.declared.state.Phase.TheVariants.{Selecting, Requesting, Bound, Ended}
use Rattle.nb_dhcp.specs.declared.state.State.{State}
use Rattle.nb_dhcp.specs.Replies.{offer_in, kind_from}
use Rattle.nb_dhcp.specs.History.{Handed}
use Rattle.nb_dhcp.specs.Acting.{no_acts, reply_acts, timer_acts}

-- the offer that is requested
abbrev pub offer_at : Phase → Option Offer
offer_at Selecting = None
offer_at (Requesting offer) = Some offer
offer_at Bound = None
offer_at Ended = None

abbrev pub is_over_at : Phase → Bool
is_over_at Selecting = false
is_over_at (Requesting offer) = false
is_over_at Bound = true
is_over_at Ended = true

-- the acknowledgement that is kept
abbrev pub kept_at : Phase → List ℕ → Option (List ℕ)
kept_at Selecting bytes = None
kept_at (Requesting offer) bytes = None
kept_at Bound bytes = Some bytes
kept_at Ended bytes = None

abbrev pub asking_state : Asker → ℕ → State
asking_state a now = record { asker = a; phase = Selecting; retry = started now Dhcp; ack = record { items = [] } }

-- the state after an offer, and after a message of the server whose offer is requested
abbrev pub after_offered : State → Option Offer → ℕ → State
after_offered s None now = s
after_offered s (Some offer) now = record s { phase = Requesting offer; retry = started now Dhcp }

abbrev pub after_verdict : State → Option ℕ → List ℕ → State
after_verdict s None bytes = s
after_verdict s (Some kind) bytes =
    if kind == 5 then record s { phase = Bound; ack = record { items = bytes } } else (if kind == 6 then record s { phase = Ended } else s)

-- a datagram
abbrev pub after_reply : State → Phase → Handed → ℕ → State
after_reply s Selecting m now = after_offered s (offer_in s.asker m.body) now
after_reply s (Requesting offer) m now = after_verdict s (kind_from s.asker offer.server m.body) m.body
after_reply s Bound m now = s
after_reply s Ended m now = s

abbrev pub acts_on_reply : State → Handed → Acts
acts_on_reply s m = if is_over_at s.phase then no_acts else reply_acts s.asker (offer_at s.phase) m

-- a time
abbrev pub after_said : State → Due → State
after_said s Not = s
after_said s (Again n) = s
after_said s Over = record s { phase = Ended }

abbrev pub after_time : State → ℕ → State
after_time s now = if is_over_at s.phase then s else after_said (record s { retry = after s.retry now }) (due_at s.retry now)

abbrev pub acts_on_time : State → ℕ → Acts
acts_on_time s now = if is_over_at s.phase then no_acts else timer_acts s.asker (offer_at s.phase) (due_at s.retry now)
