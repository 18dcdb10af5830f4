-- What a ping promises of all its calls, by what came and when
use Rattle.std.specs.Prelude.{◌≡◌, ℕ, false, List, [], map, filter, if◌then◌else◌}
use Rattle.nb_retry.specs.declared.plan.Plan.TheVariants.{Common}
use Rattle.nb_retry.specs.Calls.{fires}
use Rattle.nb_retry.specs.Plans.{firings, waits}
use Rattle.nb_terms.specs.declared.acts.Acts.{Acts}
use Rattle.nb_ping.specs.Pings.{Pinged, asks_nothing, asks_end, ping_ok, ping_asks}
use Rattle.nb_ping.specs.PingCalls.{PingCall, echoed, waited, EchoReply, PingEntry, echo_replies, ping_times, ping_said, EachPingEntry, answers_ping, is_answered}

-- What a call asks: an answer ends the ping with Ok, and another reply is ignored. At a time the request is sent
-- again, or given up, only while no answer has come.
abbrev pub PingAsksAt : Pinged → List EchoReply → PingCall → Acts → Type 0
PingAsksAt p before (echoed r now) acts = acts ≡ (if answers_ping p r then asks_end ping_ok else asks_nothing)
PingAsksAt p before (waited now) acts = (acts ≡ ping_asks p (ping_said acts)) × (is_answered p before ≡ false)

abbrev pub PingAsksInTurn : Pinged → List PingEntry → PingEntry → Type 0
PingAsksInTurn p before e = PingAsksAt p (echo_replies before) e.call e.acts

-- the tries stand at the plan's times, over all times since the request was first sent
abbrev pub PingTriesInTime : ℕ → List PingEntry → Type 0
PingTriesInTime start entries =
    filter (λ call. fires call.said) (ping_times entries)
    ≡ firings start (waits Common) (map (λ call. call.at) (ping_times entries))

-- the promises to a ping that was begun so, at a time
pub record PingMeets (p : Pinged) (start : ℕ) (entries : List PingEntry) : Type 0 where
  pub asking : EachPingEntry (PingAsksInTurn p) [] entries
  pub tries : PingTriesInTime start entries
