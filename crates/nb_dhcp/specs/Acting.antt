-- What a core asks of its caller
use Rattle.std.specs.Prelude.{◌≡◌, ◌≤◌, ℕ, ◌==◌, false, List, [], ◌∷◌, length, Option, Some, None, if◌then◌else◌}
use Rattle.std.specs.List.{AllByRecursion}
use Rattle.std.specs.Option.{option_map_or}
use Rattle.nb_terms.specs.declared.acts.Acts.{Acts}
use Rattle.nb_terms.specs.declared.acts.SendTo.{SendTo}
use Rattle.nb_terms.specs.declared.cause.Cause.{Cause}
use Rattle.nb_terms.specs.declared.reason.Plain.TheVariants as plain
use Rattle.nb_terms.specs.declared.reason.Reason.TheVariants as reason
use Rattle.nb_terms.specs.Reasons.{as_cause}
use Rattle.nb_retry.specs.declared.retry.Due.{Due}
use Rattle.nb_retry.specs.declared.retry.Due.TheVariants.{Not, Again, Over}
use Rattle.nb_dhcp.specs.declared.asker.Asker.{Asker}
use Rattle.nb_dhcp.specs.declared.offer.Offer.{Offer}
use Rattle.nb_dhcp.specs.Messages.{message_text}
use Rattle.nb_dhcp.specs.Replies.{offer_in, kind_from}
use Rattle.nb_dhcp.specs.History.{Handed}

-- the server has acknowledged
abbrev pub lease_ok : Cause
lease_ok = as_cause (reason.Plain plain.Ok)

-- the message in a record refuses: the code is the kind of a NAK
abbrev pub lease_refused : ℕ → Cause
lease_refused rec = as_cause (reason.Refused rec 6)

-- four tries had no answer
abbrev pub lease_timed_out : Cause
lease_timed_out = as_cause (reason.TimedOut 4)

-- by UDP, from port 68 to port 67 of all hosts
abbrev pub to_servers : List ℕ → SendTo
to_servers body = record { proto = 17; to = record { 0 = 4294967295 }; to_port = 67; own_port = 68; body = record { items = body } }

abbrev pub no_acts : Acts
no_acts = record { sends = record { items = [] }; tried = None; advance = None; give = None; ready = false; over = None }

-- a call asks for at most one message, by UDP (protocol 17), and gives no bytes up
pub record AsksSimply (acts : Acts) : Type 0 where
  pub few : length acts.sends.items ≤ 1
  pub udp : AllByRecursion (λ send. send.proto ≡ 17) acts.sends.items
  pub gives : acts.give ≡ None

-- a DISCOVER or a REQUEST is sent, as this try
abbrev pub lease_asking : Asker → Option Offer → ℕ → Acts
lease_asking a offer try =
    record { sends = record { items = to_servers (message_text a offer) ∷ [] }; tried = Some try; advance = None; give = None; ready = false; over = None }

abbrev pub lease_ending : Cause → Acts
lease_ending cause = record { sends = record { items = [] }; tried = None; advance = None; give = None; ready = false; over = Some cause }

-- what a message of the server asks whose offer is requested
abbrev pub verdict_acts : ℕ → Option ℕ → Acts
verdict_acts rec None = no_acts
verdict_acts rec (Some kind) = if kind == 5 then lease_ending lease_ok else (if kind == 6 then lease_ending (lease_refused rec) else no_acts)

-- what a datagram asks: a valid offer is requested, and then its server is listened to
abbrev pub reply_acts : Asker → Option Offer → Handed → Acts
reply_acts a None m = option_map_or (λ offer. lease_asking a (Some offer) 1) (offer_in a m.body) no_acts
reply_acts a (Some offer) m = verdict_acts m.rec (kind_from a offer.server m.body)

-- what the timer's answer asks: the last message again, or the end
abbrev pub timer_acts : Asker → Option Offer → Due → Acts
timer_acts a offer Not = no_acts
timer_acts a offer (Again n) = lease_asking a offer n
timer_acts a offer Over = lease_ending lease_timed_out
