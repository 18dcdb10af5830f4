-- What the steps of a look-up come to
use Rattle.std.specs.Prelude.{◌≡◌, ◌+◌, ℕ, false, true, List, [], ◌∷◌, length, Option, Some, None, if◌then◌else◌}
use Rattle.std.specs.Option.{option_map_or}
use Rattle.arrayvec.specs.ArrayVec.{ArrayVec}
use Rattle.nb_retry.specs.declared.retry.Due.{Due}
use Rattle.nb_retry.specs.declared.retry.Due.TheVariants.{Not, Again, Over}
use Rattle.nb_retry.specs.Timer.{due_at, after}
use Rattle.nb_terms.specs.declared.acts.Acts.{Acts}
use Rattle.nb_dnsmsg.specs.declared.answer.Answer.{Answer}
use Rattle.nb_dnsmsg.specs.Names.{name_text}
use Rattle.nb_dns.specs.declared.state.State.{State}
use Rattle.nb_dns.specs.declared.state.LookupPhase.{LookupPhase}
use Rattle.nb_dns.specs.declared.state.LookupPhase.TheVariants.{Found, Failed}
use Rattle.nb_dns.specs.declared.written.Cut.{Cut}
use Rattle.nb_dns.specs.declared.written.Cut.TheVariants as cut
use Rattle.nb_dns.specs.WrittenNames.{labels_at_dots, name_labels, IsLookupName}
use Rattle.nb_dns.specs.Lookups.{to_port_53, asks_lookup_nothing, asks_lookup_try, asks_lookup_end, lookup_timed_out, lookup_cause, address_given}
use Rattle.nb_dns.specs.LookupCalls.{DnsDatagram, IsReplyTo, IsNoReply}
use Rattle.nb_dns.specs.LookupStands.{lookup_has_ended, lookup_of}

abbrev pub IsCutAt : Cut → List ℕ → Type 0
IsCutAt (cut.Label l more) text = (labels_at_dots text ≡ l.now ∷ labels_at_dots more.now) × (length text ≡ length l.now + (1 + length more.now))
IsCutAt (cut.Last l) text = (labels_at_dots text ≡ l.now ∷ []) × (length text ≡ length l.now)

abbrev pub IsWireName : Option (ArrayVec ℕ) → List ℕ → Type 0
IsWireName None text = IsLookupName text → ⊥
IsWireName (Some name) text = IsLookupName text × (name.items ≡ name_text (name_labels text))

abbrev pub phase_with : Answer → LookupPhase
phase_with a = option_map_or (λ address. Found address) (address_given a) Failed

-- a datagram
pub data IsDatagramStep (a b : State) (m : DnsDatagram) (acts : Acts) : Type 0 where
  after_end : lookup_has_ended a.phase ≡ true → b ≡ a → acts ≡ asks_lookup_nothing → IsDatagramStep a b m acts
  no_reply : IsNoReply (lookup_of a) m → b ≡ a → acts ≡ asks_lookup_nothing → IsDatagramStep a b m acts
  reply : (x : Answer) → lookup_has_ended a.phase ≡ false → IsReplyTo (lookup_of a) m x → b ≡ record a { phase = phase_with x } → acts ≡ asks_lookup_end (lookup_cause m.rec x) → IsDatagramStep a b m acts

-- what the timer's answer asks
abbrev pub lookup_due : State → Due → Acts
lookup_due s Not = asks_lookup_nothing
lookup_due s (Again n) = asks_lookup_try (to_port_53 s.server s.own_port s.query.items) n
lookup_due s Over = asks_lookup_end lookup_timed_out

abbrev pub after_saying : State → Due → State
after_saying s Not = s
after_saying s (Again n) = s
after_saying s Over = record s { phase = Failed }

-- a time
abbrev pub clock_acts : State → ℕ → Acts
clock_acts s now = if lookup_has_ended s.phase then asks_lookup_nothing else lookup_due s (due_at s.retry now)

abbrev pub after_clock : State → ℕ → State
after_clock s now = if lookup_has_ended s.phase then s else after_saying (record s { retry = after s.retry now }) (due_at s.retry now)
