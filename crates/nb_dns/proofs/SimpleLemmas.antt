-- What a call of a look-up asks, whatever came before it.
use Rattle.std.proofs.Common.{ℕ, Bool, true, false, cond, refl, sym, subst, lit≤}
use Rattle.nb_retry.specs.declared.retry.Due.{Due}
use Rattle.nb_retry.specs.declared.retry.Due.TheVariants.{Not, Again, Over}
use Rattle.nb_retry.specs.Timer.{due_at}
use Rattle.nb_terms.specs.declared.acts.Acts.{Acts}
use Rattle.nb_dns.specs.declared.state.State.{State}
use Rattle.nb_dns.specs.Lookups.{asks_lookup_nothing, AsksOneQuery}
use Rattle.nb_dns.specs.LookupCalls.{DnsDatagram}
use Rattle.nb_dns.specs.LookupStands.{lookup_has_ended}
use Rattle.nb_dns.specs.Steps.{IsDatagramStep, after_end, no_reply, reply, lookup_due, clock_acts}

nothing_simple : AsksOneQuery asks_lookup_nothing
nothing_simple = record { few = lit≤ tt; udp = tt; gives = refl }

pub datagram_simple : (a b : State) (m : DnsDatagram) (acts : Acts) → IsDatagramStep a b m acts → AsksOneQuery acts
datagram_simple a b m acts (after_end over same nothing) = subst (λ (x : Acts). AsksOneQuery x) (sym nothing) nothing_simple
datagram_simple a b m acts (no_reply none same nothing) = subst (λ (x : Acts). AsksOneQuery x) (sym nothing) nothing_simple
datagram_simple a b m acts (reply x running is same ends) = subst (λ (x : Acts). AsksOneQuery x) (sym ends) (record { few = lit≤ tt; udp = tt; gives = refl })

due_simple : (s : State) (due : Due) → AsksOneQuery (lookup_due s due)
due_simple s Not = nothing_simple
due_simple s (Again n) = record { few = lit≤ tt; udp = (refl, tt); gives = refl }
due_simple s Over = record { few = lit≤ tt; udp = tt; gives = refl }

pub clock_simple : (s : State) (now : ℕ) → AsksOneQuery (clock_acts s now)
clock_simple s now = by (lookup_has_ended s.phase)
  where
    by : (b : Bool) → AsksOneQuery (cond b asks_lookup_nothing (lookup_due s (due_at s.retry now)))
    by true = nothing_simple
    by false = due_simple s (due_at s.retry now)
