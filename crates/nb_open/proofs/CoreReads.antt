-- What came to an open of one core is what its core received.
use Rattle.std.proofs.Common.{◌≡◌, ℕ, List, [], ◌++◌, refl, sym, ◌∙◌, ap, append-nil, flat_map}
use Rattle.std.proofs.lemmas.List.Concat.{flat_map-append}
use Rattle.nb_terms.specs.declared.acts.Acts.{Acts}
use Rattle.nb_terms.specs.declared.cause.Cause.{Cause}
use Rattle.nb_dns.specs.LookupCalls.{LookupEntry, datagrams, lookup_datagrams}
use Rattle.nb_dhcp.specs.History.{LeaseEntry, all_handed, handed_by}
use Rattle.nb_nodes.specs.LookupExchanges.{lookup_service}
use Rattle.nb_nodes.specs.LeaseExchanges.{lease_service}
use Rattle.nb_nodes.specs.Exchanges.{Service}
use Rattle.nb_command.specs.SettingAddresses.{host}
use Rattle.nb_machine.specs.Saying.{datagram_from}
use Rattle.nb_machine.specs.Lives.{OpenInput, message, time, close, Exchange}
use Rattle.nb_machine.specs.Cores.{CoreExchanged, at_first, takes_message, takes_time, closes, dns_datagrams_in, handed_bodies_in}

-- what is read of all that came to an open is what is read of its core's calls, where each of them has the same of both
all_read : {S B C D : Type 0} (s : Service S B C) (number server : ℕ) (f : OpenInput → List D) (g : C → List D) →
    ((rec port : ℕ) (body : List ℕ) (now : ℕ) (acts : Acts) → f (message rec port body now) ≡ g (s.received (datagram_from rec port (host server) body) now acts)) →
    ((now : ℕ) (acts : Acts) → f (time now) ≡ g (s.timed now acts)) → ((cause : Cause) → f (close cause) ≡ []) →
    (calls : List C) (xs : List Exchange) → CoreExchanged s number server calls xs → flat_map (λ (x : Exchange). f x.came) xs ≡ flat_map g calls
all_read s number server f g m k c calls xs at_first = refl
all_read s number server f g m k c calls xs (takes_message cs ys link rec port body now acts h) =
    flat_map-append (λ (x : Exchange). f x.came) ys _
    ∙ ap (λ z. z ++ (f (message rec port body now) ++ [])) (all_read s number server f g m k c cs ys h)
    ∙ ap (λ z. flat_map g cs ++ (z ++ [])) (m rec port body now acts)
    ∙ sym (flat_map-append g cs _)
all_read s number server f g m k c calls xs (takes_time cs ys link now acts h) =
    flat_map-append (λ (x : Exchange). f x.came) ys _
    ∙ ap (λ z. z ++ (f (time now) ++ [])) (all_read s number server f g m k c cs ys h)
    ∙ ap (λ z. flat_map g cs ++ (z ++ [])) (k now acts)
    ∙ sym (flat_map-append g cs _)
all_read s number server f g m k c calls xs (closes cs ys link cause h) =
    flat_map-append (λ (x : Exchange). f x.came) ys _
    ∙ ap (λ z. flat_map (λ (x : Exchange). f x.came) ys ++ (z ++ [])) (c cause) ∙ append-nil _ ∙ all_read s number server f g m k c cs ys h

-- the messages that came to an open of a name are those that its core received
pub all_arrived : (number server : ℕ) (calls : List LookupEntry) (xs : List Exchange) → CoreExchanged lookup_service number server calls xs →
    flat_map (λ (x : Exchange). dns_datagrams_in server x.came) xs ≡ datagrams calls
all_arrived number server calls xs h =
    all_read lookup_service number server (dns_datagrams_in server) (λ (e : LookupEntry). lookup_datagrams e.call) (λ rec port body now acts. refl) (λ now acts. refl) (λ cause. refl) calls xs h

-- and to an open for a lease
pub all_given : (number server : ℕ) (calls : List LeaseEntry) (xs : List Exchange) → CoreExchanged lease_service number server calls xs →
    flat_map (λ (x : Exchange). handed_bodies_in x.came) xs ≡ all_handed calls
all_given number server calls xs h =
    all_read lease_service number server handed_bodies_in (λ (e : LeaseEntry). handed_by e.call) (λ rec port body now acts. refl) (λ now acts. refl) (λ cause. refl) calls xs h
