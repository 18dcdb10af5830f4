-- A record is used: the device is the client of the history, and each frame is read as it stands then.
use Rattle.std.proofs.Common.{◌≡◌, ℕ, List, [], ◌∷◌, ◌++◌, Some, refl, sym, ◌∙◌, ap, subst, append_assoc, append-nil}
use Rattle.std.specs.List.{AllByRecursion}
use Rattle.std.specs.Prelude.{slice_get}
use Rattle.nb_defs.specs.Records.{In, Out, step}
use Rattle.nb_stack.specs.Client.{Client}
use Rattle.nb_stack.specs.Brings.{Brought, datagram, echo_reply, segment}
use Rattle.nb_stack.specs.Takes.{client_after}
use Rattle.nb_machine.specs.Lives.{OpenInput, exchange, Live}
use Rattle.nb_machine.specs.CommandRecords.{reply_records}
use Rattle.nb_machine.specs.Kinds.{reply_beside}
use Rattle.nb_machine.specs.States.{State, net0}
use Rattle.nb_machine.specs.Takings.{Over, AllTake, all_have, lives_on, is_over}
use Rattle.nb_machine.specs.Network.{on_net0, Network, passes_by, brings, brings_reply, brings_segment, passes_time}
use Rattle.nb_laws.specs.Events.{Event, hears, waits, puts}
use Rattle.nb_openlaws.specs.Standings.{AgreesState, AgreesDevice}
use Rattle.nb_laws.proofs.Tellings.{told}
use Rattle.nb_streams.proofs.FlowLaws.{all_append}
use Rattle.nb_openlaws.proofs.OpenRecords.{IsOf, AreOf}
use Rattle.std.proofs.Common.{take, drop}
use Rattle.nb_defs.specs.Records.{command, result, script}
use Rattle.nb_stack.specs.Brings.{Brings}
use Rattle.nb_laws.specs.CommandsSoFar.{so_far, so_far_by, CommandsSoFar}
use Rattle.nb_laws.specs.Histories.{IsRead, client}
use Rattle.nb_laws.proofs.Histories.{client_put, client_hears, client_waits}
use Rattle.nb_openlaws.proofs.OpenRecords.{kept_puts}
use Rattle.nb_openlaws.proofs.Networks.{network_event, event_is, network_agrees}

-- THE CLIENT AND ITS NEIGHBOURS

-- records that open things put leave what the commands did
of_so_far : (k : ℕ) (es : List Event) (m : CommandsSoFar) (o : Out) → IsOf k o → so_far_by es m (puts o) ≡ m
of_so_far k es m (command depth line place expanded words) h = absurd h
of_so_far k es m (result cause) h = absurd h
of_so_far k es m (script what depth cause) h = absurd h
of_so_far k es m (step number) h = absurd h
of_so_far k es m _ h = refl

-- each is some open's
abbrev pub AreSome : List Out → Type 0
AreSome outs = AllByRecursion (λ o. (k : ℕ) × IsOf k o) outs

pub some_of : (k : ℕ) (outs : List Out) → AreOf k outs → AreSome outs
some_of k [] h = tt
some_of k (o ∷ outs) h = ((k, h.0), some_of k outs h.1)

taken_some : (devices : List Client) (input : OpenInput) (ls : List Live) (put : List Out) (after : List Live) (over : List Over) → AllTake devices input ls put after over → AreSome put
taken_some devices input ls put after over all_have = tt
taken_some devices input ls put0 after0 over0 (lives_on l ls0 after link put more over got keeps none rest) =
    all_append (λ o. (k : ℕ) × IsOf k o) put more (some_of l.number put (kept_puts l (exchange input link put) keeps).of) (taken_some devices input ls0 more after over rest)
taken_some devices input ls put0 after0 over0 (is_over l ls0 after link put more over cause got keeps some rest) =
    all_append (λ o. (k : ℕ) × IsOf k o) put more (some_of l.number put (kept_puts l (exchange input link put) keeps).of) (taken_some devices input ls0 more after over rest)

pub client_some : (es : List Event) (outs : List Out) → AreSome outs → client (es ++ told outs) ≡ client es
client_some es [] h = ap (λ z. client z) (append-nil es)
client_some es (o ∷ outs) h =
    ap (λ z. client z) (sym (append_assoc es (puts o ∷ []) (told outs))) ∙ client_some (es ++ puts o ∷ []) outs h.1 ∙ client_put es o (of_so_far h.0.0 es (so_far es) o h.0.1)

reply_some : (bytes : List ℕ) → AreSome (reply_records bytes)
reply_some [] = tt
reply_some (b ∷ bytes) = ((0, tt), tt)

pub link_is : (es : List Event) (s : State) (link : Client) → AgreesDevice es s → slice_get s.devices net0 ≡ Some link → client es ≡ link
link_is es s link d got = let both : Some (client es) ≡ Some link = sym (ap (λ z. slice_get z net0) d) ∙ got in cc

read_so : (es : List Event) (link : Client) (bytes : List ℕ) (m : Brought) → client es ≡ link → Brings link.up link.mac link.address bytes m → Brings (client es).up (client es).mac (client es).address bytes m
read_so es link bytes m e is = subst (λ (c : Client). Brings c.up c.mac c.address bytes m) (sym e) is

-- what a network's step leaves, and how its record is read
pub record Follows (es : List Event) (e : Event) (put : List Out) (s2 : State) : Type 0 where
  pub device : AgreesDevice ((es ++ e ∷ []) ++ told put) s2
  pub read : IsRead es e

follows_at : (es : List Event) (s : State) (n : ℕ) (r : In) (put : List Out) (s2 : State) (over : List Over) (net : Network s n r put s2 over) (a : AgreesState es s) → AgreesDevice es s →
    Follows es (network_event s n r put s2 over net) put s2
follows_at es s n r put s2 over (passes_by r0 device bytes link m (on_net0 b) got is none) a d =
    let same = link_is es s link d got in
    let e = hears n b m in
    record {
      device = ap (λ z. take 0 z ++ client_after link m ∷ drop 1 z) d ∙ ap (λ c. client_after c m ∷ []) (sym same) ∙ ap (λ c. c ∷ []) (sym (client_some (es ++ e ∷ []) (reply_records (reply_beside net0 s.live link m)) (reply_some (reply_beside net0 s.live link m)) ∙ client_hears es n b m));
      read = read_so es link b m same is;
    }
follows_at es s n r put s2 over (brings r0 device bytes link p x before behind after l put0 over0 (on_net0 b) got is lives here front back all) a d =
    record {
      device = d ∙ ap (λ c. c ∷ []) (sym (client_some (es ++ hears n b (datagram p x) ∷ []) put (taken_some s.devices _ (l ∷ []) put after over all) ∙ client_hears es n b (datagram p x)));
      read = read_so es link b (datagram p x) (link_is es s link d got) is;
    }
follows_at es s n r put s2 over (brings_reply r0 device bytes link p x before behind after l put0 over0 (on_net0 b) got is lives here front back all) a d =
    record {
      device = d ∙ ap (λ c. c ∷ []) (sym (client_some (es ++ hears n b (echo_reply p x) ∷ []) put (taken_some s.devices _ (l ∷ []) put after over all) ∙ client_hears es n b (echo_reply p x)));
      read = read_so es link b (echo_reply p x) (link_is es s link d got) is;
    }
follows_at es s n r put s2 over (brings_segment r0 device bytes link from p g before behind after l put0 over0 (on_net0 b) got is lives here front back all) a d =
    record {
      device = d ∙ ap (λ c. c ∷ []) (sym (client_some (es ++ hears n b (segment from p g) ∷ []) put (taken_some s.devices _ (l ∷ []) put after over all) ∙ client_hears es n b (segment from p g)));
      read = read_so es link b (segment from p g) (link_is es s link d got) is;
    }
follows_at es s n r put s2 over (passes_time ms after put0 over0 all) a d =
    record {
      device = d ∙ ap (λ c. c ∷ []) (sym (client_some (es ++ waits n ms ∷ []) put (taken_some s.devices _ s.live put after over all) ∙ client_waits es n ms));
      read = tt;
    }

pub device_follows : (es : List Event) (s : State) (n : ℕ) (r : In) (put : List Out) (s2 : State) (over : List Over) (net : Network s n r put s2 over) (a : AgreesState es s) → AgreesDevice es s →
    Follows es (network_agrees es s n r put s2 over net a).event put s2
device_follows es s n r put s2 over net a d = subst (λ e. Follows es e put s2) (sym (event_is es s n r put s2 over net a)) (follows_at es s n r put s2 over net a d)
