-- A frame passes by: it brings no open that lives anything.
use Rattle.std.proofs.Common.{◌≡◌, ◌⊎◌, inl, inr, ℕ, ◌+◌, ◌||◌, Bool, true, false, cond, List, [], ◌∷◌, ◌++◌, take, drop, Option, Some, None, refl, sym, ◌∙◌, ap, subst, append-nil}
use Rattle.std.specs.Prelude.{slice_get}
use Rattle.std.specs.List.{AllByRecursion, list_any}
use Rattle.std.proofs.lemmas.List.Folds.{list_any-append}
use Rattle.nb_defs.specs.Records.{Out, frame, step, sent, out_texts}
use Rattle.nb_ipv4.specs.PacketText.{PacketParts}
use Rattle.nb_ipv4.specs.UdpText.{UdpParts}
use Rattle.nb_ipv4.specs.EchoText.{EchoParts}
use Rattle.nb_traced.specs.Plain.{without_graph}
use Rattle.nb_record.specs.Logged.{Logged, Puts}
use Rattle.nb_stack.specs.Bound.{owner_of}
use Rattle.nb_stack.specs.Brings.{Brought, nothing, arp_message, datagram, echo_request, echo_reply, segment}
use Rattle.nb_stack.specs.Client.{Client}
use Rattle.nb_stack.specs.Takes.{Outcome, handed, client_after, echo_to, handed_to, outcome_of, reply_of, reset_back, segment_to, Takes}
use Rattle.nb_tcpseg.specs.SegmentText.{SegmentParts}
use Rattle.nb_wire.specs.declared.address.Ip4.{Ip4}
use Rattle.nb_wire.specs.declared.address.Mac.{Mac}
use Rattle.nb_machine.specs.CommandRecords.{reply_records}
use Rattle.nb_machine.specs.Kinds.{has_port, is_for, is_reply_for, is_segment_for, reply_beside}
use Rattle.nb_machine.specs.Lives.{Live}
use Rattle.nb_machine.specs.Network.{on_net0, Network, passes_by, is_for_one}
use Rattle.nb_machine.specs.States.{State, bare, net0, with_device}
use Rattle.nb_traced.specs.Holdings.{Holdings, GraphObject}
use Rattle.nb_traced.specs.Outputs.{Arrived, Traced, apart, replies}
use Rattle.nb_network.specs.declared.living.Living.{Living}
use Rattle.nb_network.specs.Many.{AreOpensOf, AreSound, FitsHoldings, IsStateOf, Many}
use Rattle.nb_network.specs.Receiving.{DoesNotCount, NoneTakes}
use Rattle.nb_network.specs.Steps.{counts_by}
use Rattle.nb_network.specs.Takes.{at_none, TakesRecord, TracesOn}
use Rattle.nb_network.proofs.Bares.{bare_after}
use Rattle.nb_network.proofs.Lists.{PartedAt, opens_part_at}
use Rattle.nb_network.proofs.Matching.{at_port_of, for_as_counts, none_for, none_reply, none_at_port, none_segment, reply_as_counts, segment_as_counts}
use Rattle.nb_network.proofs.Keys.{HasAlone, has_alone}
use Rattle.nb_network.proofs.Ports.{IsElsewhere, owned_by_nobody, owned_by_none}
use Rattle.nb_network.proofs.Stepping.{answers_none}

reply_plain : (bytes : List ℕ) → without_graph (reply_records bytes) ≡ reply_records bytes
reply_plain [] = refl
reply_plain (b ∷ bytes) = refl

-- after its STEP a reply is put, or nothing
passed_traces : (m : Many) (opens n : ℕ) (bytes : List ℕ) (waits : List GraphObject) (outs : List Out) (h : Holdings) (so_far : List Arrived) → Traced outs h so_far → FitsHoldings m opens waits h →
    TracesOn m opens waits (step n ∷ reply_records bytes) [] m opens waits outs h so_far
passed_traces m opens n [] waits outs h so_far traced fits = record {
  after = h;
  traced = subst (λ z. Traced (outs ++ (step n ∷ [])) h z) (sym (append-nil so_far)) (apart outs (step n ∷ []) h so_far traced (tt, tt));
  fits = fits;
}
passed_traces m opens n (b ∷ bytes) waits outs h so_far traced fits = record {
  after = h;
  traced = subst (λ z. Traced (outs ++ (step n ∷ sent (b ∷ bytes) ∷ [])) h z) (sym (append-nil so_far)) (replies outs n (b ∷ bytes) h so_far (apart outs (step n ∷ []) h so_far traced (tt, tt)));
  fits = fits;
}

any_around : (f : Live → Bool) (front : List Live) (l : Live) (back : List Live) → list_any f front ≡ false → f l ≡ false → list_any f back ≡ false → list_any f (front ++ l ∷ back) ≡ false
any_around f front l back a b c = list_any-append f front (l ∷ back) ∙ ap (λ z. z || (f l || list_any f back)) a ∙ ap (λ z. z || list_any f back) b ∙ c

any_at : (f : Live → Bool) (front : List Live) (l : Live) (back : List Live) → list_any f front ≡ false → f l ≡ true → list_any f (front ++ l ∷ back) ≡ true
any_at f front l back a b = list_any-append f front (l ∷ back) ∙ ap (λ z. z || (f l || list_any f back)) a ∙ ap (λ z. z || list_any f back) b

module _ (m : Many) (net : Client) (now w opens n : ℕ) (bytes : List ℕ) (out : Outcome) (none : NoneTakes m.list out) (s : State) (sound : AreSound w opens net m) (state : IsStateOf m net now s) where
  -- none of these opens is such, where another port is theirs
  abbrev pub NoneElsewhere : (Live → Bool) → ℕ → ℕ → Type 0
  NoneElsewhere f proto number = (os : List Living) (ls : List Live) → AreOpensOf m.graph os ls → AllByRecursion (IsElsewhere proto number) os → list_any f ls ≡ false

  unowned : (f : Live → Bool) (proto number : ℕ) → owner_of proto number net.ports ≡ None → NoneElsewhere f proto number → list_any f s.live ≡ false
  unowned f proto number e each = each m.list s.live state.live (owned_by_none proto number m.list (sym (ap (owner_of proto number) sound.ports) ∙ e))

  -- the one of that number, for which it doesn't count
  module _ (to : ℕ) (source : Ip4) (port : ℕ) (x : DoesNotCount m.list to source port) where
    abbrev pub it : Living
    it = x.taker

    parted : PartedAt m.graph x.at.before it x.at.behind s.live
    parted = opens_part_at m.graph x.at.before it x.at.behind s.live (subst (λ os. AreOpensOf m.graph os s.live) x.at.all state.live)

    its_key : (proto number : ℕ) → owner_of proto number net.ports ≡ Some to → HasAlone proto number x.at.before it x.at.behind
    its_key proto number owned = has_alone w opens net m x.at.before it x.at.behind proto number sound x.at.all (owned ∙ ap Some (sym x.number))

    -- the others have other ports
    front_none : (f : Live → Bool) (proto number : ℕ) → owner_of proto number net.ports ≡ Some to → NoneElsewhere f proto number → list_any f parted.front ≡ false
    front_none f proto number owned each = each x.at.before parted.front parted.fronts (its_key proto number owned).front

    uncounted : (f : Live → Bool) (proto number : ℕ) → owner_of proto number net.ports ≡ Some to → NoneElsewhere f proto number → f parted.live ≡ false → list_any f s.live ≡ false
    uncounted f proto number owned each here =
        ap (list_any f) parted.all ∙ any_around f parted.front parted.live parted.back (front_none f proto number owned each) here (each x.at.behind parted.back parted.backs (its_key proto number owned).back)

    uncounted_datagram : (p : PacketParts) (d : UdpParts) → owner_of 17 d.dst_port net.ports ≡ Some to → p.src ≡ source → d.src_port ≡ port → list_any (is_for net0 p d) s.live ≡ false
    uncounted_datagram p d owned src from =
        let k = its_key 17 d.dst_port owned in
        uncounted (is_for net0 p d) 17 d.dst_port owned (none_for m.graph p d)
        (for_as_counts m.graph p d it parted.live parted.is k.carrier k.port ∙ ap (λ z. counts_by it.objects it.speaker.server z d.src_port) src ∙ ap (counts_by it.objects it.speaker.server source) from ∙ x.counts)

    uncounted_reply : (p : PacketParts) (e : EchoParts) → owner_of 1 e.ident net.ports ≡ Some to → p.src ≡ source → list_any (is_reply_for net0 p e) s.live ≡ false
    uncounted_reply p e owned src =
        let k = its_key 1 e.ident owned in
        uncounted (is_reply_for net0 p e) 1 e.ident owned (none_reply m.graph p e)
        (reply_as_counts m.graph p e port it parted.live parted.is k.carrier k.port ∙ ap (λ z. counts_by it.objects it.speaker.server z port) src ∙ x.counts)

    uncounted_segment : (p : PacketParts) (y : SegmentParts) → owner_of 6 y.dst_port net.ports ≡ Some to → p.src ≡ source → y.src_port ≡ port → list_any (is_segment_for net0 p y) s.live ≡ false
    uncounted_segment p y owned src from =
        let k = its_key 6 y.dst_port owned in
        uncounted (is_segment_for net0 p y) 6 y.dst_port owned (none_segment m.graph p y)
        (segment_as_counts m.graph p y it parted.live parted.is k.carrier k.port ∙ ap (λ z. counts_by it.objects it.speaker.server z y.src_port) src ∙ ap (counts_by it.objects it.speaker.server source) from ∙ x.counts)

    -- its port is a connection's
    some_at_port : (number : ℕ) → owner_of 6 number net.ports ≡ Some to → list_any (has_port net0 number) s.live ≡ true
    some_at_port number owned =
        let k = its_key 6 number owned in
        ap (list_any (has_port net0 number)) parted.all ∙ any_at (has_port net0 number) parted.front parted.live parted.back (front_none (has_port net0 number) 6 number owned (none_at_port m.graph number)) (at_port_of m.graph number it parted.live parted.is k.carrier k.port)

  -- who has the port is one for which it doesn't count
  taker_of : (proto number to : ℕ) (source dst : Ip4) (port : ℕ) (body : List ℕ) → owner_of proto number net.ports ≡ Some to → out ≡ handed to source dst proto port body → DoesNotCount m.list to source port
  taker_of proto number to source dst port body owned is = by (none to source dst proto port body is)
    where
      by : (AllByRecursion (λ (o : Living). o.speaker.number ≡ to → ⊥) m.list ⊎ DoesNotCount m.list to source port) → DoesNotCount m.list to source port
      by (inl far) = absurd (owned_by_nobody proto number to m.list far (sym (ap (owner_of proto number) sound.ports) ∙ owned))
      by (inr x) = x

  -- IT IS FOR NONE

  for_none_datagram : (p : PacketParts) (d : UdpParts) (o : Option ℕ) → owner_of 17 d.dst_port net.ports ≡ o → out ≡ handed_to p d o → list_any (is_for net0 p d) s.live ≡ false
  for_none_datagram p d None e is = unowned (is_for net0 p d) 17 d.dst_port e (none_for m.graph p d)
  for_none_datagram p d (Some to) e is = uncounted_datagram to p.src d.src_port (taker_of 17 d.dst_port to p.src p.dst d.src_port d.body e is) p d e refl refl

  for_none_reply : (p : PacketParts) (x : EchoParts) (o : Option ℕ) → owner_of 1 x.ident net.ports ≡ o → out ≡ echo_to p x o → list_any (is_reply_for net0 p x) s.live ≡ false
  for_none_reply p x None e is = unowned (is_reply_for net0 p x) 1 x.ident e (none_reply m.graph p x)
  for_none_reply p x (Some to) e is = uncounted_reply to p.src 0 (taker_of 1 x.ident to p.src p.dst 0 x.body e is) p x e refl

  for_none_segment : (p : PacketParts) (x : SegmentParts) (o : Option ℕ) → owner_of 6 x.dst_port net.ports ≡ o → out ≡ segment_to p x o → list_any (is_segment_for net0 p x) s.live ≡ false
  for_none_segment p x None e is = unowned (is_segment_for net0 p x) 6 x.dst_port e (none_segment m.graph p x)
  for_none_segment p x (Some to) e is = uncounted_segment to p.src x.src_port (taker_of 6 x.dst_port to p.src p.dst x.src_port p.body e is) p x e refl refl

  for_none : (b : Brought) → out ≡ outcome_of net b → is_for_one net0 b s.live ≡ false
  for_none nothing is = refl
  for_none (arp_message from arp) is = refl
  for_none (datagram p d) is = for_none_datagram p d (owner_of 17 d.dst_port net.ports) refl is
  for_none (echo_request from p x) is = refl
  for_none (echo_reply p x) is = for_none_reply p x (owner_of 1 x.ident net.ports) refl is
  for_none (segment from p x) is = for_none_segment p x (owner_of 6 x.dst_port net.ports) refl is

  -- THE REPLY

  -- a segment is reset where no connection has its port
  reset_is : (from : Mac) (p : PacketParts) (x : SegmentParts) (o : Option ℕ) → owner_of 6 x.dst_port net.ports ≡ o → out ≡ segment_to p x o →
      reset_back from net.mac p x o ≡ cond (list_any (has_port net0 x.dst_port) s.live) [] (reset_back from net.mac p x None)
  reset_is from p x None e is = ap (λ b. cond b [] (reset_back from net.mac p x None)) (sym (unowned (has_port net0 x.dst_port) 6 x.dst_port e (none_at_port m.graph x.dst_port)))
  reset_is from p x (Some to) e is =
      ap (λ b. cond b [] (reset_back from net.mac p x None)) (sym (some_at_port to p.src x.src_port (taker_of 6 x.dst_port to p.src p.dst x.src_port p.body e is) x.dst_port e))

  reply_is : (b : Brought) → out ≡ outcome_of net b → reply_of net b ≡ reply_beside net0 s.live (bare net) b
  reply_is nothing is = refl
  reply_is (arp_message from arp) is = refl
  reply_is (datagram p d) is = refl
  reply_is (echo_request from p x) is = refl
  reply_is (echo_reply p x) is = refl
  reply_is (segment from p x) is = reset_is from p x (owner_of 6 x.dst_port net.ports) refl is

  pub passed_record : (put put_after : List ℕ) (net1 : Client) (awaited : Option ℕ) (old new : Logged) → put ≡ [] → Takes net bytes out put put_after net1 → Puts old new (out_texts (step n ∷ reply_records put_after)) →
      TakesRecord m net now opens n (frame bytes) m net1 now awaited None old new s
  passed_record put put_after net1 awaited old new empty t puts =
      let b = t.message in
      let link : slice_get s.devices net0 ≡ Some (bare net) = ap (λ ds. slice_get ds net0) state.devices in
      let nobody = for_none b t.is_outcome in
      let reply : put_after ≡ reply_beside net0 s.live (bare net) b = t.is_put ∙ ap (λ z. z ++ reply_of net b) empty ∙ reply_is b t.is_outcome in
      record {
        records = reply_records put_after;
        came = [];
        puts = puts;
        does = record {
          after = with_device s net0 (client_after (bare net) b);
          overs = [];
          network = subst (λ z. Network s n (frame bytes) z (with_device s net0 (client_after (bare net) b)) []) (sym (reply_plain put_after ∙ ap reply_records reply))
              (passes_by (frame bytes) net0 bytes (bare net) b (on_net0 bytes) link t.brings nobody);
          is_state = record {
            devices = ap (λ (ds : List Client). take 0 ds ++ client_after (bare net) b ∷ drop (0 + 1) ds) state.devices ∙ ap (λ c. c ∷ []) (bare_after net b ∙ ap bare (sym t.is_after));
            time = state.time;
            live = state.live;
          };
          answers = answers_none awaited None refl;
          arrives = at_none (frame bytes) net0 bytes (bare net) b (on_net0 bytes) link t.brings nobody;
        };
        traces = λ waits outs h so_far traced fits. passed_traces m opens n put_after waits outs h so_far traced fits;
        first = reply_plain put_after;
        waiting = λ kind c wait. wait;
        same_made = refl;
        tied = λ n. n;
        newest = λ c n. n;
      }
