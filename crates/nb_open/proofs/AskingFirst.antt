-- The user asks, of objects of which nothing was asked: what the call says of the open, by its kind.
use Rattle.std.proofs.Common.{◌≡◌, ℕ, ◌||◌, Bool, true, false, List, [], ◌∷◌, Some, None, refl, sym, ◌∙◌, ap, subst}
use Rattle.nb_terms.specs.declared.acts.SendTo.{SendTo}
use Rattle.nb_ledger.specs.Flat.{Heard, Notice}
use Rattle.nb_graph.specs.Deeds.{no_memory}
use Rattle.nb_graph.specs.Whole.{Objects}
use Rattle.nb_nodes.specs.declared.obj.Obj.{Obj}
use Rattle.nb_ledger.specs.declared.port.ObjId.{ObjId}
use Rattle.nb_nodes.specs.declared.ask.Ask.{Ask}
use Rattle.nb_nodes.specs.declared.lookup_ask.LookupAsk.{LookupAsk}
use Rattle.nb_nodes.specs.declared.lease_ask.LeaseAsk.{LeaseAsk}
use Rattle.nb_nodes.specs.declared.ping_ask.PingAsk.{PingAsk}
use Rattle.nb_nodes.specs.Asking.{ask_value, begun_with, is_path}
use Rattle.nb_nodes.proofs.AskLemmas.{path_short}
use Rattle.nb_nodes.specs.EchoExchanges.{ping_service, pinged_by}
use Rattle.nb_nodes.specs.LeaseExchanges.{asker_of, lease_service}
use Rattle.nb_nodes.specs.LookupExchanges.{lookup_ask_value, lookup_for, lookup_service}
use Rattle.nb_chains.specs.declared.kind.ChainKind.TheVariants as chain
use Rattle.nb_opens.specs.Alones.{Begins, starts, fails_at_once as fails_alone}
use Rattle.nb_opens.specs.Notices.{first_close}
use Rattle.nb_opens.specs.Pairs.{BeginDoes, begins, fails_at_once}
use Rattle.nb_stack.specs.Client.{Client}
use Rattle.nb_dns.specs.Lookups.{query_to}
use Rattle.nb_dhcp.specs.Acting.{to_servers}
use Rattle.nb_dhcp.specs.Messages.{message_text}
use Rattle.nb_ping.specs.Pings.{echo_request}
use Rattle.nb_tftp.proofs.PlainLaws.{request_fits}
use Rattle.nb_command.specs.SettingAddresses.{host}
use Rattle.nb_machine.specs.Cores.{at_first as core_at_first, look_up_of, ping_of}
use Rattle.nb_machine.specs.Kinds.{first_records, is_connection}
use Rattle.nb_machine.specs.Sendings.{request_of}
use Rattle.nb_machine.specs.Transfers.{at_first as transfer_at_first, transfer_of}
use Rattle.nb_chains.specs.declared.chain.Chain.{Chain}
use Rattle.nb_chains.specs.declared.kind.ChainKind.{ChainKind}
use Rattle.nb_chains.specs.Calls.{BeginsChain, IsAsk}
use Rattle.nb_chains.specs.Chains.{IsReadyChain, own_graph}
use Rattle.nb_chains.specs.Kinds.{top_mark}
use Rattle.nb_teller.specs.Tellings.{any_lacks_route}
use Rattle.nb_teller.proofs.TellingLemmas.{SpeaksFor, one as one_send}
use Rattle.nb_open.specs.declared.objects.OpenObjects.{OpenObjects}
use Rattle.nb_open.specs.declared.objects.OpenObjects.TheVariants as objects
use Rattle.nb_open.specs.declared.open.Open.{Open}
use Rattle.nb_open.specs.declared.opening.Opening.{Opening}
use Rattle.nb_open.specs.declared.opening.Opening.TheVariants.{File, Web, Drive, Name, Lease, Echo}
use Rattle.nb_open.specs.Making.{IsAskOf}
use Rattle.nb_open.specs.Objects.{AreObjectsReady}
use Rattle.nb_open.specs.Open.{AreOfKind, AreUnderWay, AsksRight, IsSpeakerOf, IsUnderWay, carrier_for, kind_for}
use Rattle.nb_open.specs.Opening.{CanOpen, carrier_by, chain_kind, is_drive_opening, is_joined, is_web, kind_by, live_by, own_by, server_by, speaker_for}
use Rattle.nb_open.proofs.CoreKinds.{echo_speaks, lease_speaks, name_speaks}
use Rattle.nb_open.proofs.Doings.{put_by}
use Rattle.nb_open.proofs.DriveOrders.{HandsUp}
use Rattle.nb_open.proofs.Downs.{AreSendsBy, one, sends_by}
use Rattle.nb_open.proofs.FirstMessages.{AsksAtFirst, alone_first, first_of, two_first}

-- the bytes ask for an open of its kind
pub asks_kind : (a : Opening) (bytes : List ℕ) → is_joined a ≡ false → IsAskOf a bytes → IsAsk (chain_kind a) bytes
asks_kind (File a) bytes other h = (ask_value a, h)
asks_kind (Web a) bytes other h = absurd (cc)
asks_kind (Drive a) bytes other h = absurd (cc)
asks_kind (Name a) bytes other h = (lookup_for (lookup_ask_value a), h)
asks_kind (Lease a) bytes other h = (asker_of a, h)
asks_kind (Echo a) bytes other h = (pinged_by a, h)

same_kind : (a : Opening) → chain_kind a ≡ kind_for (kind_by a)
same_kind (File a) = refl
same_kind (Web a) = refl
same_kind (Drive a) = refl
same_kind (Name a) = refl
same_kind (Lease a) = refl
same_kind (Echo a) = refl

same_carrier : (a : Opening) → carrier_by a ≡ carrier_for (kind_by a)
same_carrier (File a) = refl
same_carrier (Web a) = refl
same_carrier (Drive a) = refl
same_carrier (Name a) = refl
same_carrier (Lease a) = refl
same_carrier (Echo a) = refl

asks_right : (a : Opening) → AsksRight (kind_by a) (server_by a) (own_by a)
asks_right (File a) = tt
asks_right (Web a) = tt
asks_right (Drive a) = tt
asks_right (Name a) = tt
asks_right (Lease a) = (refl, refl)
asks_right (Echo a) = tt

same_connection : (a : Opening) → is_connection (kind_by a) ≡ is_joined a
same_connection (File a) = refl
same_connection (Web a) = refl
same_connection (Drive a) = refl
same_connection (Name a) = refl
same_connection (Lease a) = refl
same_connection (Echo a) = refl

or_true : (b : Bool) → (b || true) ≡ true
or_true true = refl
or_true false = refl

of_kind : (a : Opening) (number now : ℕ) (x : OpenObjects) (g : Objects Obj) → AreObjectsReady a x g → AreOfKind x (live_by a number now)
of_kind a number now (objects.Chain kind chain) g (other, same, ready) = (same_connection a ∙ other, same ∙ same_kind a)
of_kind a number now (objects.Web port own chain) g (is, same, from, ready) = (same_connection a ∙ ap (λ b. b || is_drive_opening a) is, same)
of_kind a number now (objects.Drive port own chain) g (is, same, from, ready) = (same_connection a ∙ (ap (λ b. is_web a || b) is ∙ or_true (is_web a)), same)

-- the open has the machine's number, server, port and kind
pub called_by : (a : Opening) (number now : ℕ) (o : Open) (g : Objects Obj) → o.speaker ≡ speaker_for a number → AreObjectsReady a o.objects g → IsSpeakerOf o (live_by a number now)
called_by a number now o g speaker ready = record {
  number = sym (ap (λ z. z.number) speaker);
  server = sym (ap (λ z. z.server.0) speaker);
  own = sym (ap (λ z. z.own_port) speaker);
  device = refl;
  kind = of_kind a number now o.objects g ready;
  carrier = ap (λ z. z.carrier) speaker ∙ same_carrier a;
  asks = asks_right a;
}

-- what the call says of these objects of an open that sets out, or is turned back
pub record Sets (a : Opening) (number now : ℕ) (link : Client) (o : Open) (x : OpenObjects) (new : Objects Obj) (ns : List Notice) : Type 0 where
  pub none : first_close ns ≡ None
  pub under_way : AreUnderWay x new (live_by a number now)
  pub up : HandsUp x ns
  pub found : any_lacks_route link o.speaker ns ≡ false → first_records (kind_by a) (live_by a number now) link ≡ Some (put_by o link ns)
  pub lost : any_lacks_route link o.speaker ns ≡ true → (first_records (kind_by a) (live_by a number now) link ≡ None) × (put_by o link ns ≡ [])

pub data SetsOrFails (a : Opening) (number now : ℕ) (link : Client) (o : Open) (x : OpenObjects) (new : Objects Obj) (ns : List Notice) : Type 0 where
  sets : Sets a number now link o x new ns → SetsOrFails a number now link o x new ns
  runs_short : first_close ns ≡ Some no_memory → SetsOrFails a number now link o x new ns

-- OF A CHAIN

module _ (number now : ℕ) (link : Client) (o : Open) (kind : ChainKind) (c : Chain) (new : Objects Obj) (ns : List Notice) where
  sets_by : (a : Opening) (m : SendTo) → number ≡ o.speaker.number → first_records (kind_by a) (live_by a number now) link ≡ first_of link number m → IsUnderWay (kind_by a) c new (live_by a number now) → AsksAtFirst o link m ns
      → SetsOrFails a number now link o (objects.Chain kind c) new ns
  sets_by a m same first under_way h = sets (record {
    none = h.none;
    under_way = under_way;
    up = tt;
    found = λ no. first ∙ (ap (λ k. first_of link k m) same ∙ h.found no);
    lost = λ yes. (first ∙ (ap (λ k. first_of link k m) same ∙ (h.lost yes).0), (h.lost yes).1);
  })

module _ (number now : ℕ) (link : Client) (o : Open) (kind : ChainKind) (c : Chain) (old new : Objects Obj) (bytes : List ℕ) (rec : ℕ) (m n : Heard) (k : BeginsChain c old new bytes now rec m n) where
  file_begins : (a : Ask) → is_path a.path.now ≡ true → (called : IsSpeakerOf o (live_by (File a) number now)) → (t : ObjId) → c.below ≡ Some t → BeginDoes (own_graph c new) c.top.0 t.0 (begun_with (ask_value a)) now rec k.ns
      → SetsOrFails (File a) number now link o (objects.Chain kind c) new k.ns
  file_begins a can called t below (begins same downloads) =
      let l = live_by (File a) number now in
      let speaks : SpeaksFor o.speaker (transfer_of l) = record { carrier = called.carrier; server = ap host (sym called.server); own_port = sym called.own } in
      sets_by number now link o kind c new k.ns (File a) (request_of (transfer_of l)) called.number refl
      (record {
        tftp = t;
        below = below;
        entries = [];
        downloads = downloads;
        exchanged = transfer_at_first;
        short = request_fits true (host a.server.0) a.port a.own_port a.path.now (path_short a.path.now can);
      })
      (two_first o link (request_of (transfer_of l)) c.top.0 t.0 rec k.ns (sends_by o.speaker (transfer_of l) (request_of (transfer_of l) ∷ []) speaks (one_send a.port (transfer_of l).request)) same)
  file_begins a can called t below (fails_at_once memory) = runs_short memory

  name_begins : (a : LookupAsk) → (called : IsSpeakerOf o (live_by (Name a) number now)) → c.below ≡ None → Begins lookup_service (top_mark chain.Name) (own_graph c new) c.top.0 (lookup_for (lookup_ask_value a)) now rec k.ns
      → SetsOrFails (Name a) number now link o (objects.Chain kind c) new k.ns
  name_begins a called below (starts same talks) =
      let l = live_by (Name a) number now in
      let first = query_to (look_up_of a.id l) in
      sets_by number now link o kind c new k.ns (Name a) first called.number refl
      (record { below = below; calls = []; talks = talks; exchanged = core_at_first })
      (alone_first o link first c.top.0 rec k.ns (subst (λ z. AreSendsBy o.speaker (z ∷ [])) (name_speaks o l a.id called refl) (one 53 first.body.items)) same)
  name_begins a called below (fails_alone memory) = runs_short memory

  lease_begins : (a : LeaseAsk) → (called : IsSpeakerOf o (live_by (Lease a) number now)) → c.below ≡ None → Begins lease_service (top_mark chain.Lease) (own_graph c new) c.top.0 (asker_of a) now rec k.ns
      → SetsOrFails (Lease a) number now link o (objects.Chain kind c) new k.ns
  lease_begins a called below (starts same talks) =
      let l = live_by (Lease a) number now in
      let body = message_text (asker_of a) None in
      sets_by number now link o kind c new k.ns (Lease a) (to_servers body) called.number refl
      (record { below = below; calls = []; talks = talks; exchanged = core_at_first })
      (alone_first o link (to_servers body) c.top.0 rec k.ns (subst (λ z. AreSendsBy o.speaker (z ∷ [])) (lease_speaks o l (asker_of a) body called refl) (one 67 body)) same)
  lease_begins a called below (fails_alone memory) = runs_short memory

  echo_begins : (a : PingAsk) → (called : IsSpeakerOf o (live_by (Echo a) number now)) → c.below ≡ None → Begins ping_service (top_mark chain.Echo) (own_graph c new) c.top.0 (pinged_by a) now rec k.ns
      → SetsOrFails (Echo a) number now link o (objects.Chain kind c) new k.ns
  echo_begins a called below (starts same talks) =
      let l = live_by (Echo a) number now in
      sets_by number now link o kind c new k.ns (Echo a) (echo_request (ping_of l)) called.number refl
      (record { below = below; calls = []; talks = talks; exchanged = core_at_first })
      (alone_first o link (echo_request (ping_of l)) c.top.0 rec k.ns (subst (λ z. AreSendsBy o.speaker (z ∷ [])) (echo_speaks o l called refl) (one 0 [])) same)
  echo_begins a called below (fails_alone memory) = runs_short memory

  pub chain_begins : (a : Opening) → is_joined a ≡ false → CanOpen a → IsAskOf a bytes → IsReadyChain (chain_kind a) c old → IsSpeakerOf o (live_by a number now) → SetsOrFails a number now link o (objects.Chain kind c) new k.ns
  chain_begins (File a) other can asks ready called = file_begins a can called ready.0 ready.1 (k.file ready.0 (ask_value a) ready.1 ready.2 asks)
  chain_begins (Web a) other can asks ready called = absurd (cc)
  chain_begins (Drive a) other can asks ready called = absurd (cc)
  chain_begins (Name a) other can asks ready called = name_begins a called ready.0 (k.lookup (lookup_for (lookup_ask_value a)) asks ready.1)
  chain_begins (Lease a) other can asks ready called = lease_begins a called ready.0 (k.lease (asker_of a) asks ready.1)
  chain_begins (Echo a) other can asks ready called = echo_begins a called ready.0 (k.echo (pinged_by a) asks ready.1)
