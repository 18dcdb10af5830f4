-- A message or a time comes to an open: what its objects may do, and the exchange.
use Rattle.std.proofs.Common.{◌≡◌, ◌⊎◌, inl, inr, ℕ, ◌<◌, ◌≤◌, length, true, false, List, Option, Some, refl, sym, ◌∙◌, ap, arith}
use Rattle.nb_ledger.specs.declared.event.GraphEvent.{GraphEvent}
use Rattle.nb_ledger.specs.declared.event.GraphEvent.TheVariants.{Entered}
use Rattle.nb_ledger.specs.declared.event.Way.{Way}
use Rattle.nb_ledger.specs.declared.event.Way.TheVariants as way
use Rattle.nb_ledger.specs.Flat.{Given, Heard, Notice}
use Rattle.nb_graph.specs.Deeds.{no_memory}
use Rattle.nb_graph.specs.Whole.{Objects, port_at}
use Rattle.nb_nodes.specs.declared.obj.Obj.{Obj}
use Rattle.nb_nodes.specs.Exchanges.{Service}
use Rattle.nb_opens.specs.Notices.{first_close}
use Rattle.nb_chains.specs.declared.arrival.Arrival.{Arrival}
use Rattle.nb_stack.specs.Client.{Client}
use Rattle.nb_tftp.specs.Blocks.{file}
use Rattle.nb_tftp.specs.History.{got}
use Rattle.nb_machine.specs.Kinds.{is_connection}
use Rattle.nb_machine.specs.Lives.{OpenInput, OpenKind, tftp, http, iscsi, dns, dhcp, ping, Live, time}
use Rattle.nb_machine.specs.Transfers.{transfer_of}
use Rattle.nb_chains.specs.declared.chain.Chain.{Chain}
use Rattle.nb_chains.specs.Calls.{IsChainUnderWay, IsTalking}
use Rattle.nb_chains.specs.Chains.{AreChained, last_serial, own_graph}
use Rattle.nb_chains.specs.Shapes.{HasShapeOrFails}
use Rattle.nb_chains.proofs.Opened.{under_way_open}
use Rattle.nb_teller.specs.declared.speaker.Speaker.{Speaker}
use Rattle.nb_teller.specs.declared.teller.Teller.{Teller}
use Rattle.nb_teller.specs.Spelling.{IsBlank, IsSpelled, IsWholeSpelling, Spelling}
use Rattle.nb_teller.proofs.Tellers.{told_is}
use Rattle.nb_wire.specs.declared.address.Ip4.{Ip4}
use Rattle.nb_webchains.specs.declared.web_chain.WebChain.{WebChain}
use Rattle.nb_webchains.specs.WebCalls.{AreShort, short_message, any_time, receives_web, ticks_web, segment_said}
use Rattle.nb_webchains.specs.WebChains.{AreOfWeb, IsOpenWeb}
use Rattle.nb_drivechains.specs.declared.drive_chain.DriveChain.{DriveChain}
use Rattle.nb_drivechains.specs.DriveChains.{AreOfDrive, drive_ids, three_of}
use Rattle.nb_drivetalks.specs.Orders.{by_network, by_time}
use Rattle.nb_machine.specs.Drives.{session_of}
use Rattle.nb_login.specs.declared.info.LoginInfo.{LoginInfo}
use Rattle.nb_open.specs.declared.ended.Ended.{Ended}
use Rattle.nb_open.specs.declared.objects.OpenObjects.{OpenObjects}
use Rattle.nb_open.specs.declared.objects.OpenObjects.TheVariants as objects
use Rattle.nb_open.specs.declared.open.Open.{Open}
use Rattle.nb_open.specs.Exchanges.{Exchanges, IsInput, by_message, by_segment}
use Rattle.nb_open.specs.Objects.{AreObjectsChained, AreObjectsOpen, AreObjectsStill, DoesMessage, DoesTime}
use Rattle.nb_open.specs.Open.{AreUnderWay, IsAskingCore, IsDriveUnderWay, IsOpenOf, IsUnderWay, IsWebUnderWay, LivesSome, kind_for, session_ask}
use Rattle.nb_open.specs.Settling.{MaySettle, SettlesOpen, told_so_far}
use Rattle.nb_open.proofs.Callings.{AreInOrder, chain_order, web_order}
use Rattle.nb_open.proofs.Comings.{ComesOfObjects, chain_comes, drive_comes, may_settle, spelled_by, web_comes}
use Rattle.nb_open.proofs.Doings.{Did}
use Rattle.nb_open.proofs.DriveOrders.{HandsUp, IsDriveAt, drive_order, is_called}
use Rattle.nb_open.proofs.DriveReceiving.{drive_received}
use Rattle.nb_open.proofs.DriveTimes.{drive_passed}
use Rattle.nb_open.proofs.Endings.{ObjectsGive, last_object}
use Rattle.nb_open.proofs.Exchanging.{exchanges}
use Rattle.nb_open.proofs.KindCalls.{passed, received}
use Rattle.nb_open.proofs.Leaving.{AreOfTheirKinds}
use Rattle.nb_open.proofs.WebReceiving.{web_received}
use Rattle.nb_open.proofs.WebTimes.{web_passed}

-- WHAT LIVES IS OPEN

asking_talks : {S B C : Type 0} (s : Service S B C) (kind : ℕ) (b : B) (c : Chain) (g : Objects Obj) (l : Live) → IsAskingCore s kind b c g l → IsTalking s kind (own_graph c g) c.top.0
asking_talks s kind b c g l k = (b, l.since, k.calls, k.talks)

-- an open that lives is under way on its chain
pub under_way_by : (k : OpenKind) (c : Chain) (g : Objects Obj) (l : Live) → IsUnderWay k c g l → IsChainUnderWay (kind_for k) c g
under_way_by tftp c g l k = (k.tftp, k.below, (transfer_of l, l.since, k.entries, file (got k.entries), k.downloads))
under_way_by (http isn) c g l k = absurd k
under_way_by (iscsi isn i) c g l k = absurd k
under_way_by (dns id) c g l k = (k.below, asking_talks _ _ _ c g l k)
under_way_by (dhcp a) c g l k = (k.below, asking_talks _ _ _ c g l k)
under_way_by ping c g l k = (k.below, asking_talks _ _ _ c g l k)

-- or its three are open
pub web_open : (k : OpenKind) (own : Ip4) (c : WebChain) (g : Objects Obj) (l : Live) → IsWebUnderWay k own c g l → IsOpenWeb c g × AreOfWeb c g
web_open tftp own c g l k = absurd k
web_open (http isn) own c g l k = (k.opened, k.kinds)
web_open (iscsi isn i) own c g l k = absurd k
web_open (dns id) own c g l k = absurd k
web_open (dhcp a) own c g l k = absurd k
web_open ping own c g l k = absurd k

-- and those of a drive
pub drive_under : (k : OpenKind) (own : Ip4) (c : DriveChain) (g : Objects Obj) (l : Live) → IsDriveUnderWay k own c g l → IsOpenWeb (three_of c) g × AreOfDrive c g
drive_under tftp own c g l k = absurd k
drive_under (http isn) own c g l k = absurd k
drive_under (iscsi isn i) own c g l k = (k.opened, k.kinds)
drive_under (dns id) own c g l k = absurd k
drive_under (dhcp a) own c g l k = absurd k
drive_under ping own c g l k = absurd k

-- which go on after its talk
pub drive_at : (k : OpenKind) (own : Ip4) (c : DriveChain) (g : Objects Obj) (l : Live) → AreChained g (drive_ids c) → IsDriveUnderWay k own c g l → IsDriveAt c g
drive_at tftp own c g l chained k = absurd k
drive_at (http isn) own c g l chained k = absurd k
drive_at (iscsi isn i) own c g l chained k =
    record { kinds = k.kinds; chained = chained; hosted = k.hosted; ask = session_ask isn own i l; start = l.since; talk = session_of isn i l; stands = k.stands }
drive_at (dns id) own c g l chained k = absurd k
drive_at (dhcp a) own c g l chained k = absurd k
drive_at ping own c g l chained k = absurd k

pub kinds_are : (os : OpenObjects) (g : Objects Obj) (l : Live) → AreObjectsChained g os → AreUnderWay os g l → AreOfTheirKinds os g
kinds_are (objects.Chain kind c) g l chained k = tt
kinds_are (objects.Web port own c) g l chained k = (web_open l.kind own c g l k).1
kinds_are (objects.Drive port own c) g l chained k = drive_at l.kind own c g l chained k

objects_open : (os : OpenObjects) (g : Objects Obj) (l : Live) → AreUnderWay os g l → AreObjectsOpen os g
objects_open (objects.Chain kind c) g l k = under_way_open (kind_for l.kind) c g (under_way_by l.kind c g l k)
objects_open (objects.Web port own c) g l k = (web_open l.kind own c g l k).0
objects_open (objects.Drive port own c) g l k = (drive_under l.kind own c g l k).0

pub lives_open : (g : Objects Obj) (o : Open) → LivesSome g o → AreObjectsOpen o.objects g
lives_open g o (l, is) = objects_open o.objects g l is.under_way

-- A CALL ON ITS OBJECTS

-- by this entry of the last one
pub record CallsObjects (os : OpenObjects) (entry : Option GraphEvent) (old new : Objects Obj) (m n : Heard) (ns : List Notice) : Type 0 where
  pub gives : ObjectsGive os old new m n ns
  pub order : HandsUp os ns → AreInOrder (last_object os) entry ns ⊎ (first_close ns ≡ Some no_memory)
  pub comes : ComesOfObjects os new ns

shape_order : (x : ℕ) (entry : Option GraphEvent) (ns : List Notice) → HasShapeOrFails x entry ns → AreInOrder x entry ns ⊎ (first_close ns ≡ Some no_memory)
shape_order x entry ns (inl h) = inl (chain_order x entry ns h)
shape_order x entry ns (inr memory) = inr memory

-- what was told of a message, and of a time
abbrev pub message_told : (os : OpenObjects) (rec : ℕ) (a : Arrival) (now : ℕ) (old new : Objects Obj) (m n : Heard) → DoesMessage os rec a now old new m n → List Notice
message_told (objects.Chain kind c) rec a now old new m n k = k.ns
message_told (objects.Web port own c) rec a now old new m n k = k.ns
message_told (objects.Drive port own c) rec a now old new m n k = k.ns

abbrev pub time_told : (os : OpenObjects) (now : ℕ) (old new : Objects Obj) (m n : Heard) → DoesTime os now old new m n → List Notice
time_told (objects.Chain kind c) now old new m n k = k.ns
time_told (objects.Web port own c) now old new m n k = k.ns
time_told (objects.Drive port own c) now old new m n k = k.ns

abbrev entered_by : OpenObjects → ℕ → Way → Option GraphEvent
entered_by os slot by = Some (Entered (port_at (last_object os) slot) by)

message_call : (os : OpenObjects) (rec : ℕ) (a : Arrival) (now : ℕ) (old new : Objects Obj) (m n : Heard) (l : Live) → length a.body.now ≤ 65535 → AreObjectsChained old os → AreUnderWay os old l → (k : DoesMessage os rec a now old new m n) →
    CallsObjects os (entered_by os 1 way.Up) old new m n (message_told os rec a now old new m n k)
message_call (objects.Chain kind c) rec a now old new m n l short chained lives k =
    let of = kind_for l.kind in
    let going = under_way_by l.kind c old l lives in
    record { gives = k.gives; order = λ up. shape_order (last_serial c) (Some (Entered (port_at (last_serial c) 1) way.Up)) k.ns (k.shape of going); comes = chain_comes kind of c new k.ns (k.comes of going) }
message_call (objects.Web port own c) rec a now old new m n l short chained lives k =
    let is = web_open l.kind own c old l lives in
    let few : AreShort (receives_web c rec a) = short_message (port_at c.conn.0 1) (segment_said rec a) (omega (arith, short)) in
    record { gives = k.gives; order = λ up. inl (web_order c.conn.0 (Some (Entered (port_at c.conn.0 1) way.Up)) k.ns (k.order is.0 is.1 few)); comes = web_comes port own c new k.ns (k.comes is.0) }
message_call (objects.Drive port own c) rec a now old new m n l short chained lives k =
    let is = drive_under l.kind own c old l lives in
    let few : AreShort (receives_web (three_of c) rec a) = short_message (port_at c.conn.0 1) (segment_said rec a) (omega (arith, short)) in
    record { gives = k.gives; order = λ up. inl (drive_order c old new m n now _ _ (is_called c old new m n now _ _ is.0 (drive_at l.kind own c old l chained lives) k) (by_network (segment_said rec a)) few k up); comes = drive_comes port own c new k.ns (k.comes is.0) }

time_call : (os : OpenObjects) (now : ℕ) (old new : Objects Obj) (m n : Heard) (l : Live) → AreObjectsChained old os → AreUnderWay os old l → (k : DoesTime os now old new m n) →
    CallsObjects os (entered_by os 4 way.Time) old new m n (time_told os now old new m n k)
time_call (objects.Chain kind c) now old new m n l chained lives k =
    let of = kind_for l.kind in
    let going = under_way_by l.kind c old l lives in
    record { gives = k.gives; order = λ up. shape_order (last_serial c) (Some (Entered (port_at (last_serial c) 4) way.Time)) k.ns (k.shape of going); comes = chain_comes kind of c new k.ns (k.comes of going) }
time_call (objects.Web port own c) now old new m n l chained lives k =
    let is = web_open l.kind own c old l lives in
    let few : AreShort (ticks_web c) = any_time c.conn.0 in
    record { gives = k.gives; order = λ up. inl (web_order c.conn.0 (Some (Entered (port_at c.conn.0 4) way.Time)) k.ns (k.order is.0 is.1 few)); comes = web_comes port own c new k.ns (k.comes is.0) }
time_call (objects.Drive port own c) now old new m n l chained lives k =
    let is = drive_under l.kind own c old l lives in
    let few : AreShort (ticks_web (three_of c)) = any_time c.conn.0 in
    record { gives = k.gives; order = λ up. inl (drive_order c old new m n now _ _ (is_called c old new m n now _ _ is.0 (drive_at l.kind own c old l chained lives) k) by_time few k up); comes = drive_comes port own c new k.ns (k.comes is.0) }

-- WHAT THE OPEN DID

no_connection : (k : OpenKind) (own : Ip4) (c : WebChain) (g : Objects Obj) (l : Live) → IsWebUnderWay k own c g l → is_connection k ≡ false → ⊥
no_connection tftp own c g l k none = absurd k
no_connection (http isn) own c g l k none = let z = none in cc
no_connection (iscsi isn i) own c g l k none = absurd k
no_connection (dns id) own c g l k none = absurd k
no_connection (dhcp a) own c g l k none = absurd k
no_connection ping own c g l k none = absurd k

-- the three of an open by HTTP are under way for no other kind
web_is : (k : OpenKind) (own : Ip4) (c : WebChain) (g : Objects Obj) (l : Live) → IsWebUnderWay k own c g l → (isn : ℕ) × (k ≡ http isn)
web_is tftp own c g l u = absurd u
web_is (http isn) own c g l u = (isn, refl)
web_is (iscsi isn i) own c g l u = absurd u
web_is (dns id) own c g l u = absurd u
web_is (dhcp a) own c g l u = absurd u
web_is ping own c g l u = absurd u

-- and those of a drive for a drive alone
pub drive_is : (k : OpenKind) (own : Ip4) (c : DriveChain) (g : Objects Obj) (l : Live) → IsDriveUnderWay k own c g l → (isn : ℕ) × (i : LoginInfo) × (k ≡ iscsi isn i)
drive_is tftp own c g l u = absurd u
drive_is (http isn) own c g l u = absurd u
drive_is (iscsi isn i) own c g l u = (isn, i, refl)
drive_is (dns id) own c g l u = absurd u
drive_is (dhcp a) own c g l u = absurd u
drive_is ping own c g l u = absurd u

module _ (who : Speaker) (l : Live) (old new : Objects Obj) (link : Client) (m n : Heard) where
  message_did : (os : OpenObjects) (rec : ℕ) (a : Arrival) (now : ℕ) (came : OpenInput) → length a.body.now ≤ 65535 → a.port < 65536 → IsOpenOf old (record { speaker = who; objects = os }) l → IsInput (record { speaker = who; objects = os }) l rec a now came →
      (k : DoesMessage os rec a now old new m n) → Did (record { speaker = who; objects = os }) l came link new (message_told os rec a now old new m n k)
  message_did (objects.Chain kind c) rec a now came short small is (by_message none suits few) k = received who kind c l old new link k.ns is rec a now few small k.file k.one suits
  message_did (objects.Chain kind c) rec a now came short small is (by_segment g connects suits laid) k = absurd (let no : false ≡ true = sym is.called.kind.0 ∙ connects in cc)
  message_did (objects.Web port own c) rec a now came short small is (by_message none suits few) k = absurd (no_connection l.kind own c old l is.under_way none)
  message_did (objects.Web port own c) rec a now came short small is (by_segment g connects suits laid) k =
      let e = web_is l.kind own c old l is.under_way in
      web_received who port own c l old new link m n rec a now e.0 g e.1 suits laid short is k
  message_did (objects.Drive port own c) rec a now came short small is (by_message none suits few) k =
      let e = drive_is l.kind own c old l is.under_way in
      absurd (let no : true ≡ false = ap is_connection (sym e.2) ∙ none in cc)
  message_did (objects.Drive port own c) rec a now came short small is (by_segment g connects suits laid) k =
      let e = drive_is l.kind own c old l is.under_way in
      drive_received who port own c l old new link m n rec a now e.0 e.1 g e.2 suits laid short is k

  time_did : (os : OpenObjects) (now : ℕ) → IsOpenOf old (record { speaker = who; objects = os }) l → (k : DoesTime os now old new m n) → Did (record { speaker = who; objects = os }) l (time now) link new (time_told os now old new m n k)
  time_did (objects.Chain kind c) now is k = passed who kind c l old new link k.ns is now k.file k.one
  time_did (objects.Web port own c) now is k = web_passed who port own c l old new link m n now is k
  time_did (objects.Drive port own c) now is k = drive_passed who port own c l old new link m n now is k

-- THE EXCHANGE

-- a teller of the open before and after its call, and after all
module _ (o : Open) (old mid : Objects Obj) (net : Client) (before after : Teller) (same_net : before.net.now ≡ net) (same_who : before.who.now ≡ o.speaker) (blank : IsBlank before.told.value) where
  spelled : (ns : List Notice) → Given (told_so_far before) (told_so_far after) ns → after.told.value.is_lost ≡ false → IsSpelled net o.speaker after.told.value ns
  spelled ns given kept = spelled_by o net before after same_net same_who blank ns given kept

  module _ (rec : ℕ) (a : Arrival) (now : ℕ) (short : length a.body.now ≤ 65535) (k : DoesMessage o.objects rec a now old mid (told_so_far before) (told_so_far after)) where
    abbrev message_ns : List Notice
    message_ns = message_told o.objects rec a now old mid (told_so_far before) (told_so_far after) k

    pub receive_may : LivesSome old o → MaySettle o after.told.value mid
    receive_may (l, is) =
        let call = message_call o.objects rec a now old mid (told_so_far before) (told_so_far after) l short is.chained is.under_way k in
        may_settle o net mid after.told.value message_ns (spelled message_ns call.gives.given) call.comes

    pub receives_so : (new : Objects Obj) (last : Teller) (s' : Spelling) (settled : Option Ended) → a.port < 65536 → AreObjectsStill o.objects old mid →
        SettlesOpen o after.told.value mid new (told_so_far after) (told_so_far last) settled → s' ≡ last.told.value → IsWholeSpelling s' →
        (l : Live) (came : OpenInput) → IsOpenOf old o l → IsInput o l rec a now came → Exchanges o l came net (Some way.Up) old new s' settled
    receives_so new last s' settled small on settles same whole l came is input =
        let call = message_call o.objects rec a now old mid (told_so_far before) (told_so_far after) l short is.chained is.under_way k in
        exchanges o l came net (Some way.Up) (entered_by o.objects 1 way.Up) old mid new (told_so_far before) (told_so_far after) (told_so_far last) after.told.value s' message_ns
        (record {
          did = message_did o.speaker l old mid net (told_so_far before) (told_so_far after) o.objects rec a now came short small is input k;
          enters = (port_at (last_object o.objects) 1, refl, refl, tt);
          order = call.order;
          gives = call.gives;
          on = on;
          spelled = spelled message_ns call.gives.given;
          spells = λ all given. told_is net o.speaker before last s' all same_net same_who blank given same whole;
        }) settled is.called.server settles

  module _ (now : ℕ) (k : DoesTime o.objects now old mid (told_so_far before) (told_so_far after)) where
    abbrev time_ns : List Notice
    time_ns = time_told o.objects now old mid (told_so_far before) (told_so_far after) k

    pub time_may : LivesSome old o → MaySettle o after.told.value mid
    time_may (l, is) =
        let call = time_call o.objects now old mid (told_so_far before) (told_so_far after) l is.chained is.under_way k in
        may_settle o net mid after.told.value time_ns (spelled time_ns call.gives.given) call.comes

    pub passes_so : (new : Objects Obj) (last : Teller) (s' : Spelling) (settled : Option Ended) → AreObjectsStill o.objects old mid →
        SettlesOpen o after.told.value mid new (told_so_far after) (told_so_far last) settled → s' ≡ last.told.value → IsWholeSpelling s' →
        (l : Live) → IsOpenOf old o l → Exchanges o l (time now) net (Some way.Time) old new s' settled
    passes_so new last s' settled on settles same whole l is =
        let call = time_call o.objects now old mid (told_so_far before) (told_so_far after) l is.chained is.under_way k in
        exchanges o l (time now) net (Some way.Time) (entered_by o.objects 4 way.Time) old mid new (told_so_far before) (told_so_far after) (told_so_far last) after.told.value s' time_ns
        (record {
          did = time_did o.speaker l old mid net (told_so_far before) (told_so_far after) o.objects now is k;
          enters = (port_at (last_object o.objects) 4, refl, refl, tt);
          order = call.order;
          gives = call.gives;
          on = on;
          spelled = spelled time_ns call.gives.given;
          spells = λ all given. told_is net o.speaker before last s' all same_net same_who blank given same whole;
        }) settled is.called.server settles
