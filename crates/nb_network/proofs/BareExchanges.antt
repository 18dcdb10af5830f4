-- Something comes to an open over a client, as over one without ports.
use Rattle.std.proofs.Common.{◌≡◌, ℕ, List, [], ◌∷◌, ◌++◌, Option, Some, None, refl, sym, ◌∙◌, ap, subst}
use Rattle.std.specs.List.{flat_map}
use Rattle.std.proofs.lemmas.Grind.{flat_map-append}
use Rattle.nb_defs.specs.Records.{Out}
use Rattle.nb_graph.specs.Whole.{Objects}
use Rattle.nb_ledger.specs.declared.event.Way.{Way}
use Rattle.nb_nodes.specs.declared.obj.Obj.{Obj}
use Rattle.nb_nodes.specs.Exchanges.{Service}
use Rattle.nb_nodes.specs.LookupExchanges.{lookup_service}
use Rattle.nb_nodes.specs.LeaseExchanges.{lease_service}
use Rattle.nb_nodes.specs.EchoExchanges.{ping_service}
use Rattle.nb_chains.specs.declared.kind.ChainKind.TheVariants as chain
use Rattle.nb_chains.specs.Kinds.{top_mark}
use Rattle.nb_traced.specs.Plain.{without_graph}
use Rattle.nb_stack.specs.Client.{Client}
use Rattle.nb_tftp.specs.Blocks.{file}
use Rattle.nb_tftp.specs.History.{Entry, entry, got}
use Rattle.nb_dns.specs.LookupReplies.{address_found}
use Rattle.nb_dhcp.specs.History.{acknowledgement_in}
use Rattle.nb_machine.specs.Cores.{CoreExchanged, at_first, takes_message, takes_time, closes, KeepsCore, core_records, look_up_of, ping_of, dns_datagrams_in, handed_bodies_in}
use Rattle.nb_machine.specs.Kinds.{Keeps, KeepsBy, fetched_by, granted_of, moved_by, resolved_of}
use Rattle.nb_machine.specs.Lives.{OpenInput, message, time, OpenKind, tftp, http, iscsi, dns, dhcp, ping, Exchange, exchange, Live, continued}
use Rattle.nb_machine.specs.Connections.{Connection, connection_of, came_on, talk_of, KeepsAt, EachExchange, Talking}
use Rattle.nb_machine.specs.Drives.{input_to_session, session_of, session_talking}
use Rattle.nb_login.specs.declared.info.LoginInfo.{LoginInfo}
use Rattle.nb_sans.specs.Sessions.{ReadTask, session_talker}
use Rattle.nb_drivechains.specs.declared.drive_chain.DriveChain.{DriveChain}
use Rattle.nb_drivetalks.specs.SessionStands.{StandsForSession}
use Rattle.nb_machine.specs.Webs.{web_at, web_talking}
use Rattle.nb_talks.specs.Talking.{Talk, talk_after}
use Rattle.nb_readings.specs.Ends.{text_of}
use Rattle.nb_webs.specs.Webs.{NoTask, response_come}
use Rattle.nb_machine.specs.States.{bare}
use Rattle.nb_machine.specs.Transfers as transfers
use Rattle.nb_machine.specs.Transfers.{Exchanged, arrival_of, transfer_records, datagram_in}
use Rattle.nb_teller.specs.Spelling.{Spelling}
use Rattle.nb_chains.specs.declared.chain.Chain.{Chain}
use Rattle.nb_webchains.specs.declared.web_chain.WebChain.{WebChain}
use Rattle.nb_webtalks.specs.TalkStands.{StandsForTalk}
use Rattle.nb_wire.specs.declared.address.Ip4.{Ip4}
use Rattle.nb_open.specs.declared.ended.Ended.{Ended}
use Rattle.nb_open.specs.declared.open.Open.{Open}
use Rattle.nb_open.specs.declared.objects.OpenObjects.{OpenObjects}
use Rattle.nb_open.specs.declared.objects.OpenObjects.TheVariants as objects
use Rattle.nb_open.specs.Open.{AreOfKind, AreUnderWay, IsAskingCore, IsDriveUnderWay, IsOpenOf, IsUnderWay, IsWebUnderWay, ask_of, session_ask}
use Rattle.nb_open.specs.Exchanges.{Exchanges, ExchangesBy, HandsOut, last_put}
use Rattle.nb_network.proofs.Bares.{bare_core, bare_transfer, put_bare}

-- THE LAST EXCHANGE

pub no_last : {A : Type 0} (xs : List A) (x : A) → [] ≡ xs ++ x ∷ [] → ⊥
no_last [] x e = cc
no_last (y ∷ xs) x e = cc

pub same_last : {A : Type 0} (xs ys : List A) (x y : A) → xs ++ x ∷ [] ≡ ys ++ y ∷ [] → (xs ≡ ys) × (x ≡ y)
same_last [] [] x y e = (refl, cc)
same_last [] (b ∷ ys) x y e = absurd (no_last ys y (let f : [] ≡ ys ++ y ∷ [] = cc in f))
same_last (a ∷ xs) [] x y e = absurd (no_last xs x (let f : [] ≡ xs ++ x ∷ [] = cc in f))
same_last (a ∷ xs) (b ∷ ys) x y e = let r = same_last xs ys x y (cc) in let h : a ≡ b = cc in (ap (λ z. a ∷ z) r.0 ∙ ap (λ z. z ∷ ys) h, r.1)

-- over the client without ports
abbrev pub bared : Exchange → Exchange
bared x = exchange x.came (bare x.link) x.put

bare_exchanged : (k server : ℕ) (es : List Entry) (ys : List Exchange) → Exchanged k server es ys → (xs : List Exchange) (x : Exchange) → ys ≡ xs ++ x ∷ [] → Exchanged k server es (xs ++ bared x ∷ [])
bare_exchanged k server es ys transfers.at_first xs x e = absurd (no_last xs x e)
bare_exchanged k server es ys (transfers.takes es0 xs0 link call acts h) xs x e =
    let put = transfer_records k server link (file (got (es0 ++ entry call acts ∷ []))) acts in
    let r = same_last xs0 xs (exchange (arrival_of call) link put) x e in
    let es1 = es0 ++ entry call acts ∷ [] in
    subst (λ z. Exchanged k server es1 (z ++ bared x ∷ [])) r.0
    (subst (λ z. Exchanged k server es1 (xs0 ++ bared z ∷ [])) r.1
    (subst (λ z. Exchanged k server es1 (xs0 ++ exchange (arrival_of call) (bare link) z ∷ [])) (bare_transfer k server link (file (got es1)) acts)
    (transfers.takes es0 xs0 (bare link) call acts h)))
bare_exchanged k server es ys (transfers.closes es0 xs0 link cause h) xs x e =
    let r = same_last xs0 xs (exchange _ link _) x e in
    subst (λ z. Exchanged k server es0 (z ++ bared x ∷ [])) r.0
    (subst (λ z. Exchanged k server es0 (xs0 ++ bared z ∷ [])) r.1
    (transfers.closes es0 xs0 (bare link) cause h))

bare_core_exchanged : {S B C : Type 0} (s : Service S B C) (k server : ℕ) (cs : List C) (ys : List Exchange) → CoreExchanged s k server cs ys → (xs : List Exchange) (x : Exchange) → ys ≡ xs ++ x ∷ [] → CoreExchanged s k server cs (xs ++ bared x ∷ [])
bare_core_exchanged s k server cs ys at_first xs x e = absurd (no_last xs x e)
bare_core_exchanged {C} s k server cs ys (takes_message cs0 xs0 link rec port body now acts h) xs x e =
    let r = same_last xs0 xs (exchange _ link (core_records k server link acts)) x e in
    subst (λ z. CoreExchanged s k server cs (z ++ bared x ∷ [])) r.0
    (subst (λ z. CoreExchanged s k server cs (xs0 ++ bared z ∷ [])) r.1
    (subst (λ z. CoreExchanged s k server cs (xs0 ++ exchange (message rec port body now) (bare link) z ∷ [])) (bare_core k server link acts)
    (takes_message cs0 xs0 (bare link) rec port body now acts h)))
bare_core_exchanged s k server cs ys (takes_time cs0 xs0 link now acts h) xs x e =
    let r = same_last xs0 xs (exchange _ link (core_records k server link acts)) x e in
    subst (λ z. CoreExchanged s k server cs (z ++ bared x ∷ [])) r.0
    (subst (λ z. CoreExchanged s k server cs (xs0 ++ bared z ∷ [])) r.1
    (subst (λ z. CoreExchanged s k server cs (xs0 ++ exchange (time now) (bare link) z ∷ [])) (bare_core k server link acts)
    (takes_time cs0 xs0 (bare link) now acts h)))
bare_core_exchanged s k server cs ys (closes cs0 xs0 link cause h) xs x e =
    let r = same_last xs0 xs (exchange _ link _) x e in
    subst (λ z. CoreExchanged s k server cs (z ++ bared x ∷ [])) r.0
    (subst (λ z. CoreExchanged s k server cs (xs0 ++ bared z ∷ [])) r.1
    (closes cs0 xs0 (bare link) cause h))

-- WHAT IT HAS KEPT

core_keeps_bare : {S B C : Type 0} (s : Service S B C) (b : B) (l : Live) (x : Exchange) → KeepsCore s b (continued l x) → KeepsCore s b (continued l (bared x))
core_keeps_bare s b l x k = record { calls = k.calls; exchanged = bare_core_exchanged s l.number l.server k.calls (l.exchanges ++ x ∷ []) k.exchanged l.exchanges x refl; meets = k.meets }

each_bare : {T : Type 0} (t : Talking T) (c : Connection) (before xs : List Exchange) (x : Exchange) → EachExchange (KeepsAt t c) before (xs ++ x ∷ []) → EachExchange (KeepsAt t c) before (xs ++ bared x ∷ [])
each_bare t c before [] x h = (record { put = h.0.put; puts = h.0.puts; records = h.0.records ∙ sym (put_bare c x.link h.0.put) }, tt)
each_bare t c before (y ∷ xs) x h = (h.0, each_bare t c (before ++ y ∷ []) xs x h.1)

keeps_by_bare : (k : OpenKind) (l : Live) (x : Exchange) → KeepsBy k (continued l x) → KeepsBy k (continued l (bared x))
keeps_by_bare tftp l x k = record { entries = k.entries; exchanged = bare_exchanged l.number l.server k.entries (l.exchanges ++ x ∷ []) k.exchanged l.exchanges x refl; meets = k.meets }
keeps_by_bare (http isn) l x k = each_bare (web_talking l.target) (connection_of isn l) [] l.exchanges x k
keeps_by_bare (iscsi isn i) l x k = each_bare (session_talking i) (connection_of isn l) [] l.exchanges x k
keeps_by_bare (dns id) l x k = core_keeps_bare lookup_service (look_up_of id l) l x k
keeps_by_bare (dhcp a) l x k = core_keeps_bare lease_service a l x k
keeps_by_bare ping l x k = core_keeps_bare ping_service (ping_of l) l x k

pub keeps_bare : (l : Live) (x : Exchange) → Keeps (continued l x) → Keeps (continued l (bared x))
keeps_bare l x k = keeps_by_bare l.kind l x k

-- WHAT IT HAS FOUND

same_found : {A : Type 0} (f : Exchange → List A) (xs : List Exchange) (x y : Exchange) → f x ≡ f y → flat_map f (xs ++ x ∷ []) ≡ flat_map f (xs ++ y ∷ [])
same_found f xs x y e = flat_map-append f xs (x ∷ []) ∙ ap (λ z. flat_map f xs ++ (z ++ [])) e ∙ sym (flat_map-append f xs (y ∷ []))

-- what came is the same
talk_bare : (isn : ℕ) (l : Live) (x : Exchange) → talk_of (web_talking l.target) (connection_of isn l) (l.exchanges ++ bared x ∷ []) ≡ talk_of (web_talking l.target) (connection_of isn l) (l.exchanges ++ x ∷ [])
talk_bare isn l x = ap (talk_after (web_at l.target) isn l.since) (same_found (λ y. came_on y.came) l.exchanges (bared x) x refl)

session_bare : (isn : ℕ) (i : LoginInfo) (l : Live) (x : Exchange) → session_of isn i (continued l (bared x)) ≡ session_of isn i (continued l x)
session_bare isn i l x = ap (talk_after (session_talker i) isn l.since) (same_found (λ y. input_to_session y.came) l.exchanges (bared x) x refl)

fetched_bare : (k : OpenKind) (l : Live) (x : Exchange) → fetched_by k (continued l (bared x)) ≡ fetched_by k (continued l x)
fetched_bare tftp l x = ap file (same_found (λ y. datagram_in y.came) l.exchanges (bared x) x refl)
fetched_bare (http isn) l x = ap (λ d. (response_come isn d.calls).bytes) (talk_bare isn l x)
fetched_bare (iscsi isn i) l x = refl
fetched_bare (dns id) l x = refl
fetched_bare (dhcp a) l x = refl
fetched_bare ping l x = refl

moved_bare : (k : OpenKind) (l : Live) (x : Exchange) → moved_by k (continued l (bared x)) ≡ moved_by k (continued l x)
moved_bare tftp l x = refl
moved_bare (http isn) l x = ap (λ d. text_of (response_come isn d.calls).verdict) (talk_bare isn l x)
moved_bare (iscsi isn i) l x = refl
moved_bare (dns id) l x = refl
moved_bare (dhcp a) l x = refl
moved_bare ping l x = refl

granted_bare : (k : OpenKind) (xs : List Exchange) (x : Exchange) → granted_of k (xs ++ bared x ∷ []) ≡ granted_of k (xs ++ x ∷ [])
granted_bare tftp xs x = refl
granted_bare (http isn) xs x = refl
granted_bare (iscsi isn i) xs x = refl
granted_bare (dns id) xs x = refl
granted_bare (dhcp a) xs x = ap (acknowledgement_in a) (same_found (λ y. handed_bodies_in y.came) xs (bared x) x refl)
granted_bare ping xs x = refl

resolved_bare : (k : OpenKind) (l : Live) (x : Exchange) → resolved_of k (continued l (bared x)) ≡ resolved_of k (continued l x)
resolved_bare tftp l x = refl
resolved_bare (http isn) l x = refl
resolved_bare (iscsi isn i) l x = refl
resolved_bare (dns id) l x = ap (address_found (look_up_of id l)) (same_found (λ y. dns_datagrams_in l.server y.came) l.exchanges (bared x) x refl)
resolved_bare (dhcp a) l x = refl
resolved_bare ping l x = refl

pub hands_bare : (o : Open) (l : Live) (x : Exchange) (e : Ended) (s : Spelling) → HandsOut o (continued l x) e s → HandsOut o (continued l (bared x)) e s
hands_bare o l x e s h = record {
  body = λ still. fetched_bare l.kind l x ∙ h.body still;
  moved = moved_bare l.kind l x ∙ h.moved;
  bytes = granted_bare l.kind l.exchanges x ∙ h.bytes;
  address = resolved_bare l.kind l x ∙ h.address;
}

-- THE OPEN

asking_bare : {S B C : Type 0} (s : Service S B C) (kind : ℕ) (b : B) (c : Chain) (g : Objects Obj) (l : Live) (x : Exchange) → IsAskingCore s kind b c g (continued l x) → IsAskingCore s kind b c g (continued l (bared x))
asking_bare s kind b c g l x i = record {
  below = i.below;
  calls = i.calls;
  talks = i.talks;
  exchanged = bare_core_exchanged s l.number l.server i.calls (l.exchanges ++ x ∷ []) i.exchanged l.exchanges x refl;
}

under_way_bare : (k : OpenKind) (c : Chain) (g : Objects Obj) (l : Live) (x : Exchange) → IsUnderWay k c g (continued l x) → IsUnderWay k c g (continued l (bared x))
under_way_bare tftp c g l x i = record {
  tftp = i.tftp;
  below = i.below;
  entries = i.entries;
  downloads = i.downloads;
  exchanged = bare_exchanged l.number l.server i.entries (l.exchanges ++ x ∷ []) i.exchanged l.exchanges x refl;
  short = i.short;
}
under_way_bare (http isn) c g l x i = absurd i
under_way_bare (iscsi isn a) c g l x i = absurd i
under_way_bare (dns id) c g l x i = asking_bare lookup_service (top_mark chain.Name) (look_up_of id l) c g l x i
under_way_bare (dhcp a) c g l x i = asking_bare lease_service (top_mark chain.Lease) a c g l x i
under_way_bare ping c g l x i = asking_bare ping_service (top_mark chain.Echo) (ping_of l) c g l x i

-- as it has talked so far
web_under_way_bare : (k : OpenKind) (own : Ip4) (c : WebChain) (g : Objects Obj) (l : Live) (x : Exchange) → IsWebUnderWay k own c g (continued l x) → IsWebUnderWay k own c g (continued l (bared x))
web_under_way_bare (http isn) own c g l x i = record {
  opened = i.opened;
  kinds = i.kinds;
  hosted = i.hosted;
  stands = subst (λ (d : Talk NoTask). StandsForTalk (ask_of isn own l) l.since d.calls c g) (sym (talk_bare isn l x)) i.stands;
  keeps = each_bare (web_talking l.target) (connection_of isn l) [] l.exchanges x i.keeps;
  asked = i.asked;
}
web_under_way_bare (iscsi isn a) own c g l x i = absurd i
web_under_way_bare tftp own c g l x i = absurd i
web_under_way_bare (dns id) own c g l x i = absurd i
web_under_way_bare (dhcp a) own c g l x i = absurd i
web_under_way_bare ping own c g l x i = absurd i

drive_under_way_bare : (k : OpenKind) (own : Ip4) (c : DriveChain) (g : Objects Obj) (l : Live) (x : Exchange) → IsDriveUnderWay k own c g (continued l x) → IsDriveUnderWay k own c g (continued l (bared x))
drive_under_way_bare (iscsi isn a) own c g l x i = record {
  opened = i.opened;
  kinds = i.kinds;
  hosted = i.hosted;
  stands = subst (λ (d : Talk ReadTask). StandsForSession (session_ask isn own a l) l.since d c g) (sym (session_bare isn a l x)) i.stands;
  keeps = each_bare (session_talking a) (connection_of isn l) [] l.exchanges x i.keeps;
}
drive_under_way_bare (http isn) own c g l x i = absurd i
drive_under_way_bare tftp own c g l x i = absurd i
drive_under_way_bare (dns id) own c g l x i = absurd i
drive_under_way_bare (dhcp a) own c g l x i = absurd i
drive_under_way_bare ping own c g l x i = absurd i

objects_bare : (os : OpenObjects) (g : Objects Obj) (l : Live) (x : Exchange) → AreUnderWay os g (continued l x) → AreUnderWay os g (continued l (bared x))
objects_bare (objects.Chain kind chain) g l x i = under_way_bare l.kind chain g l x i
objects_bare (objects.Web port own chain) g l x i = web_under_way_bare l.kind own chain g l x i
objects_bare (objects.Drive port own chain) g l x i = drive_under_way_bare l.kind own chain g l x i

kind_bare : (os : OpenObjects) (l : Live) (x : Exchange) → AreOfKind os (continued l x) → AreOfKind os (continued l (bared x))
kind_bare (objects.Chain kind chain) l x i = i
kind_bare (objects.Web port own chain) l x i = i
kind_bare (objects.Drive port own chain) l x i = i

pub open_bare : (g : Objects Obj) (o : Open) (l : Live) (x : Exchange) → IsOpenOf g o (continued l x) → IsOpenOf g o (continued l (bared x))
open_bare g o l x i = record {
  chained = i.chained;
  called = record { number = i.called.number; server = i.called.server; own = i.called.own; device = i.called.device; kind = kind_bare o.objects l x i.called.kind; carrier = i.called.carrier; asks = i.called.asks };
  under_way = objects_bare o.objects g l x i.under_way;
}

-- THE EXCHANGE

exchanges_by_bare : (e : Option Ended) (o : Open) (l : Live) (came : OpenInput) (link : Client) (way : Option Way) (g h : Objects Obj) (records : List Out) (s : Spelling) → ExchangesBy e o l came link way g h records s → ExchangesBy e o l came (bare link) way g h records s
exchanges_by_bare None o l came link way g h records s x = record {
  keeps = keeps_bare l (exchange came link (without_graph records)) x.keeps;
  no_end = x.no_end;
  lives = open_bare h o l (exchange came link (without_graph records)) x.lives;
  others = x.others;
  call = x.call;
  no_close = x.no_close;
}
exchanges_by_bare (Some e) o l came link way g h records s x = record {
  keeps = keeps_bare l (exchange came link (last_put l records e.cause)) x.keeps;
  its_end = x.its_end;
  released = x.released;
  call = x.call;
  close = x.close;
  hands = λ ok. hands_bare o l (exchange came link (last_put l records e.cause)) e s (x.hands ok);
  message = x.message;
}

pub exchanges_bare : (o : Open) (l : Live) (came : OpenInput) (link : Client) (way : Option Way) (g h : Objects Obj) (s : Spelling) (e : Option Ended) → Exchanges o l came link way g h s e → Exchanges o l came (bare link) way g h s e
exchanges_bare o l came link way g h s e x = record { records = x.records; text = x.text; does = exchanges_by_bare e o l came link way g h x.records s x.does; answers = x.answers }
