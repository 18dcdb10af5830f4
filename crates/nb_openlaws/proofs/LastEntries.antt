-- The last exchange of an open, whatever its kind: its core took what came and asked this, or it was closed.
use Rattle.std.proofs.Common.{◌≡◌, ℕ, ◌==◌, Bool, true, false, cond, inl, inr, List, [], ◌∷◌, ◌++◌, Option, Some, None, refl, sym, ◌∙◌, ap, subst, map}
use Rattle.std.specs.List.{AllByRecursion}
use Rattle.std.specs.Option.{option_map_or}
use Rattle.std.proofs.lemmas.List.{map-append}
use Rattle.nb_retry.specs.declared.retry.Due.{Due}
use Rattle.nb_retry.specs.declared.retry.Due.TheVariants.{Not, Again, Over}
use Rattle.nb_terms.specs.declared.acts.Acts.{Acts}
use Rattle.nb_terms.specs.declared.acts.SendTo.{SendTo}
use Rattle.nb_terms.specs.declared.cause.Cause.{Cause}
use Rattle.nb_defs.specs.Records.{ended}
use Rattle.nb_stack.specs.Client.{Client}
use Rattle.nb_dns.specs.Lookups.{Lookup, asks_by, asks_lookup_end as lookup_asks_end, asks_lookup_nothing as lookup_asks_nothing}
use Rattle.nb_dns.specs.LookupCalls.{LookupEntry, LookupCall, arrived, clocked, datagrams, said_by, EachLookupEntry}
use Rattle.nb_dns.specs.LookupPromises.{LookupMeets, AsksAt, AsksInTurn}
use Rattle.nb_dhcp.specs.declared.asker.Asker.{Asker}
use Rattle.nb_dhcp.specs.declared.offer.Offer.{Offer}
use Rattle.nb_dhcp.specs.History.{Handed, LeaseEntry, LeaseCall, replied, elapsed, all_handed, timer_said, taken_offer, AtEach}
use Rattle.nb_dhcp.specs.Acting.{no_acts, lease_asking, lease_ending, lease_ok, lease_refused, verdict_acts, reply_acts, timer_acts}
use Rattle.nb_dhcp.specs.Replies.{offer_in, kind_from}
use Rattle.nb_dhcp.specs.Promises.{LeasePromises, ActsSo, call_acts}
use Rattle.nb_ping.specs.Pings.{Pinged, ping_asks, ping_ok, asks_end, asks_nothing}
use Rattle.nb_ping.specs.PingCalls.{PingEntry, PingCall, echoed, waited, echo_replies, answers_ping, ping_said, EachPingEntry}
use Rattle.nb_ping.specs.PingPromises.{PingMeets, PingAsksAt, PingAsksInTurn}
use Rattle.nb_tftp.specs.Asks.{due_acts}
use Rattle.nb_tftp.specs.Blocks.{file}
use Rattle.nb_tftp.specs.History.{Call, came, ticked, Entry, entry, got, due_of}
use Rattle.nb_tftp.specs.Sentences.{Meets, AsksSo, IfTicked}
use Rattle.nb_tftp.proofs.PlainLaws.{asks_last}
use Rattle.nb_command.specs.SettingAddresses.{host}
use Rattle.nb_nodes.specs.Exchanges.{Service}
use Rattle.nb_nodes.specs.LookupExchanges.{lookup_service}
use Rattle.nb_nodes.specs.LeaseExchanges.{lease_service}
use Rattle.nb_nodes.specs.EchoExchanges.{ping_service}
use Rattle.nb_machine.specs.Sendings.{acts_records}
use Rattle.nb_laws.specs.Agreement.{moment, lookup_entry_of, lease_entry_of, ping_entry_of}
use Rattle.nb_machine.specs.Lives.{OpenKind, tftp, http, iscsi, dns, dhcp, ping, OpenInput, message, time as time_came, close, Exchange, exchange, Live, continued}
use Rattle.nb_machine.specs.Transfers.{transfer_of, arrival_of, end_records, transfer_end, transfer_records, Exchanged, at_first, takes, closes}
use Rattle.nb_machine.specs.Cores as cores
use Rattle.nb_machine.specs.Cores.{look_up_of, ping_of, core_end, core_records, CoreExchanged, KeepsCore}
use Rattle.nb_machine.specs.Kinds.{KeepsBy, is_connection}
use Rattle.nb_openlaws.specs.Standings.{heard_port, heard_call, moment_in, ComesToOwnPort, IsOngoing}
use Rattle.nb_openlaws.proofs.OpenRecords.{snoc_one, no_snoc}
use Rattle.nb_openlaws.proofs.OpenEntries.{IsFit, Did, did_transfer, ReadsAs, did_core, transfer_fit, all_front, all_last, each_front}

-- WHAT CORES OF ONE OBJECT ASK

-- what asks for nothing tries nothing, and what ends the open tries nothing
abbrev pub IsCoreFit : Acts → Type 0
IsCoreFit acts = IsFit acts × ((cause : Cause) → acts.over ≡ Some cause → acts.tried ≡ None)

nothing_fit : (acts : Acts) → acts.tried ≡ None → IsCoreFit acts
nothing_fit acts none = (λ e. none, λ cause e. none)

asking_fit : (acts : Acts) (send : SendTo) → acts.sends.items ≡ send ∷ [] → acts.over ≡ None → IsCoreFit acts
asking_fit acts send items none = (
  λ e. absurd (let no : send ∷ [] ≡ [] = sym items ∙ e in cc),
  λ cause e. absurd (let no : None ≡ Some cause = sym none ∙ e in cc),
)

lookup_due_fit : (l : Lookup) (d : Due) → IsCoreFit (asks_by l d)
lookup_due_fit l Not = nothing_fit (asks_by l Not) refl
lookup_due_fit l (Again n) = asking_fit (asks_by l (Again n)) _ refl refl
lookup_due_fit l Over = nothing_fit (asks_by l Over) refl

lookup_fit : (l : Lookup) (before : List _) (call : LookupCall) (acts : Acts) → AsksAt l before call acts → IsCoreFit acts
lookup_fit l before (arrived m now) acts (inl t) = subst IsCoreFit (sym t.ends) (nothing_fit (lookup_asks_end _) refl)
lookup_fit l before (arrived m now) acts (inr (none, is)) = subst IsCoreFit (sym is) (nothing_fit lookup_asks_nothing refl)
lookup_fit l before (clocked now) acts (is, silent) = subst IsCoreFit (sym is) (lookup_due_fit l (said_by acts))

lookup_fits : (l : Lookup) (before calls : List LookupEntry) → EachLookupEntry (AsksInTurn l) before calls → AllByRecursion (λ (c : LookupEntry). IsCoreFit c.acts) calls
lookup_fits l before [] each = tt
lookup_fits l before (c ∷ calls) each = (lookup_fit l (datagrams before) c.call c.acts each.0, lookup_fits l (before ++ c ∷ []) calls each.1)

verdict_fit : (rec : ℕ) (kind : Option ℕ) → IsCoreFit (verdict_acts rec kind)
verdict_fit rec None = nothing_fit no_acts refl
verdict_fit rec (Some kind) = by (kind == 5) (kind == 6)
  where
    by : (b c : Bool) → IsCoreFit (cond b (lease_ending lease_ok) (cond c (lease_ending (lease_refused rec)) no_acts))
    by true c = nothing_fit (lease_ending lease_ok) refl
    by false true = nothing_fit (lease_ending (lease_refused rec)) refl
    by false false = nothing_fit no_acts refl

reply_fit : (a : Asker) (o : Option Offer) (m : Handed) → IsCoreFit (reply_acts a o m)
reply_fit a (Some offer) m = verdict_fit m.rec (kind_from a offer.server m.body)
reply_fit a None m = by (offer_in a m.body)
  where
    by : (o : Option Offer) → IsCoreFit (option_map_or (λ offer. lease_asking a (Some offer) 1) o no_acts)
    by None = nothing_fit no_acts refl
    by (Some offer) = asking_fit (lease_asking a (Some offer) 1) _ refl refl

timer_fit : (a : Asker) (o : Option Offer) (d : Due) → IsCoreFit (timer_acts a o d)
timer_fit a o Not = nothing_fit no_acts refl
timer_fit a o (Again n) = asking_fit (lease_asking a o n) _ refl refl
timer_fit a o Over = nothing_fit (timer_acts a o Over) refl

lease_fit : (a : Asker) (before : List Handed) (call : LeaseCall) (acts : Acts) → acts ≡ call_acts a before call acts → IsCoreFit acts
lease_fit a before (replied m now) acts is = subst IsCoreFit (sym is) (reply_fit a (taken_offer a before) m)
lease_fit a before (elapsed now) acts is = subst IsCoreFit (sym is) (timer_fit a (taken_offer a before) (timer_said acts))

lease_fits : (a : Asker) (before calls : List LeaseEntry) → AtEach (ActsSo a) before calls → AllByRecursion (λ (c : LeaseEntry). IsCoreFit c.acts) calls
lease_fits a before [] each = tt
lease_fits a before (c ∷ calls) each = (lease_fit a (all_handed before) c.call c.acts each.0, lease_fits a (before ++ c ∷ []) calls each.1)

ping_due_fit : (p : Pinged) (d : Due) → IsCoreFit (ping_asks p d)
ping_due_fit p Not = nothing_fit (ping_asks p Not) refl
ping_due_fit p (Again n) = asking_fit (ping_asks p (Again n)) _ refl refl
ping_due_fit p Over = nothing_fit (ping_asks p Over) refl

ping_fit : (p : Pinged) (before : List _) (call : PingCall) (acts : Acts) → PingAsksAt p before call acts → IsCoreFit acts
ping_fit p before (echoed r now) acts is = subst IsCoreFit (sym is) (by (answers_ping p r))
  where
    by : (b : Bool) → IsCoreFit (cond b (asks_end ping_ok) asks_nothing)
    by true = nothing_fit (asks_end ping_ok) refl
    by false = nothing_fit asks_nothing refl
ping_fit p before (waited now) acts (is, silent) = subst IsCoreFit (sym is) (ping_due_fit p (ping_said acts))

ping_fits : (p : Pinged) (before calls : List PingEntry) → EachPingEntry (PingAsksInTurn p) before calls → AllByRecursion (λ (c : PingEntry). IsCoreFit c.acts) calls
ping_fits p before [] each = tt
ping_fits p before (c ∷ calls) each = (ping_fit p (echo_replies before) c.call c.acts each.0, ping_fits p (before ++ c ∷ []) calls each.1)

-- HOW THEIR CALLS READ

reads_lookup : (id server own : ℕ) → ReadsAs lookup_service (dns id) server own (lookup_entry_of (host server)) (λ c. c.acts)
reads_lookup id server own = record { by_message = λ rec port body now acts h. refl; by_time = λ now acts. refl; acts_are = λ e. by e }
  where
    by : (e : Entry) → (lookup_entry_of (host server) e).acts ≡ e.acts
    by e = refl

reads_lease : (a : Asker) (server own : ℕ) → ReadsAs lease_service (dhcp a) server own lease_entry_of (λ c. c.acts)
reads_lease a server own = record { by_message = λ rec port body now acts h. refl; by_time = λ now acts. refl; acts_are = λ e. refl }

reads_ping : (p : Pinged) (server : ℕ) → p.host ≡ host server → ReadsAs ping_service ping server p.ident (ping_entry_of p) (λ c. c.acts)
reads_ping p server is = record {
  by_message = λ rec port body now acts h. rw (h, is) refl;
  by_time = λ now acts. refl;
  acts_are = λ e. refl;
}

-- THE LAST EXCHANGE

-- the promises of the core of an open, over its entries; one on a connection has none
abbrev pub Promised : OpenKind → Live → List Entry → Type 0
Promised tftp l h = Meets (transfer_of l) l.since h
Promised (http isn) l h = ⊥
Promised (iscsi isn i) l h = ⊥
Promised (dns id) l h = LookupMeets (look_up_of id l) l.since (map (lookup_entry_of (host l.server)) h)
Promised (dhcp a) l h = LeasePromises a l.since (map lease_entry_of h)
Promised ping l h = PingMeets (ping_of l) l.since (map (ping_entry_of (ping_of l)) h)

-- how its last entry ends it, if it does
abbrev pub exchange_end : OpenKind → Live → Client → List Entry → Acts → Option Cause
exchange_end tftp l link h acts = transfer_end l.server link (file (got h)) acts
exchange_end (http isn) l link h acts = None
exchange_end (iscsi isn i) l link h acts = None
exchange_end (dns id) l link h acts = core_end l.server link acts
exchange_end (dhcp a) l link h acts = core_end l.server link acts
exchange_end ping l link h acts = core_end l.server link acts

-- no try is made with an end: of a transfer at a time
abbrev pub EndsUntried : OpenKind → Call → Acts → Type 0
EndsUntried tftp call acts = IfTicked call ((cause : Cause) → acts.over ≡ Some cause → acts.tried ≡ None)
EndsUntried (http isn) call acts = ⊥
EndsUntried (iscsi isn i) call acts = ⊥
EndsUntried (dns id) call acts = (cause : Cause) → acts.over ≡ Some cause → acts.tried ≡ None
EndsUntried (dhcp a) call acts = (cause : Cause) → acts.over ≡ Some cause → acts.tried ≡ None
EndsUntried ping call acts = (cause : Cause) → acts.over ≡ Some cause → acts.tried ≡ None

-- the core of an open of this kind took what came, and asked this
pub record TookAs (kind : OpenKind) (l : Live) (x : Exchange) (h : List Entry) (call : Call) (acts : Acts) : Type 0 where
  pub did : Did kind l.number l.exchanges h
  pub heard : heard_call kind x.came ≡ call ∷ []
  pub at : moment_in x.came ≡ moment call
  pub put_is : x.put ≡ acts_records x.link l.number acts ++ end_records l.number (exchange_end kind l x.link (h ++ entry call acts ∷ []) acts)
  pub promised : Promised kind l (h ++ entry call acts ∷ [])
  pub fit : IsFit acts
  pub untried : EndsUntried kind call acts

pub data LastAs (kind : OpenKind) (l : Live) (x : Exchange) : Type 0 where
  took_as : (h : List Entry) (call : Call) (acts : Acts) → TookAs kind l x h call acts → LastAs kind l x
  closed_as : (cause : Cause) → x.came ≡ close cause → x.put ≡ ended l.number cause ∷ [] → LastAs kind l x

one_arrival : (call : Call) → heard_call tftp (arrival_of call) ≡ call ∷ []
one_arrival (came m now) = refl
one_arrival (ticked now) = refl

same_moment : (call : Call) → moment_in (arrival_of call) ≡ moment call
same_moment (came m now) = refl
same_moment (ticked now) = refl

-- a transfer
due_untried : (b : _) (fixed : Option ℕ) (last : ℕ) (acts : Acts) (d : Due) (cause : Cause) → acts ≡ due_acts b fixed last d → acts.over ≡ Some cause → acts.tried ≡ None
due_untried b fixed last acts Not cause is over = ap (λ (a : Acts). a.tried) is
due_untried b None last acts (Again n) cause is over = absurd (let no : None ≡ Some cause = sym (ap (λ (a : Acts). a.over) is) ∙ over in cc)
due_untried b (Some port) last acts (Again n) cause is over = absurd (let no : None ≡ Some cause = sym (ap (λ (a : Acts). a.over) is) ∙ over in cc)
due_untried b fixed last acts Over cause is over = ap (λ (a : Acts). a.tried) is

transfer_untried : (l : Live) (h : List Entry) (call : Call) (acts : Acts) → AsksSo (transfer_of l) h (entry call acts) → EndsUntried tftp call acts
transfer_untried l h (came m now) acts so = tt
transfer_untried l h (ticked now) acts so = λ cause over. due_untried (transfer_of l) _ _ acts (due_of acts) cause so over

last_transfer : (l : Live) (x : Exchange) (es : List Entry) (ys : List Exchange) → Exchanged l.number l.server es ys → ys ≡ l.exchanges ++ x ∷ [] → Meets (transfer_of l) l.since es → AllByRecursion (IsOngoing tftp l.number l.own) l.exchanges → LastAs tftp l x
last_transfer l x es ys at_first e meets going = absurd (no_snoc l.exchanges x e)
last_transfer l x es ys (takes es0 xs0 link call acts before) e meets going =
    let y = exchange (arrival_of call) link (transfer_records l.number l.server link (file (got (es0 ++ entry call acts ∷ []))) acts) in
    let both = snoc_one xs0 l.exchanges y x e in
    let same : y ≡ x = both.1 in
    let so = asks_last true (transfer_of l) l.since es0 (entry call acts) meets in
    subst (LastAs tftp l) same (took_as es0 call acts (record {
      did = did_transfer l.number l.server l.own (transfer_of l) es0 l.exchanges (subst (λ z. Exchanged l.number l.server es0 z) both.0 before) (each_front (AsksSo (transfer_of l)) [] es0 (entry call acts) meets.sending) going;
      heard = one_arrival call;
      at = same_moment call;
      put_is = refl;
      promised = meets;
      fit = transfer_fit (transfer_of l) es0 call acts so;
      untried = transfer_untried l es0 call acts so;
    }))
last_transfer l x es ys (closes es0 xs0 link cause before) e meets going =
    let y = exchange (close cause) link (ended l.number cause ∷ []) in
    let same : y ≡ x = (snoc_one xs0 l.exchanges y x e).1 in
    subst (LastAs tftp l) same (closed_as cause refl refl)

-- a core of one object: what its open says of its calls
record CoreOf {S B C : Type 0} (s : Service S B C) (kind : OpenKind) (l : Live) (conv : Entry → C) (acts_in : C → Acts) : Type 0 where
  reads : ReadsAs s kind l.server l.own conv acts_in
  ends : (link : Client) (h : List Entry) (acts : Acts) → exchange_end kind l link h acts ≡ core_end l.server link acts
  untries : (call : Call) (acts : Acts) → ((cause : Cause) → acts.over ≡ Some cause → acts.tried ≡ None) → EndsUntried kind call acts

all_map : {A : Type 0} (P Q : A → Type 0) (xs : List A) → ((x : A) → P x → Q x) → AllByRecursion P xs → AllByRecursion Q xs
all_map P Q [] f h = tt
all_map P Q (x ∷ xs) f h = (f x h.0, all_map P Q xs f h.1)

core_took : {S B C : Type 0} (s : Service S B C) (kind : OpenKind) (l : Live) (conv : Entry → C) (acts_in : C → Acts) → CoreOf s kind l conv acts_in → (xs0 : List Exchange) (calls0 : List C) (x y : Exchange) (c : C) (link : Client) (call : Call) (acts : Acts) (input : OpenInput) →
    y ≡ exchange input link (core_records l.number l.server link acts) → xs0 ≡ l.exchanges → y ≡ x → CoreExchanged s l.number l.server calls0 xs0 → AllByRecursion (λ (z : C). IsCoreFit (acts_in z)) (calls0 ++ c ∷ []) → c ≡ conv (entry call acts) →
    heard_call kind input ≡ call ∷ [] → moment_in input ≡ moment call → ((h : List Entry) → calls0 ++ c ∷ [] ≡ map conv (h ++ entry call acts ∷ []) → Promised kind l (h ++ entry call acts ∷ [])) →
    AllByRecursion (IsOngoing kind l.number l.own) l.exchanges → LastAs kind l x
core_took {S} {B} {C} s kind l conv acts_in of xs0 calls0 x y c link call acts input y_is front same before fits c_is heard at promised going =
    let e = entry call acts in
    let went : AllByRecursion (IsOngoing kind l.number l.own) xs0 = subst (AllByRecursion (IsOngoing kind l.number l.own)) (sym front) going in
    let fits0 = all_map (λ (z : C). IsCoreFit (acts_in z)) (λ (z : C). IsFit (acts_in z)) calls0 (λ z h. h.0) (all_front (λ (z : C). IsCoreFit (acts_in z)) calls0 c fits) in
    let fit : IsCoreFit acts = subst IsCoreFit (ap acts_in c_is ∙ of.reads.acts_are e) (all_last (λ (z : C). IsCoreFit (acts_in z)) calls0 c fits) in
    let d = did_core s kind l.number l.server l.own conv acts_in of.reads calls0 xs0 before fits0 went in
    subst (LastAs kind l) (sym y_is ∙ same) (took_as d.entries call acts (record {
      did = subst (λ z. Did kind l.number z d.entries) front d.did;
      heard = heard;
      at = at;
      put_is = ap (λ z. acts_records link l.number acts ++ end_records l.number z) (sym (of.ends link (d.entries ++ e ∷ []) acts));
      promised = promised d.entries (ap (λ z. z ++ c ∷ []) d.calls_are ∙ ap (λ z. map conv d.entries ++ z ∷ []) c_is ∙ sym (map-append conv d.entries (e ∷ [])));
      fit = fit.0;
      untried = of.untries call acts fit.1;
    }))

last_core : {S B C : Type 0} (s : Service S B C) (kind : OpenKind) (l : Live) (conv : Entry → C) (acts_in : C → Acts) → CoreOf s kind l conv acts_in → (x : Exchange) (calls : List C) (ys : List Exchange) → CoreExchanged s l.number l.server calls ys → ys ≡ l.exchanges ++ x ∷ [] →
    AllByRecursion (λ (z : C). IsCoreFit (acts_in z)) calls → ((h : List Entry) → calls ≡ map conv h → Promised kind l h) → AllByRecursion (IsOngoing kind l.number l.own) l.exchanges → ComesToOwnPort kind l.own x.came → LastAs kind l x
last_core s kind l conv acts_in of x calls ys cores.at_first e fits promised going own = absurd (no_snoc l.exchanges x e)
last_core s kind l conv acts_in of x calls ys (cores.takes_message calls0 xs0 link rec port body now acts before) e fits promised going own =
    let y = exchange (message rec port body now) link (core_records l.number l.server link acts) in
    let both = snoc_one xs0 l.exchanges y x e in
    let same : y ≡ x = both.1 in
    let owns : ComesToOwnPort kind l.own (message rec port body now) = subst (λ (z : Exchange). ComesToOwnPort kind l.own z.came) (sym same) own in
    core_took s kind l conv acts_in of xs0 calls0 x y _ link (came (record { rec = rec; port = heard_port kind port; body = body }) now) acts (message rec port body now) refl both.0 same before fits
    (of.reads.by_message rec port body now acts owns) refl refl (λ h is. promised _ is) going
last_core s kind l conv acts_in of x calls ys (cores.takes_time calls0 xs0 link now acts before) e fits promised going own =
    let y = exchange (time_came now) link (core_records l.number l.server link acts) in
    let both = snoc_one xs0 l.exchanges y x e in
    core_took s kind l conv acts_in of xs0 calls0 x y _ link (ticked now) acts (time_came now) refl both.0 both.1 before fits (of.reads.by_time now acts) refl refl (λ h is. promised _ is) going
last_core s kind l conv acts_in of x calls ys (cores.closes calls0 xs0 link cause before) e fits promised going own =
    let y = exchange (close cause) link (ended l.number cause ∷ []) in
    let same : y ≡ x = (snoc_one xs0 l.exchanges y x e).1 in
    subst (LastAs kind l) same (closed_as cause refl refl)

-- of an open that has gone on so far
pub last_as : (kind : OpenKind) (l : Live) (x : Exchange) → (is_connection kind ≡ false) → KeepsBy kind (continued l x) → AllByRecursion (IsOngoing kind l.number l.own) l.exchanges → ComesToOwnPort kind l.own x.came → LastAs kind l x
last_as tftp l x d k going own = last_transfer l x k.entries _ k.exchanged refl k.meets going
last_as (http isn) l x d k going own = absurd (cc)
last_as (iscsi isn i) l x d k going own = absurd (cc)
last_as (dns id) l x d k going own =
    last_core lookup_service (dns id) l (lookup_entry_of (host l.server)) (λ c. c.acts) (record { reads = reads_lookup id l.server l.own; ends = λ link h acts. refl; untries = λ call acts f. f }) x k.calls _ k.exchanged refl
    (lookup_fits (look_up_of id l) [] k.calls k.meets.asking) (λ h is. subst (LookupMeets (look_up_of id l) l.since) is k.meets) going own
last_as (dhcp a) l x d k going own =
    last_core lease_service (dhcp a) l lease_entry_of (λ c. c.acts) (record { reads = reads_lease a l.server l.own; ends = λ link h acts. refl; untries = λ call acts f. f }) x k.calls _ k.exchanged refl
    (lease_fits a [] k.calls k.meets.sending) (λ h is. subst (LeasePromises a l.since) is k.meets) going own
last_as ping l x d k going own =
    last_core ping_service ping l (ping_entry_of (ping_of l)) (λ c. c.acts) (record { reads = reads_ping (ping_of l) l.server refl; ends = λ link h acts. refl; untries = λ call acts f. f }) x k.calls _ k.exchanged refl
    (ping_fits (ping_of l) [] k.calls k.meets.asking) (λ h is. subst (PingMeets (ping_of l) l.since) is k.meets) going own

-- what an open has done that goes on, and its core's promises
pub record DidSo (kind : OpenKind) (l : Live) : Type 0 where
  pub entries : List Entry
  pub did : Did kind l.number l.exchanges entries
  pub promised : Promised kind l entries

did_so_core : {S B C : Type 0} (s : Service S B C) (kind : OpenKind) (l : Live) (conv : Entry → C) (acts_in : C → Acts) → CoreOf s kind l conv acts_in → (calls : List C) → CoreExchanged s l.number l.server calls l.exchanges →
    AllByRecursion (λ (z : C). IsCoreFit (acts_in z)) calls → ((h : List Entry) → calls ≡ map conv h → Promised kind l h) → AllByRecursion (IsOngoing kind l.number l.own) l.exchanges → DidSo kind l
did_so_core {S} {B} {C} s kind l conv acts_in of calls x fits promised going =
    let d = did_core s kind l.number l.server l.own conv acts_in of.reads calls l.exchanges x (all_map (λ (z : C). IsCoreFit (acts_in z)) (λ (z : C). IsFit (acts_in z)) calls (λ z h. h.0) fits) going in
    record { entries = d.entries; did = d.did; promised = promised d.entries d.calls_are }

pub did_so : (kind : OpenKind) (l : Live) → (is_connection kind ≡ false) → KeepsBy kind l → AllByRecursion (IsOngoing kind l.number l.own) l.exchanges → DidSo kind l
did_so tftp l d k going = record { entries = k.entries; did = did_transfer l.number l.server l.own (transfer_of l) k.entries l.exchanges k.exchanged k.meets.sending going; promised = k.meets }
did_so (http isn) l d k going = absurd (cc)
did_so (iscsi isn i) l d k going = absurd (cc)
did_so (dns id) l d k going =
    did_so_core lookup_service (dns id) l (lookup_entry_of (host l.server)) (λ c. c.acts) (record { reads = reads_lookup id l.server l.own; ends = λ link h acts. refl; untries = λ call acts f. f }) k.calls k.exchanged
    (lookup_fits (look_up_of id l) [] k.calls k.meets.asking) (λ h is. subst (LookupMeets (look_up_of id l) l.since) is k.meets) going
did_so (dhcp a) l d k going =
    did_so_core lease_service (dhcp a) l lease_entry_of (λ c. c.acts) (record { reads = reads_lease a l.server l.own; ends = λ link h acts. refl; untries = λ call acts f. f }) k.calls k.exchanged
    (lease_fits a [] k.calls k.meets.sending) (λ h is. subst (LeasePromises a l.since) is k.meets) going
did_so ping l d k going =
    did_so_core ping_service ping l (ping_entry_of (ping_of l)) (λ c. c.acts) (record { reads = reads_ping (ping_of l) l.server refl; ends = λ link h acts. refl; untries = λ call acts f. f }) k.calls k.exchanged
    (ping_fits (ping_of l) [] k.calls k.meets.asking) (λ h is. subst (PingMeets (ping_of l) l.since) is k.meets) going
