-- One exchange of an open: its records have their reasons, and its end is Ok exactly where what it asks for has come.
use Rattle.std.proofs.Common.{◌≡◌, ℕ, ◌+◌, ◌==◌, ◌||◌, Bool, true, false, cond, not, List, [], ◌∷◌, ◌++◌, Option, Some, None, refl, sym, ◌∙◌, ap, subst, append_assoc, append-nil, add-zero, map, arith}
use Rattle.std.specs.List.{flat_map, list_any, sum_by, AllByRecursion}
use Rattle.std.specs.Option.{is_some}
use Rattle.std.proofs.lemmas.List.{map-append}
use Rattle.std.proofs.lemmas.List.Concat.{flat_map-append}
use Rattle.std.proofs.lemmas.List.Folds.{flat_map-map}
use Rattle.nb_terms.specs.declared.acts.Acts.{Acts}
use Rattle.nb_terms.specs.declared.acts.SendTo.{SendTo}
use Rattle.nb_terms.specs.declared.cause.Cause.{Cause}
use Rattle.nb_defs.specs.Causes.{is_ok_cause}
use Rattle.nb_defs.specs.Records.{Out, ended}
use Rattle.nb_stack.specs.Client.{Client}
use Rattle.nb_tftp.specs.Blocks.{count}
use Rattle.nb_tftp.specs.History.{Call, came, ticked, Entry, entry, got, is_ended, last_advance, received_by}
use Rattle.nb_tftp.proofs.HistoryLemmas.{is_ended-append, last_advance-append}
use Rattle.nb_tftp.proofs.TryLaws.{Sends, sends_none, sends_one, call_sends}
use Rattle.nb_tftp.proofs.AskedLaws.{call_asked, call_advances}
use Rattle.nb_tftp.proofs.NewestLaws.{tries_newest}
use Rattle.nb_tftp.proofs.PlainLaws.{asks_last}
use Rattle.nb_machine.specs.Sendings.{has_route, acts_records, too_large_image}
use Rattle.nb_machine.specs.CommandRecords.{no_route}
use Rattle.nb_login.specs.declared.info.LoginInfo.{LoginInfo}
use Rattle.nb_laws.specs.Agreement.{moment, try_marks, entry_marks}
use Rattle.nb_laws.specs.Cores.{answers_open, has_its_answer}
use Rattle.nb_laws.specs.Endings.{fate_to, HadWay}
use Rattle.nb_laws.specs.Events.{Event, puts}
use Rattle.nb_laws.specs.Frames.{IsDue}
use Rattle.nb_laws.specs.Histories.{client}
use Rattle.nb_laws.specs.Lists as lists
use Rattle.nb_laws.specs.Lists.{Hardware, hardware, time, made, blocks_where, file_blocks, opens_file, Opening, openings, open_has_ended, calls, Mark, tries, mark_of_call, marks, last_place}
use Rattle.nb_laws.specs.Progress.{file_place, IsAdvanced}
use Rattle.nb_laws.proofs.Asides.{aside_acts}
use Rattle.nb_laws.proofs.Calls.{got_same}
use Rattle.nb_laws.proofs.CoreAsks.{GoesAs, CoreAsks, asks_none, asks_one}
use Rattle.nb_laws.proofs.Tellings.{told, advanced_more, kept, tries_by}
use Rattle.nb_machine.specs.Lives.{OpenKind, tftp, http, iscsi, dns, dhcp, ping, OpenInput, message, tcp_segment, time as time_came, task, close, Exchange, Live, continued}
use Rattle.nb_machine.specs.Kinds.{KeepsBy, is_connection}
use Rattle.nb_machine.specs.Connections.{came_on}
use Rattle.nb_machine.specs.Findings.{first_word}
use Rattle.nb_readings.specs.Ends.{is_whole}
use Rattle.nb_streams.specs.Streams.{next}
use Rattle.nb_talks.specs.Talking.{talk_held}
use Rattle.nb_streams.specs.Trying.{tries_at}
use Rattle.nb_laws.specs.Drives.{came_to_session, session_place_by, session_place}
use Rattle.nb_laws.proofs.SessionOpenings.{no_session_of}
use Rattle.nb_laws.specs.Webs.{opens_web, opens_session, opens_connection, brought_to, talk_by, response_by, stream_place_by, try_marks_of}
use Rattle.nb_machine.specs.Transfers.{transfer_of, earlier_end, finds_none, end_records}
use Rattle.nb_machine.specs.Takings.{end_among}
use Rattle.nb_openlaws.specs.Standings.{streamed, streamed_marks, heard_call, heard_calls, heard_marks, moment_in, told_tries, IsKindBy, HasLogin, ComesToOwnPort, IsOngoing}
use Rattle.nb_openlaws.specs.OpenEndings.{EndsBecause, by_itself, by_lost_way}
use Rattle.nb_openlaws.specs.OpenReasons.{OpenReasons}
use Rattle.nb_openlaws.proofs.Takings.{IsNow, IsDueBy, came_marks, way_stays, grown}
use Rattle.nb_openlaws.proofs.OpenRecords.{of_acts}
use Rattle.nb_openlaws.proofs.UsedEvents.{live_one}
use Rattle.nb_openlaws.proofs.NetworkDevices.{client_some, some_of}
use Rattle.nb_openlaws.proofs.OpenEntries.{acts_end, untried_tries, Did}
use Rattle.nb_openlaws.proofs.LastEntries.{Promised, exchange_end, EndsUntried, TookAs, LastAs, took_as, closed_as, last_as, DidSo, did_so}
use Rattle.nb_openlaws.proofs.Sendings.{reasons_then, MaySend, core_reasons, transfer_reasons, each_open}
use Rattle.nb_openlaws.proofs.KindFacts.{ByDatagrams, by_datagrams, no_stream, no_session, no_connection, answer_as, opening_as, first_of, unanswered_as, IsCore, core_asks, core_ends, no_way_as}
use Rattle.nb_openlaws.proofs.TransferEnds.{within_limit, transfer_holds}
use Rattle.nb_openlaws.proofs.SessionsDue.{SessionBrought}

-- it has come to an open, were it of this kind, over this client
pub record ComeAs (kind : OpenKind) (es : List Event) (input : OpenInput) (l : Live) (link : Client) : Type 0 where
  pub client_is : client es ≡ link
  pub kind_is : IsKindBy (hardware es) l.number kind (opening_as kind l)
  pub login : HasLogin l.number es kind (opening_as kind l)
  pub opening : openings l.number es ≡ opening_as kind l ∷ []
  pub lives : open_has_ended l.number es ≡ false
  pub received : calls l.number es ≡ heard_calls kind l.exchanges ++ heard_call kind input
  pub tells : marks l.number es ≡ (tries 1 l.since ∷ heard_marks kind l.number l.exchanges) ++ map mark_of_call (heard_call kind input)
  pub now : IsNow input (time es)
  pub due : IsDueBy input l.number es
  pub had_way : HadWay l.number es (opening_as kind l)
  pub streams : brought_to l.number es ≡ streamed l.exchanges ++ came_on input
  pub tries_stand : try_marks_of l.number es ≡ (tries_at 1 l.since ∷ streamed_marks l.number l.exchanges) ++ came_marks input
  -- its last ADVANCE has the last block that it had received before, or the end of what had come of its stream
  pub placed : ByDatagrams kind → (h : List Entry) → heard_calls kind l.exchanges ≡ map (λ e. e.call) h → last_place l.number es ≡ blocks_where ((opening_as kind l).kind == 1) (got h)
  pub streamed_to : opens_web (opening_as kind l) ≡ true → last_place l.number es ≡ stream_place_by (hardware es) l.number (streamed l.exchanges) (opening_as kind l)
  pub session_to : (isn : ℕ) (i : LoginInfo) → kind ≡ iscsi isn i → SessionBrought es input l isn i
  pub others : (j : ℕ) → (l.number == j) ≡ false → last_place j es ≡ file_place j es

now_of : (kind : OpenKind) (input : OpenInput) (call : Call) (t : ℕ) → heard_call kind input ≡ call ∷ [] → IsNow input t → t ≡ moment_in input
now_of kind (message rec port body now) call t is at = at
now_of kind (tcp_segment rec g now) call t is at = at
now_of kind (time_came now) call t is at = at
now_of kind (task x now) call t is at = absurd (let no : [] ≡ call ∷ [] = is in cc)
now_of kind (close cause) call t is at = absurd (let no : [] ≡ call ∷ [] = is in cc)

due_of_call : (kind : OpenKind) (input : OpenInput) (call : Call) (k : ℕ) (es : List Event) → heard_call kind input ≡ call ∷ [] → IsDueBy input k es → IsDue k es
due_of_call kind (message rec port body now) call k es is d = d
due_of_call kind (tcp_segment rec g now) call k es is d = d
due_of_call kind (time_came now) call k es is d = d
due_of_call kind (task x now) call k es is d = absurd (let no : [] ≡ call ∷ [] = is in cc)
due_of_call kind (close cause) call k es is d = absurd (let no : [] ≡ call ∷ [] = is in cc)

-- the place that a transfer's last ADVANCE has is the number of its file's last block
abbrev AdvancedSo : OpenKind → List Entry → Type 0
AdvancedSo tftp h = last_advance h ≡ count (got h)
AdvancedSo (http isn) h = Unit {0}
AdvancedSo (iscsi isn i) h = Unit {0}
AdvancedSo (dns id) h = Unit {0}
AdvancedSo (dhcp a) h = Unit {0}
AdvancedSo ping h = Unit {0}

-- what the core of such an open took, in a history that has it
record Context (kind : OpenKind) (es : List Event) (l : Live) (x : Exchange) (h : List Entry) (call : Call) (acts : Acts) : Type 0 where
  come : ComeAs kind es x.came l x.link
  did : TookAs kind l x h call acts
  advanced_so : AdvancedSo kind h

received_in : (kind : OpenKind) (es : List Event) (l : Live) (x : Exchange) (h : List Entry) (call : Call) (acts : Acts) → Context kind es l x h call acts → calls l.number es ≡ map (λ e. e.call) (h ++ entry call acts ∷ [])
received_in kind es l x h call acts c =
    c.come.received ∙ ap (λ z. z ++ heard_call kind x.came) c.did.did.calls_are ∙ ap (λ z. map (λ (e : Entry). e.call) h ++ z) c.did.heard ∙ sym (map-append (λ (e : Entry). e.call) h (entry call acts ∷ []))

may_send : (kind : OpenKind) (es : List Event) (l : Live) (x : Exchange) (h : List Entry) (call : Call) (acts : Acts) → Context kind es l x h call acts →
    MaySend es x.link l.number (opening_as kind l) (got (h ++ entry call acts ∷ []))
may_send kind es l x h call acts c = record {
  client_is = c.come.client_is;
  opening = c.come.opening;
  lives = c.come.lives;
  received = got_same l.number es (h ++ entry call acts ∷ []) (received_in kind es l x h call acts c);
  due = due_of_call kind x.came call l.number es c.did.heard c.come.due;
  no_stream = no_stream kind l (by_datagrams kind l (h ++ entry call acts ∷ []) c.did.promised);
  no_session = no_session kind l (by_datagrams kind l (h ++ entry call acts ∷ []) c.did.promised);
}

-- WHAT IT ASKS

not_file : (kind : OpenKind) (l : Live) → IsCore kind → (opening_as kind l).kind ≡ 1 → ⊥
not_file tftp l core e = core
not_file (http isn) l core e = absurd core
not_file (iscsi isn i) l core e = absurd core
not_file (dns id) l core e = omega (arith, e)
not_file (dhcp a) l core e = omega (arith, e)
not_file ping l core e = omega (arith, e)

no_file : (kind : OpenKind) (l : Live) → IsCore kind → ((opening_as kind l).kind == 1) ≡ false
no_file tftp l core = absurd core
no_file (http isn) l core = absurd core
no_file (iscsi isn i) l core = absurd core
no_file (dns id) l core = refl
no_file (dhcp a) l core = refl
no_file ping l core = refl

-- the blocks of an open's file
pub blocks_so : (k : ℕ) (es : List Event) (o : Opening) → openings k es ≡ o ∷ [] → file_blocks k es ≡ blocks_where (o.kind == 1) (lists.datagrams_of k es)
blocks_so k es o e = ap (λ os. blocks_where (list_any opens_file os) (lists.datagrams_of k es)) e ∙ ap (λ b. blocks_where b (lists.datagrams_of k es)) (or_none (o.kind == 1))
  where
    or_none : (b : Bool) → (b || false) ≡ b
    or_none true = refl
    or_none false = refl

neither_one : (a b : Bool) → (a || b) ≡ false → (a ≡ false) × (b ≡ false)
neither_one true b e = absurd (cc)
neither_one false b e = (refl, e)

-- what its stream adds is nothing
pub place_so : (k : ℕ) (es : List Event) (o : Opening) → openings k es ≡ o ∷ [] → opens_connection o ≡ false → file_place k es ≡ blocks_where (o.kind == 1) (lists.datagrams_of k es)
place_so k es o e plain =
    let neither = neither_one (opens_web o) (opens_session o) plain in
    ap (λ os. file_blocks k es + sum_by (stream_place_by (hardware es) k (brought_to k es)) os + session_place k es) e
    ∙ ap (λ b. file_blocks k es + (0 + cond b (next (talk_held (first_word (hardware es).identity k) (talk_by (hardware es) k o (brought_to k es)))) 0) + session_place k es) neither.0
    ∙ ap (λ ss. file_blocks k es + 0 + sum_by (session_place_by (hardware es) k (came_to_session k es)) ss) (no_session_of k es o e neither.1)
    ∙ add-zero (file_blocks k es + 0) ∙ add-zero (file_blocks k es) ∙ blocks_so k es o e

core_advanced : (kind : OpenKind) (es : List Event) (l : Live) (x : Exchange) (h : List Entry) (call : Call) (acts : Acts) → IsCore kind → Context kind es l x h call acts → IsAdvanced es
core_advanced kind es l x h call acts core c =
    let d = by_datagrams kind l (h ++ entry call acts ∷ []) c.did.promised in
    each_open (λ j. last_place j es ≡ file_place j es) l.number
    (c.come.placed d h c.did.did.calls_are ∙ ap (λ b. blocks_where b (got h)) (no_file kind l core) ∙ sym (place_so l.number es (opening_as kind l) c.come.opening (no_connection kind l d) ∙ ap (λ b. blocks_where b (lists.datagrams_of l.number es)) (no_file kind l core)))
    c.come.others

asked_so : (kind : OpenKind) (es : List Event) (l : Live) (x : Exchange) (h : List Entry) (call : Call) (acts : Acts) → Context kind es l x h call acts → OpenReasons es (acts_records x.link l.number acts)
asked_so tftp es l x h call acts c =
    let k = l.number in
    let b = transfer_of l in
    let e = entry call acts in
    let gs = got (h ++ e ∷ []) in
    let meets = c.did.promised in
    let so = asks_last true b l.since h e meets in
    let m = may_send tftp es l x h call acts c in
    transfer_reasons es x.link k (last_advance h) (opening_as tftp l) b acts gs m refl refl (call_sends true b h call acts so) (call_asked true b l.since h call acts meets c.advanced_so)
    (λ n send tries items asked. tries_newest b l.target h call acts gs n send refl so tries items asked)
    (c.come.placed tt h c.did.did.calls_are ∙ sym c.advanced_so)
    (sym (last_advance-append h e) ∙ meets.advance ∙ ap count (sym m.received) ∙ sym (place_so k es (opening_as tftp l) c.come.opening refl))
    (λ n is. call_advances true b h call acts n so is ∙ ap (λ z. z + 1) (sym c.advanced_so)) c.come.others
asked_so (http isn) es l x h call acts c = absurd c.did.promised
asked_so (iscsi isn i) es l x h call acts c = absurd c.did.promised
asked_so (dns id) es l x h call acts c =
    core_reasons es x.link l.number (opening_as (dns id) l) (first_of (dns id) l) acts (got (h ++ entry call acts ∷ [])) (may_send (dns id) es l x h call acts c) (core_asks (dns id) (hardware es) l h call acts tt c.come.kind_is c.did.promised)
    (not_file (dns id) l tt) (core_advanced (dns id) es l x h call acts tt c)
asked_so (dhcp a) es l x h call acts c =
    core_reasons es x.link l.number (opening_as (dhcp a) l) (first_of (dhcp a) l) acts (got (h ++ entry call acts ∷ [])) (may_send (dhcp a) es l x h call acts c) (core_asks (dhcp a) (hardware es) l h call acts tt c.come.kind_is c.did.promised)
    (not_file (dhcp a) l tt) (core_advanced (dhcp a) es l x h call acts tt c)
asked_so ping es l x h call acts c =
    core_reasons es x.link l.number (opening_as ping l) (first_of ping l) acts (got (h ++ entry call acts ∷ [])) (may_send ping es l x h call acts c) (core_asks ping (hardware es) l h call acts tt c.come.kind_is c.did.promised)
    (not_file ping l tt) (core_advanced ping es l x h call acts tt c)

-- WHY IT ENDS

-- the history after what it asked
record AtEnd (kind : OpenKind) (es : List Event) (l : Live) (x : Exchange) (h : List Entry) (call : Call) (acts : Acts) : Type 0 where
  client_is : client es ≡ x.link
  kind_is : IsKindBy (hardware es) l.number kind (opening_as kind l)
  opening : openings l.number es ≡ opening_as kind l ∷ []
  lives : open_has_ended l.number es ≡ false
  received : lists.datagrams_of l.number es ≡ got (h ++ entry call acts ∷ [])
  marked : acts.tried ≡ None → marks l.number es ≡ tries 1 l.since ∷ flat_map entry_marks (h ++ entry call acts ∷ [])
  at : moment call ≡ time es
  had_way : HadWay l.number es (opening_as kind l)

at_end : (kind : OpenKind) (es : List Event) (l : Live) (x : Exchange) (h : List Entry) (call : Call) (acts : Acts) → Context kind es l x h call acts → AtEnd kind (es ++ told (acts_records x.link l.number acts)) l x h call acts
at_end kind es l x h call acts c =
    let k = l.number in
    let a = acts_records x.link k acts in
    let left = kept es a (aside_acts x.link k acts) in
    let own : acts.tried ≡ None → tries_by k (time es) a ≡ try_marks (moment call) acts.tried = λ none.
    ap (λ z. told_tries k (time es) z) (sym (append-nil a)) ∙ untried_tries k (time es) x.link acts None none ∙ ap (λ t. try_marks t acts.tried) (now_of kind x.came call (time es) c.did.heard c.come.now ∙ c.did.at) in
    record {
      client_is = client_some es a (some_of k a (of_acts x.link k acts)) ∙ c.come.client_is;
      kind_is = subst (λ z. IsKindBy z k kind (opening_as kind l)) (sym left.hardware_is) c.come.kind_is;
      opening = left.openings_is k ∙ c.come.opening;
      lives = left.over_is k ∙ c.come.lives;
      received = got_same k (es ++ told a) (h ++ entry call acts ∷ []) (left.calls_is k ∙ received_in kind es l x h call acts c);
      marked = λ none. left.marks_is k ∙ ap (λ z. marks k es ++ z) (own none)
          ∙ ap (λ z. z ++ try_marks (moment call) acts.tried) (c.come.tells ∙ ap (λ z. (tries 1 l.since ∷ z) ++ map mark_of_call (heard_call kind x.came)) c.did.did.marks_are ∙ ap (λ z. (tries 1 l.since ∷ flat_map entry_marks h) ++ map mark_of_call z) c.did.heard)
          ∙ append_assoc (tries 1 l.since ∷ flat_map entry_marks h) (mark_of_call call ∷ []) (try_marks (moment call) acts.tried)
          ∙ ap (λ z. tries 1 l.since ∷ z) (ap (λ z. flat_map entry_marks h ++ z) (sym (append-nil (entry_marks (entry call acts)))) ∙ sym (flat_map-append entry_marks h (entry call acts ∷ [])));
      at = sym (left.time_is ∙ now_of kind x.came call (time es) c.did.heard c.come.now ∙ c.did.at);
      had_way = way_stays k es (es ++ told a) (opening_as kind l) (grown es (told a)) c.come.had_way;
    }

-- it ends as its core says, or as a message found no way
data EndsSo (acts : Acts) (link : Client) (server : ℕ) (cause : Cause) : Type 0 where
  as_core : acts.over ≡ Some cause → EndsSo acts link server cause
  as_lost : acts.over ≡ None → finds_none link acts ≡ true → cause ≡ no_route server → EndsSo acts link server cause

split_end : (acts : Acts) (link : Client) (server : ℕ) (cause : Cause) → earlier_end acts.over (cond (finds_none link acts) (Some (no_route server)) None) ≡ Some cause → EndsSo acts link server cause
split_end acts link server cause e = by acts.over (finds_none link acts) refl refl e
  where
    by : (over : Option Cause) (lost : Bool) → acts.over ≡ over → finds_none link acts ≡ lost → earlier_end over (cond lost (Some (no_route server)) None) ≡ Some cause → EndsSo acts link server cause
    by (Some c) lost is l e = as_core (is ∙ e)
    by None true is l e = as_lost is l (let same : no_route server ≡ cause = cc in sym same)
    by None false is l e = absurd (cc)

exchange_split : (kind : OpenKind) (l : Live) (link : Client) (h : List Entry) (call : Call) (acts : Acts) (cause : Cause) → Promised kind l (h ++ entry call acts ∷ []) → is_ended h ≡ false → exchange_end kind l link (h ++ entry call acts ∷ []) acts ≡ Some cause →
    EndsSo acts link l.server cause
exchange_split tftp l link h call acts cause meets running e =
    split_end acts link l.server cause (ap (λ b. earlier_end (cond b (Some too_large_image) acts.over) (cond (finds_none link acts) (Some (no_route l.server)) None)) (sym (within_limit l h (entry call acts) meets running)) ∙ e)
exchange_split (http isn) l link h call acts cause meets running e = absurd meets
exchange_split (iscsi isn i) l link h call acts cause meets running e = absurd meets
exchange_split (dns id) l link h call acts cause meets running e = split_end acts link l.server cause e
exchange_split (dhcp a) l link h call acts cause meets running e = split_end acts link l.server cause e
exchange_split ping l link h call acts cause meets running e = split_end acts link l.server cause e

-- a message that found no way is one to its server
same_route : (net : Client) (first send : SendTo) → GoesAs first send → has_route net send ≡ has_route net first
same_route net first send g =
    ap (λ t. has_route net (record send { to = t })) g.to ∙ ap (λ p. has_route net (record send { to = first.to; own_port = p })) g.own
    ∙ ap (λ n. has_route net (record send { to = first.to; own_port = first.own_port; proto = n })) g.proto

one_lost : (link : Client) (send : SendTo) → (not (has_route link send) || false) ≡ true → has_route link send ≡ false
one_lost link send e = by (has_route link send) e
  where
    by : (b : Bool) → (not b || false) ≡ true → b ≡ false
    by true e = absurd (cc)
    by false e = refl

none_lost : {A : Type 0} (items : List SendTo) (link : Client) → items ≡ [] → list_any (λ m. not (has_route link m)) items ≡ true → A
none_lost items link e lost = absurd (let no : false ≡ true = sym (ap (λ z. list_any (λ m. not (has_route link m)) z) e) ∙ lost in cc)

core_lost : {May : SendTo → Type 0} (link : Client) (first : SendTo) (acts : Acts) → CoreAsks May first acts → finds_none link acts ≡ true → has_route link first ≡ false
core_lost link first acts (asks_none advance items untried) lost = none_lost acts.sends.items link items lost
core_lost link first acts (asks_one send advance items goes may) lost =
    sym (same_route link first send goes) ∙ one_lost link send (sym (ap (λ z. list_any (λ m. not (has_route link m)) z) items) ∙ lost)

transfer_lost : (link : Client) (l : Live) (acts : Acts) → Sends (transfer_of l) acts → finds_none link acts ≡ true → has_route link (first_of tftp l) ≡ false
transfer_lost link l acts (sends_none items untried) lost = none_lost acts.sends.items link items lost
transfer_lost link l acts (sends_one send items to own udp) lost =
    sym (same_route link (first_of tftp l) send (record { proto = udp; to = to; own = own })) ∙ one_lost link send (sym (ap (λ z. list_any (λ m. not (has_route link m)) z) items) ∙ lost)

lost_way : (kind : OpenKind) (hw : Hardware) (l : Live) (link : Client) (h : List Entry) (call : Call) (acts : Acts) → IsKindBy hw l.number kind (opening_as kind l) → Promised kind l (h ++ entry call acts ∷ []) → finds_none link acts ≡ true →
    has_route link (first_of kind l) ≡ false
lost_way tftp hw l link h call acts is meets lost = transfer_lost link l acts (call_sends true (transfer_of l) h call acts (asks_last true (transfer_of l) l.since h (entry call acts) meets)) lost
lost_way (http isn) hw l link h call acts is meets lost = absurd meets
lost_way (iscsi isn i) hw l link h call acts is meets lost = absurd meets
lost_way (dns id) hw l link h call acts is meets lost = core_lost link (first_of (dns id) l) acts (core_asks (dns id) hw l h call acts tt is meets) lost
lost_way (dhcp a) hw l link h call acts is meets lost = core_lost link (first_of (dhcp a) l) acts (core_asks (dhcp a) hw l h call acts tt is meets) lost
lost_way ping hw l link h call acts is meets lost = core_lost link (first_of ping l) acts (core_asks ping hw l h call acts tt is meets) lost

-- an end of open k has its cause, and is Ok exactly where its answer has come
abbrev pub EndStands : ℕ → List Event → Opening → Cause → Type 0
EndStands k es o cause = EndsBecause k es cause × (is_ok_cause cause ≡ has_its_answer k o es)

core_stands : (kind : OpenKind) (es : List Event) (l : Live) (x : Exchange) (h : List Entry) (call : Call) (acts : Acts) (cause : Cause) → IsCore kind → AtEnd kind es l x h call acts → Promised kind l (h ++ entry call acts ∷ []) → is_ended h ≡ false →
    acts.tried ≡ None → acts.over ≡ Some cause → EndStands l.number es (opening_as kind l) cause
core_stands kind es l x h call acts cause core a meets running untried over =
    let c = core_ends kind es l h call acts cause core a.kind_is meets (record { opening = a.opening; received = a.received; marked = a.marked untried }) running a.at over in
    (by_itself c.0, c.1)

own_stands : (kind : OpenKind) (es : List Event) (l : Live) (x : Exchange) (h : List Entry) (call : Call) (acts : Acts) (cause : Cause) → AtEnd kind es l x h call acts → Promised kind l (h ++ entry call acts ∷ []) → is_ended h ≡ false →
    EndsUntried kind call acts → acts.over ≡ Some cause → EndStands l.number es (opening_as kind l) cause
own_stands tftp es l x h call acts cause a meets running untried over =
    let e = entry call acts in
    let t = transfer_holds es l h e cause (record {
      opening = a.opening;
      received = a.received;
      marked = λ now is. a.marked (ticked_untried call now is untried);
      at = a.at;
    }) meets over in
    (by_itself t.0, t.1)
  where
    ticked_untried : (c : Call) (now : ℕ) → c ≡ ticked now → EndsUntried tftp c acts → acts.tried ≡ None
    ticked_untried (came m t) now is u = absurd (cc)
    ticked_untried (ticked t) now is u = u cause over
own_stands (http isn) es l x h call acts cause a meets running untried over = absurd meets
own_stands (iscsi isn i) es l x h call acts cause a meets running untried over = absurd meets
own_stands (dns id) es l x h call acts cause a meets running untried over = core_stands (dns id) es l x h call acts cause tt a meets running (untried cause over) over
own_stands (dhcp p) es l x h call acts cause a meets running untried over = core_stands (dhcp p) es l x h call acts cause tt a meets running (untried cause over) over
own_stands ping es l x h call acts cause a meets running untried over = core_stands ping es l x h call acts cause tt a meets running (untried cause over) over

end_stands : (kind : OpenKind) (es : List Event) (l : Live) (x : Exchange) (h : List Entry) (call : Call) (acts : Acts) (cause : Cause) → AtEnd kind es l x h call acts → TookAs kind l x h call acts →
    EndsSo acts x.link l.server cause → EndStands l.number es (opening_as kind l) cause
end_stands kind es l x h call acts cause a t (as_core over) = own_stands kind es l x h call acts cause a t.promised t.did.running t.untried over
end_stands kind es l x h call acts cause a t (as_lost none lost is) =
    let o = opening_as kind l in
    let goes : is_ended (h ++ entry call acts ∷ []) ≡ false = is_ended-append h (entry call acts) ∙ ap (λ b. b || is_some acts.over) t.did.running ∙ ap (λ (c : Option Cause). is_some c) none in (
      by_lost_way o a.opening is (ap (λ (c : Client). fate_to c o) a.client_is ∙ no_way_as kind (hardware es) l x.link a.kind_is (lost_way kind (hardware es) l x.link h call acts a.kind_is t.promised lost)) a.had_way,
      ap is_ok_cause is ∙ sym (answer_as kind l l.number es (by_datagrams kind l (h ++ entry call acts ∷ []) t.promised) ∙ ap (answers_open (hardware es) l.number o) a.received ∙ unanswered_as kind (hardware es) l (h ++ entry call acts ∷ []) a.kind_is t.promised goes),
    )

-- THE EXCHANGE

-- an ENDED has its reasons
pub ended_reasons : (es : List Event) (k : ℕ) (o : Opening) (cause : Cause) → EndStands k es o cause → openings k es ≡ o ∷ [] → open_has_ended k es ≡ false → IsAdvanced es → OpenReasons es (ended k cause ∷ [])
ended_reasons es k o cause s opening lives a = record {
  ends = ((s.0, o, live_one k es o opening lives, s.1), tt);
  frames = (tt, tt);
  advances = (a, tt);
  tries = (tt, tt);
  after = advanced_more es (puts (ended k cause)) tt (λ j. refl) (λ j. refl) (λ j. refl) (λ j. refl) a;
}

-- all its records have, and its end is Ok exactly where its answer has come
pub record ExchangeSo (kind : OpenKind) (es : List Event) (l : Live) (x : Exchange) : Type 0 where
  pub reasons : OpenReasons es x.put
  pub answers : (cause : Cause) → end_among l.number x.put ≡ Some cause → is_ok_cause cause ≡ has_its_answer l.number (opening_as kind l) es

-- what an open asks for has come by START's key, its datagrams and its stream
pub answer_same : (k : ℕ) (o : Opening) (a b : List Event) → hardware b ≡ hardware a → lists.datagrams_of k b ≡ lists.datagrams_of k a → brought_to k b ≡ brought_to k a → has_its_answer k o b ≡ has_its_answer k o a
answer_same k o a b hw ds cs =
    ap (λ h. cond (opens_web o) (is_whole (response_by h k o (brought_to k b)).verdict) (answers_open h k o (lists.datagrams_of k b))) hw
    ∙ ap (λ c. cond (opens_web o) (is_whole (response_by (hardware a) k o c).verdict) (answers_open (hardware a) k o (lists.datagrams_of k b))) cs
    ∙ ap (λ d. cond (opens_web o) (is_whole (response_by (hardware a) k o (brought_to k a)).verdict) (answers_open (hardware a) k o d)) ds

answer_kept : (kind : OpenKind) (es : List Event) (l : Live) (x : Exchange) (acts : Acts) → has_its_answer l.number (opening_as kind l) (es ++ told (acts_records x.link l.number acts)) ≡ has_its_answer l.number (opening_as kind l) es
answer_kept kind es l x acts =
    let k = l.number in
    let left = kept es (acts_records x.link k acts) (aside_acts x.link k acts) in
    answer_same k (opening_as kind l) es (es ++ told (acts_records x.link k acts)) left.hardware_is (ap (λ z. flat_map received_by z) (left.calls_is k)) (left.came_is k)

took_so : (kind : OpenKind) (es : List Event) (l : Live) (x : Exchange) (h : List Entry) (call : Call) (acts : Acts) → Context kind es l x h call acts → ExchangeSo kind es l x
took_so kind es l x h call acts c = by (exchange_end kind l x.link (h ++ entry call acts ∷ []) acts) refl
  where
    a : List Out
    a = acts_records x.link l.number acts

    by : (end : Option Cause) → exchange_end kind l x.link (h ++ entry call acts ∷ []) acts ≡ end → ExchangeSo kind es l x
    by None e =
        let put_is : x.put ≡ a = c.did.put_is ∙ ap (λ z. a ++ end_records l.number z) e ∙ append-nil a in
        record {
          reasons = subst (λ z. OpenReasons es z) (sym put_is) (asked_so kind es l x h call acts c);
          answers = λ cause over. absurd (let no : None ≡ Some cause = sym (acts_end l.number x.link acts None) ∙ ap (end_among l.number) (append-nil a ∙ sym put_is) ∙ over in cc);
        }
    by (Some cause) e =
        let put_is : x.put ≡ a ++ ended l.number cause ∷ [] = c.did.put_is ∙ ap (λ z. a ++ end_records l.number z) e in
        let at = at_end kind es l x h call acts c in
        let s = end_stands kind (es ++ told a) l x h call acts cause at c.did (exchange_split kind l x.link h call acts cause c.did.promised c.did.did.running e) in
        let r = asked_so kind es l x h call acts c in
        record {
          reasons = subst (λ z. OpenReasons es z) (sym put_is) (reasons_then es a (ended l.number cause ∷ []) r (ended_reasons (es ++ told a) l.number (opening_as kind l) cause s at.opening at.lives r.after));
          answers = λ other over.
              let same : Some cause ≡ Some other = sym (acts_end l.number x.link acts (Some cause)) ∙ ap (end_among l.number) (sym put_is) ∙ over in
              let causes : cause ≡ other = cc in
              ap is_ok_cause (sym causes) ∙ s.1 ∙ answer_kept kind es l x acts;
        }

advanced_as : (kind : OpenKind) (l : Live) (h : List Entry) → Did kind l.number l.exchanges h → DidSo kind l → AdvancedSo kind h
advanced_as tftp l h d k =
    sym d.places_are ∙ k.did.places_are ∙ k.promised.advance ∙ ap count (got_map k.entries ∙ ap (flat_map received_by) (sym k.did.calls_are ∙ d.calls_are) ∙ sym (got_map h))
  where
    got_map : (z : List Entry) → got z ≡ flat_map received_by (map (λ e. e.call) z)
    got_map z = sym (flat_map-map received_by (λ (e : Entry). e.call) z)
advanced_as (http isn) l h d k = tt
advanced_as (iscsi isn i) l h d k = tt
advanced_as (dns id) l h d k = tt
advanced_as (dhcp a) l h d k = tt
advanced_as ping l h d k = tt

-- a message or a time, which a record brings, and nothing from above
abbrev pub IsTaken : OpenInput → Type 0
IsTaken (message rec port body now) = Unit {0}
IsTaken (tcp_segment rec g now) = Unit {0}
IsTaken (time_came now) = Unit {0}
IsTaken (task x now) = ⊥
IsTaken (close cause) = ⊥

pub datagrams_so : (kind : OpenKind) (es : List Event) (l : Live) (x : Exchange) → is_connection kind ≡ false → IsTaken x.came → ComeAs kind es x.came l x.link → KeepsBy kind l → KeepsBy kind (continued l x) → AllByRecursion (IsOngoing kind l.number l.own) l.exchanges → ComesToOwnPort kind l.own x.came →
    ExchangeSo kind es l x
datagrams_so kind es l x plain taken come before keeps going own = by (last_as kind l x plain keeps going own)
  where
    by : LastAs kind l x → ExchangeSo kind es l x
    by (took_as h call acts t) = took_so kind es l x h call acts (record { come = come; did = t; advanced_so = advanced_as kind l h t.did (did_so kind l plain before going) })
    by (closed_as cause is put) = absurd (subst IsTaken is taken)
