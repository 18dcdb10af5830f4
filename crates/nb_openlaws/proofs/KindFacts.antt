-- What the core of an open does, of each kind, in the words of the history.
use Rattle.std.proofs.Common.{◌≡◌, ◌⊎◌, inl, inr, ℕ, ◌==◌, true, false, List, [], ◌∷◌, ◌++◌, Option, Some, None, refl, sym, ◌∙◌, ap, subst, map, arith}
use Rattle.std.specs.Option.{option_map_or, is_some}
use Rattle.nb_terms.specs.declared.acts.Acts.{Acts}
use Rattle.nb_terms.specs.declared.acts.SendTo.{SendTo}
use Rattle.nb_terms.specs.declared.cause.Cause.{Cause}
use Rattle.nb_stack.specs.Client.{Client}
use Rattle.nb_stack.specs.declared.taken.Fate.{Fate}
use Rattle.nb_stack.specs.declared.taken.Fate.TheVariants as fate
use Rattle.nb_dns.specs.Lookups.{Lookup, query_to}
use Rattle.nb_dns.specs.LookupPromises.{LookupMeets}
use Rattle.nb_dhcp.specs.declared.asker.Asker.{Asker}
use Rattle.nb_dhcp.specs.Messages.{message_text}
use Rattle.nb_dhcp.specs.Acting.{to_servers}
use Rattle.nb_dhcp.specs.Promises.{LeasePromises}
use Rattle.nb_ping.specs.Pings.{echo_request}
use Rattle.nb_nodes.specs.LookupExchanges.{LookupAsked}
use Rattle.nb_tftp.specs.Blocks.{is_whole_transfer}
use Rattle.nb_tftp.specs.History.{Call, Entry, entry, got, is_ended}
use Rattle.nb_tftp.specs.Sentences.{Meets, OkWhereWhole}
use Rattle.nb_tftp.proofs.HistoryLemmas.{is_ended-append}
use Rattle.nb_tftp.proofs.PlainLaws.{EachEntry-last}
use Rattle.nb_command.specs.SettingAddresses.{host}
use Rattle.nb_machine.specs.Findings.{query_id}
use Rattle.nb_machine.specs.Sendings.{has_route, request_of, is_on_its_way}
use Rattle.nb_laws.specs.Agreement.{moment, lookup_entry_of, lease_entry_of}
use Rattle.nb_laws.specs.Cores.{asker_by, answers_open, has_its_answer, lookup_by}
use Rattle.nb_laws.specs.Endings.{fate_to}
use Rattle.nb_laws.specs.Events.{Event}
use Rattle.nb_laws.specs.Frames.{MayAskFor}
use Rattle.nb_laws.specs.Lists.{Hardware, hardware, time, Opening, datagrams_of}
use Rattle.nb_laws.proofs.CoreAsks.{CoreAsks, CoreTold, CoreEnds}
use Rattle.nb_laws.proofs.LookupCores.{lookup_opening, lookup_is, lookup_unanswered, lookup_sends, lookup_ends}
use Rattle.nb_laws.proofs.LeaseCores.{lease_opening, lease_unanswered, lease_sends, lease_ends}
use Rattle.nb_laws.proofs.PingCores.{ping_opening, ping_unanswered, ping_sends, ping_ends}
use Rattle.nb_laws.proofs.Tries.{either_false}
use Rattle.nb_machine.specs.Lives.{OpenKind, tftp, http, iscsi, dns, dhcp, ping, kind_number, Live}
use Rattle.nb_laws.specs.Webs.{opens_connection}
use Rattle.nb_machine.specs.Connections.{connection_of, syn_message}
use Rattle.nb_machine.specs.Transfers.{transfer_of}
use Rattle.nb_machine.specs.Cores.{look_up_of, ping_of}
use Rattle.nb_openlaws.specs.Standings.{IsKindBy}
use Rattle.nb_openlaws.proofs.LastEntries.{Promised}

-- the opening of an open, were it of this kind
abbrev pub opening_as : OpenKind → Live → Opening
opening_as kind l = record { kind = kind_number kind; server = l.server; port = l.port; own = l.own; target = l.target; since = l.since }

-- its first message
abbrev pub first_of : OpenKind → Live → SendTo
first_of tftp l = request_of (transfer_of l)
first_of (http isn) l = syn_message (connection_of isn l)
first_of (iscsi isn i) l = syn_message (connection_of isn l)
first_of (dns id) l = query_to (look_up_of id l)
first_of (dhcp a) l = to_servers (message_text a None)
first_of ping l = echo_request (ping_of l)

-- its opening is that of its core
abbrev asked_of : ℕ → Live → LookupAsked
asked_of id l = record { server = host l.server; own_port = l.own; id = id; name = l.target }

lookup_opened : (hw : Hardware) (id : ℕ) (l : Live) → IsKindBy hw l.number (dns id) (opening_as (dns id) l) → opening_as (dns id) l ≡ lookup_opening (asked_of id l) l.since
lookup_opened hw id l is = ap (λ p. record { kind = 4; server = l.server; port = p; own = l.own; target = l.target; since = l.since }) is.1

lease_opened : (hw : Hardware) (a : Asker) (l : Live) → IsKindBy hw l.number (dhcp a) (opening_as (dhcp a) l) → opening_as (dhcp a) l ≡ lease_opening l.since
lease_opened hw a l (who, server, port, own, target) = rw (server, port, own, target) refl

ping_opened : (hw : Hardware) (l : Live) → IsKindBy hw l.number ping (opening_as ping l) → opening_as ping l ≡ ping_opening (ping_of l) l.since
ping_opened hw l (port, target) = rw (port, target) refl

lookup_kept : (hw : Hardware) (id : ℕ) (l : Live) (h : List Entry) → id ≡ query_id hw.identity l.number → LookupMeets (look_up_of id l) l.since (map (lookup_entry_of (host l.server)) h) →
    LookupMeets (lookup_by hw l.number (lookup_opening (asked_of id l) l.since)) l.since (map (lookup_entry_of (host l.server)) h)
lookup_kept hw id l h is meets = subst (λ (x : Lookup). LookupMeets x l.since (map (lookup_entry_of (host l.server)) h)) (lookup_is hw l.number (asked_of id l) l.since is) meets

lease_kept : (hw : Hardware) (k : ℕ) (a : Asker) (since : ℕ) (h : List Entry) → a ≡ asker_by hw k → LeasePromises a since (map lease_entry_of h) → LeasePromises (asker_by hw k) since (map lease_entry_of h)
lease_kept hw k a since h is meets = subst (λ (b : Asker). LeasePromises b since (map lease_entry_of h)) is meets

-- what comes to it are datagrams or echo replies
abbrev pub ByDatagrams : OpenKind → Type 0
ByDatagrams tftp = Unit {0}
ByDatagrams (http isn) = ⊥
ByDatagrams (iscsi isn i) = ⊥
ByDatagrams (dns id) = Unit {0}
ByDatagrams (dhcp a) = Unit {0}
ByDatagrams ping = Unit {0}

pub by_datagrams : (kind : OpenKind) (l : Live) (h : List Entry) → Promised kind l h → ByDatagrams kind
by_datagrams tftp l h p = tt
by_datagrams (http isn) l h p = absurd p
by_datagrams (iscsi isn i) l h p = absurd p
by_datagrams (dns id) l h p = tt
by_datagrams (dhcp a) l h p = tt
by_datagrams ping l h p = tt

pub no_stream : (kind : OpenKind) (l : Live) → ByDatagrams kind → (opening_as kind l).kind ≡ 2 → ⊥
no_stream tftp l d e = omega (arith, e)
no_stream (http isn) l d e = absurd d
no_stream (iscsi isn i) l d e = absurd d
no_stream (dns id) l d e = omega (arith, e)
no_stream (dhcp a) l d e = omega (arith, e)
no_stream ping l d e = omega (arith, e)

pub no_session : (kind : OpenKind) (l : Live) → ByDatagrams kind → (opening_as kind l).kind ≡ 3 → ⊥
no_session tftp l d e = omega (arith, e)
no_session (http isn) l d e = absurd d
no_session (iscsi isn i) l d e = absurd d
no_session (dns id) l d e = omega (arith, e)
no_session (dhcp a) l d e = omega (arith, e)
no_session ping l d e = omega (arith, e)

pub no_connection : (kind : OpenKind) (l : Live) → ByDatagrams kind → opens_connection (opening_as kind l) ≡ false
no_connection tftp l d = refl
no_connection (http isn) l d = absurd d
no_connection (iscsi isn i) l d = absurd d
no_connection (dns id) l d = refl
no_connection (dhcp a) l d = refl
no_connection ping l d = refl

-- what it asks for is made of its datagrams
pub answer_as : (kind : OpenKind) (l : Live) (k : ℕ) (es : List Event) → ByDatagrams kind → has_its_answer k (opening_as kind l) es ≡ answers_open (hardware es) k (opening_as kind l) (datagrams_of k es)
answer_as tftp l k es d = refl
answer_as (http isn) l k es d = absurd d
answer_as (iscsi isn i) l k es d = absurd d
answer_as (dns id) l k es d = refl
answer_as (dhcp a) l k es d = refl
answer_as ping l k es d = refl

-- WHAT IT ASKS FOR HASN'T COME WHILE IT GOES ON

-- a list is empty, or has a last
by_last : {A : Type 0} (xs : List A) → (xs ≡ []) ⊎ ((ys : List A) × (y : A) × (xs ≡ ys ++ y ∷ []))
by_last [] = inl refl
by_last (x ∷ xs) = by (by_last xs)
  where
    by : (xs ≡ []) ⊎ ((ys : List _) × (y : _) × (xs ≡ ys ++ y ∷ [])) → (x ∷ xs ≡ []) ⊎ ((ys : List _) × (y : _) × (x ∷ xs ≡ ys ++ y ∷ []))
    by (inl e) = inr ([], x, ap (λ z. x ∷ z) e)
    by (inr (ys, y, e)) = inr (x ∷ ys, y, ap (λ z. x ∷ z) e)

none_over : (o : Option Cause) → is_some o ≡ false → o ≡ None
none_over None e = refl
none_over (Some c) e = absurd (let no : true ≡ false = e in cc)

last_goes : (ys : List Entry) (y : Entry) → is_ended (ys ++ y ∷ []) ≡ false → y.acts.over ≡ None
last_goes ys y running = none_over y.acts.over (either_false (is_ended ys) (is_some y.acts.over) (sym (is_ended-append ys y) ∙ running)).1

pub transfer_unwhole : (l : Live) (h : List Entry) → Meets (transfer_of l) l.since h → is_ended h ≡ false → is_whole_transfer (got h) ≡ false
transfer_unwhole l h meets running = by (by_last h)
  where
    by : (h ≡ []) ⊎ ((ys : List Entry) × (y : Entry) × (h ≡ ys ++ y ∷ [])) → is_whole_transfer (got h) ≡ false
    by (inl e) = ap (λ (z : List Entry). is_whole_transfer (got z)) e
    by (inr (ys, y, e)) =
        let none = last_goes ys y (ap is_ended (sym e) ∙ running) in
        ap (λ (z : List Entry). is_whole_transfer (got z)) e
        ∙ sym (EachEntry-last OkWhereWhole [] ys y (subst (Meets (transfer_of l) l.since) e meets).whole)
        ∙ ap (λ (o : Option Cause). option_map_or (λ c. c.code == 0) o false) none

lease_ungranted : (hw : Hardware) (k since : ℕ) (h : List Entry) → LeasePromises (asker_by hw k) since (map lease_entry_of h) → is_ended h ≡ false → answers_open hw k (lease_opening since) (got h) ≡ false
lease_ungranted hw k since h meets running = by (by_last h)
  where
    by : (h ≡ []) ⊎ ((ys : List Entry) × (y : Entry) × (h ≡ ys ++ y ∷ [])) → answers_open hw k (lease_opening since) (got h) ≡ false
    by (inl e) = ap (λ (z : List Entry). answers_open hw k (lease_opening since) (got z)) e
    by (inr (ys, y, e)) =
        ap (λ (z : List Entry). answers_open hw k (lease_opening since) (got z)) e
        ∙ lease_unanswered hw k since ys y (subst (λ (z : List Entry). LeasePromises (asker_by hw k) since (map lease_entry_of z)) e meets) (last_goes ys y (ap is_ended (sym e) ∙ running))

pub unanswered_as : (kind : OpenKind) (hw : Hardware) (l : Live) (h : List Entry) → IsKindBy hw l.number kind (opening_as kind l) → Promised kind l h → is_ended h ≡ false → answers_open hw l.number (opening_as kind l) (got h) ≡ false
unanswered_as tftp hw l h is meets running = transfer_unwhole l h meets running
unanswered_as (http isn) hw l h is meets running = absurd meets
unanswered_as (iscsi isn i) hw l h is meets running = absurd meets
unanswered_as (dns id) hw l h is meets running =
    ap (λ o. answers_open hw l.number o (got h)) (lookup_opened hw id l is) ∙ lookup_unanswered hw l.number (asked_of id l) l.since h (lookup_kept hw id l h is.0 meets) running
unanswered_as (dhcp a) hw l h is meets running =
    ap (λ o. answers_open hw l.number o (got h)) (lease_opened hw a l is) ∙ lease_ungranted hw l.number l.since h (lease_kept hw l.number a l.since h is.0 meets) running
unanswered_as ping hw l h is meets running =
    ap (λ o. answers_open hw l.number o (got h)) (ping_opened hw l is) ∙ ping_unanswered hw l.number (ping_of l) l.since h meets running

-- WHAT IT SENDS

-- it is no transfer
abbrev pub IsCore : OpenKind → Type 0
IsCore tftp = ⊥
IsCore (http isn) = ⊥
IsCore (iscsi isn i) = ⊥
IsCore (dns id) = Unit {0}
IsCore (dhcp a) = Unit {0}
IsCore ping = Unit {0}

pub core_asks : (kind : OpenKind) (hw : Hardware) (l : Live) (h : List Entry) (call : Call) (acts : Acts) → IsCore kind → IsKindBy hw l.number kind (opening_as kind l) → Promised kind l (h ++ entry call acts ∷ []) →
    CoreAsks (MayAskFor hw l.number (opening_as kind l) (got (h ++ entry call acts ∷ []))) (first_of kind l) acts
core_asks tftp hw l h call acts core is meets = absurd core
core_asks (http isn) hw l h call acts core is meets = absurd core
core_asks (iscsi isn i) hw l h call acts core is meets = absurd core
core_asks (dns id) hw l h call acts core is meets =
    subst (λ o. CoreAsks (MayAskFor hw l.number o (got (h ++ entry call acts ∷ []))) (query_to (look_up_of id l)) acts) (sym (lookup_opened hw id l is))
    (subst (λ (x : Lookup). CoreAsks (MayAskFor hw l.number (lookup_opening (asked_of id l) l.since) (got (h ++ entry call acts ∷ []))) (query_to x) acts) (sym (lookup_is hw l.number (asked_of id l) l.since is.0))
    (lookup_sends hw l.number (asked_of id l) l.since h call acts (lookup_kept hw id l (h ++ entry call acts ∷ []) is.0 meets)))
core_asks (dhcp a) hw l h call acts core is meets =
    subst (λ o. CoreAsks (MayAskFor hw l.number o (got (h ++ entry call acts ∷ []))) (to_servers (message_text a None)) acts) (sym (lease_opened hw a l is))
    (subst (λ (b : Asker). CoreAsks (MayAskFor hw l.number (lease_opening l.since) (got (h ++ entry call acts ∷ []))) (to_servers (message_text b None)) acts) (sym is.0)
    (lease_sends hw l.number l.since h call acts (lease_kept hw l.number a l.since (h ++ entry call acts ∷ []) is.0 meets)))
core_asks ping hw l h call acts core is meets =
    subst (λ o. CoreAsks (MayAskFor hw l.number o (got (h ++ entry call acts ∷ []))) (echo_request (ping_of l)) acts) (sym (ping_opened hw l is)) (ping_sends hw l.number (ping_of l) l.since h call acts meets)

-- WHY IT ENDS

pub core_ends : (kind : OpenKind) (es : List Event) (l : Live) (h : List Entry) (call : Call) (acts : Acts) (cause : Cause) → IsCore kind → IsKindBy (hardware es) l.number kind (opening_as kind l) → Promised kind l (h ++ entry call acts ∷ []) →
    CoreTold es l.number (opening_as kind l) (h ++ entry call acts ∷ []) → is_ended h ≡ false → moment call ≡ time es → acts.over ≡ Some cause → CoreEnds l.number es (opening_as kind l) cause
core_ends tftp es l h call acts cause core is meets told running at over = absurd core
core_ends (http isn) es l h call acts cause core is meets told running at over = absurd core
core_ends (iscsi isn i) es l h call acts cause core is meets told running at over = absurd core
core_ends (dns id) es l h call acts cause core is meets told running at over =
    let e = lookup_opened (hardware es) id l is in
    subst (λ o. CoreEnds l.number es o cause) (sym e)
    (lookup_ends es l.number (asked_of id l) l.since h call acts cause (subst (λ o. CoreTold es l.number o (h ++ entry call acts ∷ [])) e told) (lookup_kept (hardware es) id l (h ++ entry call acts ∷ []) is.0 meets) running at over)
core_ends (dhcp a) es l h call acts cause core is meets told running at over =
    let e = lease_opened (hardware es) a l is in
    subst (λ o. CoreEnds l.number es o cause) (sym e)
    (lease_ends es l.number l.since h call acts cause (subst (λ o. CoreTold es l.number o (h ++ entry call acts ∷ [])) e told) (lease_kept (hardware es) l.number a l.since (h ++ entry call acts ∷ []) is.0 meets) running at over)
core_ends ping es l h call acts cause core is meets told running at over =
    let e = ping_opened (hardware es) l is in
    subst (λ o. CoreEnds l.number es o cause) (sym e)
    (ping_ends es l.number (ping_of l) l.since h call acts cause (subst (λ o. CoreTold es l.number o (h ++ entry call acts ∷ [])) e told) meets running at over)

-- WAYS

no_way : (f : Fate) → is_on_its_way f ≡ false → f ≡ fate.NoRoute
no_way fate.Sent e = absurd (cc)
no_way fate.Asked e = absurd (cc)
no_way fate.NoRoute e = refl

a_way : (f : Fate) → is_on_its_way f ≡ true → f ≡ fate.NoRoute → ⊥
a_way f on none = let no : true ≡ false = sym on ∙ ap is_on_its_way none in absurd (cc)

-- the way of its first message is that to its server
pub first_way : (kind : OpenKind) (hw : Hardware) (l : Live) (link : Client) → IsKindBy hw l.number kind (opening_as kind l) → has_route link (first_of kind l) ≡ is_on_its_way (fate_to link (opening_as kind l))
first_way tftp hw l link is = refl
first_way (http isn) hw l link is = refl
first_way (iscsi isn i) hw l link is = refl
first_way (dns id) hw l link is = refl
first_way (dhcp a) hw l link is = ap (λ (o : Opening). is_on_its_way (fate_to link o)) (sym (lease_opened hw a l is))
first_way ping hw l link is = refl

pub no_way_as : (kind : OpenKind) (hw : Hardware) (l : Live) (link : Client) → IsKindBy hw l.number kind (opening_as kind l) → has_route link (first_of kind l) ≡ false → fate_to link (opening_as kind l) ≡ fate.NoRoute
no_way_as kind hw l link is e = no_way (fate_to link (opening_as kind l)) (sym (first_way kind hw l link is) ∙ e)

pub way_as : (kind : OpenKind) (hw : Hardware) (l : Live) (link : Client) → IsKindBy hw l.number kind (opening_as kind l) → has_route link (first_of kind l) ≡ true → fate_to link (opening_as kind l) ≡ fate.NoRoute → ⊥
way_as kind hw l link is e = a_way (fate_to link (opening_as kind l)) (sym (first_way kind hw l link is) ∙ e)
