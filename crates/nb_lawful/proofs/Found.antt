-- The open of a command that asks by one exchange has ended: what the history says that it has found, and its result.
use Rattle.std.specs.Prelude.{find}
use Rattle.std.proofs.Common.{◌≡◌, ℕ, ◌-◌, ◌==◌, ◌||◌, Bool, true, false, cond, List, [], ◌∷◌, ◌++◌, map, Option, Some, None, Ok, Err, refl, sym, ◌∙◌, ap, subst, append-nil}
use Rattle.std.specs.List.{flat_map}
use Rattle.std.specs.Option.{option_map_or}
use Rattle.nb_terms.specs.declared.cause.Cause.{Cause}
use Rattle.nb_wire.specs.declared.address.Ip4.{Ip4}
use Rattle.nb_defs.specs.Causes.{is_ok_cause}
use Rattle.nb_defs.specs.Records.{Out, result}
use Rattle.nb_settings.specs.Tables.{TableLists}
use Rattle.nb_command.specs.Settings.{Change}
use Rattle.nb_command.specs.Addresses.{address_table}
use Rattle.nb_command.specs.SettingAddresses.{host}
use Rattle.nb_dns.specs.LookupCalls.{DnsDatagram}
use Rattle.nb_dns.specs.LookupReplies.{address_found}
use Rattle.nb_dhcp.specs.History.{Handed, acknowledgement_in}
use Rattle.nb_tftp.specs.History.{received_by}
use Rattle.nb_machine.specs.Effects.{inquires, changed}
use Rattle.nb_machine.specs.Errands.{Errand, echoes_then}
use Rattle.nb_machine.specs.Findings.{query_id, lease_change, Settlement, settled_by}
use Rattle.nb_machine.specs.Queries.{Query, for_lease, for_echo, for_host, for_address}
use Rattle.nb_machine.specs.Running.{Running, with_result}
use Rattle.nb_machine.specs.Lives.{dns, dhcp, kind_number, Live}
use Rattle.nb_machine.specs.Kinds as kinds
use Rattle.nb_machine.specs.Kinds.{moved_by, resolved, resolved_of, granted, granted_of}
use Rattle.nb_machine.specs.States.{State, with_settings}
use Rattle.nb_machine.specs.Scripts.{settled_with, leased_change, resolved_change}
use Rattle.nb_machine.specs.Courses as course
use Rattle.nb_laws.specs.Events.{Event}
use Rattle.nb_laws.specs.Lists.{Hardware, hardware, openings, made, datagrams_of, calls, came_ok, last_end}
use Rattle.nb_laws.specs.Moves.{MovedOpen, moved_open, moves}
use Rattle.nb_laws.specs.Webs.{opens_a_file}
use Rattle.nb_laws.specs.Cores.{lookup_by, asker_by, as_dns, looked_at, handed_over}
use Rattle.nb_laws.specs.CommandsSoFar.{CommandsSoFar, so_far, comes_after, conclusion_so_far, shown_effect, shown_table, shown_query, query_in, query_change, change_found, found_table, left_table, ComesTo}
use Rattle.nb_laws.specs.Frames.{IsLastQuery, HoldsResult, by_failed_end, by_found, by_echo_of_host, HoldsOf}
use Rattle.nb_laws.specs.Agreement.{AsksQuery, asks_at_once, echoes_next}
use Rattle.nb_laws.proofs.Tellings.{told}
use Rattle.nb_laws.proofs.Commands.{script_as, script_told}
use Rattle.nb_laws.proofs.Inquiries.{asks_some, shown_inquiry_keeps}
use Rattle.nb_laws.proofs.Afterwards.{after_keeps, after_none, after_plainly, host_leaves, after_unhooked}
use Rattle.nb_laws.proofs.SoFar.{result_is, opened_no_file, hooks_so_far, hooks_none}
use Rattle.nb_laws.proofs.Settling.{IsNoFetch}
use Rattle.nb_laws.proofs.OwnQueries.{asked_plainly}
use Rattle.nb_laws.proofs.Stays.{IsAsking}
use Rattle.nb_openlaws.specs.Standings.{live_opening, heard_calls}
use Rattle.nb_laws.specs.CommandOpens.{command_end}
use Rattle.nb_laws.specs.Hookings.{HooksDisk, BootsBy, HasRead}
use Rattle.nb_lawful.specs.Results.{ResultStands}
use Rattle.nb_lawful.specs.ScriptAgreement.{SettingsAre, IsLiveFor, AsksIn}
use Rattle.nb_lawful.proofs.AtOnce.{Goes, images_as}
use Rattle.nb_lawful.proofs.CommandEnds.{HasEnded, ends_with, look_up_heard, lease_heard}
use Rattle.nb_lawful.proofs.HookedLives.{drives_still}
use Rattle.nb_lawful.proofs.Disks.{no_disk_where}
use Rattle.nb_lawful.proofs.NoBlocks.{kept_disk, booted_disk, no_block_later}

-- WHAT IT HAS FOUND

-- put into these settings, as its query wants it
abbrev pub found_by : Query → Live → TableLists → Change
found_by for_lease l table = leased_change l table
found_by (for_echo server) l table = Ok table
found_by (for_address setting name by) l table = resolved_change setting l table
found_by (for_host errand name by) l table = Ok table

pub resolved_same : (es : List Event) (l : Live) → l.kind ≡ dns (query_id (hardware es).identity l.number) → calls l.number es ≡ heard_calls l.kind l.exchanges →
    address_found (lookup_by (hardware es) l.number (live_opening l)) (looked_at (live_opening l) (datagrams_of l.number es)) ≡ resolved l
resolved_same es l kind received =
    let id = query_id (hardware es).identity l.number in
    ap (λ z. address_found (lookup_by (hardware es) l.number (live_opening l)) (map (as_dns (host l.server)) (flat_map received_by z))) (received ∙ ap (λ k. heard_calls k l.exchanges) kind)
    ∙ ap (λ (ms : List DnsDatagram). address_found (lookup_by (hardware es) l.number (live_opening l)) ms) (look_up_heard id l.server l.exchanges)
    ∙ sym (ap (λ k. resolved_of k l) kind)

granted_same : (es : List Event) (l : Live) → l.kind ≡ dhcp (asker_by (hardware es) l.number) → calls l.number es ≡ heard_calls l.kind l.exchanges →
    acknowledgement_in (asker_by (hardware es) l.number) (handed_over (datagrams_of l.number es)) ≡ granted l
granted_same es l kind received =
    let a = asker_by (hardware es) l.number in
    ap (λ z. acknowledgement_in a (handed_over (flat_map received_by z))) (received ∙ ap (λ k. heard_calls k l.exchanges) kind)
    ∙ ap (λ (ms : List Handed). acknowledgement_in a ms) (lease_heard a l.exchanges)
    ∙ sym (ap (λ k. granted_of k l.exchanges) kind)

query_same : (es : List Event) (l : Live) (query : Query) (table : TableLists) → IsLiveFor (hardware es) query l → calls l.number es ≡ heard_calls l.kind l.exchanges →
    query_change (hardware es) l.number (live_opening l ∷ []) (datagrams_of l.number es) table query ≡ found_by query l table
query_same es l for_lease table is received = ap (λ x. option_map_or (lease_change table) x (Ok table)) (granted_same es l is received)
query_same es l (for_echo server) table is received = refl
query_same es l (for_host errand name by) table is received = refl
query_same es l (for_address setting name by) table is received =
    ap (λ x. option_map_or (λ (address : Ip4). address_table setting address.0 table) x (Ok table)) (resolved_same es l is received)

found_same : (es : List Event) (outs : List Out) (s : State) (inner : Running) (outer : List Running) (moved : List MovedOpen) (l : Live) (cause : Cause) (query : Query) (table : TableLists) → HasEnded es outs s inner outer moved l cause → IsLiveFor (hardware es) query l → change_found es table query ≡ found_by query l table
found_same es outs s inner outer moved l cause query table h is =
    ap (λ n. query_change (hardware es) n (openings n es) (datagrams_of n es) table query) h.number
    ∙ ap (λ os. query_change (hardware es) l.number os (datagrams_of l.number es) table query) h.opening
    ∙ query_same es l query table is h.received

-- nor was its file moved by it
no_place : (h : Hardware) (query : Query) (l : Live) → IsLiveFor h query l → kinds.moved l ≡ None
no_place h for_lease l is = ap (λ k. moved_by k l) is
no_place h (for_echo server) l is = ap (λ k. moved_by k l) is
no_place h (for_host errand name by) l is = ap (λ k. moved_by k l) is.0
no_place h (for_address setting name by) l is = ap (λ k. moved_by k l) is

pub query_moves_none : (es : List Event) (outs : List Out) (s : State) (inner : Running) (outer : List Running) (moved : List MovedOpen) (l : Live) (cause : Cause) (query : Query) → HasEnded es outs s inner outer moved l cause → IsLiveFor (hardware es) query l → moves es ≡ moved
query_moves_none es outs s inner outer moved l cause query h is =
    h.moved_so ∙ ap (λ z. moved ++ moved_open (live_opening l) z) (ap (λ z. cond (is_ok_cause cause) z None) (no_place (hardware es) query l is) ∙ either (is_ok_cause cause)) ∙ append-nil moved
  where
    either : (b : Bool) → ◌≡◌ {A = Option (List ℕ)} (cond b None None) None
    either true = refl
    either false = refl

-- ITS RESULT

abbrev pub settled_query : Cause → Query → Live → TableLists → Settlement
settled_query cause query l table = settled_with cause (found_by query l table) table

-- the open that receives an echo is a ping
echo_kind : (h : Hardware) (query : Query) (l : Live) (server : ℕ) → query ≡ for_echo server → IsLiveFor h query l → kind_number l.kind ≡ 6
echo_kind h query l server is f = let at : IsLiveFor h (for_echo server) l = subst (λ q. IsLiveFor h q l) is f in ap kind_number at

-- a command whose open has ended, and which asks nothing more
pub record HasFound (es : List Event) (outs : List Out) (s : State) (inner : Running) (outer : List Running) (moved : List MovedOpen) (l : Live) (cause : Cause) (query : Query) : Type 0 where
  pub ended_so : HasEnded es outs s inner outer moved l cause
  pub asks : AsksIn (hardware es) (so_far es) moved l query
  pub last : is_ok_cause cause ≡ true → IsLastQuery query

-- it hooks no disk
found_no_disk : (es : List Event) (outs : List Out) (s : State) (inner : Running) (outer : List Running) (moved : List MovedOpen) (l : Live) (cause : Cause) (query : Query) → HasFound es outs s inner outer moved l cause query → HooksDisk es → ⊥
found_no_disk es outs s inner outer moved l cause query f disk =
    let (q, is) = asks_some (comes_after l.number (so_far es) f.asks.shown moved) query f.asks.asked in
    no_disk_where es f.asks.shown f.asks.said (after_unhooked l.number (so_far es) f.asks.shown moved (inquires q) refl is) disk

found_stands : (es : List Event) (outs : List Out) (s : State) (inner : Running) (outer : List Running) (moved : List MovedOpen) (l : Live) (cause : Cause) (query : Query) → HasFound es outs s inner outer moved l cause query → ResultStands es (settled_query cause query l s.table).cause
found_stands es outs s inner outer moved l cause query f = by (is_ok_cause cause) refl
  where
    comes : (q : Query) → comes_after l.number (so_far es) f.asks.shown moved ≡ inquires q → ComesTo es (made es - 1) (inquires q)
    comes q is = (
      f.asks.shown,
      f.asks.said,
      ap (comes_after (made es - 1) (so_far es) f.asks.shown) (query_moves_none es outs s inner outer moved l cause query f.ended_so f.asks.is_for) ∙ ap (λ n. comes_after n (so_far es) f.asks.shown moved) f.ended_so.number ∙ is,
    )

    own : {given : Cause} → HoldsResult es given → HoldsOf (so_far es).left es given
    own {given} g = subst (λ x. HoldsOf x es given) (sym f.ended_so.none_left) g

    came : is_ok_cause cause ≡ true → came_ok (command_end es) ≡ true
    came e = ap came_ok (ends_with es outs s inner outer moved l cause f.ended_so) ∙ e

    held : is_ok_cause cause ≡ true → AsksQuery (comes_after l.number (so_far es) f.asks.shown moved) query → HoldsResult es (settled_by s.table (found_by query l s.table)).cause
    held e (asks_at_once is) =
        by_found query (f.last e) (came e) (comes query is)
        (ap (λ c. (settled_by s.table c).cause) (sym (found_same es outs s inner outer moved l cause query s.table f.ended_so f.asks.is_for)) ∙ ap (λ z. (settled_by z (change_found es z query)).cause) (sym f.ended_so.settings.table))
    held e (echoes_next name server address is same) =
        by_echo_of_host name server (came e) (comes (for_host echoes_then name server) is)
        (record { opening = live_opening l; opened = ap (λ n. openings n es) f.ended_so.number ∙ f.ended_so.opening; kind_is = echo_kind (hardware es) query l address same f.asks.is_for })
        (ap (λ q. (settled_by s.table (found_by q l s.table)).cause) same)

    unread : (k : ℕ) (bytes : List ℕ) → BootsBy k es → HasRead k es bytes → ⊥
    unread = no_block_later es _ f.ended_so.its_end (λ d bytes read. found_no_disk es outs s inner outer moved l cause query f (booted_disk es d))

    by : (b : Bool) → is_ok_cause cause ≡ b → ResultStands es (cond b (settled_by s.table (found_by query l s.table)) (record { cause = cause; table = s.table })).cause
    by false e = record {
      is_open = f.ended_so.settings.is_open;
      holds = own (by_failed_end (ends_with es outs s inner outer moved l cause f.ended_so) e);
      hooks = λ left some disk. absurd (found_no_disk es outs s inner outer moved l cause query f (kept_disk es disk));
      reads = λ left k bytes boots_it read. absurd (unread k bytes boots_it read);
      frees = λ left some d. absurd (found_no_disk es outs s inner outer moved l cause query f (booted_disk es d));
    }
    by true e = record {
      is_open = f.ended_so.settings.is_open;
      holds = own (held e f.asks.asked);
      hooks = λ left some disk. absurd (found_no_disk es outs s inner outer moved l cause query f (kept_disk es disk));
      reads = λ left k bytes boots_it read. absurd (unread k bytes boots_it read);
      frees = λ left some d. absurd (found_no_disk es outs s inner outer moved l cause query f (booted_disk es d));
    }

-- THE SETTINGS THEN

settled_table : (table : TableLists) (c : Change) → (settled_by table c).table ≡ changed table c
settled_table table (Ok other) = refl
settled_table table (Err why) = refl

found_leaves : (es : List Event) (outs : List Out) (s : State) (inner : Running) (outer : List Running) (moved : List MovedOpen) (l : Live) (cause : Cause) (query : Query) → HasFound es outs s inner outer moved l cause query → left_table es (so_far es).table (so_far es).shown ≡ (settled_query cause query l s.table).table
found_leaves es outs s inner outer moved l cause query f = by_asked f.asks.asked
  where
    by : (b : Bool) → cond b (changed s.table (found_by query l s.table)) s.table ≡ (cond b (settled_by s.table (found_by query l s.table)) (record { cause = cause; table = s.table })).table
    by true = sym (settled_table s.table (found_by query l s.table))
    by false = refl

    at_once : shown_effect l.number (so_far es).table f.asks.shown ≡ inquires query → left_table es (so_far es).table (so_far es).shown ≡ (settled_query cause query l s.table).table
    at_once asked =
        ap (left_table es (so_far es).table) f.asks.said
        ∙ ap (λ x. cond (came_ok x) (found_table es (shown_table (so_far es).table (Some f.asks.shown)) (shown_query (made es - 1) (so_far es).table (Some f.asks.shown))) (shown_table (so_far es).table (Some f.asks.shown))) f.ended_so.last
        ∙ ap (λ z. cond (is_ok_cause cause) (found_table es z (shown_query (made es - 1) (so_far es).table (Some f.asks.shown))) z) (shown_inquiry_keeps l.number (so_far es).table f.asks.shown query asked)
        ∙ ap (λ z. cond (is_ok_cause cause) (found_table es (so_far es).table z) (so_far es).table) (ap (λ n. query_in (shown_effect n (so_far es).table f.asks.shown)) f.ended_so.number ∙ ap query_in asked)
        ∙ ap (λ z. cond (is_ok_cause cause) (changed z (change_found es z query)) z) f.ended_so.settings.table
        ∙ ap (λ c. cond (is_ok_cause cause) (changed s.table c) s.table) (found_same es outs s inner outer moved l cause query s.table f.ended_so f.asks.is_for)
        ∙ by (is_ok_cause cause)

    echo_leaves : (b : Bool) → s.table ≡ (cond b (settled_by s.table (Ok s.table)) (record { cause = cause; table = s.table })).table
    echo_leaves true = refl
    echo_leaves false = refl

    -- its server is looked up
    by_host : (errand : Errand) (name : List ℕ) (server : ℕ) → comes_after l.number (so_far es) f.asks.shown moved ≡ inquires (for_host errand name server) → found_by query l s.table ≡ Ok s.table →
        left_table es (so_far es).table (so_far es).shown ≡ (settled_query cause query l s.table).table
    by_host errand name server asked nothing =
        host_leaves es (so_far es) f.asks.shown moved errand name server f.asks.said (ap (λ n. comes_after n (so_far es) f.asks.shown moved) f.ended_so.number ∙ asked)
        ∙ ap (shown_table (so_far es).table) f.asks.said ∙ after_keeps l.number (so_far es) f.asks.shown moved (inquires (for_host errand name server)) asked tt
        ∙ f.ended_so.settings.table ∙ echo_leaves (is_ok_cause cause)
        ∙ ap (λ c. (settled_with cause c s.table).table) (sym nothing)

    plainly : IsNoFetch query → comes_after l.number (so_far es) f.asks.shown moved ≡ inquires query → left_table es (so_far es).table (so_far es).shown ≡ (settled_query cause query l s.table).table
    plainly plain asked = at_once (asked_plainly l.number (so_far es) f.asks.shown query plain (after_plainly l.number (so_far es) f.asks.shown moved query plain asked))

    by_query : (q : Query) → query ≡ q → comes_after l.number (so_far es) f.asks.shown moved ≡ inquires query → left_table es (so_far es).table (so_far es).shown ≡ (settled_query cause query l s.table).table
    by_query for_lease is asked = plainly (subst IsNoFetch (sym is) tt) asked
    by_query (for_echo server) is asked = plainly (subst IsNoFetch (sym is) tt) asked
    by_query (for_address setting name server) is asked = plainly (subst IsNoFetch (sym is) tt) asked
    by_query (for_host errand name server) is asked = by_host errand name server (asked ∙ ap inquires is) (ap (λ q. found_by q l s.table) is)

    by_asked : AsksQuery (comes_after l.number (so_far es) f.asks.shown moved) query → left_table es (so_far es).table (so_far es).shown ≡ (settled_query cause query l s.table).table
    by_asked (asks_at_once asked) = by_query query refl asked
    by_asked (echoes_next name server address asked same) = by_host echoes_then name server asked (ap (λ q. found_by q l s.table) same)

-- IT CONCLUDES NOTHING

no_file : (h : Hardware) (query : Query) (l : Live) → IsLiveFor h query l → opens_a_file (live_opening l) ≡ false
no_file h for_lease l is = ap (λ k. (kind_number k == 1) || (kind_number k == 2)) is
no_file h (for_echo server) l is = ap (λ k. (kind_number k == 1) || (kind_number k == 2)) is
no_file h (for_host errand name by) l is = ap (λ k. (kind_number k == 1) || (kind_number k == 2)) is.0
no_file h (for_address setting name by) l is = ap (λ k. (kind_number k == 1) || (kind_number k == 2)) is

concludes_nothing : (es : List Event) (outs : List Out) (s : State) (inner : Running) (outer : List Running) (moved : List MovedOpen) (l : Live) (cause : Cause) (query : Query) → HasFound es outs s inner outer moved l cause query → conclusion_so_far (last_end es) es (so_far es) ≡ None
concludes_nothing es outs s inner outer moved l cause query f =
    let (q, is) = asks_some (comes_after l.number (so_far es) f.asks.shown moved) query f.asks.asked in
    opened_no_file es (so_far es) f.asks.shown f.asks.said
    (ap (λ n. find opens_a_file (openings n es)) f.ended_so.number ∙ ap (find opens_a_file) f.ended_so.opening ∙ ap (λ b. cond b (Some (live_opening l)) None) (no_file (hardware es) query l f.asks.is_for))
    (after_none l.number (made es) (so_far es) f.asks.shown moved (subst IsAsking (sym is) tt))

-- it hooks no disk
found_hooks : (es : List Event) (outs : List Out) (s : State) (inner : Running) (outer : List Running) (moved : List MovedOpen) (l : Live) (cause : Cause) (query : Query) (given : Cause) → HasFound es outs s inner outer moved l cause query →
    hooks_so_far given es ≡ so_far es
found_hooks es outs s inner outer moved l cause query given f =
    let (q, is) = asks_some (comes_after l.number (so_far es) f.asks.shown moved) query f.asks.asked in
    hooks_none es given f.asks.shown f.asks.said (after_unhooked l.number (so_far es) f.asks.shown moved (inquires q) refl is)

-- its command is over
pub found_goes : (es : List Event) (outs : List Out) (s : State) (inner : Running) (outer : List Running) (moved : List MovedOpen) (l : Live) (cause : Cause) (query : Query) → HasFound es outs s inner outer moved l cause query →
    Goes es outs (result (settled_query cause query l s.table).cause ∷ []) (course.running (with_settings s (settled_query cause query l s.table).table s.up) (with_result inner (settled_query cause query l s.table).cause) outer)
found_goes es outs s inner outer moved l cause query f =
    let end = settled_query cause query l s.table in
    let o = result end.cause in
    let is = result_is es end.cause None end.table f.ended_so.none_left (concludes_nothing es outs s inner outer moved l cause query f) (found_leaves es outs s inner outer moved l cause query f) in
    record {
      stands = (found_stands es outs s inner outer moved l cause query f, tt);
      agrees = (
        script_as (es ++ told (o ∷ [])) inner (with_result inner end.cause) outer (record { same = refl; depth = refl; begun = refl }) (script_told es (o ∷ []) inner outer (tt, tt) refl f.ended_so.script),
        subst (λ m. SettingsAre m (with_settings s end.table s.up) false) (sym is) (record { table = refl; up = f.ended_so.settings.up; now = f.ended_so.settings.now; is_open = refl }),
        images_as es (es ++ told (o ∷ [])) outs (o ∷ []) s (with_settings s end.table s.up) (ap (λ (m : CommandsSoFar). m.images) is) refl
            (drives_still (so_far es) (so_far (es ++ told (o ∷ []))) s (with_settings s end.table s.up) (ap (λ (m : CommandsSoFar). m.hooked) is ∙ ap (λ (m : CommandsSoFar). m.hooked) (found_hooks es outs s inner outer moved l cause query end.cause f)) refl refl refl f.ended_so.images.drives)
            (tt, tt) f.ended_so.images,
        ap (λ (m : CommandsSoFar). m.left) is ∙ f.ended_so.none_left,
      );
    }
