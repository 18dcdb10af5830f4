-- A command's open is made: of a command that begins with it, and of one that has looked up its server.
use Rattle.std.proofs.Common.{◌≡◌, ℕ, ◌<◌, Bool, List, [], ◌∷◌, ◌++◌, Some, refl, sym, ◌∙◌, ap, subst, append_assoc, add-zero, append-nil}
use Rattle.std.specs.List.{AllByRecursion}
use Rattle.nb_defs.specs.Records.{Out}
use Rattle.nb_settings.specs.Tables.{TableLists}
use Rattle.nb_stack.specs.Client.{Client}
use Rattle.nb_uri.specs.declared.target.UriTarget.{UriTarget}
use Rattle.nb_uri.specs.declared.target.UriTarget.TheVariants.{Tftp, Http, Iscsi}
use Rattle.nb_machine.specs.Starting.{own_port}
use Rattle.nb_machine.specs.Conclusions.{fails, conclusion_records}
use Rattle.nb_machine.specs.Effects.{asks, inquires, ShownWords, shown_words, table_after, up_after}
use Rattle.nb_machine.specs.Queries.{Query, for_lease, for_echo, for_host, for_address}
use Rattle.nb_machine.specs.Running.{Running, entered, further}
use Rattle.nb_machine.specs.CommandRecords.{command_record, no_route}
use Rattle.nb_machine.specs.Lives.{http, dns, dhcp, Live, kind_number, open_record, end_record}
use Rattle.nb_machine.specs.Kinds.{first_records}
use Rattle.nb_machine.specs.States.{State, following, with_settings, with_opened, with_one_made}
use Rattle.nb_machine.specs.Scripts.{Job, answer, net0_mac, transfer_kind, transfer_for, live_for, opens, doing}
use Rattle.nb_machine.specs.Courses as course
use Rattle.nb_machine.specs.Courses.{Standing}
use Rattle.nb_laws.specs.Events.{Event, puts}
use Rattle.nb_laws.specs.Lists.{Hardware, hardware, port_offset, made}
use Rattle.nb_laws.specs.CommandsSoFar.{CommandsSoFar, so_far, shown_table, comes_by, ComesTo}
use Rattle.nb_laws.specs.Wanting.{wanted_by, target_kind}
use Rattle.nb_laws.specs.Cores.{asker_by}
use Rattle.nb_machine.specs.Findings.{first_word, query_id}
use Rattle.nb_laws.specs.Openings.{inquiry_fields, open_fields, opens_for_file, opens_for_query}
use Rattle.nb_laws.specs.Agreement.{asks_at_once}
use Rattle.nb_laws.proofs.Histories.{offset_more, hardware_more}
use Rattle.nb_laws.proofs.Moved.{moves_more}
use Rattle.nb_laws.proofs.Tellings.{told, made_more, came_more, sessions_stay}
use Rattle.nb_laws.proofs.Commands.{may_begin, script_begins}
use Rattle.nb_laws.proofs.Settling.{comes_keeps}
use Rattle.nb_laws.proofs.SoFar.{begun_so_far, begins_so_far, shown_table_is, found_so_far}
use Rattle.nb_laws.specs.Webs.{brought_to}
use Rattle.nb_openlaws.specs.Standings.{live_opening}
use Rattle.nb_openlaws.proofs.Doings.{comes_to, OpensBy, opens_transfer, opens_query, opens_by, up_stays}
use Rattle.nb_lawful.specs.Results.{CommandsSo, OpenStands}
use Rattle.nb_lawful.specs.ScriptAgreement.{open_kind_for, FetchesWith, IsLiveFor, AsksIn, IsAnother, ScriptsAgree}
use Rattle.nb_lawful.proofs.Quiet.{command_open_more}
use Rattle.nb_lawful.proofs.Begun.{running_finds, comes_is, command_comes, begins_so, settings_begun}
use Rattle.nb_lawful.proofs.AtOnce.{Goes, images_as}
use Rattle.nb_lawful.proofs.Opened.{UnderWay, ConcludesNot, concludes_not, Purpose, for_file, for_query, begins_open, finds_none, Awaits, query_awaits}
use Rattle.nb_lawful.proofs.HookedLives.{LivesSo, drives_still}
use Rattle.nb_laws.specs.Drives.{sessions}

-- what the history says of a state besides its scripts
pub record Based (es : List Event) (s : State) : Type 0 where
  pub opens : made es ≡ s.opens
  pub hardware_is : hardware es ≡ record { mac = net0_mac s.devices; identity = s.machine }
  pub offset_is : port_offset es ≡ s.w
  pub fewer : AllByRecursion (IsAnother s.opens) s.live
  pub silent : brought_to (made es) es ≡ []
  pub none_yet : sessions s.opens es ≡ []

-- COMMAND first
goes_after : (es : List Event) (outs : List Out) (o : Out) (more : List Out) (p : Standing) → CommandsSo es (puts o) → Goes (es ++ puts o ∷ []) (outs ++ o ∷ []) more p → Goes es outs (o ∷ more) p
goes_after es outs o more p stands g = record {
  stands = (stands, g.stands);
  agrees = subst (λ z. ScriptsAgree z (outs ++ (o ∷ more)) p) (append_assoc es (puts o ∷ []) (told more)) (subst (λ z. ScriptsAgree ((es ++ puts o ∷ []) ++ told more) z p) (append_assoc outs (o ∷ []) more) g.agrees);
}

following_mac : (table : TableLists) (up : Bool) (devices : List Client) → net0_mac (following table up devices) ≡ net0_mac devices
following_mac table up [] = refl
following_mac table up (link ∷ others) = refl

-- what a query's open is
pub live_is_for : (h : Hardware) (s : State) (query : Query) → h ≡ record { mac = net0_mac s.devices; identity = s.machine } → IsLiveFor h query (live_for s query)
live_is_for h s for_lease e = ap (λ (z : Hardware). dhcp (asker_by z s.opens)) (sym e)
live_is_for h s (for_echo server) e = refl
live_is_for h s (for_host errand name by) e = (ap (λ (z : Hardware). dns (query_id z.identity s.opens)) (sym e), refl, refl)
live_is_for h s (for_address setting name by) e = ap (λ (z : Hardware). dns (query_id z.identity s.opens)) (sym e)

-- what its OPEN says
pub query_fields : (offset : ℕ) (s : State) (query : Query) → offset ≡ s.w → open_fields (kind_number (live_for s query).kind) (live_for s query).server (live_for s query).port (live_for s query).own (live_for s query).target ≡ inquiry_fields offset (live_for s query).number query
query_fields offset s for_lease e = refl
query_fields offset s (for_echo server) e = refl
query_fields offset s (for_host errand name by) e = ap (λ z. open_fields 4 by 53 (own_port z s.opens) name) (sym e)
query_fields offset s (for_address setting name by) e = ap (λ z. open_fields 4 by 53 (own_port z s.opens) name) (sym e)

-- what a file's open is
pub transfer_is_for : (h : Hardware) (s : State) (target : UriTarget) → h ≡ record { mac = net0_mac s.devices; identity = s.machine } → transfer_kind s target ≡ open_kind_for h s.opens target
transfer_is_for h s (Tftp host port path whole) e = refl
transfer_is_for h s (Http host port path whole) e = ap (λ (z : Hardware). http (first_word z.identity s.opens)) (sym e)
transfer_is_for h s (Iscsi host port lun name whole) e = refl

pub kind_is_for : (s : State) (target : UriTarget) → kind_number (transfer_kind s target) ≡ target_kind target
kind_is_for s (Tftp host port path whole) = refl
kind_is_for s (Http host port path whole) = refl
kind_is_for s (Iscsi host port lun name whole) = refl

number_of : (s : State) (query : Query) → (live_for s query).number ≡ s.opens
number_of s for_lease = refl
number_of s (for_echo server) = refl
number_of s (for_host errand name by) = refl
number_of s (for_address setting name by) = refl

-- A COMMAND BEGINS WITH IT

-- what is known then
pub record Begins (es : List Event) (outs : List Out) (s s' : State) (inner : Running) (outer : List Running) (l : Live) (job : Job) (command : Out) : Type 0 where
  pub under_way : UnderWay (es ++ puts command ∷ []) (outs ++ command ∷ []) s' (entered inner) outer
  pub number : l.number ≡ s'.opens
  pub stands : OpenStands (es ++ puts command ∷ []) l.number (kind_number l.kind) l.server l.port l.own l.target
  pub awaits : Awaits l job (answer l.number)
  pub purpose : Purpose (es ++ puts command ∷ []) s'.drives [] l job
  pub keeps : shown_table (so_far (es ++ puts command ∷ [])).table (so_far (es ++ puts command ∷ [])).shown ≡ (so_far (es ++ puts command ∷ [])).table
  pub quiet : ConcludesNot (so_far (es ++ puts command ∷ []))

pub begins_by : (es : List Event) (outs : List Out) (s s' : State) (inner : Running) (outer : List Running) (ws : List (List ℕ)) (l : Live) (job : Job) → Based es s → LivesSo es s → ScriptsAgree es outs (course.running s inner outer) →
    OpensBy s s' (table_after s.table ws) (up_after s.table s.up ws) (comes_to s inner ws) l job → Begins es outs s s' inner outer l job (command_record inner (shown_words s.table ws))
begins_by es outs s s' inner outer ws l job b lives a (opens_transfer wanted e state live work) =
    subst (λ z. Begins es outs s z inner outer l job command) (sym state) (subst (λ z. Begins es outs s s inner outer z job command) (sym live) (subst (λ z. Begins es outs s s inner outer (transfer_for s wanted) z command) (sym work) (record {
      under_way = record {
        script = script_begins es (command ∷ []) inner (entered inner) outer (tt, tt) refl refl refl refl a.0;
        settings = settings_begun es s s ws began refl (up_stays s inner (asks wanted) ws e) refl a.1;
        images = images_as es (es ++ puts command ∷ []) outs (command ∷ []) s s (ap (λ (m : CommandsSoFar). m.images) began) refl (drives_still (so_far es) (so_far (es ++ puts command ∷ [])) s s (ap (λ (m : CommandsSoFar). m.hooked) began) refl refl refl a.2.drives) (tt, tt) a.2;
        none_left = ap (λ (m : CommandsSoFar). m.left) began ∙ a.3;
        fewer = b.fewer;
        none_yet = sessions_stay _ es (puts command) refl ∙ b.none_yet;
      };
      number = refl;
      stands = record {
        next = sym (made_more es (puts command) ∙ add-zero (made es) ∙ b.opens);
        is_open = ap (λ (m : CommandsSoFar). m.is_open) began;
        none_left = ap (λ (m : CommandsSoFar). m.left) began ∙ a.3;
        is_for = opens_for_file (record {
          first = command_open_more es (puts command);
          own_is = ap (λ z. own_port z s.opens) (sym (offset_more es (puts command) ∙ b.offset_is));
          wanted = wanted;
          names = command_comes es outs s inner outer ws (asks wanted) lives a e;
          kind_is = kind_is_for s wanted.asking.target;
          server_is = refl;
          port_is = refl;
          target_is = refl;
        });
      };
      awaits = refl;
      purpose = for_file wanted refl (subst (λ m. FetchesWith (hardware es1) m [] (transfer_for s wanted) wanted) (sym began) (record {
        shown = shown;
        said = refl;
        asked = ap (λ x. wanted_by x (live_opening (transfer_for s wanted))) (here ∙ e);
        kind_is = transfer_is_for (hardware es1) s wanted.asking.target (hardware_more es (puts command) ∙ b.hardware_is);
        server_is = refl;
        port_is = refl;
        target_is = refl;
      }));
      keeps = subst (λ (m : CommandsSoFar). shown_table m.table m.shown ≡ m.table) (sym began) (comes_keeps s.opens (found_so_far es) shown (asks wanted) (here ∙ e) tt);
      quiet = subst ConcludesNot (sym began) (concludes_not (begun_so_far (found_so_far es) shown) shown s.opens (asks wanted) refl (here ∙ e) refl);
    })))
  where
    here : comes_by s.opens (found_so_far es) (shown_words s.table ws) ≡ comes_to s inner ws
    here = comes_is (found_so_far es) s inner ws (running_finds es outs s inner outer lives a)

    shown : ShownWords
    shown = shown_words s.table ws

    command : Out
    command = command_record inner (shown_words s.table ws)

    es1 : List Event
    es1 = es ++ puts (command_record inner (shown_words s.table ws)) ∷ []

    began : so_far (es ++ puts (command_record inner (shown_words s.table ws)) ∷ []) ≡ begun_so_far (found_so_far es) (shown_words s.table ws)
    began = begins_so_far es inner (shown_words s.table ws)
begins_by es outs s s' inner outer ws l job b lives a (opens_query query e state live work) =
    subst (λ z. Begins es outs s z inner outer l job command) (sym state) (subst (λ z. Begins es outs s v inner outer z job command) (sym live) (subst (λ z. Begins es outs s v inner outer (live_for v query) z command) (sym work) (record {
      under_way = record {
        script = script_begins es (command ∷ []) inner (entered inner) outer (tt, tt) refl refl refl refl a.0;
        settings = settings_begun es s v ws began stays refl refl a.1;
        images = images_as es (es ++ puts command ∷ []) outs (command ∷ []) s v (ap (λ (m : CommandsSoFar). m.images) began) refl (drives_still (so_far es) (so_far (es ++ puts command ∷ [])) s v (ap (λ (m : CommandsSoFar). m.hooked) began) refl refl refl a.2.drives) (tt, tt) a.2;
        none_left = ap (λ (m : CommandsSoFar). m.left) began ∙ a.3;
        fewer = b.fewer;
        none_yet = sessions_stay _ es (puts command) refl ∙ b.none_yet;
      };
      number = number_of v query;
      stands = record {
        next = number_of v query ∙ sym (made_more es (puts command) ∙ add-zero (made es) ∙ b.opens);
        is_open = ap (λ (m : CommandsSoFar). m.is_open) began;
        none_left = ap (λ (m : CommandsSoFar). m.left) began ∙ a.3;
        is_for = opens_for_query (record {
          first = command_open_more es (puts command);
          query = query;
          names = subst (λ k. ComesTo (es ++ puts command ∷ []) k (inquires query)) (sym (number_of v query)) (command_comes es outs s inner outer ws (inquires query) lives a e);
          fields_are = query_fields (port_offset (es ++ puts command ∷ [])) v query (offset_more es (puts command) ∙ b.offset_is);
        });
      };
      awaits = sym (query_awaits query (live_for v query).number);
      purpose = for_query query refl (subst (λ m. AsksIn (hardware (es ++ puts command ∷ [])) m [] (live_for v query) query) (sym began) (record {
        shown = shown;
        said = refl;
        asked = asks_at_once (ap (λ k. comes_by k (found_so_far es) shown) (number_of v query) ∙ here ∙ e);
        is_for = live_is_for (hardware (es ++ puts command ∷ [])) v query (hardware_more es (puts command) ∙ b.hardware_is ∙ ap (λ m. record { mac = m; identity = s.machine }) (sym (following_mac (table_after s.table ws) (up_after s.table s.up ws) s.devices)));
      }));
      keeps = subst (λ (m : CommandsSoFar). shown_table m.table m.shown ≡ m.table) (sym began) (comes_keeps s.opens (found_so_far es) shown (inquires query) (here ∙ e) tt);
      quiet = subst ConcludesNot (sym began) (concludes_not (begun_so_far (found_so_far es) shown) shown s.opens (inquires query) refl (here ∙ e) refl);
    })))
  where
    v : State
    v = with_settings s (table_after s.table ws) (up_after s.table s.up ws)

    here : comes_by s.opens (found_so_far es) (shown_words s.table ws) ≡ comes_to s inner ws
    here = comes_is (found_so_far es) s inner ws (running_finds es outs s inner outer lives a)

    stays : table_after s.table ws ≡ s.table
    stays = sym (ap (λ t. shown_table t (Some (shown_words s.table ws))) a.1.table ∙ shown_table_is s.table ws) ∙ comes_keeps s.opens (found_so_far es) (shown_words s.table ws) (inquires query) (here ∙ e) tt ∙ a.1.table

    shown : ShownWords
    shown = shown_words s.table ws

    command : Out
    command = command_record inner (shown_words s.table ws)

    began : so_far (es ++ puts (command_record inner (shown_words s.table ws)) ∷ []) ≡ begun_so_far (found_so_far es) (shown_words s.table ws)
    began = begins_so_far es inner (shown_words s.table ws)

pub opens_goes : (es : List Event) (outs : List Out) (s s' : State) (inner : Running) (outer : List Running) (ws : List (List ℕ)) (l : Live) (job : Job) (link : Client) (put : List Out) → Based es s → LivesSo es s → inner.begun < 4096 → doing s inner ws ≡ opens s' l job →
    first_records l.kind l link ≡ Some put → ScriptsAgree es outs (course.running s inner outer) →
    Goes es outs (command_record inner (shown_words s.table ws) ∷ open_record l ∷ put) (course.waiting (with_opened s' l) (record { script = entered inner; outer = outer; awaited = answer l.number; job = job }))
opens_goes es outs s s' inner outer ws l job link put b lives few is first a =
    let command = command_record inner (shown_words s.table ws) in
    let k = begins_by es outs s s' inner outer ws l job b lives a (opens_by s inner ws s' l job is) in
    goes_after es outs command (open_record l ∷ put) _ (begins_so es s inner ws a.1 (may_begin es inner outer a.0 few))
    (begins_open (es ++ puts command ∷ []) (outs ++ command ∷ []) s' (entered inner) outer l link put (answer l.number) job k.under_way first k.number k.stands k.awaits
    (subst (λ z. Purpose (es ++ puts command ∷ []) s'.drives z l job) (sym (moves_more es (puts command))) k.purpose))

pub no_route_goes : (es : List Event) (outs : List Out) (s s' : State) (inner : Running) (outer : List Running) (ws : List (List ℕ)) (l : Live) (job : Job) → Based es s → LivesSo es s → inner.begun < 4096 → doing s inner ws ≡ opens s' l job →
    ScriptsAgree es outs (course.running s inner outer) →
    Goes es outs (command_record inner (shown_words s.table ws) ∷ open_record l ∷ end_record l (no_route l.server) ∷ conclusion_records (fails (no_route l.server))) (course.running (with_one_made s') (further inner (no_route l.server)) outer)
no_route_goes es outs s s' inner outer ws l job b lives few is a =
    let command = command_record inner (shown_words s.table ws) in
    let k = begins_by es outs s s' inner outer ws l job b lives a (opens_by s inner ws s' l job is) in
    goes_after es outs command (open_record l ∷ end_record l (no_route l.server) ∷ conclusion_records (fails (no_route l.server))) _ (begins_so es s inner ws a.1 (may_begin es inner outer a.0 few))
    (finds_none (es ++ puts command ∷ []) (outs ++ command ∷ []) s' (entered inner) outer l k.under_way k.stands k.keeps k.quiet
    (ap (λ n. brought_to n (es ++ puts command ∷ [])) (made_more es (puts command) ∙ add-zero (made es)) ∙ came_more (made es) es (puts command) ∙ append-nil (brought_to (made es) es) ∙ b.silent))
