-- A command that is under way makes an open: it begins, and the command waits for it, or it finds no route and has ended.
use Rattle.std.proofs.Common.{◌≡◌, ℕ, ◌+◌, ◌==◌, Bool, true, false, cond, List, [], ◌∷◌, ◌++◌, Some, None, refl, sym, ◌∙◌, ap, subst, append_assoc, append-nil, add-zero}
use Rattle.std.specs.List.{AllByRecursion}
use Rattle.std.specs.Option.{option_and_then}
use Rattle.std.proofs.lemmas.Option.{none-some, same_Some}
use Rattle.nb_terms.specs.declared.acts.SendTo.{SendTo}
use Rattle.nb_defs.specs.Records.{Out, sent, result, tried, advanced}
use Rattle.nb_stack.specs.Client.{Client}
use Rattle.nb_dns.specs.Lookups.{query_to}
use Rattle.nb_dhcp.specs.Acting.{to_servers}
use Rattle.nb_dhcp.specs.Messages.{message_text}
use Rattle.nb_ping.specs.Pings.{echo_request}
use Rattle.nb_machine.specs.Sendings.{has_route, request_of, send_records}
use Rattle.nb_machine.specs.Cores.{look_up_of, ping_of}
use Rattle.nb_machine.specs.Transfers.{transfer_of}
use Rattle.nb_machine.specs.Conclusions.{fails, conclusion_records}
use Rattle.nb_machine.specs.Running.{Running, with_result}
use Rattle.nb_machine.specs.CommandRecords.{no_route}
use Rattle.nb_machine.specs.Effects.{Effect, ShownWords}
use Rattle.nb_machine.specs.Errands.{Wanted, hooks_then}
use Rattle.nb_machine.specs.Queries.{Query, for_echo, for_host, for_address, for_lease}
use Rattle.nb_machine.specs.Lives.{OpenKind, tftp, http, iscsi, dns, dhcp, ping, Live, open_record, end_record}
use Rattle.nb_machine.specs.Connections.{connection_of, syn_message}
use Rattle.nb_machine.specs.Kinds.{first_records}
use Rattle.nb_machine.specs.States.{State, with_opened, with_one_made}
use Rattle.nb_machine.specs.Scripts.{Job, fetch, job_for, answer, Waiting, Awaited, hooks, asks_on, keeps_address, takes_lease, hears_echo, sleep}
use Rattle.nb_machine.specs.Courses as course
use Rattle.nb_laws.specs.Events.{Event, puts}
use Rattle.nb_laws.specs.Lists.{hardware, port_offset, commands_begun, made, came_ok, last_end}
use Rattle.nb_laws.specs.CommandsSoFar.{CommandsSoFar, so_far, shown_table, comes_by, conclusion_so_far, concluded_in, concluded_by_open}
use Rattle.nb_laws.specs.Agreement.{AgreesScript}
use Rattle.nb_laws.specs.Moves.{MovedOpen, moves}
use Rattle.nb_laws.proofs.Histories.{hardware_more, offset_more}
use Rattle.nb_laws.proofs.Tellings.{told, same_number, made_more}
use Rattle.nb_laws.proofs.Commands.{script_as, script_told}
use Rattle.nb_laws.proofs.HandOffs.{IsOpens, AreOpens, opens_send}
use Rattle.nb_laws.proofs.Moved.{moves_more, IsUnmoving, unmoved}
use Rattle.nb_laws.proofs.SoFar.{so_far_more, over_so_far, left_quiet, result_so_far, hooks_failed}
use Rattle.nb_laws.proofs.Settling.{concludes_same}
use Rattle.nb_openlaws.proofs.Puts.{opens_quiet}
use Rattle.nb_laws.specs.CommandOpens.{command_open_by, command_end, over_of, command_open}
use Rattle.nb_laws.specs.Frames.{by_failed_end, HoldsOf}
use Rattle.nb_laws.specs.Webs.{brought_to}
use Rattle.nb_lawful.specs.Results.{CommandsSo}
use Rattle.nb_lawful.specs.ScriptAgreement.{SettingsAre, FetchesWith, AsksIn, IsAnother, IsAwaited, AwaitsSo, awaits_file, awaits_query, HasImages, NoneLeft, ScriptsAgree, HooksBy, awaits_host, awaits_drive, LooksUpDisk, HasFreeNumber}
use Rattle.nb_lawful.proofs.Quiet.{quiet_so_far, quiet_begin, quiet_parts, quiet_scripts, quiet_commands, command_open_more}
use Rattle.nb_lawful.proofs.Awaited.{opens_beside, beside_open}
use Rattle.nb_lawful.proofs.AtOnce.{Goes, images_as}
use Rattle.nb_lawful.proofs.HookedLives.{drives_made, drives_opened}
use Rattle.nb_lawful.proofs.Fresh.{fresh_drive, fresh_block}
use Rattle.nb_drivecmd.specs.declared.drive.Drive.{Drive}
use Rattle.nb_drivecmd.specs.declared.outcome.AfterHook.TheVariants.{Keep, Boot}
use Rattle.nb_laws.specs.CommandsSoFar.{hooking_so_far}
use Rattle.nb_laws.specs.Drives.{hooks_to_boot, session_with, session_opening, session_at, sessions}
use Rattle.nb_laws.specs.Hookings.{BootsBy, HasRead}
use Rattle.nb_laws.specs.Lists.{Opening, time}
use Rattle.nb_laws.proofs.Tellings.{sessions_more}
use Rattle.nb_login.specs.declared.info.LoginInfo.{LoginInfo}
use Rattle.nb_machine.specs.Kinds.{answered}
use Rattle.nb_machine.specs.Lives.{kind_number}
use Rattle.nb_machine.specs.Scripts.{boots, awaited_hook, block}
use Rattle.nb_lawful.proofs.NoBlocks.{no_block_later, made_some}
use Rattle.nb_lawful.specs.ScriptAgreement.{WasSession, AreUnasked, awaits_disk}
use Rattle.std.specs.List.{flat_map}
use Rattle.nb_drivecmd.specs.declared.outcome.Hooking.{Hooking}

pub told_hardware : (es : List Event) (outs : List Out) → hardware (es ++ told outs) ≡ hardware es
told_hardware es [] = ap hardware (append-nil es)
told_hardware es (o ∷ outs) = ap hardware (sym (append_assoc es (puts o ∷ []) (told outs))) ∙ told_hardware (es ++ puts o ∷ []) outs ∙ hardware_more es (puts o)

pub told_offset : (es : List Event) (outs : List Out) → port_offset (es ++ told outs) ≡ port_offset es
told_offset es [] = ap port_offset (append-nil es)
told_offset es (o ∷ outs) = ap port_offset (sym (append_assoc es (puts o ∷ []) (told outs))) ∙ told_offset (es ++ puts o ∷ []) outs ∙ offset_more es (puts o)

-- ITS FIRST RECORDS

either_begun : (b : Bool) (x put : List Out) → cond b (Some x) None ≡ Some put → AreOpens x → AreOpens put
either_begun true x put is h = subst AreOpens (same_Some x put is) h
either_begun false x put is h = absurd (none-some put is)

sent_first : (link : Client) (k : ℕ) (m : SendTo) (put : List Out) → cond (has_route link m) (Some (send_records link k (Some 1) m)) None ≡ Some put → AreOpens put
sent_first link k m put is = either_begun (has_route link m) (send_records link k (Some 1) m) put is (opens_send link k (Some 1) m)

pub first_opens : (l : Live) (link : Client) (put : List Out) → first_records l.kind l link ≡ Some put → AreOpens put
first_opens l link put is = by l.kind is
  where
    by : (kind : OpenKind) → first_records kind l link ≡ Some put → AreOpens put
    by tftp is = sent_first link l.number (request_of (transfer_of l)) put is
    by (http isn) is = sent_first link l.number (syn_message (connection_of isn l)) put is
    by (iscsi isn i) is = sent_first link l.number (syn_message (connection_of isn l)) put is
    by (dns id) is = sent_first link l.number (query_to (look_up_of id l)) put is
    by (dhcp a) is = sent_first link l.number (to_servers (message_text a None)) put is
    by ping is = sent_first link l.number (echo_request (ping_of l)) put is

-- UNDER WAY

-- a command has begun, and has no result yet
pub record UnderWay (es : List Event) (outs : List Out) (s : State) (inner : Running) (outer : List Running) : Type 0 where
  pub script : AgreesScript es inner outer
  pub settings : SettingsAre (so_far es) s true
  pub images : HasImages es outs s
  pub none_left : NoneLeft es
  pub fewer : AllByRecursion (IsAnother s.opens) s.live
  pub none_yet : sessions s.opens es ≡ []

-- the command that began last concludes nothing at once
abbrev pub ConcludesNot : CommandsSoFar → Type 0
ConcludesNot m = (k : ℕ) → option_and_then (λ shown. concluded_in (comes_by k m shown)) m.shown ≡ None

pub concludes_not : (m : CommandsSoFar) (shown : ShownWords) (k : ℕ) (e : Effect) → m.shown ≡ Some shown → comes_by k m shown ≡ e → concluded_in e ≡ None → ConcludesNot m
concludes_not m shown k e said is none = λ j. ap (option_and_then (λ x. concluded_in (comes_by j m x))) said ∙ concludes_same j k m shown ∙ ap concluded_in is ∙ none

-- what the command asks by its open, its file moved so and these drives hooked
pub data Purpose (es : List Event) (drives : List Drive) (moved : List MovedOpen) (l : Live) (job : Job) : Type 0 where
  for_file : (wanted : Wanted) → job ≡ fetch wanted → FetchesWith (hardware es) (so_far es) moved l wanted → Purpose es drives moved l job
  for_query : (query : Query) → job ≡ job_for query → AsksIn (hardware es) (so_far es) moved l query → Purpose es drives moved l job
  for_disk_host : (hooking : Hooking) → job ≡ asks_on (hooks_then hooking) → LooksUpDisk (hardware es) (so_far es) moved l hooking → HasFreeNumber hooking drives → Purpose es drives moved l job
  for_disk : (hooking : Hooking) → job ≡ hooks hooking → hooking.after ≡ Keep → HooksBy (so_far es) moved l hooking → answered l ≡ None → HasFreeNumber hooking drives → Purpose es drives moved l job
  for_boot : (hooking : Hooking) (keep : Bool) → job ≡ hooks hooking → hooking.after ≡ Boot keep → HooksBy (so_far es) moved l hooking → hooks_to_boot (hooking_so_far (so_far es)) ≡ true → AreUnasked l.exchanges → answered l ≡ None →
      HasFreeNumber hooking drives → Purpose es drives moved l job

purpose_of_disk : (es es3 : List Event) (a b : List MovedOpen) (l : Live) (job : Job) → so_far es3 ≡ so_far es → hardware es3 ≡ hardware es → b ≡ a → (hooking : Hooking) → LooksUpDisk (hardware es) (so_far es) a l hooking → LooksUpDisk (hardware es3) (so_far es3) b l hooking
purpose_of_disk es es3 a b l job same hard moved hooking f =
    subst (λ z. LooksUpDisk (hardware es3) (so_far es3) z l hooking) (sym moved) (subst (λ m. LooksUpDisk (hardware es3) m a l hooking) (sym same) (subst (λ h. LooksUpDisk h (so_far es) a l hooking) (sym hard) f))

-- the same of another history that says the same
purpose_as : (es es3 : List Event) (drives : List Drive) (a b : List MovedOpen) (l : Live) (job : Job) → so_far es3 ≡ so_far es → hardware es3 ≡ hardware es → b ≡ a → Purpose es drives a l job → Purpose es3 drives b l job
purpose_as es es3 drives a b l job same hard moved (for_file wanted is f) =
    for_file wanted is (subst (λ z. FetchesWith (hardware es3) (so_far es3) z l wanted) (sym moved) (subst (λ m. FetchesWith (hardware es3) m a l wanted) (sym same) (subst (λ h. FetchesWith h (so_far es) a l wanted) (sym hard) f)))
purpose_as es es3 drives a b l job same hard moved (for_query query is f) =
    for_query query is (subst (λ z. AsksIn (hardware es3) (so_far es3) z l query) (sym moved) (subst (λ m. AsksIn (hardware es3) m a l query) (sym same) (subst (λ h. AsksIn h (so_far es) a l query) (sym hard) f)))
purpose_as es es3 drives a b l job same hard moved (for_disk_host hooking is f gone) = for_disk_host hooking is (purpose_of_disk es es3 a b l job same hard moved hooking f) gone
purpose_as es es3 drives a b l job same hard moved (for_disk hooking is keeps f early gone) = for_disk hooking is keeps (subst (λ z. HooksBy (so_far es3) z l hooking) (sym moved) (subst (λ m. HooksBy m a l hooking) (sym same) f)) early gone
purpose_as es es3 drives a b l job same hard moved (for_boot hooking keep is boots_it f asks unasked early gone) =
    for_boot hooking keep is boots_it (subst (λ z. HooksBy (so_far es3) z l hooking) (sym moved) (subst (λ m. HooksBy m a l hooking) (sym same) f)) (ap (λ m. hooks_to_boot (hooking_so_far m)) same ∙ asks) unasked early gone

-- what is awaited of an open, by what it is for: that a disk answers, or its end
abbrev pub awaited_of : Job → ℕ → Awaited
awaited_of (hooks hooking) number = awaited_hook hooking.after number
awaited_of (boots d) number = block number
awaited_of (fetch wanted) number = answer number
awaited_of takes_lease number = answer number
awaited_of hears_echo number = answer number
awaited_of (keeps_address setting) number = answer number
awaited_of (asks_on errand) number = answer number
awaited_of sleep number = answer number

-- it is a drive's
abbrev pub HasSession : Live → Type 0
HasSession l = (isn : ℕ) × (i : LoginInfo) × (l.kind ≡ iscsi isn i)

abbrev pub Awaits : Live → Job → Awaited → Type 0
Awaits l job awaited = awaited ≡ awaited_of job l.number

pub query_awaits : (query : Query) (number : ℕ) → awaited_of (job_for query) number ≡ answer number
query_awaits for_lease number = refl
query_awaits (for_echo server) number = refl
query_awaits (for_host errand name by) number = refl
query_awaits (for_address setting name by) number = refl

awaits_so : (es : List Event) (s : State) (w : Waiting) (l : Live) → IsAwaited es s w l → Awaits l w.job w.awaited → (HasSession l → hooks_to_boot (hooking_so_far (so_far es)) ≡ true → WasSession true l.number es) →
    Purpose es s.drives (moves es) l w.job → AwaitsSo es s w
awaits_so es s w l at awaits was (for_file wanted is f) = awaits_file l wanted at (awaits ∙ ap (λ j. awaited_of j l.number) is) is f
awaits_so es s w l at awaits was (for_query query is f) = awaits_query l query at (awaits ∙ ap (λ j. awaited_of j l.number) is ∙ query_awaits query l.number) is f
awaits_so es s w l at awaits was (for_disk_host hooking is f gone) = awaits_host l hooking at (awaits ∙ ap (λ (j : Job). awaited_of j l.number) is) is f gone
awaits_so es s w l at awaits was (for_disk hooking is keeps f early gone) = awaits_drive l hooking at (awaits ∙ ap (λ j. awaited_of j l.number) is ∙ ap (λ x. awaited_hook x l.number) keeps) is keeps f early gone
awaits_so es s w l at awaits was (for_boot hooking keep is boots_it f asks unasked early gone) =
    awaits_disk l hooking keep at (awaits ∙ ap (λ j. awaited_of j l.number) is ∙ ap (λ x. awaited_hook x l.number) boots_it) is boots_it f (was f.is_drive asks) unasked early gone

-- FRAMEs, TRYs and ADVANCEs move no file
opens_move : (o : Out) → IsOpens o → IsUnmoving o
unfolding IsOpens
opens_move (sent bytes) h = tt
opens_move (tried number count) h = tt
opens_move (advanced number place) h = tt
opens_move _ h = absurd h

opens_move_none : (outs : List Out) → AreOpens outs → AllByRecursion IsUnmoving outs
opens_move_none [] h = tt
opens_move_none (o ∷ outs) h = (opens_move o h.0, opens_move_none outs h.1)

-- an open is a session's that was so before
pub was_on : (boots_it : Bool) (k : ℕ) (es more : List Event) → WasSession boots_it k es → WasSession boots_it k (es ++ more)
was_on boots_it k es more w = record { before = w.before; since = w.since ++ more; all = ap (λ z. z ++ more) w.all ∙ append_assoc w.before w.since more; session = w.session; is = w.is; so = w.so }

-- its session is begun by its OPEN
pub was_opened : (boots_it : Bool) (es : List Event) (l : Live) → HasSession l → sessions l.number es ≡ [] → hooks_to_boot (hooking_so_far (so_far es)) ≡ boots_it → WasSession boots_it l.number (es ++ puts (open_record l) ∷ [])
was_opened boots_it es l (isn, i, kind) none asks =
    let k = l.number in
    let e = puts (open_record l) in
    let x : Opening = record { kind = kind_number l.kind; server = l.server; port = l.port; own = l.own; target = l.target; since = time es } in
    record {
      before = es ++ e ∷ [];
      since = [];
      all = sym (append-nil (es ++ e ∷ []));
      session = session_with k es x;
      is = sessions_more k es e ∙ ap (λ z. z ++ session_at k es e) none ∙ ap (λ b. flat_map (session_opening k es) (cond b (x ∷ []) [])) (same_number k)
          ∙ ap (λ n. cond (n == 3) (session_with k es x ∷ []) [] ++ []) (ap kind_number kind);
      so = asks;
    }

abbrev waiting_for : Running → List Running → Awaited → Job → Waiting
waiting_for inner outer awaited job = record { script = inner; outer = outer; awaited = awaited; job = job }

-- the open begins, and the command waits for it
pub begins_open : (es : List Event) (outs : List Out) (s : State) (inner : Running) (outer : List Running) (l : Live) (link : Client) (put : List Out) (awaited : Awaited) (job : Job) → UnderWay es outs s inner outer → first_records l.kind l link ≡ Some put →
    l.number ≡ s.opens → CommandsSo es (puts (open_record l)) → Awaits l job awaited → Purpose es s.drives (moves es) l job → Goes es outs (open_record l ∷ put) (course.waiting (with_opened s l) (waiting_for inner outer awaited job))
begins_open es outs s inner outer l link put awaited job u first number stands awaits purpose =
    let o = open_record l in
    let es2 = es ++ puts o ∷ [] in
    let es3 = es2 ++ told put in
    let at : es ++ told (o ∷ put) ≡ es3 = sym (append_assoc es (puts o ∷ []) (told put)) in
    let opens = first_opens l link put first in
    let quiet = opens_quiet put opens in
    let same : so_far es3 ≡ so_far es = quiet_so_far es2 put quiet ∙ so_far_more es (puts o) in
    let hard : hardware es3 ≡ hardware es = told_hardware es2 put ∙ hardware_more es (puts o) in
    record {
      stands = (stands, quiet_commands es2 put quiet);
      agrees = subst (λ z. ScriptsAgree z (outs ++ (o ∷ put)) (course.waiting (with_opened s l) (waiting_for inner outer awaited job))) (sym at) (
        script_told es2 put inner outer (quiet_scripts put quiet) (quiet_begin (commands_begun es2) put quiet) (script_told es (o ∷ []) inner outer (tt, tt) refl u.script),
        subst (λ m. SettingsAre m (with_opened s l) true) (sym same) (record { table = u.settings.table; up = u.settings.up; now = u.settings.now; is_open = u.settings.is_open }),
        images_as es es3 outs (o ∷ put) s (with_opened s l) (ap (λ (m : CommandsSoFar). m.images) same) refl (drives_opened (so_far es) (so_far es3) s l (ap (λ (m : CommandsSoFar). m.hooked) same) number u.images.drives) (tt, quiet_parts put quiet) u.images,
        ap (λ (m : CommandsSoFar). m.left) same ∙ u.none_left,
        awaits_so es3 (with_opened s l) (waiting_for inner outer awaited job) l (record {
          earlier = s.live;
          last = refl;
          others = subst (λ k. AllByRecursion (IsAnother k) s.live) (sym number) u.fewer;
          number = ap (λ k. k + 1) (sym number);
          its = beside_open es2 l.number None put (opens_beside l.number put opens) (command_open_more es (puts o));
        }) awaits (λ its asks. was_on true l.number es2 (told put) (was_opened true es l its (ap (λ k. sessions k es) number ∙ u.none_yet) (sym (ap (λ m. hooks_to_boot (hooking_so_far m)) same) ∙ asks)))
            (purpose_as es es3 s.drives (moves es) (moves es3) l job same hard (unmoved es2 put (opens_move_none put opens) ∙ moves_more es (puts o)) purpose),
      );
    }

-- there is no way to its server: it has ended, and so has the command
pub finds_none : (es : List Event) (outs : List Out) (s : State) (inner : Running) (outer : List Running) (l : Live) → UnderWay es outs s inner outer → CommandsSo es (puts (open_record l)) →
    shown_table (so_far es).table (so_far es).shown ≡ (so_far es).table → ConcludesNot (so_far es) → brought_to (made es) es ≡ [] →
    Goes es outs (open_record l ∷ end_record l (no_route l.server) ∷ conclusion_records (fails (no_route l.server))) (course.running (with_one_made s) (with_result inner (no_route l.server)) outer)
finds_none es outs s inner outer l u stands keeps quiet silent =
    let o = open_record l in
    let cause = no_route l.server in
    let e = end_record l cause in
    let es2 = es ++ puts o ∷ [] in
    let es3 = es2 ++ puts e ∷ [] in
    let all = o ∷ e ∷ result cause ∷ [] in
    let at : es ++ told all ≡ es3 ++ puts (result cause) ∷ [] = sym (append_assoc es (puts o ∷ []) (puts e ∷ puts (result cause) ∷ [])) ∙ sym (append_assoc es2 (puts e ∷ []) (puts (result cause) ∷ [])) in
    let same : so_far es3 ≡ so_far es = so_far_more es2 (puts e) ∙ so_far_more es (puts o) in
    let its_end : command_end es3 ≡ Some cause = ap over_of (command_open_more es2 (puts e) ∙ ap (λ z. command_open_by z (puts e)) (command_open_more es (puts o))) ∙ ap (λ b. over_of (Some (cond b (record { number = l.number; over = Some cause }) (record { number = l.number; over = None })))) (same_number l.number) in
    let failed : came_ok (last_end es3) ≡ false = ap came_ok its_end in
    let none : conclusion_so_far (last_end es3) es3 (so_far es3) ≡ None =
    ap (λ b. cond b (concluded_by_open es3 (so_far es3)) (option_and_then (λ x. concluded_in (comes_by (made es3) (so_far es3) x)) (so_far es3).shown)) failed
    ∙ ap (λ (m : CommandsSoFar). option_and_then (λ x. concluded_in (comes_by (made es3) m x)) m.shown) same ∙ quiet (made es3) in
    let many : made es3 ≡ made es + 1 = made_more es2 (puts e) ∙ add-zero (made es2) ∙ made_more es (puts o) in
    let none_left : (so_far es3).left ≡ None = ap (λ (m : CommandsSoFar). m.left) same ∙ u.none_left in
    let made_it = made_some (command_open es3) cause its_end in
    let unread : (k : ℕ) (bytes : List ℕ) → BootsBy k es3 → HasRead k es3 bytes → ⊥ = no_block_later es3 made_it.0 made_it.1 (λ d bytes read. fresh_block es es2 es3 o e refl refl many silent bytes read) in
    let over_is : so_far (es3 ++ puts (result cause) ∷ []) ≡ over_so_far None (so_far es) = result_so_far es3 cause None none_left none (left_quiet es3 (so_far es3).table (so_far es3).shown failed) ∙ ap (over_so_far None) (hooks_failed es3 cause refl ∙ same) in
    record {
      stands = (
        stands,
        (
          tt,
          (
            record {
              is_open = ap (λ (m : CommandsSoFar). m.is_open) same ∙ u.settings.is_open;
              holds = subst (λ l. HoldsOf l es3 cause) (sym none_left) (by_failed_end its_end refl);
              hooks = λ left some disk answers. absurd (fresh_drive es es2 es3 o e refl refl many silent answers);
              reads = λ left k bytes boots_it read. absurd (unread k bytes boots_it read);
              frees = λ left some d bytes read. absurd (fresh_block es es2 es3 o e refl refl many silent bytes read);
            },
            tt,
          ),
        ),
      );
      agrees = subst (λ z. ScriptsAgree z (outs ++ all) (course.running (with_one_made s) (with_result inner cause) outer)) (sym at) (
        script_as (es3 ++ puts (result cause) ∷ []) inner (with_result inner cause) outer (record { same = refl; depth = refl; begun = refl })
            (script_told es3 (result cause ∷ []) inner outer (tt, tt) refl (script_told es2 (e ∷ []) inner outer (tt, tt) refl (script_told es (o ∷ []) inner outer (tt, tt) refl u.script))),
        subst (λ m. SettingsAre m (with_one_made s) false) (sym over_is) (record { table = keeps ∙ u.settings.table; up = u.settings.up; now = u.settings.now; is_open = refl }),
        images_as es (es3 ++ puts (result cause) ∷ []) outs all s (with_one_made s) (ap (λ (m : CommandsSoFar). m.images) over_is) refl
            (drives_made (so_far es) (so_far (es3 ++ puts (result cause) ∷ [])) s (ap (λ (m : CommandsSoFar). m.hooked) over_is) u.images.drives) (tt, (tt, (tt, tt))) u.images,
        ap (λ (m : CommandsSoFar). m.left) over_is ∙ u.none_left,
      );
    }
