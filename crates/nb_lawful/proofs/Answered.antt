-- What a command waited for has come: what follows of its job.
use Rattle.std.proofs.Common.{◌≡◌, ℕ, ◌+◌, ◌-◌, ◌*◌, ◌≤◌, Bool, true, false, cond, List, [], ◌∷◌, ◌++◌, Option, Some, None, option_map, Ok, refl, sym, ◌∙◌, ap, subst, arith}
use Rattle.std.specs.List.{list_any}
use Rattle.std.specs.Option.{option_map_or, is_some}
use Rattle.std.proofs.lemmas.Option.{none-some, same_Some}
use Rattle.nb_terms.specs.declared.cause.Cause.{Cause}
use Rattle.nb_wire.specs.declared.address.Ip4.{Ip4}
use Rattle.nb_defs.specs.Causes.{ok, is_ok_cause}
use Rattle.nb_defs.specs.Records.{Out, result}
use Rattle.nb_machine.specs.Effects.{Effect, sleeps, inquires, hooks_disk, ShownWords}
use Rattle.nb_machine.specs.Errands.{Wanted, Errand, Onward, onward, hooks_then}
use Rattle.nb_machine.specs.Findings.{query_id, settled_by}
use Rattle.nb_machine.specs.Queries.{Query, for_lease, for_echo, for_host, for_address}
use Rattle.nb_machine.specs.Running.{Running, with_result}
use Rattle.nb_machine.specs.Lives.{dns, kind_number, Live}
use Rattle.nb_machine.specs.Kinds.{resolved}
use Rattle.nb_machine.specs.States.{State, with_images, with_settings}
use Rattle.nb_machine.specs.Scripts.{Job, job_for, sleep, by_end, by_time, next_of, settles, goes_onward, settled_with, place_moved_to, upshot_fetched, upshot_records, concluded_by, concludes}
use Rattle.nb_machine.specs.Courses as course
use Rattle.nb_machine.specs.Courses.{Standing, LeadsTo}
use Rattle.nb_machine.specs.Conclusions.{fails}
use Rattle.nb_dns.specs.LookupReplies.{address_found}
use Rattle.nb_laws.specs.Events.{Event, puts}
use Rattle.nb_laws.specs.Lists.{hardware, openings, made, datagrams_of, came_ok, last_end}
use Rattle.nb_laws.specs.Cores.{lookup_by, looked_at, has_its_answer}
use Rattle.nb_laws.specs.CommandsSoFar.{CommandsSoFar, so_far, comes_by, comes_after, ComesTo, concluded_in, conclusion_so_far, shown_table, shown_query, hooking_in}
use Rattle.nb_laws.specs.Moves.{MovedOpen, moves}
use Rattle.nb_laws.specs.Wanting.{wanted_by}
use Rattle.nb_laws.specs.Agreement.{AgreesScript, AsksQuery, asks_at_once, echoes_next}
use Rattle.nb_laws.proofs.Tellings.{told}
use Rattle.nb_laws.proofs.Commands.{script_as, script_told}
use Rattle.nb_laws.proofs.SoFar.{over_so_far, left_unasked, result_so_far, fetches_nothing, hooks_none, hooks_failed, left_quiet, concludes_at_once_so}
use Rattle.nb_laws.proofs.Afterwards.{sleeps_after}
use Rattle.nb_laws.proofs.Settling.{comes_sleeps, comes_keeps}
use Rattle.nb_laws.proofs.OwnQueries.{comes_asleep, query_asleep}
use Rattle.nb_openlaws.specs.Standings.{live_opening}
use Rattle.nb_laws.specs.CommandOpens.{command_open, command_end, over_of}
use Rattle.nb_laws.specs.Frames.{by_sleep, HoldsOf, HoldsResult, by_failed_end}
use Rattle.nb_laws.specs.Hookings.{HasDriveAnswer, KeepsDisk, BootsDisk, BootsBy, HasRead}
use Rattle.nb_lawful.specs.ScriptAgreement.{SettingsAre, SleepsUntil, FetchesWith, AsksIn, IsToReach, reaches_host, HasImages, NoneLeft, HooksBy, LooksUpDisk, HasFreeNumber, reaches_looked_up_disk}
use Rattle.nb_lawful.proofs.AtOnce.{Goes, goes_nowhere, images_as}
use Rattle.nb_lawful.proofs.Opened.{Purpose, for_file, for_query, for_disk_host, for_disk, for_boot}
use Rattle.nb_lawful.proofs.CommandEnds.{ended_so, HasEnded, ends_with}
use Rattle.nb_lawful.proofs.Concluded.{fetch_goes}
use Rattle.nb_lawful.proofs.Moved.{moved_goes}
use Rattle.nb_lawful.proofs.Found.{resolved_same, query_moves_none, settled_query, HasFound, found_goes}
use Rattle.nb_lawful.proofs.Resting.{sleeping_comes}
use Rattle.nb_lawful.proofs.Begun.{opened_none}
use Rattle.nb_lawful.proofs.HookedLives.{drives_still, lives_so}
use Rattle.nb_lawful.proofs.Disks.{still_hooks, words_hook, no_drive_last}
use Rattle.nb_lawful.proofs.Awaited.{its}
use Rattle.nb_lawful.proofs.DriveAnswers.{none_answers, none_reads}
use Rattle.nb_lawful.proofs.NoBlocks.{words_boot_none, no_block_first, no_block_later, no_block_last, keep_or_boot}
use Rattle.nb_lawful.proofs.Unasked.{unread_plain}
use Rattle.nb_openlaws.specs.Standings.{AgreesState}
use Rattle.nb_login.specs.declared.info.LoginInfo.{LoginInfo}
use Rattle.nb_machine.specs.Lives.{iscsi}
use Rattle.nb_machine.specs.Kinds.{answered, read_last}
use Rattle.nb_drivecmd.specs.declared.outcome.AfterHook.TheVariants.{Keep, Boot}
use Rattle.nb_lawful.proofs.Leading.{Concluding, failed_so, result_goes, conclusion_goes}
use Rattle.nb_lawful.specs.Results.{HasEndedOpens}
use Rattle.nb_drivecmd.specs.HookedDrives.{is_drive}
use Rattle.nb_drivecmd.specs.declared.outcome.Hooking.{Hooking}
use Rattle.nb_openlaws.specs.Sessions.{SessionsAgree}

-- ITS OPEN HAS ENDED

-- its command asks nothing more
settles_goes : (es : List Event) (outs : List Out) (s : State) (inner : Running) (outer : List Running) (moved : List MovedOpen) (l : Live) (cause : Cause) (query : Query) (more : List Out) (p : Standing) → HasFound es outs s inner outer moved l cause query →
    LeadsTo s inner outer (settles (settled_query cause query l s.table)) more p → Goes es outs (result (settled_query cause query l s.table).cause ∷ more) p
settles_goes es outs s inner outer moved l cause query more p f (none, leads) =
    subst (λ z. Goes es outs (result (settled_query cause query l s.table).cause ∷ z) p) (sym none)
    (subst (λ z. Goes es outs (result (settled_query cause query l s.table).cause ∷ []) z) (sym leads) (found_goes es outs s inner outer moved l cause query f))

-- a name is looked up for its server by the command's words
looks_up_at_once : (e : Effect) (query : Query) (errand : Errand) (name : List ℕ) (by : ℕ) → query ≡ for_host errand name by → AsksQuery e query → e ≡ inquires (for_host errand name by)
looks_up_at_once e query errand name by is (asks_at_once asked) = asked ∙ ap inquires is
looks_up_at_once e query errand name by is (echoes_next other server address asked same) = absurd (let no : for_echo address ≡ for_host errand name by = sym same ∙ is in cc no)

abbrev onward_to : Errand → Ip4 → Onward
onward_to errand address = onward errand address.0

-- a look-up that has ended well has found an address
found_one : (es : List Event) (outs : List Out) (s : State) (inner : Running) (outer : List Running) (moved : List MovedOpen) (l : Live) (cause : Cause) → HasEnded es outs s inner outer moved l cause → l.kind ≡ dns (query_id (hardware es).identity l.number) → is_ok_cause cause ≡ true → is_some (resolved l) ≡ true
found_one es outs s inner outer moved l cause h kind well =
    sym (ap (λ (x : Option Ip4). is_some x) (resolved_same es l kind h.received))
    ∙ sym (h.answered ∙ ap (λ k. has_its_answer l.number (record { kind = kind_number k; server = l.server; port = l.port; own = l.own; target = l.target; since = l.since }) es) kind) ∙ well

-- it goes on to its server
onward_goes : (es : List Event) (outs : List Out) (s : State) (inner : Running) (outer : List Running) (moved : List MovedOpen) (l : Live) (cause : Cause) (errand : Errand) (name : List ℕ) (by : ℕ) (next : Onward) (more : List Out) (p : Standing) →
    HasEnded es outs s inner outer moved l cause → AsksIn (hardware es) (so_far es) moved l (for_host errand name by) → next_of errand (ended_so l cause) ≡ Some next → LeadsTo s inner outer (goes_onward next) more p → Goes es outs more p
onward_goes es outs s inner outer moved l cause errand name by next more p h a found (none, leads) =
    subst (λ z. Goes es outs z p) (sym none) (subst (λ z. Goes es outs [] z) (sym leads) (goes_nowhere es outs (course.reaching s inner outer next)
    (h.script, h.settings, h.images, h.none_left, reach (is_ok_cause cause) (resolved l) refl refl found)))
  where
    reach : (b : Bool) (x : Option Ip4) → is_ok_cause cause ≡ b → resolved l ≡ x → cond b (option_map (onward_to errand) x) None ≡ Some next → IsToReach es next
    reach false x well is e = absurd (none-some next e)
    reach true None well is e = absurd (none-some next e)
    reach true (Some address) well is e =
        let stays = query_moves_none es outs s inner outer moved l cause (for_host errand name by) h a.is_for in
        reaches_host errand name by address.0
        (a.shown, a.said, ap (comes_after (made es - 1) (so_far es) a.shown) stays ∙ ap (λ n. comes_after n (so_far es) a.shown moved) h.number ∙ looks_up_at_once (comes_after l.number (so_far es) a.shown moved) (for_host errand name by) errand name by refl a.asked)
        (record {
          opening = live_opening l;
          opened = ap (λ n. openings n es) h.number ∙ h.opening;
          kind = ap kind_number a.is_for.0;
          asked = a.is_for.1;
          of = a.is_for.2;
          ended = ap came_ok (ends_with es outs s inner outer moved l cause h) ∙ well;
          found = ap (λ n. address_found (lookup_by (hardware es) n (live_opening l)) (looked_at (live_opening l) (datagrams_of n es))) h.number ∙ resolved_same es l a.is_for.0 h.received ∙ is;
        })
        (sym (same_Some (onward_to errand address) next e))

host_goes : (es : List Event) (outs : List Out) (s : State) (inner : Running) (outer : List Running) (moved : List MovedOpen) (l : Live) (cause : Cause) (errand : Errand) (name : List ℕ) (by : ℕ) (more : List Out) (p : Standing) →
    HasEnded es outs s inner outer moved l cause → AsksIn (hardware es) (so_far es) moved l (for_host errand name by) → (x : Option Onward) → next_of errand (ended_so l cause) ≡ x →
    LeadsTo s inner outer (option_map_or goes_onward x (settles (settled_with cause (Ok s.table) s.table))) more p → Goes es outs (upshot_records (option_map_or goes_onward x (settles (settled_with cause (Ok s.table) s.table))) ++ more) p
host_goes es outs s inner outer moved l cause errand name by more p h a (Some next) is leads = onward_goes es outs s inner outer moved l cause errand name by next more p h a is leads
host_goes es outs s inner outer moved l cause errand name by more p h a None is leads =
    settles_goes es outs s inner outer moved l cause (for_host errand name by) more p (record {
      ended_so = h;
      asks = a;
      last = λ well. absurd (nowhere well (resolved l) (found_one es outs s inner outer moved l cause h a.is_for.0 well)
          (ap (λ b. cond b (option_map (onward_to errand) (resolved l)) None) (sym well) ∙ is));
    }) leads
  where
    nowhere : is_ok_cause cause ≡ true → (x : Option Ip4) → is_some x ≡ true → option_map (onward_to errand) x ≡ None → ⊥
    nowhere well None some none = let no : false ≡ true = some in cc no
    nowhere well (Some address) some none = absurd (none-some (onward_to errand address) (sym none))

query_goes : (es : List Event) (outs : List Out) (s : State) (inner : Running) (outer : List Running) (moved : List MovedOpen) (l : Live) (cause : Cause) (query : Query) (more : List Out) (p : Standing) → HasEnded es outs s inner outer moved l cause → AsksIn (hardware es) (so_far es) moved l query →
    LeadsTo s inner outer (concluded_by s inner.depth (job_for query) (by_end (ended_so l cause))) more p → Goes es outs (upshot_records (concluded_by s inner.depth (job_for query) (by_end (ended_so l cause))) ++ more) p
query_goes es outs s inner outer moved l cause for_lease more p h a leads = settles_goes es outs s inner outer moved l cause for_lease more p (record { ended_so = h; asks = a; last = λ well. tt }) leads
query_goes es outs s inner outer moved l cause (for_echo server) more p h a leads = settles_goes es outs s inner outer moved l cause (for_echo server) more p (record { ended_so = h; asks = a; last = λ well. tt }) leads
query_goes es outs s inner outer moved l cause (for_address setting name by) more p h a leads = settles_goes es outs s inner outer moved l cause (for_address setting name by) more p (record { ended_so = h; asks = a; last = λ well. tt }) leads
query_goes es outs s inner outer moved l cause (for_host errand name by) more p h a leads = host_goes es outs s inner outer moved l cause errand name by more p h a (next_of errand (ended_so l cause)) refl leads

file_goes : (es : List Event) (outs : List Out) (s : State) (inner : Running) (outer : List Running) (moved : List MovedOpen) (l : Live) (cause : Cause) (wanted : Wanted) (more : List Out) (p : Standing) → HasEnded es outs s inner outer moved l cause →
    FetchesWith (hardware es) (so_far es) moved l wanted → (x : Option (List ℕ)) → place_moved_to (ended_so l cause) ≡ x → LeadsTo s inner outer (upshot_fetched s inner.depth wanted (ended_so l cause) x) more p →
    Goes es outs (upshot_records (upshot_fetched s inner.depth wanted (ended_so l cause) x) ++ more) p
file_goes es outs s inner outer moved l cause wanted more p h f None is leads = fetch_goes es outs s inner outer moved l cause wanted more p h f is leads
file_goes es outs s inner outer moved l cause wanted more p h f (Some place) is leads = moved_goes es outs s inner outer moved l cause wanted place more p h f is leads

-- the command's open has ended with this cause
pub record HasFailed (es : List Event) (outs : List Out) (s : State) (inner : Running) (outer : List Running) (cause : Cause) : Type 0 where
  pub base : AgreesState es s
  pub script : AgreesScript es inner outer
  pub settings : SettingsAre (so_far es) s true
  pub images : HasImages es outs s
  pub none_left : NoneLeft es
  pub its_end : (k : ℕ) × (command_open es ≡ its k (Some cause))
  pub settled : SessionsAgree es s.live

ended_failed : (es : List Event) (outs : List Out) (s : State) (inner : Running) (outer : List Running) (moved : List MovedOpen) (l : Live) (cause : Cause) → HasEnded es outs s inner outer moved l cause → HasFailed es outs s inner outer cause
ended_failed es outs s inner outer moved l cause h = record { base = h.base; script = h.script; settings = h.settings; images = h.images; none_left = h.none_left; its_end = (l.number, h.its_end); settled = h.settled }

-- a command that hooks a disk fails
pub disk_concluding : (es : List Event) (outs : List Out) (s : State) (inner : Running) (outer : List Running) (cause : Cause) (hooking : Hooking) → HasFailed es outs s inner outer cause → ComesTo es (made es) (hooks_disk hooking) → is_ok_cause cause ≡ false →
    (KeepsDisk es → HasDriveAnswer es → ⊥) → (BootsDisk es → (bytes : List ℕ) → HasRead (made es - 1) es bytes → ⊥) → Concluding es outs s inner outer (fails cause)
disk_concluding es outs s inner outer cause hooking h (shown, said, names) bad none unread =
    let m = so_far es in
    let ended : command_end es ≡ Some cause = ap over_of h.its_end.1 in
    let failed : came_ok (last_end es) ≡ false = ap came_ok ended ∙ bad in
    let words : comes_by (made es) m shown ≡ hooks_disk hooking = words_hook (made es) (made es) m shown (moves es) hooking names in
    record {
      base = h.base;
      script = h.script;
      settings = h.settings;
      images = h.images;
      none_left = h.none_left;
      concluded = failed_so cause refl (concludes_at_once_so es m shown failed said ∙ ap concluded_in words);
      keeps_table = ap (shown_table m.table) said ∙ comes_keeps (made es) m shown (hooks_disk hooking) words tt;
      leaves_table = left_quiet es m.table m.shown failed;
      holds = λ given gives. subst (HoldsResult es) (sym gives) (by_failed_end ended bad);
      ended = subst HasEndedOpens (sym h.its_end.1) (cause, refl);
      unhooked = λ given gives. hooks_failed es given (ap is_ok_cause gives ∙ bad);
      no_disk = λ given gives left some disk answers. absurd (none disk answers);
      no_block = no_block_later es _ h.its_end.1 unread;
      settled = h.settled;
      fits = tt;
    }

-- what the words come to, whatever was moved
pub hooks_now_so : (es : List Event) (k : ℕ) (shown : ShownWords) (moved : List MovedOpen) (hooking : Hooking) → (so_far es).shown ≡ Some shown → comes_after k (so_far es) shown moved ≡ hooks_disk hooking → ComesTo es (made es) (hooks_disk hooking)
hooks_now_so es k shown moved hooking said names = (shown, said, still_hooks k (made es) (so_far es) shown moved (moves es) hooking names)

-- the host of its disk was looked up, or has no address
disk_host_goes : (es : List Event) (outs : List Out) (s : State) (inner : Running) (outer : List Running) (moved : List MovedOpen) (l : Live) (cause : Cause) (hooking : Hooking) (more : List Out) (p : Standing) → HasEnded es outs s inner outer moved l cause →
    LooksUpDisk (hardware es) (so_far es) moved l hooking → HasFreeNumber hooking s.drives → (x : Option Onward) → next_of (hooks_then hooking) (ended_so l cause) ≡ x → LeadsTo s inner outer (option_map_or goes_onward x (settles (settled_with cause (Ok s.table) s.table))) more p →
    Goes es outs (upshot_records (option_map_or goes_onward x (settles (settled_with cause (Ok s.table) s.table))) ++ more) p
disk_host_goes es outs s inner outer moved l cause hooking more p h a gone (Some next) is (none, leads) =
    subst (λ z. Goes es outs z p) (sym none) (subst (λ z. Goes es outs [] z) (sym leads) (goes_nowhere es outs (course.reaching s inner outer next)
    (h.script, h.settings, h.images, h.none_left, reach (is_ok_cause cause) (resolved l) refl refl is)))
  where
    reach : (b : Bool) (y : Option Ip4) → is_ok_cause cause ≡ b → resolved l ≡ y → cond b (option_map (onward_to (hooks_then hooking)) y) None ≡ Some next → IsToReach es next
    reach false y well at e = absurd (none-some next e)
    reach true None well at e = absurd (none-some next e)
    reach true (Some address) well at e = reaches_looked_up_disk (record {
      hooking = hooking;
      names = (a.shown, a.said, still_hooks l.number (made es) (so_far es) a.shown moved (moves es) hooking a.names);
      name = a.name;
      by = a.by;
      address = address.0;
      asked = a.asked;
      finds = record {
        opening = live_opening l;
        opened = ap (λ n. openings n es) h.number ∙ h.opening;
        kind = ap kind_number a.is_for.0;
        asked = a.is_for.1;
        of = a.is_for.2;
        ended = ap came_ok (ends_with es outs s inner outer moved l cause h) ∙ well;
        found = ap (λ n. address_found (lookup_by (hardware es) n (live_opening l)) (looked_at (live_opening l) (datagrams_of n es))) h.number ∙ resolved_same es l a.is_for.0 h.received ∙ at;
      };
      is_next = sym (same_Some (onward_to (hooks_then hooking) address) next e);
      gone = ap (list_any (is_drive hooking.number)) (lives_so es s h.base h.images.drives) ∙ gone;
      unit = a.unit;
    })
disk_host_goes es outs s inner outer moved l cause hooking more p h a gone None is leads = by (is_ok_cause cause) refl
  where
    nowhere : is_ok_cause cause ≡ true → (y : Option Ip4) → is_some y ≡ true → option_map (onward_to (hooks_then hooking)) y ≡ None → ⊥
    nowhere well None some none = let no : false ≡ true = some in cc no
    nowhere well (Some address) some none = absurd (none-some (onward_to (hooks_then hooking) address) (sym none))

    fails_so : is_ok_cause cause ≡ false → settled_with cause (Ok s.table) s.table ≡ record { cause = cause; table = s.table }
    fails_so bad = ap (λ b. cond b (settled_by s.table (Ok s.table)) (record { cause = cause; table = s.table })) bad

    by_leading : is_ok_cause cause ≡ false → LeadsTo s inner outer (settles (record { cause = cause; table = s.table })) more p → Goes es outs (result cause ∷ more) p
    by_leading bad (none, at) =
        subst (λ z. Goes es outs (result cause ∷ z) p) (sym none) (subst (λ z. Goes es outs (result cause ∷ []) z) (sym at)
        (result_goes es outs s (with_settings s s.table s.up) inner outer (fails cause) cause
        (disk_concluding es outs s inner outer cause hooking (ended_failed es outs s inner outer moved l cause h) (hooks_now_so es l.number a.shown moved hooking a.said a.names) bad
        (λ disk. no_drive_last es (live_opening l) 4 (ap (λ n. openings n es) h.number ∙ h.opening) (ap kind_number a.is_for.0) refl)
        (λ disk. no_block_last es (live_opening l) 4 (ap (λ n. openings n es) h.number ∙ h.opening) (ap kind_number a.is_for.0) refl))
        refl (record { table = refl; up = refl; now = refl; images = refl; drives = refl; lives = refl; opens = refl })))

    by : (b : Bool) → is_ok_cause cause ≡ b → Goes es outs (upshot_records (settles (settled_with cause (Ok s.table) s.table)) ++ more) p
    by true well = absurd (nowhere well (resolved l) (found_one es outs s inner outer moved l cause h a.is_for.0 well) (ap (λ b. cond b (option_map (onward_to (hooks_then hooking)) (resolved l)) None) (sym well) ∙ is))
    by false bad = subst (λ z. Goes es outs (upshot_records (settles z) ++ more) p) (sym (fails_so bad)) (by_leading bad (subst (λ z. LeadsTo s inner outer (settles z) more p) (fails_so bad) leads))

-- a session doesn't end well
session_bad : (es : List Event) (outs : List Out) (s : State) (inner : Running) (outer : List Running) (moved : List MovedOpen) (l : Live) (cause : Cause) → HasEnded es outs s inner outer moved l cause → (isn : ℕ) (i : LoginInfo) →
    l.kind ≡ iscsi isn i → is_ok_cause cause ≡ false
session_bad es outs s inner outer moved l cause h isn i kind =
    h.answered ∙ ap (λ k. has_its_answer l.number (record { kind = kind_number k; server = l.server; port = l.port; own = l.own; target = l.target; since = l.since }) es) kind

-- its disk has not answered, which it keeps, and its open has ended
disk_fails : (es : List Event) (outs : List Out) (s : State) (inner : Running) (outer : List Running) (moved : List MovedOpen) (l : Live) (cause : Cause) (hooking : Hooking) (more : List Out) (p : Standing) → HasEnded es outs s inner outer moved l cause →
    HooksBy (so_far es) moved l hooking → hooking.after ≡ Keep → answered l ≡ None → LeadsTo s inner outer (concludes (fails cause)) more p → Goes es outs (result cause ∷ more) p
disk_fails es outs s inner outer moved l cause hooking more p h a keeps early leads =
    let (isn, i, kind) = a.is_drive in
    let names = hooks_now_so es l.number a.shown moved hooking a.said a.names in
    conclusion_goes es outs s inner outer (fails cause) more p (λ list lines e. absurd (cc e))
    (disk_concluding es outs s inner outer cause hooking (ended_failed es outs s inner outer moved l cause h) names (session_bad es outs s inner outer moved l cause h isn i kind)
    (λ disk. none_answers es l (h.tells isn i kind) h.number early)
    (λ disk bytes read. keep_or_boot es (record { hooking = hooking; names = names; keeps = keeps }) disk)) leads

-- or it has read no block of the disk that it boots
pub boot_fails : (es : List Event) (outs : List Out) (s : State) (inner : Running) (outer : List Running) (moved : List MovedOpen) (l : Live) (cause : Cause) (hooking : Hooking) (keep : Bool) (more : List Out) (p : Standing) →
    HasEnded es outs s inner outer moved l cause →
    HooksBy (so_far es) moved l hooking → hooking.after ≡ Boot keep → read_last l ≡ None → LeadsTo s inner outer (concludes (fails cause)) more p → Goes es outs (result cause ∷ more) p
boot_fails es outs s inner outer moved l cause hooking keep more p h a boots_it unread leads =
    let (isn, i, kind) = a.is_drive in
    let names = hooks_now_so es l.number a.shown moved hooking a.said a.names in
    conclusion_goes es outs s inner outer (fails cause) more p (λ list lines e. absurd (cc e))
    (disk_concluding es outs s inner outer cause hooking (ended_failed es outs s inner outer moved l cause h) names (session_bad es outs s inner outer moved l cause h isn i kind)
    (λ disk answers. keep_or_boot es disk (record { hooking = hooking; names = names; keep = keep; boots = boots_it }))
    (λ disk. none_reads es l (made es - 1) (h.tells isn i kind) h.number unread)) leads

-- what follows of its job
pub job_goes : (es : List Event) (outs : List Out) (s : State) (inner : Running) (outer : List Running) (moved : List MovedOpen) (l : Live) (cause : Cause) (job : Job) (more : List Out) (p : Standing) → HasEnded es outs s inner outer moved l cause → Purpose es s.drives moved l job →
    LeadsTo s inner outer (concluded_by s inner.depth job (by_end (ended_so l cause))) more p → Goes es outs (upshot_records (concluded_by s inner.depth job (by_end (ended_so l cause))) ++ more) p
job_goes es outs s inner outer moved l cause job more p h (for_file wanted is f) leads =
    subst (λ z. Goes es outs (upshot_records (concluded_by s inner.depth z (by_end (ended_so l cause))) ++ more) p) (sym is)
    (file_goes es outs s inner outer moved l cause wanted more p h f (place_moved_to (ended_so l cause)) refl (subst (λ z. LeadsTo s inner outer (concluded_by s inner.depth z (by_end (ended_so l cause))) more p) is leads))
job_goes es outs s inner outer moved l cause job more p h (for_disk_host hooking is a gone) leads =
    subst (λ z. Goes es outs (upshot_records (concluded_by s inner.depth z (by_end (ended_so l cause))) ++ more) p) (sym is)
    (disk_host_goes es outs s inner outer moved l cause hooking more p h a gone (next_of (hooks_then hooking) (ended_so l cause)) refl (subst (λ z. LeadsTo s inner outer (concluded_by s inner.depth z (by_end (ended_so l cause))) more p) is leads))
job_goes es outs s inner outer moved l cause job more p h (for_boot hooking keep is boots_it a asks unasked early gone) leads =
    subst (λ z. Goes es outs (upshot_records (concluded_by s inner.depth z (by_end (ended_so l cause))) ++ more) p) (sym is)
    (let (isn, i, kind) = a.is_drive in boot_fails es outs s inner outer moved l cause hooking keep more p h a boots_it (unread_plain l isn i kind unasked) (subst (λ z. LeadsTo s inner outer (concluded_by s inner.depth z (by_end (ended_so l cause))) more p) is leads))
job_goes es outs s inner outer moved l cause job more p h (for_disk hooking is keeps a early gone) leads =
    subst (λ z. Goes es outs (upshot_records (concluded_by s inner.depth z (by_end (ended_so l cause))) ++ more) p) (sym is)
    (disk_fails es outs s inner outer moved l cause hooking more p h a keeps early (subst (λ z. LeadsTo s inner outer (concluded_by s inner.depth z (by_end (ended_so l cause))) more p) is leads))
job_goes es outs s inner outer moved l cause job more p h (for_query query is a) leads =
    subst (λ z. Goes es outs (upshot_records (concluded_by s inner.depth z (by_end (ended_so l cause))) ++ more) p) (sym is)
    (query_goes es outs s inner outer moved l cause query more p h a (subst (λ z. LeadsTo s inner outer (concluded_by s inner.depth z (by_end (ended_so l cause))) more p) is leads))

-- ITS TIME HAS COME

-- it leaves the settings
sleep_keeps : (m : CommandsSoFar) (s : State) (until : ℕ) → SleepsUntil m s until → shown_table m.table m.shown ≡ m.table
sleep_keeps m s until a = ap (shown_table m.table) a.is_shown ∙ comes_asleep s.opens m a.shown a.seconds a.sleeps_so

-- a command that has slept until its time
pub record HasSlept (es : List Event) (outs : List Out) (s s0 : State) (inner : Running) (outer : List Running) (until : ℕ) : Type 0 where
  pub script : AgreesScript es inner outer
  pub settings : SettingsAre (so_far es) s true
  pub images : HasImages es outs s
  pub none_left : NoneLeft es
  pub opens : made es ≡ s0.opens
  pub none : command_open es ≡ None
  pub sleeping : SleepsUntil (so_far es) s0 until
  pub due : until ≤ s.now

pub slept_goes : (es : List Event) (outs : List Out) (s s0 : State) (inner : Running) (outer : List Running) (until : ℕ) (more : List Out) (p : Standing) → HasSlept es outs s s0 inner outer until →
    LeadsTo s inner outer (concluded_by s inner.depth sleep by_time) more p → Goes es outs (upshot_records (concluded_by s inner.depth sleep by_time) ++ more) p
slept_goes es outs s s0 inner outer until more p h (none, leads) =
    let o = result ok in
    let a = h.sleeping in
    let asleep : (k : ℕ) → comes_by k (so_far es) a.shown ≡ sleeps a.seconds = λ k. comes_sleeps s0.opens k (so_far es) a.shown a.seconds a.sleeps_so in
    let unasked : shown_query (made es - 1) (so_far es).table (so_far es).shown ≡ None = ap (shown_query (made es - 1) (so_far es).table) a.is_shown ∙ query_asleep (made es - 1) (so_far es) a.shown a.seconds (asleep (made es - 1)) in
    let still : comes_after (made es - 1) (so_far es) a.shown (moves es) ≡ sleeps a.seconds = sleeps_after s0.opens (made es - 1) (so_far es) a.shown (moves es) a.seconds a.sleeps_so in
    let nothing : conclusion_so_far (last_end es) es (so_far es) ≡ None = fetches_nothing es (so_far es) a.shown a.is_shown (λ x. ap (λ e. wanted_by e x) still) (ap concluded_in (asleep (made es))) in
    let is : so_far (es ++ puts o ∷ []) ≡ over_so_far None (so_far es) = result_so_far es ok None h.none_left nothing (left_unasked es (so_far es).table (so_far es).shown unasked) ∙ ap (over_so_far None) (hooks_none es ok a.shown a.is_shown (ap hooking_in (asleep 0))) in
    let unread : (k : ℕ) (bytes : List ℕ) → BootsBy k es → HasRead k es bytes → ⊥ = no_block_first es h.none (words_boot_none es (made es) (sleeps a.seconds) refl (sleeping_comes es s0 until a)) in
    let due : (so_far es).since + 1000 * a.seconds ≤ (so_far es).now = omega (arith, h.due, a.until_is, h.settings.now) in
    subst (λ z. Goes es outs (o ∷ z) p) (sym none) (subst (λ z. Goes es outs (o ∷ []) z) (sym leads) (record {
      stands = (
        record {
          is_open = h.settings.is_open;
          holds = subst (λ l. HoldsOf l es ok) (sym h.none_left) (by_sleep a.seconds h.none (sleeping_comes es s0 until a) due refl);
          hooks = λ left some. absurd (opened_none (command_open es) h.none some);
          reads = λ left k bytes boots_it read. absurd (unread k bytes boots_it read);
          frees = λ left some. absurd (opened_none (command_open es) h.none some);
        },
        tt,
      );
      agrees = (
        script_as (es ++ told (o ∷ [])) inner (with_result inner ok) outer (record { same = refl; depth = refl; begun = refl }) (script_told es (o ∷ []) inner outer (tt, tt) refl h.script),
        subst (λ m. SettingsAre m (with_images s s.images) false) (sym is) (record { table = sleep_keeps (so_far es) s0 until a ∙ h.settings.table; up = h.settings.up; now = h.settings.now; is_open = refl }),
        images_as es (es ++ told (o ∷ [])) outs (o ∷ []) s (with_images s s.images) (ap (λ (m : CommandsSoFar). m.images) is) refl (drives_still (so_far es) (so_far (es ++ told (o ∷ []))) s (with_images s s.images) (ap (λ (m : CommandsSoFar). m.hooked) is) refl refl refl h.images.drives) (tt, tt) h.images,
        ap (λ (m : CommandsSoFar). m.left) is ∙ h.none_left,
      );
    }))
