-- A hooked drive is booted: its session is asked by its COMMAND alone, and what is put then has its reasons.
use Rattle.std.proofs.Common.{◌≡◌, inr, ℕ, ◌==◌, Bool, true, false, List, [], ◌∷◌, ◌++◌, Option, Some, None, refl, sym, ◌∙◌, ap, subst, eq-eqb}
use Rattle.std.specs.List.{AllByRecursion}
use Rattle.nb_defs.specs.Records.{Out}
use Rattle.nb_drivecmd.specs.declared.drive.Drive.{Drive}
use Rattle.nb_drivecmd.specs.HookedDrives.{drive_numbered}
use Rattle.nb_settings.specs.Tables.{TableLists}
use Rattle.nb_machine.specs.CommandRecords.{command_record}
use Rattle.nb_machine.specs.Courses as course
use Rattle.nb_machine.specs.Courses.{Standing, AsksBlock}
use Rattle.nb_machine.specs.Effects.{Effect, says, asks, goes, sleeps, shuts_device, inquires, on_images, on_drives, hooks_disk, unhooks_drive, boots_drive, concludes_at_once, shown_words, table_after, up_after}
use Rattle.nb_machine.specs.Running.{Running}
use Rattle.nb_machine.specs.Scripts.{doing, doing_by, boots_one}
use Rattle.nb_machine.specs.States.{State}
use Rattle.nb_machine.specs.Takings.{Over}
use Rattle.nb_laws.specs.CommandsSoFar.{CommandsSoFar, so_far, so_far_by, booted_in, booted_drive}
use Rattle.nb_laws.specs.Events.{Event, puts}
use Rattle.nb_laws.specs.Lists.{made}
use Rattle.nb_laws.specs.Progress.{IsAdvanced}
use Rattle.nb_laws.proofs.SoFar.{so_far_more, begins_so_far}
use Rattle.nb_laws.proofs.Tellings.{still_advanced}
use Rattle.nb_openlaws.specs.OpenReasons.{HaveWays, OpensAgree, OpenReasons}
use Rattle.nb_openlaws.specs.Sessions.{AgreesBy, SessionsAgree}
use Rattle.nb_openlaws.specs.Standings.{lives_among, HaveOwnNumbers, AgreesState, AgreesDevice, AgreesStanding}
use Rattle.nb_openlaws.proofs.Doings.{comes_to, boots_by, up_stays}
use Rattle.nb_openlaws.proofs.Networks.{apart_front, apart_back}
use Rattle.nb_openlaws.proofs.OpenStates.{still_state}
use Rattle.nb_openlaws.proofs.SessionAsks.{command_asks_session, command_asks_others, command_is_due}
use Rattle.nb_openlaws.proofs.SessionMoves.{drive_asked, MayAsk}
use Rattle.nb_openlaws.proofs.SessionNetworks.{parts_agree}
use Rattle.nb_lawful.specs.ScriptAgreement.{IsDriveOf, ScriptsAgree}
use Rattle.nb_lawful.proofs.Asked.{AsksWell}
use Rattle.nb_lawful.proofs.Begun.{HasBegun, begun_silently, has_begun_comes, settings_begun}
use Rattle.nb_lawful.proofs.Booted.{numbered_hooked}
use Rattle.nb_lawful.proofs.BootWords.{boots_so, names_number}
use Rattle.nb_lawful.proofs.Devices.{device_stays}
use Rattle.nb_lawful.proofs.DriveSessions.{DueHere, asked_so, asked_well, have_ways}
use Rattle.nb_lawful.proofs.HookedLives.{LivesSo, lives_so}
use Rattle.nb_lawful.proofs.NoBlocks.{words_boot_none}
use Rattle.nb_lawful.proofs.Opened.{was_on}
use Rattle.nb_lawful.proofs.Plain.{IsPlain, ArePlain, amid_all}

-- WHAT A COMMAND ASKS

-- what boots no drive asks none
none_asked : (s : State) (table : TableLists) (up : Bool) (e : Effect) → booted_in e ≡ None → drive_asked s (doing_by s table up e) ≡ None
none_asked s table up (boots_drive number) none = absurd (let no : Some number ≡ None = none in cc no)
none_asked s table up (says o) none = refl
none_asked s table up shuts_device none = refl
none_asked s table up (asks wanted) none = refl
none_asked s table up (inquires q) none = refl
none_asked s table up (goes name) none = refl
none_asked s table up (sleeps seconds) none = refl
none_asked s table up (concludes_at_once c) none = refl
none_asked s table up (hooks_disk hooking) none = refl
none_asked s table up (unhooks_drive number cause) none = refl
none_asked s table up (on_images command) none = refl
none_asked s table up (on_drives command) none = refl

command_asked : (es : List Event) (s : State) (inner : Running) (ws : List (List ℕ)) → HasBegun (es ++ puts (command_record inner (shown_words s.table ws)) ∷ []) s inner ws → LivesSo es s →
    booted_drive (so_far_by es (so_far es) (puts (command_record inner (shown_words s.table ws)))) ≡ drive_asked s (doing s inner ws)
command_asked es s inner ws b lives = ap booted_drive (sym (so_far_more es e)) ∙ by (booted_in e0) refl
  where
    e : Event
    e = puts (command_record inner (shown_words s.table ws))

    e0 : Effect
    e0 = comes_to s inner ws

    es1 : List Event
    es1 = es ++ e ∷ []

    table : TableLists
    table = table_after s.table ws

    up : Bool
    up = up_after s.table s.up ws

    by : (x : Option ℕ) → booted_in e0 ≡ x → booted_drive (so_far es1) ≡ drive_asked s (doing_by s table up e0)
    by None is = words_boot_none es1 (made es1) e0 is (has_begun_comes es1 s inner ws e0 b refl) ∙ sym (none_asked s table up e0 is)
    by (Some number) is =
        let same = boots_so e0 number is in
        names_number es1 number (has_begun_comes es1 s inner ws (boots_drive number) b same)
        ∙ ap (λ (m : CommandsSoFar). drive_numbered number m.drives) (begins_so_far es inner (shown_words s.table ws)) ∙ ap (drive_numbered number) lives ∙ ap (λ z. drive_asked s (doing_by s table up z)) (sym same)

pub may_ask : (es : List Event) (outs : List Out) (p : Standing) → AgreesStanding es p → ScriptsAgree es outs p → MayAsk es p
may_ask es outs course.ready a h = tt
may_ask es outs (course.running s inner outer) a h = λ ws. (let lives = lives_so es s a h.2.drives in command_asked es s inner ws (begun_silently es outs s inner outer ws a.opens lives h) lives)
may_ask es outs (course.waiting s w) a h = tt
may_ask es outs (course.reaching s inner outer next) a h = tt
may_ask es outs (course.yielded s inner outer) a h = tt
may_ask es outs (course.handing s rest) a h = tt
may_ask es outs (course.left s outer cause) a h = tt
may_ask es outs (course.handed_off s) a h = tt
may_ask es outs (course.stopped s) a h = tt

-- THE DRIVE THAT IS BOOTED

module _ (es : List Event) (outs : List Out) (s : State) (inner : Running) (outer : List Running) (ws : List (List ℕ)) (number : ℕ) (d : Drive) (o : OpensAgree es s) (plain : ArePlain es s.live) (h : ScriptsAgree es outs (course.running s inner outer))
    (is : doing s inner ws ≡ boots_one number) (got : drive_numbered number s.drives ≡ Some d) where
  abbrev begun : List Event
  begun = es ++ puts (command_record inner (shown_words s.table ws)) ∷ []

  lives : LivesSo es s
  lives = lives_so es s o.base h.2.drives

  base : AgreesState begun s
  base = still_state es (command_record inner (shown_words s.table ws) ∷ []) s (tt, tt) o.base

  device : AgreesDevice begun s
  device = device_stays es (command_record inner (shown_words s.table ws) ∷ []) s s refl refl refl o.device h.1
      (settings_begun es s s ws (begins_so_far es inner (shown_words s.table ws)) refl (up_stays s inner (boots_drive number) ws (boots_by s inner ws number is)) refl h.1)

  ways : HaveWays begun s.live
  ways = have_ways es (puts (command_record inner (shown_words s.table ws)) ∷ []) s.live o.ways

  advanced : IsAdvanced begun
  advanced = still_advanced es (command_record inner (shown_words s.table ws) ∷ []) (tt, tt) o.advanced

  -- its session is due
  boots_due : (put : List Out) (s' : State) (over : List Over) (q : AsksBlock s d.open_number put s' over) → DueHere begun s q.l
  boots_due put s' over q =
      let shown = shown_words s.table ws in
      let own = subst HaveOwnNumbers q.parted o.base.apart in
      let asked = command_asked es s inner ws (begun_silently es outs s inner outer ws o.base.opens lives h) lives ∙ ap (drive_asked s) is ∙ got in
      let (isn, i, kind) = amid_all (IsDriveOf d) q.before q.behind q.l (subst (AllByRecursion (IsDriveOf d)) q.parted (numbered_hooked (so_far es) s number d h.2.drives got).is_drive) q.its in
      let here = amid_all (IsPlain es) q.before q.behind q.l (subst (ArePlain es) q.parted plain) in
      let parts = parts_agree es q.before (q.l ∷ q.behind) (subst (SessionsAgree es) q.parted o.sessions) in
      let its : (d.open_number == q.l.number) ≡ true = eq-eqb d.open_number q.l.number (sym q.its) in
      record {
        before = q.before;
        behind = q.behind;
        isn = isn;
        i = i;
        parted = q.parted;
        kind = kind;
        readable = inr (was_on false q.l.number es (puts (command_record inner shown) ∷ []) (here.kept isn i kind));
        front = command_asks_others es q.before inner.depth inner.passed inner.place shown.expanded shown.words d asked (ap (λ z. lives_among z q.before) (sym q.its) ∙ apart_front q.before q.l q.behind own) parts.0;
        due = command_asks_session es q.l isn i s.now inner.depth inner.passed inner.place shown.expanded shown.words d o.base.time asked its (subst (λ k. AgreesBy es k q.l) kind parts.1.0);
        back = command_asks_others es q.behind inner.depth inner.passed inner.place shown.expanded shown.words d asked (ap (λ z. lives_among z q.behind) (sym q.its) ∙ apart_back q.before q.l q.behind own) parts.1.1;
        is_due = command_is_due q.l.number es inner.depth inner.passed inner.place shown.expanded shown.words d asked its;
      }

  pub boots_well : AsksWell (es ++ puts (command_record inner (shown_words s.table ws)) ∷ []) s d.open_number
  boots_well put s' over q = asked_well begun s q.l d.open_number (boots_due put s' over q) base device ways advanced (sym q.its) put s' over q

  pub boots_asked : (put : List Out) (s' : State) (over : List Over) → AsksBlock s d.open_number put s' over → OpenReasons (es ++ puts (command_record inner (shown_words s.table ws)) ∷ []) put
  boots_asked put s' over q = (asked_so begun s s' q.l d.open_number put over (boots_due put s' over q) base device ways advanced q (sym q.its)).reasons
