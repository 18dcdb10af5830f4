-- A hooked drive is booted: its command asks it for its first block, and has its result with that, or with the end of its open.
use Rattle.std.proofs.Common.{◌≡◌, ℕ, ◌<◌, false, List, [], ◌∷◌, ◌++◌, Some, None, refl, sym, ◌∙◌, ap, subst, append-nil, append_assoc}
use Rattle.std.specs.List.{AllByRecursion}
use Rattle.std.proofs.lemmas.Option.{same_Some}
use Rattle.nb_terms.specs.declared.cause.Cause.{Cause}
use Rattle.nb_defs.specs.Causes.{ok}
use Rattle.nb_defs.specs.Records.{Out, result, ended}
use Rattle.nb_drivecmd.specs.declared.drive.Drive.{Drive}
use Rattle.nb_drivecmd.specs.HookedDrives.{is_drive, drive_numbered}
use Rattle.nb_login.specs.declared.info.LoginInfo.{LoginInfo}
use Rattle.nb_machine.specs.CommandRecords.{command_record}
use Rattle.nb_machine.specs.Courses as course
use Rattle.nb_machine.specs.Courses.{Standing, LeadsTo, block_lost, block_standing, ReadsBlock}
use Rattle.nb_machine.specs.Drives.{first_block_read}
use Rattle.nb_machine.specs.Effects.{boots_drive, shown_words}
use Rattle.nb_machine.specs.Lives.{task, iscsi, Live, continued}
use Rattle.nb_machine.specs.Running.{Running, entered, with_result}
use Rattle.nb_machine.specs.Scripts.{block, boots_one, boots_drive_by, doing}
use Rattle.nb_machine.specs.States.{State, has_open}
use Rattle.nb_laws.specs.CommandOpens.{command_open, end_of}
use Rattle.nb_laws.specs.CommandsSoFar.{CommandsSoFar, so_far, booted_drive}
use Rattle.nb_laws.specs.Events.{Event, puts}
use Rattle.nb_laws.specs.Frames.{HoldsOf, by_booting, by_lost_drive}
use Rattle.nb_laws.specs.Hookings.{BootsBy, boots_hooking, boots_hooked, HasRead}
use Rattle.nb_laws.proofs.Commands.{may_begin, script_as, script_begins, script_told}
use Rattle.nb_laws.proofs.SoFar.{begins_so_far}
use Rattle.nb_laws.proofs.Tellings.{told}
use Rattle.nb_openlaws.proofs.Doings.{boots_by, up_stays}
use Rattle.nb_openlaws.proofs.OpenStates.{still_state}
use Rattle.nb_openlaws.specs.Standings.{AgreesState, HaveOwnNumbers}
use Rattle.nb_lawful.specs.ScriptAgreement.{SettingsAre, IsAmid, IsDriveOf, WasHooked, HasDrives, WasSession, AreUnasked, awaits_hooked, ScriptsAgree}
use Rattle.nb_lawful.proofs.Asked.{AsksWell, AskedSo, asked_so, AskedAt, asked_at}
use Rattle.nb_lawful.proofs.AtOnce.{Goes, goes_two, images_as}
use Rattle.nb_lawful.proofs.Awaited.{TookAlone, alone_on, alone_last, took_alone, told_later, own_end_of}
use Rattle.nb_lawful.proofs.Begun.{begun_silently, has_begun_comes, begins_so, settings_begun, opened_none}
use Rattle.nb_lawful.proofs.BootWords.{boots_over, boots_keep, names_boots}
use Rattle.nb_lawful.proofs.Coming.{HasBooted, found_one}
use Rattle.nb_lawful.proofs.DiskHanded.{disk_handed, BlockTells}
use Rattle.nb_lawful.proofs.DriveAnswers.{TellsSession, none_reads}
use Rattle.nb_lawful.proofs.HookedLives.{LivesSo, drives_still, some_drives}
use Rattle.nb_lawful.proofs.Opened.{was_on}
use Rattle.nb_lawful.proofs.Plain.{IsPlain, apart_amid, amid_all}
use Rattle.nb_lawful.proofs.Quiet.{quiet_makes_none}
use Rattle.nb_lawful.proofs.Unasked.{unread_first}
use Rattle.nb_openlaws.specs.Sessions.{SessionsAgree}

-- ITS RESULT

-- its open has ended
pub lost_goes : (es : List Event) (outs : List Out) (s : State) (inner : Running) (outer : List Running) (d : Drive) (cause : Cause) → HasBooted es outs s inner outer d → end_of d.open_number es ≡ Some cause →
    ((bytes : List ℕ) → HasRead d.open_number es bytes → ⊥) →
    Goes es outs (result cause ∷ []) (course.running s (with_result inner cause) outer)
lost_goes es outs s inner outer d cause k ends unread =
    let o = result cause in
    let es3 = es ++ puts o ∷ [] in
    let is = boots_over es d cause k.none_left k.names in
    record {
      stands = (
        record {
          is_open = k.settings.is_open;
          holds = subst (λ x. HoldsOf x es cause) (sym k.none_left) (by_lost_drive d k.none k.names ends);
          hooks = λ left some. absurd (opened_none (command_open es) k.none some);
          reads = λ left j bytes boots_it read. absurd (never j bytes boots_it read);
          frees = λ left some. absurd (opened_none (command_open es) k.none some);
        },
        tt,
      );
      agrees = (
        script_as es3 inner (with_result inner cause) outer (record { same = refl; depth = refl; begun = refl }) (script_told es (o ∷ []) inner outer (tt, tt) refl k.script),
        subst (λ x. SettingsAre x s false) (sym is) (record { table = boots_keep es d k.names ∙ k.settings.table; up = k.settings.up; now = k.settings.now; is_open = refl }),
        images_as es es3 outs (o ∷ []) s s (ap (λ (x : CommandsSoFar). x.images) is) refl (drives_still (so_far es) (so_far es3) s s (ap (λ (x : CommandsSoFar). x.hooked) is) refl refl refl k.images.drives) (tt, tt) k.images,
        ap (λ (x : CommandsSoFar). x.left) is ∙ k.none_left,
      );
    }
  where
    never : (j : ℕ) (bytes : List ℕ) → BootsBy j es → HasRead j es bytes → ⊥
    never j bytes (boots_hooking disk some own) read = opened_none (command_open es) k.none some
    never j bytes (boots_hooked drive none names own) read =
        let same : d ≡ drive = same_Some d drive (sym k.names ∙ names) in
        unread bytes (subst (λ n. HasRead n es bytes) (sym own ∙ ap (λ (x : Drive). x.open_number) (sym same)) read)

-- its block has come
pub hooked_goes : (es : List Event) (outs : List Out) (s : State) (inner : Running) (outer : List Running) (d : Drive) (bytes : List ℕ) (more : List Out) (p : Standing) → HasBooted es outs s inner outer d → HasRead d.open_number es bytes →
    SessionsAgree es s.live → AgreesState es s →
    LeadsTo s inner outer (boots_drive_by None bytes) more p → Goes es outs (result ok ∷ more) p
hooked_goes es outs s inner outer d bytes more p k read settled base (over, all, leads) =
    let o = result ok in
    let is = boots_over es d ok k.none_left k.names in
    let by_it : BootsBy d.open_number es = boots_hooked d k.none k.names refl in
    disk_handed es outs s s d.open_number bytes more p (record {
      stands = record {
        is_open = k.settings.is_open;
        holds = subst (λ x. HoldsOf x es ok) (sym k.none_left) (by_booting d.open_number bytes by_it read refl);
        hooks = λ left some. absurd (opened_none (command_open es) k.none some);
        reads = λ left j others boots_so read_so. refl;
        frees = λ left some. absurd (opened_none (command_open es) k.none some);
      };
      boots_it = by_it;
      read = read;
      parts = k.images.none;
      settled = settled;
      base = still_state es (o ∷ []) s (tt, tt) base;
      settings = subst (λ x. SettingsAre x s false) (sym is) (record { table = boots_keep es d k.names ∙ k.settings.table; up = k.settings.up; now = k.settings.now; is_open = refl });
      drives = drives_still (so_far es) (so_far (es ++ puts o ∷ [])) s s (ap (λ (x : CommandsSoFar). x.hooked) is) refl refl refl k.images.drives;
    }) over all leads

-- what the history says then
pub hooked_tells : (es : List Event) (outs : List Out) (s : State) (inner : Running) (outer : List Running) (d : Drive) (bytes : List ℕ) → HasBooted es outs s inner outer d → HasRead d.open_number es bytes → SessionsAgree es s.live → BlockTells es s None bytes
hooked_tells es outs s inner outer d bytes k read sessions = record {
  number = d.open_number;
  boots_it = boots_hooked d k.none k.names refl;
  read = read;
  settings = k.settings;
  ended_so = subst (λ x. SettingsAre x s false) (sym (boots_over es d ok k.none_left k.names)) (record { table = boots_keep es d k.names ∙ k.settings.table; up = k.settings.up; now = k.settings.now; is_open = refl });
  sessions = sessions;
}

-- IT IS ASKED

-- the open of a drive that is booted, of which nothing was asked
pub record IsBootedOn (es : List Event) (s : State) (l : Live) (d : Drive) : Type 0 where
  pub lives : IsAmid s l
  pub own : d.open_number ≡ l.number
  pub is_drive : (isn : ℕ) × (i : LoginInfo) × (l.kind ≡ iscsi isn i)
  pub kept : WasSession false l.number es
  pub unasked : AreUnasked l.exchanges

pub asks_hooked : (es : List Event) (outs : List Out) (s : State) (inner : Running) (outer : List Running) (l : Live) (d : Drive) (more : List Out) (p : Standing) → HasBooted es outs s inner outer d → IsBootedOn es s l d → AsksWell es s d.open_number →
    ReadsBlock s inner outer d.open_number None more p → Goes es outs more p
asks_hooked es outs s inner outer l d more p k b well r = by (took_alone _ _ _ _ _ _ at.takes)
  where
    q : AskedSo es outs r.next inner outer r.asked
    q = asked_so es outs s r.next inner outer d.open_number r.asked r.over r.asks (record { script = k.script; settings = k.settings; images = k.images; none_left = k.none_left })

    at : AskedAt s l b.lives.earlier b.lives.later r.asked r.next r.over
    at = asked_at s d.open_number r.asked r.next r.over r.asks b.lives.earlier b.lives.later l b.lives.parted b.own b.lives.before b.lives.behind

    after : HasBooted (es ++ told r.asked) (outs ++ r.asked) r.next inner outer d
    after = record {
      script = q.after.script;
      settings = q.after.settings;
      images = q.after.images;
      none_left = q.after.none_left;
      none = quiet_makes_none es r.asked q.quiet k.none;
      names = ap booted_drive q.same ∙ k.names;
    }

    by : TookAlone (task first_block_read s.now) l r.asked at.after r.over → Goes es outs more p
    by (alone_on x came after_is over_is beside) = let (isn, i, kind) = b.is_drive in
        subst (λ z. Goes es outs z p) (sym (r.all ∙ ap (λ z. r.asked ++ block_lost z) over_is ∙ append-nil r.asked))
        (subst (λ z. Goes es outs r.asked z) (sym (r.stands_so ∙ ap (block_standing r.next inner outer d.open_number None) over_is)) (record {
          stands = q.stands;
          agrees = (
            after.script,
            after.settings,
            after.images,
            after.none_left,
            awaits_hooked (continued l x) d (record {
              lives = record {
                earlier = b.lives.earlier;
                later = b.lives.later;
                parted = at.lives ∙ append_assoc b.lives.earlier at.after b.lives.later ∙ ap (λ z. b.lives.earlier ++ (z ++ b.lives.later)) after_is;
                before = b.lives.before;
                behind = b.lives.behind;
              };
              own = b.own;
              none = after.none;
              names = after.names;
              is_drive = b.is_drive;
              kept = was_on false l.number es (told r.asked) b.kept;
            }) (ap block b.own) refl (unread_first l isn i x s.now kind b.unasked came),
          );
        }))
    by (alone_last x cause front came after_is over_is is beside) =
        let (isn, i, kind) = b.is_drive in
        let es2 = es ++ told r.asked in
        let ends : end_of d.open_number es2 ≡ Some cause =
        ap (λ j. end_of j es2) b.own ∙ ap (λ z. end_of l.number (es ++ told z)) is ∙ ap (end_of l.number) (told_later es front (ended l.number cause ∷ [])) ∙ own_end_of (es ++ told front) l.number cause [] tt in
        let w = well r.asked r.next r.over r.asks in
        let says = (subst (AllByRecursion (λ o. TellsSession es2 o.live)) over_is w.tells).0 isn i kind in
        subst (λ z. Goes es outs z p) (sym (r.all ∙ ap (λ z. r.asked ++ block_lost z) over_is))
        (subst (λ z. Goes es outs (r.asked ++ result cause ∷ []) z) (sym (r.stands_so ∙ ap (block_standing r.next inner outer d.open_number None) over_is))
        (goes_two es outs r.asked (result cause ∷ []) (course.running r.next (with_result inner cause) outer) q.stands
        (lost_goes es2 (outs ++ r.asked) r.next inner outer d cause after ends (none_reads es2 (continued l x) d.open_number says b.own (unread_first l isn i x s.now kind b.unasked came)))))

-- THE COMMAND

-- a drive that is hooked was hooked
pub numbered_hooked : (m : CommandsSoFar) (s : State) (number : ℕ) (d : Drive) → HasDrives m s → drive_numbered number s.drives ≡ Some d → WasHooked s d
numbered_hooked m s number d h got = found_one (WasHooked s) (is_drive number) s.drives d (subst (AllByRecursion (WasHooked s)) (sym h.are) (some_drives (WasHooked s) (has_open s.live) m.hooked h.were)) got

pub boots_goes : (es : List Event) (outs : List Out) (s : State) (inner : Running) (outer : List Running) (ws : List (List ℕ)) (number : ℕ) (d : Drive) (put : List Out) (p : Standing) → AgreesState es s →
    AllByRecursion (IsPlain es) s.live → LivesSo es s → inner.begun < 4096 →
    doing s inner ws ≡ boots_one number → drive_numbered number s.drives ≡ Some d → ReadsBlock s (entered inner) outer d.open_number None put p → AsksWell (es ++ puts (command_record inner (shown_words s.table ws)) ∷ []) s d.open_number →
    ScriptsAgree es outs (course.running s inner outer) →
    Goes es outs (command_record inner (shown_words s.table ws) ∷ put) p
boots_goes es outs s inner outer ws number d put p base plain lives few is got r well a =
    let command = command_record inner (shown_words s.table ws) in
    let es1 = es ++ puts command ∷ [] in
    let began = begins_so_far es inner (shown_words s.table ws) in
    let comes = boots_by s inner ws number is in
    let b = begun_silently es outs s inner outer ws base.opens lives a in
    let asks = r.asks in
    let own = subst HaveOwnNumbers asks.parted base.apart in
    let apart = apart_amid asks.before asks.behind asks.l own in
    let here = amid_all (IsPlain es) asks.before asks.behind asks.l (subst (AllByRecursion (IsPlain es)) asks.parted plain) in
    let its = amid_all (IsDriveOf d) asks.before asks.behind asks.l (subst (AllByRecursion (IsDriveOf d)) asks.parted (numbered_hooked (so_far es) s number d a.2.drives got).is_drive) asks.its in
    goes_two es outs (command ∷ []) put p (begins_so es s inner ws a.1 (may_begin es inner outer a.0 few), tt)
    (asks_hooked es1 (outs ++ command ∷ []) s (entered inner) outer asks.l d put p (record {
      script = script_begins es (command ∷ []) inner (entered inner) outer (tt, tt) refl refl refl refl a.0;
      settings = settings_begun es s s ws began refl (up_stays s inner (boots_drive number) ws comes) refl a.1;
      images = images_as es es1 outs (command ∷ []) s s (ap (λ (m : CommandsSoFar). m.images) began) refl (drives_still (so_far es) (so_far es1) s s (ap (λ (m : CommandsSoFar). m.hooked) began) refl refl refl a.2.drives) (tt, tt) a.2;
      none_left = ap (λ (m : CommandsSoFar). m.left) began ∙ a.3;
      none = b.none;
      names = names_boots es1 number d (has_begun_comes es1 s inner ws (boots_drive number) b comes) (ap (λ (m : CommandsSoFar). drive_numbered number m.drives) began ∙ ap (drive_numbered number) lives ∙ got);
    }) (record {
      lives = record { earlier = asks.before; later = asks.behind; parted = asks.parted; before = apart.0; behind = apart.1 };
      own = sym asks.its;
      is_drive = its;
      kept = (let (isn, i, kind) = its in was_on false asks.l.number es (puts command ∷ []) (here.kept isn i kind));
      unasked = here.unasked;
    }) well r)
