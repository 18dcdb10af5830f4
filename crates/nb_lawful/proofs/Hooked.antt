-- A disk that a command hooks has answered: the command is over, and the disk is a drive.
use Rattle.std.proofs.Common.{◌≡◌, ℕ, ◌-◌, Bool, List, [], ◌∷◌, ◌++◌, Some, None, refl, sym, ◌∙◌, ap, subst, false}
use Rattle.std.specs.Option.{is_some}
use Rattle.std.proofs.lemmas.Option.{same_Some}
use Rattle.nb_defs.specs.Causes.{ok}
use Rattle.nb_defs.specs.Records.{Out, result}
use Rattle.nb_drivecmd.specs.declared.drive.Drive.{Drive}
use Rattle.nb_drivecmd.specs.declared.outcome.AfterHook.TheVariants.{Keep, Boot}
use Rattle.nb_drivecmd.specs.declared.outcome.Hooking.{Hooking}
use Rattle.nb_drivecmd.specs.HookedDrives.{with_hooked}
use Rattle.nb_machine.specs.Effects.{hooks_disk}
use Rattle.nb_machine.specs.Lives.{Live}
use Rattle.nb_machine.specs.Running.{Running, with_result}
use Rattle.nb_machine.specs.Scripts.{hooks_drive, hooked_drive, boots_drive_by}
use Rattle.nb_machine.specs.States.{State, with_drive}
use Rattle.nb_machine.specs.Courses.{Standing, LeadsTo}
use Rattle.nb_laws.specs.Agreement.{AgreesScript}
use Rattle.nb_laws.specs.Hookings.{hooked_drives, HooksDisk, KeepsDisk, BootsDisk, BootsBy, boots_hooking, HasRead}
use Rattle.nb_laws.specs.CommandsSoFar.{CommandsSoFar, so_far, ComesTo, comes_by, comes_after, conclusion_so_far, concluded_in, shown_table}
use Rattle.nb_laws.specs.Events.{Event, puts}
use Rattle.nb_laws.specs.Frames.{HoldsOf, by_hooking, by_booting}
use Rattle.nb_laws.specs.Lists.{made, last_end}
use Rattle.nb_laws.specs.Moves.{MovedOpen, moves}
use Rattle.nb_laws.specs.Wanting.{wanted_by}
use Rattle.nb_laws.proofs.Commands.{script_as, script_told}
use Rattle.nb_laws.proofs.Settling.{comes_keeps}
use Rattle.nb_laws.proofs.SoFar.{over_so_far, result_so_far, hooks_so_far, hooks_one, fetches_nothing}
use Rattle.nb_openlaws.proofs.LiveStates.{as_state}
use Rattle.nb_openlaws.proofs.OpenStates.{still_state}
use Rattle.nb_openlaws.specs.Standings.{AgreesState}
use Rattle.nb_lawful.specs.ScriptAgreement.{SettingsAre, HasFreeNumber, HasImages, NoneLeft}
use Rattle.nb_lawful.proofs.AtOnce.{Goes, images_as}
use Rattle.nb_lawful.proofs.Disks.{words_hook, still_hooks, hooking_is, disk_leaves}
use Rattle.nb_lawful.proofs.HookedLives.{drives_hooked}
use Rattle.nb_lawful.proofs.DiskHanded.{disk_handed, BlockTells}
use Rattle.nb_lawful.proofs.NoBlocks.{kept_disk, booted_disk, no_block_later, keep_or_boot}
use Rattle.nb_lawful.proofs.Coming.{HasHooked}
use Rattle.nb_openlaws.specs.Sessions.{SessionsAgree}

-- no drive of the disk's number is hooked, whichever names say it
own_free : (es : List Event) (hooking : Hooking) → ComesTo es (made es) (hooks_disk hooking) → HasFreeNumber hooking (hooked_drives es) → (h : HooksDisk es) → HasFreeNumber h.hooking (hooked_drives es)
own_free es hooking names gone h = subst (λ x. HasFreeNumber x (hooked_drives es)) (same_Some hooking h.hooking (sym (hooking_is es hooking names) ∙ hooking_is es h.hooking h.names)) gone

-- what the history says once the command has its result, and the disk is hooked
record HookedThen (es es3 : List Event) (outs : List Out) (s : State) (inner : Running) (outer : List Running) (d : Drive) : Type 0 where
  script : AgreesScript es3 (with_result inner ok) outer
  settings : SettingsAre (so_far es3) (with_drive s d) false
  images : HasImages es3 (outs ++ result ok ∷ []) (with_drive s d)
  none_left : NoneLeft es3

hooks_then : (es : List Event) (outs : List Out) (s : State) (inner : Running) (outer : List Running) (moved : List MovedOpen) (l : Live) (hooking : Hooking) → HasHooked es outs s inner outer moved l hooking →
    HookedThen es (es ++ puts (result ok) ∷ []) outs s inner outer (hooked_drive hooking l)
hooks_then es outs s inner outer moved l hooking k =
    let m = so_far es in
    let (shown, said, names) = k.names in
    let o = result ok in
    let es3 = es ++ puts o ∷ [] in
    let d = hooked_drive hooking l in
    let words : (n : ℕ) → comes_by n m shown ≡ hooks_disk hooking = λ n. words_hook (made es) n m shown (moves es) hooking names in
    let still : comes_after (made es - 1) m shown (moves es) ≡ hooks_disk hooking = still_hooks (made es) (made es - 1) m shown (moves es) (moves es) hooking names in
    let nothing : conclusion_so_far (last_end es) es m ≡ None = fetches_nothing es m shown said (λ x. ap (λ e. wanted_by e x) still) (ap concluded_in (words (made es))) in
    let keeps = ap (shown_table m.table) said ∙ comes_keeps (made es) m shown (hooks_disk hooking) (words (made es)) tt in
    let is : so_far es3 ≡ over_so_far None (hooks_so_far ok es) = result_so_far es ok None k.none_left nothing (disk_leaves es hooking k.names) in
    let hooked : (hooks_so_far ok es).hooked ≡ with_hooked d m.hooked =
    ap (λ (x : CommandsSoFar). x.hooked) (hooks_one es ok hooking (hooking_is es hooking k.names) refl) ∙ ap (λ n. with_hooked (record { number = hooking.number; described = hooking.described; open_number = n }) m.hooked) k.number in
    record {
      script = script_as es3 inner (with_result inner ok) outer (record { same = refl; depth = refl; begun = refl }) (script_told es (o ∷ []) inner outer (tt, tt) refl k.script);
      settings = subst (λ x. SettingsAre x (with_drive s d) false) (sym is) (record { table = keeps ∙ k.settings.table; up = k.settings.up; now = k.settings.now; is_open = refl });
      images = images_as es es3 outs (o ∷ []) s (with_drive s d) (ap (λ (x : CommandsSoFar). x.images) is) refl
          (drives_hooked m (so_far es3) s d (ap (λ (x : CommandsSoFar). x.hooked) is ∙ hooked) (record { made_so = k.few; is_drive = k.lives }) k.images.drives) (tt, tt) k.images;
      none_left = ap (λ (x : CommandsSoFar). x.left) is ∙ k.none_left;
    }

-- it is kept
pub drive_goes : (es : List Event) (outs : List Out) (s : State) (inner : Running) (outer : List Running) (moved : List MovedOpen) (l : Live) (hooking : Hooking) (more : List Out) (p : Standing) → hooking.after ≡ Keep →
    HasHooked es outs s inner outer moved l hooking →
    LeadsTo s inner outer (hooks_drive (hooked_drive hooking l)) more p → Goes es outs (result ok ∷ more) p
drive_goes es outs s inner outer moved l hooking more p kept k (none, leads) =
    let o = result ok in
    let some = ap is_some k.its_open.1 in
    let mine : KeepsDisk es = record { hooking = hooking; names = k.names; keeps = kept } in
    let unread : (j : ℕ) (bytes : List ℕ) → BootsBy j es → HasRead j es bytes → ⊥ = no_block_later es _ k.its_open.1 (λ d bytes read. keep_or_boot es mine d) in
    let t = hooks_then es outs s inner outer moved l hooking k in
    subst (λ z. Goes es outs (o ∷ z) p) (sym none) (subst (λ z. Goes es outs (o ∷ []) z) (sym leads) (record {
      stands = (
        record {
          is_open = k.settings.is_open;
          holds = subst (λ x. HoldsOf x es ok) (sym k.none_left) (by_hooking mine some k.answers refl);
          hooks = λ left there disk answers. (refl, own_free es hooking k.names k.gone (kept_disk es disk));
          reads = λ left j bytes boots_it read. absurd (unread j bytes boots_it read);
          frees = λ left there disk bytes read. absurd (keep_or_boot es mine disk);
        },
        tt,
      );
      agrees = (t.script, t.settings, t.images, t.none_left);
    }))

-- it is booted: its block is handed off
pub block_goes : (es : List Event) (outs : List Out) (s : State) (inner : Running) (outer : List Running) (moved : List MovedOpen) (l : Live) (hooking : Hooking) (keep : Bool) (bytes : List ℕ) (more : List Out) (p : Standing) → hooking.after ≡ Boot keep →
    HasHooked es outs s inner outer moved l hooking → HasRead l.number es bytes → SessionsAgree es s.live → AgreesState es s → LeadsTo s inner outer (boots_drive_by (Some (hooked_drive hooking l)) bytes) more p → Goes es outs (result ok ∷ more) p
block_goes es outs s inner outer moved l hooking keep bytes more p boots_it k read settled base (over, all, leads) =
    let o = result ok in
    let some = ap is_some k.its_open.1 in
    let mine : BootsDisk es = record { hooking = hooking; names = k.names; keep = keep; boots = boots_it } in
    let by_it : BootsBy l.number es = boots_hooking mine some (sym k.number) in
    let t = hooks_then es outs s inner outer moved l hooking k in
    disk_handed es outs s (with_drive s (hooked_drive hooking l)) l.number bytes more p (record {
      stands = record {
        is_open = k.settings.is_open;
        holds = subst (λ x. HoldsOf x es ok) (sym k.none_left) (by_booting l.number bytes by_it read refl);
        hooks = λ left there disk answers. absurd (keep_or_boot es disk mine);
        reads = λ left j others boots_so read_so. refl;
        frees = λ left there disk others read_so. own_free es hooking k.names k.gone (booted_disk es disk);
      };
      boots_it = by_it;
      read = read;
      parts = k.images.none;
      settled = settled;
      base = as_state (es ++ puts o ∷ []) s (with_drive s (hooked_drive hooking l)) (record { now = refl; opens = refl; offset = refl; mac = refl; identity = refl }) refl (still_state es (o ∷ []) s (tt, tt) base);
      settings = t.settings;
      drives = t.images.drives;
    }) over all leads

-- what the history says then
pub block_tells : (es : List Event) (outs : List Out) (s : State) (inner : Running) (outer : List Running) (moved : List MovedOpen) (l : Live) (hooking : Hooking) (keep : Bool) (bytes : List ℕ) → hooking.after ≡ Boot keep →
    HasHooked es outs s inner outer moved l hooking → HasRead l.number es bytes →
    SessionsAgree es s.live → BlockTells es s (Some (hooked_drive hooking l)) bytes
block_tells es outs s inner outer moved l hooking keep bytes boots_it k read sessions = record {
  number = l.number;
  boots_it = boots_hooking (record { hooking = hooking; names = k.names; keep = keep; boots = boots_it }) (ap is_some k.its_open.1) (sym k.number);
  read = read;
  settings = k.settings;
  ended_so = (hooks_then es outs s inner outer moved l hooking k).settings;
  sessions = sessions;
}
