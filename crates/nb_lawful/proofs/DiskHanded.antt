-- The first block of a disk is handed off.
use Rattle.std.proofs.Common.{◌≡◌, inr, ℕ, Option, List, [], ◌∷◌, ◌++◌, true, false, refl, sym, ◌∙◌, ap, subst, append_assoc}
use Rattle.nb_defs.specs.Causes.{ok}
use Rattle.nb_defs.specs.Parts.{HaveNoParts}
use Rattle.nb_defs.specs.Records.{Out, result}
use Rattle.nb_machine.specs.BootTables.{boot_table}
use Rattle.nb_machine.specs.CommandRecords.{stopped_cause}
use Rattle.nb_machine.specs.Conclusions.{disk_records}
use Rattle.nb_machine.specs.Lives.{close}
use Rattle.nb_machine.specs.States.{State, with_live}
use Rattle.nb_machine.specs.Takings.{Over, AllTake}
use Rattle.nb_machine.specs.Courses as course
use Rattle.nb_machine.specs.Courses.{Standing, with_booted}
use Rattle.nb_drivecmd.specs.declared.drive.Drive.{Drive}
use Rattle.nb_laws.specs.CommandsSoFar.{CommandsSoFar, so_far}
use Rattle.nb_laws.specs.Events.{Event, puts}
use Rattle.nb_laws.specs.Hookings.{BootsBy, HasRead}
use Rattle.nb_laws.proofs.Asides.{silent_disk}
use Rattle.nb_laws.proofs.HandOffs.{parts_more}
use Rattle.nb_laws.proofs.Tellings.{told}
use Rattle.nb_openlaws.proofs.Puts.{close_ends}
use Rattle.nb_openlaws.specs.Standings.{AgreesState}
use Rattle.nb_lawful.specs.Results.{ResultStands}
use Rattle.nb_lawful.specs.ScriptAgreement.{SettingsAre, HasDrives}
use Rattle.nb_lawful.proofs.AtOnce.{Goes}
use Rattle.nb_lawful.proofs.BootTable.{table_same}
use Rattle.nb_lawful.proofs.DriveAnswers.{tells_all}
use Rattle.nb_openlaws.proofs.SessionSteps.{still_sessions}
use Rattle.nb_lawful.proofs.Quiet.{quiet_so_far, quiet_parts, quiet_commands, ends_quiet, ends_alone}
use Rattle.nb_openlaws.specs.Sessions.{SessionsAgree}

-- what is known where the command has its result, with which it leaves this state: it boots the disk of open k, of which it has read this block
pub record HandsBlock (es : List Event) (outs : List Out) (s : State) (k : ℕ) (bytes : List ℕ) : Type 0 where
  pub stands : ResultStands es ok
  pub boots_it : BootsBy k es
  pub read : HasRead k es bytes
  pub parts : HaveNoParts outs
  pub settled : SessionsAgree es s.live
  pub base : AgreesState (es ++ puts (result ok) ∷ []) s
  pub settings : SettingsAre (so_far (es ++ puts (result ok) ∷ [])) s false
  pub drives : HasDrives (so_far (es ++ puts (result ok) ∷ [])) s

pub disk_handed : (es : List Event) (outs : List Out) (was s : State) (k : ℕ) (bytes : List ℕ) (more : List Out) (p : Standing) → HandsBlock es outs s k bytes → (over : List Over) → AllTake was.devices (close stopped_cause) was.live more [] over →
    p ≡ course.handing (with_live s []) (disk_records bytes (boot_table s)) → Goes es outs (result ok ∷ more) p
disk_handed es outs was s k bytes more p h over all leads =
    let o = result ok in
    let es1 = es ++ puts o ∷ [] in
    let ends = close_ends was.devices stopped_cause was.live more [] over all in
    let quiet = ends_quiet stopped_cause more ends in
    let at : es ++ told (o ∷ more) ≡ es1 ++ told more = sym (append_assoc es (puts o ∷ []) (told more)) in
    let settled = tells_all es1 s.live (still_sessions es (o ∷ []) s.live (tt, tt) ((λ j. refl), tt) h.settled) in
    subst (λ z. Goes es outs (o ∷ more) z) (sym leads) (record {
      stands = (h.stands, quiet_commands es1 more quiet);
      agrees = (
        silent_disk bytes (boot_table s),
        ap (λ (z : List Event). (so_far z).is_open) at ∙ ap (λ (m : CommandsSoFar). m.is_open) (quiet_so_far es1 more quiet) ∙ h.settings.is_open,
        inr (record {
          booted = record { before = es; since = more; ends = refl; behind = ends_alone stopped_cause more ends; number = k; boots = h.boots_it; block = bytes; read = h.read };
          before = outs ++ o ∷ more;
          none = parts_more outs (o ∷ more) h.parts (tt, quiet_parts more quiet);
          ends = ap (λ t. (outs ++ o ∷ more) ++ disk_records bytes t) (sym (table_same es1 s h.base h.drives settled h.settings.table));
        }),
      );
    })

-- what the history says of that besides
pub record BlockTells (es : List Event) (s : State) (x : Option Drive) (bytes : List ℕ) : Type 0 where
  pub number : ℕ
  pub boots_it : BootsBy number es
  pub read : HasRead number es bytes
  pub settings : SettingsAre (so_far es) s true
  pub ended_so : SettingsAre (so_far (es ++ puts (result ok) ∷ [])) (with_booted s x) false
  pub sessions : SessionsAgree es s.live
