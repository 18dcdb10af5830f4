-- A disk that a drive command is to hook is one that a URI names, and a drive that it boots is hooked.
use Rattle.std.proofs.Common.{◌≡◌, ℕ, Bool, true, false, cond, List, Option, Some, None, Result, Ok, Err, refl, subst}
use Rattle.std.specs.Prelude.{IfOk, is_some}
use Rattle.nb_settings.specs.Tables.{TableLists}
use Rattle.nb_drivecmd.specs.declared.commands.DriveCommand.{DriveCommand}
use Rattle.nb_drivecmd.specs.declared.commands.DriveCommand.TheVariants as command
use Rattle.nb_drivecmd.specs.declared.disk_names.NamedDisk.{NamedDisk}
use Rattle.nb_drivecmd.specs.declared.drive.Drive.{Drive}
use Rattle.nb_drivecmd.specs.declared.error.DriveFailure.{DriveFailure}
use Rattle.nb_drivecmd.specs.declared.error.DriveFailure.TheVariants.{NoDrive}
use Rattle.nb_drivecmd.specs.declared.error.DriveRefusal.{DriveRefusal}
use Rattle.nb_drivecmd.specs.declared.outcome.AfterHook.{AfterHook}
use Rattle.nb_drivecmd.specs.declared.outcome.AfterHook.TheVariants as after_hook
use Rattle.nb_drivecmd.specs.declared.outcome.DriveOutcome.{DriveOutcome}
use Rattle.nb_drivecmd.specs.declared.outcome.DriveOutcome.TheVariants as outcome
use Rattle.nb_drivecmd.specs.DiskNames.{named_disk}
use Rattle.nb_drivecmd.specs.DriveEffect.{drive_effect, given_drive, hooks, if_hooked, letting_go, outcome_for, unhooked_by}
use Rattle.nb_drivecmd.specs.DriveNumbers.{chosen_drive}
use Rattle.nb_drivecmd.specs.HookedDrives.{drive_numbered, is_hooked}
use Rattle.nb_runner.specs.Drives.{FitsDriveOutcome, IsOfHooked}

same_outcome : (a b : DriveOutcome) → ◌≡◌ {A = Result DriveOutcome DriveFailure} (Ok a) (Ok b) → a ≡ b
same_outcome a b e = cc

hooks_fits : (n : ℕ) (described : Bool) (after : AfterHook) (base : Option (List ℕ)) (uri : List ℕ) (r : Result NamedDisk DriveFailure) → named_disk base uri ≡ r → (o : DriveOutcome) → hooks n described after r ≡ Ok o → FitsDriveOutcome o
hooks_fits n described after base uri (Ok disk) is o e = subst FitsDriveOutcome (same_outcome _ o e) (record { base = base; uri = uri; names_it = is })
hooks_fits n described after base uri (Err why) is o e = absurd (cc)

hooked_fits : (n : ℕ) (comes o : DriveOutcome) (drives : List Drive) → FitsDriveOutcome comes → if_hooked n comes drives ≡ Ok o → FitsDriveOutcome o
hooked_fits n comes o drives fits e = by (is_hooked n drives) e
  where
    by : (b : Bool) → ◌≡◌ {A = Result DriveOutcome DriveFailure} (cond b (Ok comes) (Err NoDrive)) (Ok o) → FitsDriveOutcome o
    by true same = subst FitsDriveOutcome (same_outcome comes o same) fits
    by false same = absurd (cc)

outcome_fits : (n : ℕ) (c : DriveCommand) (base : Option (List ℕ)) (drives : List Drive) (o : DriveOutcome) → outcome_for n c base drives ≡ Ok o → FitsDriveOutcome o
outcome_fits n (command.Hook drive describe uri) base drives o e = hooks_fits n describe after_hook.Keep base uri (named_disk base uri) refl o e
outcome_fits n (command.Boot drive describe keep (Some uri)) base drives o e = hooks_fits n describe (after_hook.Boot keep) base uri (named_disk base uri) refl o e
outcome_fits n (command.Boot drive describe keep None) base drives o e = hooked_fits n (outcome.Boot n keep) o drives tt e
outcome_fits n (command.Unhook drive) base drives o e = hooked_fits n (outcome.Unhook n) o drives tt e

let_go_fits : (unhooks : Option ℕ) (r : Result DriveOutcome DriveFailure) (o : DriveOutcome) → ((x : DriveOutcome) → r ≡ Ok x → FitsDriveOutcome x) → letting_go unhooks r ≡ Ok o → FitsDriveOutcome o
let_go_fits unhooks (Ok comes) o fits e = let same : comes ≡ o = cc in subst FitsDriveOutcome same (fits comes refl)
let_go_fits unhooks (Err why) o fits e = absurd (cc)

effect_fits : (c : DriveCommand) (base : Option (List ℕ)) (table : TableLists) (drives : List Drive) (o : DriveOutcome) → drive_effect c base table drives ≡ Ok o → FitsDriveOutcome o
unfolding drive_effect
effect_fits c base table drives o e =
    let n = chosen_drive (given_drive c) table in
    let_go_fits (unhooked_by c n) (outcome_for n c base drives) o (λ x is. outcome_fits n c base drives x is) e

pub effects_fit : (c : DriveCommand) (base : Option (List ℕ)) (table : TableLists) (drives : List Drive) (r : Result DriveOutcome DriveRefusal) → IfOk r (λ o. drive_effect c base table drives ≡ Ok o) → IfOk r FitsDriveOutcome
effects_fit c base table drives (Ok o) e = effect_fits c base table drives o e
effects_fit c base table drives (Err why) e = tt

-- THE DRIVE THAT IS BOOTED

a_drive : (x : Option Drive) → is_some x ≡ true → (d : Drive) × (x ≡ Some d)
a_drive None e = absurd (cc)
a_drive (Some d) e = (d, refl)

hooks_none : (n : ℕ) (described : Bool) (after : AfterHook) (r : Result NamedDisk DriveFailure) (drives : List Drive) (o : DriveOutcome) → hooks n described after r ≡ Ok o → IsOfHooked o drives
hooks_none n described after (Ok disk) drives o e = subst (λ x. IsOfHooked x drives) (same_outcome _ o e) tt
hooks_none n described after (Err why) drives o e = absurd (cc)

if_hooked_so : (n : ℕ) (comes o : DriveOutcome) (drives : List Drive) → (is_hooked n drives ≡ true → IsOfHooked comes drives) → if_hooked n comes drives ≡ Ok o → IsOfHooked o drives
if_hooked_so n comes o drives so e = by (is_hooked n drives) refl e
  where
    by : (b : Bool) → is_hooked n drives ≡ b → ◌≡◌ {A = Result DriveOutcome DriveFailure} (cond b (Ok comes) (Err NoDrive)) (Ok o) → IsOfHooked o drives
    by true is same = subst (λ x. IsOfHooked x drives) (same_outcome comes o same) (so is)
    by false is same = absurd (cc)

outcome_hooked : (n : ℕ) (c : DriveCommand) (base : Option (List ℕ)) (drives : List Drive) (o : DriveOutcome) → outcome_for n c base drives ≡ Ok o → IsOfHooked o drives
outcome_hooked n (command.Hook drive describe uri) base drives o e = hooks_none n describe after_hook.Keep (named_disk base uri) drives o e
outcome_hooked n (command.Boot drive describe keep (Some uri)) base drives o e = hooks_none n describe (after_hook.Boot keep) (named_disk base uri) drives o e
outcome_hooked n (command.Boot drive describe keep None) base drives o e = if_hooked_so n (outcome.Boot n keep) o drives (a_drive (drive_numbered n drives)) e
outcome_hooked n (command.Unhook drive) base drives o e = if_hooked_so n (outcome.Unhook n) o drives (λ _. tt) e

let_go_hooked : (unhooks : Option ℕ) (r : Result DriveOutcome DriveFailure) (drives : List Drive) (o : DriveOutcome) → ((x : DriveOutcome) → r ≡ Ok x → IsOfHooked x drives) → letting_go unhooks r ≡ Ok o → IsOfHooked o drives
let_go_hooked unhooks (Ok comes) drives o so e = let same : comes ≡ o = cc in subst (λ x. IsOfHooked x drives) same (so comes refl)
let_go_hooked unhooks (Err why) drives o so e = absurd (cc)

effect_hooked : (c : DriveCommand) (base : Option (List ℕ)) (table : TableLists) (drives : List Drive) (o : DriveOutcome) → drive_effect c base table drives ≡ Ok o → IsOfHooked o drives
unfolding drive_effect
effect_hooked c base table drives o e =
    let n = chosen_drive (given_drive c) table in
    let_go_hooked (unhooked_by c n) (outcome_for n c base drives) drives o (λ x is. outcome_hooked n c base drives x is) e

pub effects_hooked : (c : DriveCommand) (base : Option (List ℕ)) (table : TableLists) (drives : List Drive) (r : Result DriveOutcome DriveRefusal) → IfOk r (λ o. drive_effect c base table drives ≡ Ok o) → IfOk r (λ o. IsOfHooked o drives)
effects_hooked c base table drives (Ok o) e = effect_hooked c base table drives o e
effects_hooked c base table drives (Err why) e = tt
