-- The number that a command gives a drive is one.
use Rattle.std.proofs.Common.{◌≡◌, ℕ, ◌&&◌, Bool, true, false, cond, ◌||◌, not, List, [], ◌∷◌, Option, Some, None, is_some, Result, Ok, Err, refl, subst, codes, nat_le, leb-true, arith}
use Rattle.std.specs.Prelude.{IfOk, IfSome}
use Rattle.std.specs.Option.{option_and_then}
use Rattle.std.specs.Str.{bytes_eq}
use Rattle.nb_defs.specs.Commands.{is_option, number_of}
use Rattle.nb_imagecmd.specs.declared.error.PlanError.{PlanError}
use Rattle.nb_imagecmd.specs.declared.error.PlanError.TheVariants.{Usage}
use Rattle.nb_drivecmd.specs.declared.command_names.DriveCommandName.{DriveCommandName}
use Rattle.nb_drivecmd.specs.declared.command_names.DriveCommandName.TheVariants.{Sanhook, Sanboot, Sanunhook}
use Rattle.nb_drivecmd.specs.declared.commands.DriveCommand.{DriveCommand}
use Rattle.nb_drivecmd.specs.DriveCommandNames.{drive_command_named}
use Rattle.nb_drivecmd.specs.DriveEffect.{given_drive}
use Rattle.nb_drivecmd.specs.DriveNumbers.{IsDriveNumber, as_drive, drive_in}
use Rattle.nb_drivecmd.specs.DriveOptions.{DriveOptionsRead, with_drive_number, with_no_describe, with_keep, with_drive_in, drive_options_read, numbered_options}
use Rattle.nb_drivecmd.specs.DriveReading.{hook_after, hook_of, boot_after, boot_of, unhook_after, unhook_of, drive_named_read, drive_read_where, drive_command}

abbrev Numbered : Option ℕ → Type 0
Numbered o = IfSome o IsDriveNumber

both : (a b : Bool) → (a && b) ≡ true → (a ≡ true) × (b ≡ true)
both true b e = (refl, e)
both false b e = absurd (let z = e in cc)

as_drive_numbered : (o : Option ℕ) → Numbered (as_drive o)
as_drive_numbered None = tt
as_drive_numbered (Some n) = by (nat_le 128 n && nat_le n 255) refl
  where
    by : (b : Bool) → (nat_le 128 n && nat_le n 255) ≡ b → Numbered (cond b (Some n) None)
    by true e = let h = both (nat_le 128 n) (nat_le n 255) e in (leb-true 128 n h.0, omega (arith, leb-true n 255 h.1))
    by false e = tt

-- options whose number, if they have one, is one
abbrev OptionsNumbered : Option DriveOptionsRead → Type 0
OptionsNumbered o = IfSome o (λ (r : DriveOptionsRead). Numbered r.drive)

drive_numbered_so : (n : ℕ) (o : Option DriveOptionsRead) → IsDriveNumber n → OptionsNumbered (option_and_then (with_drive_number n) o)
drive_numbered_so n None is = tt
drive_numbered_so n (Some r) is = by (is_some r.drive)
  where
    by : (b : Bool) → OptionsNumbered (cond b None (Some (record r { drive = Some n })))
    by true = tt
    by false = is

drive_in_numbered : (d : Option ℕ) (o : Option DriveOptionsRead) → Numbered d → OptionsNumbered (with_drive_in d o)
drive_in_numbered None o is = tt
drive_in_numbered (Some n) o is = drive_numbered_so n o is

no_describe_numbered : (o : Option DriveOptionsRead) → OptionsNumbered o → OptionsNumbered (option_and_then with_no_describe o)
no_describe_numbered None h = tt
no_describe_numbered (Some r) h = by r.no_describe
  where
    by : (b : Bool) → OptionsNumbered (cond b None (Some (record r { no_describe = true })))
    by true = tt
    by false = h

keep_numbered : (o : Option DriveOptionsRead) → OptionsNumbered o → OptionsNumbered (option_and_then with_keep o)
keep_numbered None h = tt
keep_numbered (Some r) h = by r.keep
  where
    by : (b : Bool) → OptionsNumbered (cond b None (Some (record r { keep = true })))
    by true = tt
    by false = h

either_numbered : (b : Bool) (x y : Option DriveOptionsRead) → OptionsNumbered x → OptionsNumbered y → OptionsNumbered (cond b x y)
either_numbered true x y h k = h
either_numbered false x y h k = k

mutual
  unfolding drive_options_read

  options_numbered : (ws : List (List ℕ)) → OptionsNumbered (drive_options_read ws)
  options_numbered [] = tt
  options_numbered (w ∷ ws) =
      either_numbered (bytes_eq w (codes "--drive")) _ _ (after_numbered ws)
      (either_numbered (bytes_eq w (codes "--no-describe")) _ _ (no_describe_numbered (drive_options_read ws) (options_numbered ws))
      (either_numbered (bytes_eq w (codes "--keep")) _ _ (keep_numbered (drive_options_read ws) (options_numbered ws))
      (either_numbered (is_option w) _ _ tt tt)))

  after_numbered : (ws : List (List ℕ)) → OptionsNumbered (numbered_options ws)
  after_numbered [] = tt
  after_numbered (w ∷ ws) = drive_in_numbered (drive_in w) (drive_options_read ws) (as_drive_numbered (number_of w))

-- COMMANDS

abbrev ReadNumbered : Result DriveCommand PlanError → Type 0
ReadNumbered r = IfOk r (λ c. Numbered (given_drive c))

either_read : (b : Bool) (x y : Result DriveCommand PlanError) → ReadNumbered x → ReadNumbered y → ReadNumbered (cond b x y)
either_read true x y h k = h
either_read false x y h k = k

hook_rest : (drive : Option ℕ) (describe : Bool) (ws : List (List ℕ)) → Numbered drive → ReadNumbered (hook_after drive describe ws)
hook_rest drive describe [] h = tt
hook_rest drive describe (uri ∷ []) h = h
hook_rest drive describe (uri ∷ second ∷ others) h = tt

hook_numbered : (o : Option DriveOptionsRead) → OptionsNumbered o → ReadNumbered (hook_of o)
hook_numbered None h = tt
hook_numbered (Some o) h = either_read o.keep (Err Usage) _ tt (hook_rest o.drive (not o.no_describe) o.rest h)

boot_rest : (drive : Option ℕ) (describe keep : Bool) (ws : List (List ℕ)) → Numbered drive → ReadNumbered (boot_after drive describe keep ws)
boot_rest drive describe keep [] h = h
boot_rest drive describe keep (uri ∷ []) h = h
boot_rest drive describe keep (uri ∷ second ∷ others) h = tt

boot_numbered : (o : Option DriveOptionsRead) → OptionsNumbered o → ReadNumbered (boot_of o)
boot_numbered None h = tt
boot_numbered (Some o) h = boot_rest o.drive (not o.no_describe) o.keep o.rest h

unhook_rest : (drive : Option ℕ) (ws : List (List ℕ)) → Numbered drive → ReadNumbered (unhook_after drive ws)
unhook_rest drive [] h = h
unhook_rest drive (word ∷ others) h = tt

unhook_numbered : (o : Option DriveOptionsRead) → OptionsNumbered o → ReadNumbered (unhook_of o)
unhook_numbered None h = tt
unhook_numbered (Some o) h = either_read (o.keep || o.no_describe) (Err Usage) _ tt (unhook_rest o.drive o.rest h)

named_numbered : (name : DriveCommandName) (ws : List (List ℕ)) → ReadNumbered (drive_named_read name ws)
named_numbered Sanhook ws = hook_numbered (drive_options_read ws) (options_numbered ws)
named_numbered Sanboot ws = boot_numbered (drive_options_read ws) (options_numbered ws)
named_numbered Sanunhook ws = unhook_numbered (drive_options_read ws) (options_numbered ws)

where_numbered : (o : Option DriveCommandName) (ws : List (List ℕ)) → ReadNumbered (drive_read_where o ws)
where_numbered None ws = tt
where_numbered (Some name) ws = named_numbered name ws

read_numbered : (ws : List (List ℕ)) → ReadNumbered (drive_command ws)
unfolding drive_command
read_numbered [] = tt
read_numbered (name ∷ ws) = where_numbered (drive_command_named name) ws

-- the number that the words of a command give, if they give one, is one
pub command_numbered : (ws : List (List ℕ)) (c : DriveCommand) → drive_command ws ≡ Ok c → IfSome (given_drive c) IsDriveNumber
command_numbered ws c is = subst (λ (r : Result DriveCommand PlanError). ReadNumbered r) is (read_numbered ws)
