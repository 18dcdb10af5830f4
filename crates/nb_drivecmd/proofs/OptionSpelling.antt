-- Options of drive commands are read as what they say.
use Rattle.std.proofs.Common.{◌≡◌, ℕ, Bool, true, false, List, [], ◌∷◌, Some, codes, refl, ap, sym, ◌∙◌}
use Rattle.std.specs.Option.{option_and_then}
use Rattle.std.specs.Str.{bytes_eq}
use Rattle.std.proofs.lemmas.Slice.Eq.{bytes_eq-Decides}
use Rattle.nb_defs.specs.Commands.{is_option}
use Rattle.nb_drivecmd.specs.DriveNumbers.{drive_in}
use Rattle.nb_drivecmd.specs.DriveOptions.{no_drive_options, with_drive_in, with_no_describe, with_keep, drive_options_read}
use Rattle.nb_drivecmd.specs.DriveOptionWords.{GivenDriveOption, drive, no_describe, keep, drive_options_spelled, drive_options_meant, BeginsNoOption}

true-false : true ≡ false → ⊥
true-false e = cc

by_test : (b : Bool) → (b ≡ true → ⊥) → b ≡ false
by_test true h = absurd (h refl)
by_test false h = refl

-- a word that is no option is none of the options
other_word : (word text : List ℕ) → is_option word ≡ false → is_option text ≡ true → bytes_eq word text ≡ false
other_word word text isnt is =
    by_test (bytes_eq word text) (λ same. true-false (sym is ∙ ap is_option (sym ((bytes_eq-Decides word text).0 same)) ∙ isnt))

rest_read : (rest : List (List ℕ)) → BeginsNoOption rest → drive_options_read rest ≡ Some (no_drive_options rest)
unfolding drive_options_read
rest_read [] h = refl
rest_read (word ∷ words) h =
    rw (other_word word (codes "--drive") h refl, other_word word (codes "--no-describe") h refl, other_word word (codes "--keep") h refl, h) refl

-- options before other words are read as what they say together
pub spelled_read : (options : List GivenDriveOption) (rest : List (List ℕ)) → BeginsNoOption rest → drive_options_read (drive_options_spelled options rest) ≡ drive_options_meant options rest
unfolding drive_options_read
spelled_read [] rest h = rest_read rest h
spelled_read (drive number ∷ options) rest h = ap (with_drive_in (drive_in number)) (spelled_read options rest h)
spelled_read (no_describe ∷ options) rest h = ap (option_and_then with_no_describe) (spelled_read options rest h)
spelled_read (keep ∷ options) rest h = ap (option_and_then with_keep) (spelled_read options rest h)
