-- The opens of described drives, found one by one.
use Rattle.std.proofs.Common.{◌≡◌, ℕ, ◌≤◌, ◌==◌, Bool, true, false, cond, List, [], ◌∷◌, length, map, Option, Some, None, refl, ap, ◌∙◌, arith}
use Rattle.std.specs.Prelude.{find, filter_map, slice_get, option_map, option_and_then, IfSome}
use Rattle.std.specs.List.{cons_option}
use Rattle.std.proofs.lemmas.List.Elements.{All-cons, All-head, All-tail}
use Rattle.nb_drivecmd.specs.declared.drive.Drive.{Drive}
use Rattle.nb_drivecmd.specs.HookedDrives.{described_drives}
use Rattle.nb_drivelogin.specs.declared.hooked.HookedOpen.{HookedOpen}
use Rattle.nb_drivelogin.specs.DriveOpens.{DriveOpen, drive_open, is_drive_open, open_numbered, described_opens}
use Rattle.nb_drivelogin.specs.DriveInfos.{LoginsFit}
use Rattle.nb_drivelogin.specs.DriveLogins.{FitsTable}
use Rattle.nb_drivelogin.specs.Described.{described_by, described_open}

abbrev Fits : DriveOpen → Type 0
Fits one = FitsTable one.login

found_at : (b : Bool) (one : HookedOpen) (r : Option HookedOpen) (s : Option DriveOpen) → s ≡ option_map drive_open r → cond b (Some (drive_open one)) s ≡ option_map drive_open (cond b (Some one) r)
found_at true one r s e = refl
found_at false one r s e = e

-- the open of a number is found where it is lent
pub found_open : (number : ℕ) (opens : List HookedOpen) → find (is_drive_open number) (map drive_open opens) ≡ option_map drive_open (find (λ one. one.number == number) opens)
found_open number [] = refl
found_open number (one ∷ opens) = found_at (one.number == number) one _ _ (found_open number opens)

kept_at : (b : Bool) (f : Drive → Option DriveOpen) (drive : Drive) (drives : List Drive) → filter_map f (cond b (drive ∷ drives) drives) ≡ cons_option (cond b (f drive) None) (filter_map f drives)
kept_at true f drive drives = refl
kept_at false f drive drives = refl

described_more : (opens : List DriveOpen) (drive : Drive) (drives : List Drive) → described_opens (drive ∷ drives) opens ≡ cons_option (described_open opens drive) (described_opens drives opens)
unfolding described_opens
described_more opens drive drives = kept_at drive.described (λ d. open_numbered d.open_number opens) drive _

-- of at most two drives they are those of the first and of the second
pub few_described : (opens : List DriveOpen) (drives : List Drive) → length drives ≤ 2
    → described_opens drives opens ≡ described_by (option_and_then (described_open opens) (slice_get drives 0)) (option_and_then (described_open opens) (slice_get drives 1))
unfolding described_opens
few_described opens [] few = refl
few_described opens (one ∷ []) few = described_more opens one []
few_described opens (one ∷ two ∷ []) few =
    described_more opens one (two ∷ []) ∙ ap (cons_option (described_open opens one)) (described_more opens two [])
few_described opens (one ∷ two ∷ three ∷ drives) few = absurd (omega arith)

-- WHAT HOLDS OF ALL OPENS HOLDS OF THESE

kept_fit : (b : Bool) (one : DriveOpen) (o : Option DriveOpen) → FitsTable one.login → IfSome o Fits → IfSome (cond b (Some one) o) Fits
kept_fit true one o here rest = here
kept_fit false one o here rest = rest

numbered_fit : (number : ℕ) (opens : List DriveOpen) → LoginsFit opens → IfSome (open_numbered number opens) Fits
numbered_fit number [] fit = tt
numbered_fit number (one ∷ opens) fit =
    kept_fit (one.number == number) one _ (All-head Fits one opens fit) (numbered_fit number opens (All-tail Fits one opens fit))

more_fit : (o : Option DriveOpen) (opens : List DriveOpen) → IfSome o Fits → LoginsFit opens → LoginsFit (cons_option o opens)
more_fit None opens here fit = fit
more_fit (Some one) opens here fit = All-cons Fits one opens here fit

mapped_fit : (opens : List DriveOpen) (drives : List Drive) → LoginsFit opens → LoginsFit (filter_map (λ d. open_numbered d.open_number opens) drives)
mapped_fit opens [] fit = λ k d h. absurd (omega arith)
mapped_fit opens (drive ∷ drives) fit = more_fit _ _ (numbered_fit drive.open_number opens fit) (mapped_fit opens drives fit)

pub described_fit : (opens : List DriveOpen) (drives : List Drive) → LoginsFit opens → LoginsFit (described_opens drives opens)
unfolding described_opens
described_fit opens drives fit = mapped_fit opens (described_drives drives) fit
