-- The boot table that is handed off is that of the history.
use Rattle.std.proofs.Common.{◌≡◌, ℕ, ◌==◌, ◌||◌, Bool, true, false, cond, List, [], ◌∷◌, ◌++◌, map, Option, Some, None, find, refl, sym, ◌∙◌, ap, subst}
use Rattle.std.specs.Prelude.{filter_map}
use Rattle.std.specs.List.{flat_map, list_any, cons_option, AllByRecursion}
use Rattle.std.specs.Option.{option_map}
use Rattle.std.proofs.lemmas.Bool.{eqb-true}
use Rattle.nb_drivecmd.specs.declared.drive.Drive.{Drive}
use Rattle.nb_drivecmd.specs.HookedDrives.{described_drives}
use Rattle.nb_drivelogin.specs.DriveInfos.{drive_info}
use Rattle.nb_drivelogin.specs.DriveOpens.{DriveOpen, is_drive_open, open_numbered, described_opens}
use Rattle.nb_ibft.specs.Tables.{ibft}
use Rattle.nb_login.specs.declared.info.LoginInfo.{LoginInfo}
use Rattle.nb_machine.specs.BootTables.{drive_open_by, drive_open_of, login_of_kind, boot_table}
use Rattle.nb_machine.specs.Drives.{DriveAnswer}
use Rattle.nb_machine.specs.Lives.{iscsi, Live}
use Rattle.nb_machine.specs.States.{State, has_open, still_hooked}
use Rattle.nb_laws.specs.CommandsSoFar.{so_far}
use Rattle.nb_laws.specs.Drives.{sessions, answered_so_far}
use Rattle.nb_laws.specs.Events.{Event}
use Rattle.nb_laws.specs.HandOff.{drive_open_by_session, drive_open_so_far, boot_table_so_far}
use Rattle.nb_laws.specs.Lists.{hardware}
use Rattle.nb_openlaws.specs.Sessions.{session_of_live}
use Rattle.nb_openlaws.specs.Standings.{AgreesState}
use Rattle.nb_tftp.proofs.BlockLemmas.{either_way}
use Rattle.nb_lawful.specs.ScriptAgreement.{IsDriveOf, WasHooked, HasDrives}
use Rattle.nb_lawful.proofs.DriveAnswers.{TellsSettled}
use Rattle.nb_lawful.proofs.HookedLives.{all_map, some_drives, lives_so}

abbrev one_or_none : {A : Type 0} → Option A → List A
one_or_none None = []
one_or_none (Some x) = x ∷ []

one_found : (o : Option DriveOpen) (found rest : List DriveOpen) → one_or_none o ≡ found → cons_option o rest ≡ found ++ rest
one_found None found rest is = ap (λ z. z ++ rest) is
one_found (Some x) found rest is = ap (λ z. z ++ rest) is

-- what is found of each, one after another
each_found : (f : Drive → Option DriveOpen) (g : Drive → List DriveOpen) (ds : List Drive) → AllByRecursion (λ d. one_or_none (f d) ≡ g d) ds → filter_map f ds ≡ flat_map g ds
each_found f g [] h = refl
each_found f g (d ∷ ds) h = one_found (f d) (g d) (filter_map f ds) h.0 ∙ ap (λ z. g d ++ z) (each_found f g ds h.1)

-- the open of a drive, by the history
pub live_drive : (es : List Event) (l : Live) (isn : ℕ) (i : LoginInfo) → TellsSettled es l → l.kind ≡ iscsi isn i →
    map (λ s. drive_open_by_session l.number s (answered_so_far l.number s es)) (sessions l.number es) ≡ one_or_none (drive_open_of l)
live_drive es l isn i tells kind =
    let t = tells isn i kind in
    ap (map (λ s. drive_open_by_session l.number s (answered_so_far l.number s es))) t.is
    ∙ ap (λ (x : Option DriveAnswer). drive_open_by_session l.number (session_of_live l i t.boots_it) x ∷ []) t.same
    ∙ sym (ap (λ k. one_or_none (option_map (drive_open_by l) (login_of_kind k))) kind)

-- it is found among those that live
found_drive : (es : List Event) (d : Drive) (ls : List Live) → AllByRecursion (TellsSettled es) ls → AllByRecursion (IsDriveOf d) ls → list_any (λ (l : Live). l.number == d.open_number) ls ≡ true →
    one_or_none (open_numbered d.open_number (filter_map drive_open_of ls)) ≡ drive_open_so_far es d
found_drive es d [] a h some = absurd (let clash : false ≡ true = some in cc clash)
found_drive es d (l ∷ ls) a h some = either_way (l.number == d.open_number) here (there (found_drive es d ls a.1 h.1))
  where
    here : (l.number == d.open_number) ≡ true → one_or_none (open_numbered d.open_number (filter_map drive_open_of (l ∷ ls))) ≡ drive_open_so_far es d
    here is =
        let same = eqb-true l.number d.open_number is in
        let (isn, i, kind) = h.0 same in
        ap (λ k. one_or_none (find (is_drive_open d.open_number) (cons_option (option_map (drive_open_by l) (login_of_kind k)) (filter_map drive_open_of ls)))) kind
        ∙ ap (λ b. one_or_none (cond b (Some (drive_open_by l i)) (find (is_drive_open d.open_number) (filter_map drive_open_of ls)))) is
        ∙ sym (ap (λ k. one_or_none (option_map (drive_open_by l) (login_of_kind k))) kind)
        ∙ sym (live_drive es l isn i a.0 kind)
        ∙ ap (λ k. map (λ s. drive_open_by_session k s (answered_so_far k s es)) (sessions k es)) same

    skipped : (o : Option LoginInfo) → (l.number == d.open_number) ≡ false → find (is_drive_open d.open_number) (cons_option (option_map (drive_open_by l) o) (filter_map drive_open_of ls)) ≡ find (is_drive_open d.open_number) (filter_map drive_open_of ls)
    skipped None other = refl
    skipped (Some i) other = ap (λ b. cond b (Some (drive_open_by l i)) (find (is_drive_open d.open_number) (filter_map drive_open_of ls))) other

    later : (b : Bool) {c : Bool} → b ≡ false → (b || c) ≡ true → c ≡ true
    later true {c} e g = absurd (let clash : true ≡ false = e in cc clash)
    later false {c} e g = g

    there : (list_any (λ (x : Live). x.number == d.open_number) ls ≡ true → one_or_none (open_numbered d.open_number (filter_map drive_open_of ls)) ≡ drive_open_so_far es d) → (l.number == d.open_number) ≡ false → one_or_none (open_numbered d.open_number (filter_map drive_open_of (l ∷ ls))) ≡ drive_open_so_far es d
    there rest other = ap one_or_none (skipped (login_of_kind l.kind) other) ∙ rest (later (l.number == d.open_number) other some)

-- a drive that a state has, and its open
abbrev IsThere : State → Drive → Type 0
IsThere s d = (has_open s.live d ≡ true) × WasHooked s d

kept_one : (s : State) (d : Drive) (ds : List Drive) (b : Bool) → has_open s.live d ≡ b → WasHooked s d → AllByRecursion (IsThere s) ds → AllByRecursion (IsThere s) (cond b (d ∷ ds) ds)
kept_one s d ds true is w h = ((is, w), h)
kept_one s d ds false is w h = h

kept_there : (s : State) (ds : List Drive) → AllByRecursion (WasHooked s) ds → AllByRecursion (IsThere s) (still_hooked s.live ds)
kept_there s [] h = tt
kept_there s (d ∷ ds) h = kept_one s d (still_hooked s.live ds) (has_open s.live d) refl h.0 (kept_there s ds h.1)

pub table_same : (es : List Event) (s : State) → AgreesState es s → HasDrives (so_far es) s → AllByRecursion (TellsSettled es) s.live → (so_far es).table ≡ s.table → boot_table_so_far es ≡ boot_table s
unfolding boot_table_so_far boot_table described_opens
table_same es s a h settled table =
    let there = subst (AllByRecursion (IsThere s)) (sym h.are) (kept_there s (so_far es).hooked h.were) in
    let opens = each_found (λ d. open_numbered d.open_number (filter_map drive_open_of s.live)) (drive_open_so_far es) (described_drives s.drives)
    (some_drives _ (λ d. d.described) s.drives (all_map (IsThere s) (λ d. one_or_none (open_numbered d.open_number (filter_map drive_open_of s.live)) ≡ drive_open_so_far es d) s.drives (λ d x. found_drive es d s.live settled x.1.is_drive x.0) there)) in
    ap (λ ds. option_map ibft (drive_info (hardware es).mac (so_far es).table (flat_map (drive_open_so_far es) (described_drives ds)))) (lives_so es s a h)
    ∙ ap (λ z. option_map ibft (drive_info (hardware es).mac (so_far es).table z)) (sym opens)
    ∙ ap (λ t. option_map ibft (drive_info (hardware es).mac t (filter_map (λ d. open_numbered d.open_number (filter_map drive_open_of s.live)) (described_drives s.drives)))) table
    ∙ ap (λ m. option_map ibft (drive_info m s.table (filter_map (λ d. open_numbered d.open_number (filter_map drive_open_of s.live)) (described_drives s.drives)))) a.mac_is
