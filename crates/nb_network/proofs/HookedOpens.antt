-- What is kept of opens is what a boot table may say of those of the machine's.
use Rattle.std.proofs.Common.{◌≡◌, ℕ, ◌==◌, Bool, true, false, cond, List, [], ◌∷◌, Option, Some, None, find, option_map, refl, sym, ◌∙◌, ap}
use Rattle.std.specs.Prelude.{option_and_then, unwrap_or}
use Rattle.std.specs.List.{cons_option, filter_map}
use Rattle.std.specs.Option.{is_some, option_map_or}
use Rattle.nb_command.specs.SettingAddresses.{host}
use Rattle.nb_drivelogin.specs.DriveOpens.{DriveOpen}
use Rattle.nb_graph.specs.Whole.{Objects}
use Rattle.nb_login.specs.declared.info.LoginInfo.{LoginInfo}
use Rattle.nb_nodes.specs.declared.obj.Obj.{Obj}
use Rattle.nb_machine.specs.BootTables.{drive_open_by, drive_open_of, login_of_kind}
use Rattle.nb_machine.specs.Drives.{DriveAnswer, last_read}
use Rattle.nb_machine.specs.Kinds.{answered, read_last}
use Rattle.nb_machine.specs.Lives.{Live}
use Rattle.nb_machine.specs.Scripts.{has_number}
use Rattle.nb_open.specs.declared.objects.OpenObjects.{OpenObjects}
use Rattle.nb_open.specs.declared.objects.OpenObjects.TheVariants as objects
use Rattle.nb_open.specs.Open.{AreOfKind, AreUnderWay}
use Rattle.nb_teller.specs.declared.speaker.Speaker.{Speaker}
use Rattle.nb_network.specs.declared.living.KeptDrive.{KeptDrive}
use Rattle.nb_network.specs.declared.living.Living.{Living}
use Rattle.nb_network.specs.Drives.{drive_of, has_answered, kept_drive_of, last_read_by}
use Rattle.nb_network.specs.Hooked.{hooked_as, hooked_by, hooked_with}
use Rattle.nb_network.specs.Many.{AreOpensOf, IsLivingOf}
use Rattle.nb_network.proofs.Hearing.{drive_kind, no_answer, no_login, some_chap, web_login}
use Rattle.nb_network.proofs.Keeping.{chap_in}

-- ONE

chap_is : (a : Option DriveAnswer) → unwrap_or (chap_in a) 0 ≡ option_map_or (λ (x : DriveAnswer). x.chap) a 0
chap_is None = refl
chap_is (Some a) = refl

-- of a drive
same_drive : (who : Speaker) (port : ℕ) (l : Live) (i : LoginInfo) → l.number ≡ who.number → l.server ≡ who.server.0 → port ≡ l.port → hooked_with who port (kept_drive_of l i) ≡ drive_open_by l i
same_drive who port l i number server asked =
    ap (λ n. (let d : DriveOpen = record { number = n; server = who.server; port = port; chap = unwrap_or (chap_in (answered l)) 0; login = i } in d)) (sym number)
    ∙ (ap (λ n. (let d : DriveOpen = record { number = l.number; server = host n; port = port; chap = unwrap_or (chap_in (answered l)) 0; login = i } in d)) (sym server)
    ∙ (ap (λ n. (let d : DriveOpen = record { number = l.number; server = host l.server; port = n; chap = unwrap_or (chap_in (answered l)) 0; login = i } in d)) asked
    ∙ ap (λ n. (let d : DriveOpen = record { number = l.number; server = host l.server; port = l.port; chap = n; login = i } in d)) (chap_is (answered l))))

module _ (g : Objects Obj) (who : Speaker) (l : Live) (number : l.number ≡ who.number) (server : l.server ≡ who.server.0) where
  hooked_of : (os : OpenObjects) → AreOfKind os l → AreUnderWay os g l → hooked_as os who (drive_of l) ≡ drive_open_of l
  hooked_of (objects.Chain kind chain) called u = sym (ap (option_map (drive_open_by l)) (no_login l.kind called.0))
  hooked_of (objects.Web port own chain) called u = sym (ap (option_map (drive_open_by l)) (web_login l.kind own chain g l u))
  hooked_of (objects.Drive port own chain) called u =
      let d = drive_kind l.kind own chain g l u in
      ap (λ k. option_map (hooked_with who port) (option_map (kept_drive_of l) (login_of_kind k))) d.2
      ∙ (ap Some (same_drive who port l d.1 number server called.1) ∙ sym (ap (λ k. option_map (drive_open_by l) (login_of_kind k)) d.2))

hooked_is : (g : Objects Obj) (o : Living) (l : Live) → IsLivingOf g o l → hooked_by o ≡ drive_open_of l
hooked_is g o l is = ap (hooked_as o.objects o.speaker) is.drive ∙ hooked_of g o.speaker l is.called.number is.called.server o.objects is.called.kind is.under_way

answered_by_login : (l : Live) (login : Option LoginInfo) → login_of_kind l.kind ≡ login → is_some (option_and_then (λ (d : KeptDrive). d.chap) (drive_of l)) ≡ is_some (answered l)
answered_by_login l None e = ap (λ z. is_some (option_and_then (λ (d : KeptDrive). d.chap) (option_map (kept_drive_of l) z))) e ∙ sym (ap is_some (no_answer l.kind l e))
answered_by_login l (Some i) e = ap (λ z. is_some (option_and_then (λ (d : KeptDrive). d.chap) (option_map (kept_drive_of l) z))) e ∙ some_chap (answered l)

answers_as : (g : Objects Obj) (o : Living) (l : Live) → IsLivingOf g o l → has_answered o ≡ is_some (answered l)
answers_as g o l is = ap (λ z. is_some (option_and_then (λ (d : KeptDrive). d.chap) z)) is.drive ∙ answered_by_login l (login_of_kind l.kind) refl

read_by_login : (l : Live) (login : Option LoginInfo) → login_of_kind l.kind ≡ login → option_and_then (λ (d : KeptDrive). d.read) (drive_of l) ≡ read_last l
read_by_login l None e = ap (λ z. option_and_then (λ (d : KeptDrive). d.read) (option_map (kept_drive_of l) z)) e ∙ sym (ap (option_and_then last_read) (no_answer l.kind l e))
read_by_login l (Some i) e = ap (λ z. option_and_then (λ (d : KeptDrive). d.read) (option_map (kept_drive_of l) z)) e

reads_as : (g : Objects Obj) (o : Living) (l : Live) → IsLivingOf g o l → last_read_by o ≡ read_last l
reads_as g o l is = ap (option_and_then (λ (d : KeptDrive). d.read)) is.drive ∙ read_by_login l (login_of_kind l.kind) refl

-- ALL

pub hooked_are : (g : Objects Obj) (os : List Living) (ls : List Live) → AreOpensOf g os ls → filter_map hooked_by os ≡ filter_map drive_open_of ls
hooked_are g [] [] are = refl
hooked_are g [] (l ∷ ls) are = absurd are
hooked_are g (o ∷ os) [] are = absurd are
hooked_are g (o ∷ os) (l ∷ ls) are = ap (λ x. cons_option x (filter_map hooked_by os)) (hooked_is g o l are.0) ∙ ap (cons_option (drive_open_of l)) (hooked_are g os ls are.1)

abbrev pub has_some_answered : Option Living → Bool
has_some_answered None = false
has_some_answered (Some o) = has_answered o

-- the one of a number
pub found_answered : (k : ℕ) (g : Objects Obj) (os : List Living) (ls : List Live) → AreOpensOf g os ls → has_some_answered (find (λ o. o.speaker.number == k) os) ≡ is_some (option_and_then answered (find (has_number k) ls))
found_answered k g [] [] are = refl
found_answered k g [] (l ∷ ls) are = absurd are
found_answered k g (o ∷ os) [] are = absurd are
found_answered k g (o ∷ os) (l ∷ ls) are = ap (λ z. has_some_answered (cond z (Some o) (find (λ (p : Living). p.speaker.number == k) os))) here ∙ on (l.number == k) (found_answered k g os ls are.1)
  where
    here : (o.speaker.number == k) ≡ (l.number == k)
    here = ap (λ n. n == k) (sym are.0.called.number)

    on : (z : Bool) → has_some_answered (find (λ (p : Living). p.speaker.number == k) os) ≡ is_some (option_and_then answered (find (has_number k) ls))
        → has_some_answered (cond z (Some o) (find (λ (p : Living). p.speaker.number == k) os)) ≡ is_some (option_and_then answered (cond z (Some l) (find (has_number k) ls)))
    on true e = answers_as g o l are.0
    on false e = e

pub found_read : (k : ℕ) (g : Objects Obj) (os : List Living) (ls : List Live) → AreOpensOf g os ls → option_and_then last_read_by (find (λ o. o.speaker.number == k) os) ≡ option_and_then read_last (find (has_number k) ls)
found_read k g [] [] are = refl
found_read k g [] (l ∷ ls) are = absurd are
found_read k g (o ∷ os) [] are = absurd are
found_read k g (o ∷ os) (l ∷ ls) are = ap (λ z. option_and_then last_read_by (cond z (Some o) (find (λ (p : Living). p.speaker.number == k) os))) here ∙ on (l.number == k) (found_read k g os ls are.1)
  where
    here : (o.speaker.number == k) ≡ (l.number == k)
    here = ap (λ n. n == k) (sym are.0.called.number)

    on : (z : Bool) → option_and_then last_read_by (find (λ (p : Living). p.speaker.number == k) os) ≡ option_and_then read_last (find (has_number k) ls)
        → option_and_then last_read_by (cond z (Some o) (find (λ (p : Living). p.speaker.number == k) os)) ≡ option_and_then read_last (cond z (Some l) (find (has_number k) ls))
    on true e = reads_as g o l are.0
    on false e = e
