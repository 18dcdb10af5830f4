-- What a boot table says has short texts where its logins have.
use Rattle.std.proofs.Common.{◌≡◌, ℕ, ◌≤◌, ◌==◌, Bool, true, false, not, List, [], ◌∷◌, length, map, Option, Some, None, sym, subst, arith}
use Rattle.std.proofs.Math.Logic.{⊎_elim}
use Rattle.std.proofs.lemmas.Bool.{cases_Bool}
use Rattle.std.proofs.lemmas.List.Elements.{All-head, All-tail}
use Rattle.uuid.specs.Text.{hyphenated_text, lower}
use Rattle.uuid.proofs.TextLemmas.{by_index_length}
use Rattle.nb_wire.specs.declared.address.Mac.{Mac}
use Rattle.nb_settings.specs.declared.kind.Kind.TheVariants.{Uuid}
use Rattle.nb_settings.specs.declared.setting.OwnedKey.TheVariants.{Tag}
use Rattle.nb_settings.specs.Tables.{TableLists, SettingValue}
use Rattle.nb_expand.specs.Printing.{printed, printed_uuid}
use Rattle.nb_expand.specs.Values.{value_text}
use Rattle.nb_ibft.specs.Infos.{Info, AreShortTexts, HasShortTexts, IsShortText, targets_texts}
use Rattle.nb_drivelogin.specs.DriveLogins.{FitsTable, setting_text}
use Rattle.nb_drivelogin.specs.DriveOpens.{DriveOpen}
use Rattle.nb_drivelogin.specs.DriveInfos.{LoginsFit, drive_target, info_with, used}

hyphenated_short : (bytes : List ℕ) → length (printed_uuid bytes) ≤ 36
hyphenated_short bytes = ⊎_elim
    (λ on. let long : length (hyphenated_text lower bytes) ≡ 36 = by_index_length 36 _ in rw on (omega arith))
    (λ off. rw off (omega arith))
    (cases_Bool (length bytes == 16))

-- a UUID as it is printed
pub uuid_short : (value : Option SettingValue) → length (value_text (Some Uuid) value) ≤ 36
unfolding printed
uuid_short None = omega arith
uuid_short (Some value) = hyphenated_short value.bytes

used_short : (b : Bool) (text : List ℕ) → IsShortText text → IsShortText (used b text)
used_short true text short = short
used_short false text short = omega arith

targets_short : (opens : List DriveOpen) → LoginsFit opens → AreShortTexts (targets_texts (map drive_target opens))
targets_short [] fits = tt
targets_short (one ∷ opens) fits =
    let here : FitsTable one.login = All-head (λ o. FitsTable o.login) one opens fits in
    let one_way = used_short (not (one.chap == 0)) in
    let both_ways = used_short (one.chap == 2) in
    let user = one_way one.login.user here.1.1.0 in
    let secret = one_way one.login.secret here.1.1.1.0 in
    let reverse_user = both_ways one.login.reverse_user here.1.1.1.1.0 in
    let reverse_secret = both_ways one.login.reverse_secret here.1.1.1.1.1.0 in
    (here.1.0, (user, (secret, (reverse_user, (reverse_secret, targets_short opens (All-tail (λ o. FitsTable o.login) one opens fits))))))

-- what is said where the drives have such logins
pub info_short : (info : Info) (mac : Mac) (table : TableLists) (lowest : DriveOpen) (others : List DriveOpen) → info ≡ info_with mac table lowest (lowest ∷ others)
    → length info.host ≤ 1024 → LoginsFit (lowest ∷ others) → HasShortTexts info
info_short info mac table lowest others is host fits =
    let few : length (setting_text (Tag 12) table) ≤ 1024 = subst (λ (i : Info). length i.host ≤ 1024) is host in
    let first : FitsTable lowest.login = All-head (λ o. FitsTable o.login) lowest others fits in
    subst HasShortTexts (sym is) (first.0, (omega arith, targets_short (lowest ∷ others) fits))
