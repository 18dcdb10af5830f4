-- No name that a login sends holds a zero byte.
use Rattle.std.proofs.Common.{◌≡◌, ℕ, suc, ◌+◌, ◌==◌, Bool, true, false, not, cond, List, [], ◌∷◌, length, take, Option, Some, None, Result, Ok, Err, refl, ◌∙◌, ap, subst, sym, arith}
use Rattle.std.specs.Prelude.{◌||◌, nat_lt}
use Rattle.std.specs.List.{list_any, prefix_len}
use Rattle.std.specs.Option.{option_map_or}
use Rattle.std.proofs.lemmas.Bool.{ltb-false}
use Rattle.std.proofs.lemmas.List.{take_all}
use Rattle.nb_dhcpmsg.specs.Fields.{up_to_zero}
use Rattle.nb_login.specs.Refusals.{name_has_zero, zero_name}
use Rattle.nb_settings.specs.declared.setting.OwnedKey.TheVariants.{Sub}
use Rattle.nb_settings.specs.Tables.{TableLists}
use Rattle.nb_uri.specs.declared.target.UriTarget.{UriTarget}
use Rattle.nb_uri.specs.declared.target.UriTarget.TheVariants.{Tftp, Http, Iscsi}
use Rattle.nb_uri.specs.declared.target.UriError.{UriError}
use Rattle.nb_uri.specs.Resolutions as uri
use Rattle.nb_uri.specs.Resolutions.{resolution}
use Rattle.nb_drivecmd.specs.declared.disk_names.NamedDisk.{NamedDisk}
use Rattle.nb_drivecmd.specs.declared.error.DriveFailure.{DriveFailure}
use Rattle.nb_drivecmd.specs.declared.error.DriveFailure.TheVariants as failure
use Rattle.nb_drivecmd.specs.DiskNames.{named_disk, disk_by}
use Rattle.nb_drivelogin.specs.DriveLogins.{initiator_name, login_by, setting_text}

-- how many bytes stand before the first zero byte
abbrev before : List ℕ → ℕ
before bytes = prefix_len (λ byte. not (byte == 0)) bytes

more : (c : Bool) (b : ℕ) (bytes : List ℕ) → (b == 0) ≡ c → name_has_zero (take (before bytes) bytes) ≡ false
    → name_has_zero (take (cond (not c) (1 + before bytes) 0) (b ∷ bytes)) ≡ false
more true b bytes is rest = refl
more false b bytes is rest =
    let longer : 1 + before bytes ≡ suc (before bytes) = omega arith in
    rw longer (ap (λ (c : Bool). c || name_has_zero (take (before bytes) bytes)) is ∙ rest)

-- none of them is zero
none_before : (bytes : List ℕ) → name_has_zero (take (before bytes) bytes) ≡ false
none_before [] = refl
none_before (b ∷ bytes) = more (b == 0) b bytes refl (none_before bytes)

cut_at : (c : Bool) (n : ℕ) (bytes : List ℕ) → (c ≡ false → take n bytes ≡ bytes)
    → option_map_or (λ end. take end bytes) (cond c (Some n) None) bytes ≡ take n bytes
cut_at true n bytes all = refl
cut_at false n bytes all = sym (all refl)

-- what stands before the first zero byte holds none
pub no_zero : (bytes : List ℕ) → name_has_zero (up_to_zero bytes) ≡ false
no_zero bytes =
    let whole : (over : nat_lt (before bytes) (length bytes) ≡ false) → take (before bytes) bytes ≡ bytes =
    λ over. take_all (before bytes) bytes (ltb-false (before bytes) (length bytes) over)
    in
    ap name_has_zero (cut_at (nat_lt (before bytes) (length bytes)) (before bytes) bytes whole) ∙ none_before bytes

-- a disk that is named where its name may be sent
pub disk_is : (b : Bool) (one other : NamedDisk) → cond b (Err failure.BadUri) (Ok one) ≡ Ok other → (b ≡ false) × (one ≡ other)
disk_is true one other is = absurd (let z = is in cc)
disk_is false one other is = (refl, cc)

-- the name of a disk that a URI names holds none
named_so : (r : Result UriTarget UriError) (disk : NamedDisk) → disk_by r ≡ Ok disk → name_has_zero disk.name ≡ false
named_so (Ok (Tftp host port path whole)) disk is = absurd (let z = is in cc)
named_so (Ok (Http host port path whole)) disk is = absurd (let z = is in cc)
named_so (Ok (Iscsi host port lun name whole)) disk is =
    let one : NamedDisk = record { host = host; port = port; lun = lun; name = name } in
    let named = disk_is (uri.has_zero name) one disk is in
    subst (λ (d : NamedDisk). name_has_zero d.name ≡ false) named.1 named.0
named_so (Err why) disk is = absurd (let z = is in cc)

-- no name of the login does
pub sent_so : (base : Option (List ℕ)) (word : List ℕ) (disk : NamedDisk) (words : List ℕ) (table : TableLists) → named_disk base word ≡ Ok disk
    → zero_name (login_by disk words table) ≡ None
unfolding login_by
sent_so base word disk words table is =
    rw (no_zero (initiator_name table)) (rw (named_so (resolution base word) disk is) (rw (no_zero (setting_text (Sub 175 190) table)) refl))
