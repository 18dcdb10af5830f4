-- What a boot table says without the names and secrets that weren't used.
use Rattle.std.proofs.Common.{◌≡◌, ℕ, ◌==◌, Bool, true, false, cond, not, List, [], ◌∷◌, map, Some, refl, ap₂, arith}
use Rattle.std.proofs.lemmas.Bool.Decides.{nat_tests}
use Rattle.nb_wire.specs.declared.address.Mac.{Mac}
use Rattle.nb_ibft.specs.Infos.{Target}
use Rattle.nb_login.specs.declared.info.LoginInfo.{LoginInfo}
use Rattle.nb_settings.specs.Tables.{TableLists}
use Rattle.nb_drivelogin.specs.DriveOpens.{DriveOpen}
use Rattle.nb_drivelogin.specs.DriveInfos.{drive_info, drive_target, info_with, without_reverse, without_secrets, without_unused}

-- the login that is left, by whether CHAP was used at all, and whether both ways
abbrev left : Bool → Bool → LoginInfo → LoginInfo
left none both login = cond none (without_secrets login) (cond both login (without_reverse login))

abbrev said : Bool → Bool → DriveOpen → LoginInfo → Target
said none both o login = record {
  address = o.server.0;
  port = o.port;
  lun = login.lun;
  chap = o.chap;
  name = login.target;
  user = cond (not none) login.user [];
  secret = cond (not none) login.secret [];
  reverse_user = cond both login.reverse_user [];
  reverse_secret = cond both login.reverse_secret [];
}

same_said : (none both : Bool) (o : DriveOpen) → (none ≡ true → both ≡ false) → said none both o (left none both o.login) ≡ said none both o o.login
same_said true true o apart = absurd (let z = apart refl in cc)
same_said true false o apart = refl
same_said false true o apart = refl
same_said false false o apart = refl

not_both : (chap : ℕ) → chap == 0 ≡ true → chap == 2 ≡ false
not_both chap is = grind (arith, nat_tests)

same_target : (o : DriveOpen) → drive_target (without_unused o) ≡ drive_target o
same_target o = same_said (o.chap == 0) (o.chap == 2) o (not_both o.chap)

same_targets : (opens : List DriveOpen) → map drive_target (map without_unused opens) ≡ map drive_target opens
same_targets [] = refl
same_targets (o ∷ opens) = ap₂ (λ (x : Target) (xs : List Target). x ∷ xs) (same_target o) (same_targets opens)

same_initiator : (none both : Bool) (login : LoginInfo) → (left none both login).initiator ≡ login.initiator
same_initiator true both login = refl
same_initiator false true login = refl
same_initiator false false login = refl

pub same_info : (mac : Mac) (table : TableLists) (opens : List DriveOpen) → drive_info mac table (map without_unused opens) ≡ drive_info mac table opens
unfolding drive_info
same_info mac table [] = refl
same_info mac table (o ∷ opens) = ap₂
    (λ (name : List ℕ) (targets : List Target). Some (record (info_with mac table o []) { initiator = name; targets = targets }))
    (same_initiator (o.chap == 0) (o.chap == 2) o.login)
    (same_targets (o ∷ opens))
