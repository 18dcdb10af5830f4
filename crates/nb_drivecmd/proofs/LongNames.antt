-- A text that is too long as a URI names no disk, unless it is too long by itself.
use Rattle.std.proofs.Common.{◌≡◌, ℕ, ◌≤◌, Bool, true, false, cond, List, length, drop, Option, Some, None, Result, Ok, Err, refl, sym, ap, ◌∙◌, le-ltb}
use Rattle.std.specs.Str.{is_utf8}
use Rattle.nb_uri.specs.declared.target.UriTarget.{UriTarget}
use Rattle.nb_uri.specs.declared.target.UriTarget.TheVariants.{Iscsi}
use Rattle.nb_uri.specs.declared.target.UriError.{UriError}
use Rattle.nb_uri.specs.declared.target.UriError.TheVariants.{BadUri, TooLong}
use Rattle.nb_uri.specs.IscsiNames.{IscsiTarget, is_iscsi, iscsi_target}
use Rattle.nb_uri.specs.Resolutions.{disk_target, url_target, url_of, resolution}

fits : (text : List ℕ) (disk : IscsiTarget) → length text ≤ 16384 → disk_target text (Some disk) ≡ Ok (Iscsi disk.server disk.port disk.lun disk.target text)
fits text disk few = ap (λ b. cond b (Err TooLong) (Ok (Iscsi disk.server disk.port disk.lun disk.target text))) (le-ltb 16384 (length text) few)

no_long_disk : (text : List ℕ) (disk : Option IscsiTarget) → length text ≤ 16384 → disk_target text disk ≡ Err TooLong → ⊥
no_long_disk text None few is = cc
no_long_disk text (Some disk) few is = let same = sym (fits text disk few) ∙ is in cc

by_cases : (text : List ℕ) (disk : Option IscsiTarget) (other : Result UriTarget UriError) (u i : Bool) → length text ≤ 16384 → cond u (cond i (disk_target text disk) other) (Err BadUri) ≡ Err TooLong → i ≡ false
by_cases text disk other true true few is = absurd (no_long_disk text disk few is)
by_cases text disk other true false few is = refl
by_cases text disk other false i few is = absurd (let z = is in cc)

pub long_is_no_disk : (base : Option (List ℕ)) (text : List ℕ) → length text ≤ 16384 → resolution base text ≡ Err TooLong → is_iscsi text ≡ false
unfolding resolution
long_is_no_disk base text few is = by_cases text (iscsi_target (drop 6 text)) (url_target (url_of base text)) (is_utf8 text) (is_iscsi text) few is
