-- A path without a zero byte, by the test of each byte.
use Rattle.std.proofs.Common.{◌≡◌, ℕ, ◌&&◌, Bool, true, false, List, [], ◌∷◌, refl, nat_lt, nat_le, length, ◌≤◌}
use Rattle.std.proofs.lemmas.Bool.{ltb-true, leb-true}
use Rattle.std.specs.List.{list_all}
use Rattle.nb_tftpmsg.specs.Texts.{HasNoZero}
use Rattle.nb_nodes.specs.Asking.{is_nonzero, is_path}

and_left : (a b : Bool) → (a && b) ≡ true → a ≡ true
and_left true b h = refl
and_left false b h = h

and_right : (a b : Bool) → (a && b) ≡ true → b ≡ true
and_right true b h = h
and_right false b h = absurd (let z = h in cc)

pub no_zero : (path : List ℕ) → list_all is_nonzero path ≡ true → HasNoZero path
no_zero [] h = tt
no_zero (b ∷ path) h = (ltb-true 0 b (and_left (nat_lt 0 b) (list_all is_nonzero path) h), no_zero path (and_right (nat_lt 0 b) (list_all is_nonzero path) h))

pub path_clean : (path : List ℕ) → is_path path ≡ true → HasNoZero path
path_clean path h = no_zero path (and_right (nat_le (length path) 1024) (list_all is_nonzero path) h)

pub path_short : (path : List ℕ) → is_path path ≡ true → length path ≤ 1024
path_short path h = leb-true (length path) 1024 (and_left (nat_le (length path) 1024) (list_all is_nonzero path) h)
