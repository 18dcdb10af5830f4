-- Kinds by their names.
use Rattle.std.proofs.Common.{◌≡◌, ℕ, List, Some, true, refl}
use Rattle.std.specs.Str.{bytes_eq}
use Rattle.std.proofs.lemmas.Slice.Eq.{bytes_eq-Decides}
use Rattle.nb_settings.specs.declared.kind.Kind.{Kind}
use Rattle.nb_settings.specs.declared.kind.Kind.TheVariants.{Str, Ipv4, Int8, Int16, Int32, Uint8, Uint16, Uint32, Hex, Hexhyp, Hexraw, Base64, Uuid, Uristring}
use Rattle.nb_settings.specs.Kinds.{all_kinds, kind_name, kind_named}
use Rattle.nb_settings.proofs.FindLemmas.{find-passes}
use Rattle.nb_settings.proofs.CutLemmas.{has_no}

-- a kind's name names it
pub kind_named-name : (kind : Kind) → kind_named (kind_name kind) ≡ Some kind
unfolding kind_named
kind_named-name Str = refl
kind_named-name Ipv4 = refl
kind_named-name Int8 = refl
kind_named-name Int16 = refl
kind_named-name Int32 = refl
kind_named-name Uint8 = refl
kind_named-name Uint16 = refl
kind_named-name Uint32 = refl
kind_named-name Hex = refl
kind_named-name Hexhyp = refl
kind_named-name Hexraw = refl
kind_named-name Base64 = refl
kind_named-name Uuid = refl
kind_named-name Uristring = refl

-- and nothing else does
pub kind_named-some : (name : List ℕ) (kind : Kind) → kind_named name ≡ Some kind → name ≡ kind_name kind
unfolding kind_named
kind_named-some name kind is =
    (bytes_eq-Decides name (kind_name kind)).0 (find-passes (λ (k : Kind). bytes_eq name (kind_name k)) all_kinds kind is)

-- no name of a kind has a slash
pub kind_name-no_slash : (kind : Kind) → has_no 47 (kind_name kind) ≡ true
kind_name-no_slash Str = refl
kind_name-no_slash Ipv4 = refl
kind_name-no_slash Int8 = refl
kind_name-no_slash Int16 = refl
kind_name-no_slash Int32 = refl
kind_name-no_slash Uint8 = refl
kind_name-no_slash Uint16 = refl
kind_name-no_slash Uint32 = refl
kind_name-no_slash Hex = refl
kind_name-no_slash Hexhyp = refl
kind_name-no_slash Hexraw = refl
kind_name-no_slash Base64 = refl
kind_name-no_slash Uuid = refl
kind_name-no_slash Uristring = refl
