-- Keys are the same where the test says so.
use Rattle.std.proofs.Common.{◌≡◌, ap, ◌∙◌, arith, true, refl}
use Rattle.std.specs.Prelude.{◌==◌}
use Rattle.std.proofs.lemmas.Bool.{eq-eqb}
use Rattle.std.proofs.lemmas.Bool.Decides.{nat_tests}
use Rattle.std.proofs.lemmas.Slice.Eq.{bytes_eq-Decides}
use Rattle.nb_settings.specs.declared.setting.OwnedKey.{OwnedKey}
use Rattle.nb_settings.specs.declared.setting.OwnedKey.TheVariants.{Tag, Sub, Free}
use Rattle.nb_settings.specs.Keys.{same_key}
use Rattle.nb_settings.proofs.FindLemmas.{both}

pub one_key : (a b : OwnedKey) → same_key a b ≡ true → a ≡ b
one_key (Tag n) (Tag m) is = let e : n ≡ m = grind (arith, nat_tests) in ap (λ x. Tag x) e
one_key (Tag n) (Sub o i) is = absurd cc
one_key (Tag n) (Free t) is = absurd cc
one_key (Sub o i) (Tag m) is = absurd cc
one_key (Sub o i) (Sub p j) is =
    let h = both (o == p) (i == j) is in
    let first : o ≡ p = grind (arith, nat_tests) in
    let second : i ≡ j = grind (arith, nat_tests) in
    ap (λ x. Sub x i) first ∙ ap (λ x. Sub p x) second
one_key (Sub o i) (Free t) is = absurd cc
one_key (Free t) (Tag m) is = absurd cc
one_key (Free t) (Sub o i) is = absurd cc
one_key (Free t) (Free u) is = ap (λ x. Free x) ((bytes_eq-Decides t u).0 is)

pub same_as_itself : (a : OwnedKey) → same_key a a ≡ true
same_as_itself (Tag n) = eq-eqb n n refl
same_as_itself (Sub o i) = rw (eq-eqb o o refl, eq-eqb i i refl) refl
same_as_itself (Free t) = (bytes_eq-Decides t t).1 refl
