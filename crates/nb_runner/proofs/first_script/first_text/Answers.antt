use Rattle.std.proofs.Common.{◌≡◌, ℕ, List, [], ◌∷◌, length, refl, sym, ◌∙◌, arith}
use Rattle.std.proofs.lemmas.Bool.{eqb-true}
use Rattle.nb_machine.specs.FirstText.{built_in}
use Rattle.nb_runner.proofs.first_script.first_text.Goals as goal

no_bytes : (bytes : List ℕ) → length bytes ≡ 0 → bytes ≡ []
no_bytes [] h = refl
no_bytes (b ∷ bytes) h = absurd (omega (arith, h))

pub returns-then-is_empty : goal.returns-then-is_empty
unfolding built_in
returns-then-is_empty c =
    let none : c.args.given.now ≡ [] = no_bytes c.args.given.now (eqb-true (length c.args.given.now) 0 (sym c.is_empty.ensures ∙ c.if-is_empty.true)) in
    rw none refl
