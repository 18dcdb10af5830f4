use Rattle.std.proofs.Common.{◌≡◌, ℕ, List, length, Option, Some, None, refl, ◌∙◌}
use Rattle.std.proofs.lemmas.Bool.{false≢true}
use Rattle.uuid.specs.Text.{parsed, parsed_hyphenated}
use Rattle.nb_expand.proofs.parsing.parse_uuid.Goals as goal

-- 36 characters are read as the hyphenated form alone
parsed_at_36 : (text : List ℕ) → length text ≡ 36 → parsed text ≡ parsed_hyphenated text
parsed_at_36 text h = rw h refl

nothing : (o : Option (List ℕ)) → ((bytes : List ℕ) → o ≡ Some bytes → ⊥) → o ≡ None
nothing None never = refl
nothing (Some bytes) never = absurd (never bytes refl)

pub returns-in-Err-clause-bad_value : goal.returns-in-Err-clause-bad_value
returns-in-Err-clause-bad_value c = λ _.
    let text = c.args.text.now in
    let long : length text ≡ 36 = c.if-text-ne36.false in
    nothing (parsed_hyphenated text) (λ bytes some. false≢true (c.in-Err.ensures.ok.1 (bytes, parsed_at_36 text long ∙ some)))
