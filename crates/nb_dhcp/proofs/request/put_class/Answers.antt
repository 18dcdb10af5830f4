use Rattle.std.proofs.Common.{◌≡◌, ◌++◌, ◌∷◌, [], ℕ, List, ◌∙◌, ap, append_assoc}
use Rattle.std.specs.Prelude.{codes}
use Rattle.std.specs.Int.{to_be_bytes, w16}
use Rattle.nb_dhcp.specs.Messages.{five_decimals}
use Rattle.nb_dhcp.proofs.request.put_class.Goals as goal

in_parts : (t a b c d e f : List ℕ) → ((((((t ++ a) ++ b) ++ c) ++ d) ++ e) ++ f) ≡ t ++ (a ++ (b ++ (c ++ (d ++ (e ++ f)))))
in_parts t a b c d e f = simp append_assoc

pub returns-clause-value : goal.returns-clause-value
returns-clause-value c =
    let arch = c.args.asker.now.arch in
    let two : List ℕ = to_be_bytes w16 arch in
    let last : c.put-6.new.to.items ≡ (((((c.args.to.now.items ++ (57 ∷ 2 ∷ 5 ∷ 220 ∷ 93 ∷ 2 ∷ [])) ++ two) ++ (94 ∷ 3 ∷ 1 ∷ 2 ∷ 1 ∷ 60 ∷ 32 ∷ [])) ++ codes "PXEClient:Arch:") ++ five_decimals arch) ++ codes ":UNDI:002001" =
    c.put-6.ensures.value ∙ ap (λ x. x ++ codes ":UNDI:002001") (c.put-5.ensures.value
    ∙ ap (λ x. c.put-4.new.to.items ++ x) c.five_decimals.ensures ∙ ap (λ x. x ++ five_decimals arch) (c.put-4.ensures.value
    ∙ ap (λ x. x ++ codes "PXEClient:Arch:") (c.put-3.ensures.value ∙ ap (λ x. x ++ (94 ∷ 3 ∷ 1 ∷ 2 ∷ 1 ∷ 60 ∷ 32 ∷ [])) (c.put-2.ensures.value
    ∙ ap (λ x. c.put.new.to.items ++ x) c.to_be_bytes.ensures ∙ ap (λ x. x ++ two) c.put.ensures.value)))) in
    last ∙ in_parts c.args.to.now.items (57 ∷ 2 ∷ 5 ∷ 220 ∷ 93 ∷ 2 ∷ []) two (94 ∷ 3 ∷ 1 ∷ 2 ∷ 1 ∷ 60 ∷ 32 ∷ []) (codes "PXEClient:Arch:") (five_decimals arch) (codes ":UNDI:002001")
