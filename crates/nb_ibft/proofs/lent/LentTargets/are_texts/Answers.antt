use Rattle.std.proofs.Common.{◌≡◌, ℕ, List, [], ◌∷◌, ◌++◌, ap, ◌∙◌, sym}
use Rattle.nb_ibft.specs.Infos.{Target, target_texts, targets_texts}
use Rattle.nb_ibft.specs.Tables.{texts_joined}
use Rattle.nb_ibft.specs.Views.{lent_target, lent_targets}
use Rattle.nb_ibft.proofs.TextLemmas.{joined-append, ends_there}
use Rattle.nb_ibft.proofs.lent.LentTargets.are_texts.Goals as goal

pub returns-in-One : goal.returns-in-One
returns-in-One c =
    let one : List ℕ = texts_joined (target_texts (lent_target c.in-One.one)) in
    let all : texts_joined (targets_texts (lent_targets c.args.self.now)) ≡ one = ap (λ s. texts_joined (targets_texts (lent_targets s))) c.in-One.is in
    let e = ends_there c.args.bytes.now one c.after_texts.result c.after_texts.ensures.sound c.after_texts.ensures.complete in
    (λ h. e.0 (c.is_end.ensures.0 h) ∙ sym all, λ h. c.is_end.ensures.1 (e.1 (h ∙ all)))

-- the texts of two disks
both : (t u : Target) → texts_joined (targets_texts (t ∷ u ∷ [])) ≡ texts_joined (target_texts t) ++ texts_joined (target_texts u)
both t u = joined-append (target_texts t) (target_texts u)

pub returns-in-Some : goal.returns-in-Some
returns-in-Some c =
    let one : List ℕ = texts_joined (target_texts (lent_target c.in-Two.one)) in
    let two : List ℕ = texts_joined (target_texts (lent_target c.in-Two.two)) in
    let all : texts_joined (targets_texts (lent_targets c.args.self.now)) ≡ one ++ two = ap (λ s. texts_joined (targets_texts (lent_targets s))) c.in-Two.is ∙ both (lent_target c.in-Two.one) (lent_target c.in-Two.two) in
    let e = ends_there c.in-Some.rest.now two c.after_texts-in-Some.result c.after_texts-in-Some.ensures.sound c.after_texts-in-Some.ensures.complete in (
      λ h. c.in-Some.ensures.sound ∙ ap (λ x. one ++ x) (e.0 (c.is_end-in-Some.ensures.0 h)) ∙ sym all,
      λ h. c.is_end-in-Some.ensures.1 (e.1 (c.in-Some.ensures.complete two (h ∙ all))),
    )

pub returns-in-None : goal.returns-in-None
returns-in-None c =
    let one : List ℕ = texts_joined (target_texts (lent_target c.in-Two.one)) in
    let two : List ℕ = texts_joined (target_texts (lent_target c.in-Two.two)) in
    let all : texts_joined (targets_texts (lent_targets c.args.self.now)) ≡ one ++ two = ap (λ s. texts_joined (targets_texts (lent_targets s))) c.in-Two.is ∙ both (lent_target c.in-Two.one) (lent_target c.in-Two.two) in
    (λ h. cc, λ h. absurd (c.in-None.ensures.complete two (h ∙ all)))
