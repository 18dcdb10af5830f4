use Rattle.std.proofs.Common.{◌<◌, ℕ, List, ◌∙◌, sym, ap, length, arith, nat_eq, inl, inr}
use Rattle.std.specs.Prelude.{codes}
use Rattle.std.specs.List.{starts_with}
use Rattle.std.proofs.lemmas.List.{take_rest}
use Rattle.nb_image.specs.Kinds.{is_bzimage}
use Rattle.nb_image.proofs.KindLemmas.{bzimage_short, bzimage_start}
use Rattle.nb_image.proofs.kind.is_bzimage.Goals as goal

pub returns-in-Some : goal.returns-in-Some
returns-in-Some c =
    c.starts_with.ensures.value
    ∙ ap (λ (xs : List ℕ). starts_with nat_eq xs (codes "HdrS")) (c.in-Some.ensures.lookup.0.2 ∙ take_rest c.start_of.result.now 514)
    ∙ ap is_bzimage c.start_of.ensures
    ∙ bzimage_start c.args.body.now

pub returns-in-None : goal.returns-in-None
returns-in-None c =
    let short : length c.start_of.result.now < 514 = elim c.in-None.ensures.lookup.0 [ inl p ↦ p | inr p ↦ absurd (omega arith) ] in
    sym (bzimage_short c.start_of.result.now short) ∙ ap is_bzimage c.start_of.ensures ∙ bzimage_start c.args.body.now
