use Rattle.std.proofs.Common.{◌≡◌, ◌∷◌, ◌∙◌, [], ap, arith}
use Rattle.std.proofs.lemmas.List.{nil_from_length}
use Rattle.nb_dhcpmsg.specs.Options.{none_left, end_mark}
use Rattle.nb_dhcpmsg.specs.Fields.{inner_options}
use Rattle.nb_dhcpmsg.proofs.OptionLemmas.{unpadded_tag}
use Rattle.nb_dhcpmsg.proofs.StreamLemmas.{no_inner, ended_inner, half_inner}
use Rattle.nb_dhcpmsg.proofs.option.first_option.Goals as goal

pub returns-then-tag-clause-first : goal.returns-then-tag-clause-first
returns-then-tag-clause-first c =
    let is : c.in-Some.tag.now ≡ 255 = omega (arith, c.if-tag.true) in
    (c.after_padding.ensures.same []).1 (end_mark c.after_padding.result.now c.in-Some.more.now (c.in-Some.ensures.cases.0 ∙ ap (λ z. z ∷ c.in-Some.more.now) is))

pub returns-in_default-clause-first : goal.returns-in_default-clause-first
returns-in_default-clause-first c = (c.after_padding.ensures.same []).1 (none_left c.after_padding.result.now (nil_from_length c.after_padding.result.now c.in_default.ensures.cases))

pub returns-in_default-clause-within : goal.returns-in_default-clause-within
returns-in_default-clause-within c =
    c.after_padding.ensures.within ∙ no_inner c.after_padding.result.now (nil_from_length c.after_padding.result.now c.in_default.ensures.cases)

pub returns-then-tag-clause-within : goal.returns-then-tag-clause-within
returns-then-tag-clause-within c =
    c.after_padding.ensures.within
    ∙ ap inner_options c.in-Some.ensures.cases.0
    ∙ ended_inner c.in-Some.tag.now c.in-Some.more.now (omega (arith, c.if-tag.true))

pub returns-in-None-clause-within : goal.returns-in-None-clause-within
returns-in-None-clause-within c =
    let is = c.in-Some.ensures.cases.0 in
    let pos = unpadded_tag c.after_padding.result.now c.in-Some.tag.now c.in-Some.more.now is c.after_padding.ensures.unpadded in
    let none = nil_from_length c.in-Some.more.now c.in-None.ensures.cases in
    c.after_padding.ensures.within
    ∙ ap inner_options is
    ∙ half_inner c.in-Some.tag.now c.in-Some.more.now pos (grind (arith, c.if-tag.false)) none
