use Rattle.std.proofs.Common.{◌∷◌, ◌∙◌, ap, arith}
use Rattle.nb_dhcpmsg.specs.Fields.{FieldRead, inner_options}
use Rattle.nb_dhcpmsg.proofs.FieldLemmas.{read_padding}
use Rattle.nb_dhcpmsg.proofs.StreamLemmas.{no_inner}
use Rattle.nb_dhcpmsg.proofs.stream.Stream.unpadded.Goals as goal

pub returns-then-byte-ne-PAD-clause-value : goal.returns-then-byte-ne-PAD-clause-value
returns-then-byte-ne-PAD-clause-value c = λ bytes h.
    let (at, same, here) = c.padding.invariant.same bytes h in
    let (rest, is, later) = c.in-Some.ensures.value at here in
    (rest, omega (arith, c.if-byte-ne-PAD.true), same ∙ ap inner_options is, later)

pub padding-preserved : goal.padding-preserved
padding-preserved c =
    let less = c.in-Some.ensures.less in
    let before = c.padding.invariant.less in
    record {
      same = λ bytes h.
          let (at, same, here) = c.padding.invariant.same bytes h in
          let (rest, is, later) = c.in-Some.ensures.value at here in
          (rest, same ∙ ap inner_options (is ∙ ap (λ b. b ∷ rest) c.if-byte-ne-PAD.false) ∙ ap (λ (r : FieldRead). r.options) (read_padding rest), later);
      less = omega arith;
    }

pub returns-clause-value : goal.returns-clause-value
returns-clause-value c = λ bytes h.
    let (at, same, here) = c.padding.invariant.same bytes h in
    same ∙ no_inner at (c.in_default.ensures.value at here)
