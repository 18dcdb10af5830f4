use Rattle.std.proofs.Common.{refl, arith}
use Rattle.std.proofs.lemmas.List.{nil_from_length}
use Rattle.nb_dhcpmsg.specs.Lefts.{parts_of_option}
use Rattle.nb_dhcpmsg.proofs.StreamLemmas.{part_byte, part_taken, other_passed, none_left_over}
use Rattle.nb_dhcpmsg.proofs.stream.Stream.byte.Goals as goal

pub returns-in-Some-clause-value : goal.returns-in-Some-clause-value
returns-in-Some-clause-value c = λ bytes h.
    part_byte c.parts.self _ c.in-Some.first.now c.in-Some.rest.now bytes c.in-Some.ensures.cases.0 refl refl refl (c.parts.invariant.same bytes h)

pub parts-preserved-then-option-self : goal.parts-preserved-then-option-self
parts-preserved-then-option-self c =
    let less = c.in-Option.ensures.less in
    let before = c.parts.invariant.less in
    record {
      same = λ bytes h. part_taken c.parts.self _ (parts_of_option c.in-Option.option) bytes c.in-Option.ensures c.if-option-self.true
          (nil_from_length c.parts.self.part.now c.in_default.ensures.cases) refl refl (c.parts.invariant.same bytes h);
      less = omega arith;
    }

pub parts-preserved : goal.parts-preserved
parts-preserved c =
    let less = c.in-Option.ensures.less in
    let before = c.parts.invariant.less in
    record {
      same = λ bytes h. other_passed c.parts.self _ (parts_of_option c.in-Option.option) bytes c.in-Option.ensures c.if-option-self.false refl refl (c.parts.invariant.same bytes h);
      less = omega arith;
    }

pub returns-in-End : goal.returns-in-End
returns-in-End c = record {
  value = λ bytes h. none_left_over c.parts.self bytes c.in-End.ensures (nil_from_length c.parts.self.part.now c.in_default.ensures.cases) (c.parts.invariant.same bytes h);
  less = tt;
}

pub returns-in-Broken-clause-value : goal.returns-in-Broken-clause-value
returns-in-Broken-clause-value c = λ bytes h. let left = c.parts.invariant.same bytes h in absurd (c.in-Broken.ensures left.options left.left)
