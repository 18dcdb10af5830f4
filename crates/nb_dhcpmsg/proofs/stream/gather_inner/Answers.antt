use Rattle.std.proofs.Common.{◌≡◌, ◌∷◌, ◌++◌, ◌+◌, ◌<◌, ◌≤◌, [], length, take, drop, refl, sym, subst, ◌∙◌, ap, arith, append-nil, append_assoc, length-take-le}
use Rattle.nb_dhcpmsg.specs.Options.{tag_value, joined}
use Rattle.nb_dhcpmsg.specs.Messages.{is_value}
use Rattle.nb_dhcpmsg.specs.Fields.{inner_options}
use Rattle.nb_dhcpmsg.proofs.OptionLemmas.{joined_more, its_value, no_value, is_there_more, is_there_now, too_long, fits_all}
use Rattle.nb_dhcpmsg.proofs.stream.gather_inner.Goals as goal

pub options-init : goal.options-init
options-init c =
    let size : length c.args.to.now.items ≡ 0 = ap length c.requires in
    record { passed = λ bytes h. ([], bytes, h, refl, c.requires, refl); room = omega arith }

pub returns-then-not-put-clause-found : goal.returns-then-not-put-clause-found
returns-then-not-put-clause-found c = λ bytes h.
    let (before, rest, here, all, put, there) = c.options.invariant.passed bytes h in
    let (more, fits, left, first) = c.in-Option.ensures.value rest here in
    let value = take c.in-Option.len more in
    let o = tag_value c.in-Option.other value in
    let long : 1024 < length c.options.to.items + c.in-Option.len = c.if-not-put.ensures.value more left fits in
    let size : length value ≡ c.in-Option.len = length-take-le c.in-Option.len more fits in
    let same : length c.options.to.items ≡ length (joined c.args.tag before) = ap length put in
    sym (ap (is_value c.args.tag) (all ∙ ap (λ z. before ++ z) first)
    ∙ too_long c.args.tag before (inner_options (drop c.in-Option.len more)) o c.if-other-tag.true (omega arith))

pub options-preserved-then-other-tag : goal.options-preserved-then-other-tag
options-preserved-then-other-tag c = record {
  passed = λ bytes h.
      let (before, rest, here, all, put, there) = c.options.invariant.passed bytes h in
      let (more, fits, left, first) = c.in-Option.ensures.value rest here in
      let value = take c.in-Option.len more in
      let o = tag_value c.in-Option.other value in
      let (done, later) = c.if-not-put.ensures.value more left fits in (
        before ++ o ∷ [],
        drop c.in-Option.len more,
        later,
        all ∙ ap (λ z. before ++ z) first ∙ sym (append_assoc before (o ∷ []) (inner_options (drop c.in-Option.len more))),
        done ∙ ap (λ z. z ++ value) put ∙ sym (joined_more c.args.tag before o ∙ ap (λ z. joined c.args.tag before ++ z) (its_value c.args.tag o c.if-other-tag.true)),
        sym (is_there_now c.args.tag before o c.if-other-tag.true),
      );
  room = c.if-not-put.ensures.room c.options.invariant.room;
}

pub returns-then-not-pass-clause-found : goal.returns-then-not-pass-clause-found
returns-then-not-pass-clause-found c = λ bytes h.
    let (before, rest, here, all, put, there) = c.options.invariant.passed bytes h in
    let (more, fits, left, first) = c.in-Option.ensures.value rest here in
    let short : length more < c.in-Option.len = c.if-not-pass.ensures.value more left in
    absurd (omega arith)

pub returns-then-not-pass-clause-value : goal.returns-then-not-pass-clause-value
returns-then-not-pass-clause-value c = λ bytes h yes.
    let (before, rest, here, all, put, there) = c.options.invariant.passed bytes h in
    let (more, fits, left, first) = c.in-Option.ensures.value rest here in
    let short : length more < c.in-Option.len = c.if-not-pass.ensures.value more left in
    absurd (omega arith)

pub options-preserved : goal.options-preserved
options-preserved c = record {
  passed = λ bytes h.
      let (before, rest, here, all, put, there) = c.options.invariant.passed bytes h in
      let (more, fits, left, first) = c.in-Option.ensures.value rest here in
      let value = take c.in-Option.len more in
      let o = tag_value c.in-Option.other value in
      let (within, later) = c.if-not-pass.ensures.value more left in (
        before ++ o ∷ [],
        drop c.in-Option.len more,
        later,
        all ∙ ap (λ z. before ++ z) first ∙ sym (append_assoc before (o ∷ []) (inner_options (drop c.in-Option.len more))),
        put ∙ sym (joined_more c.args.tag before o ∙ ap (λ z. joined c.args.tag before ++ z) (no_value c.args.tag o c.if-other-tag.false) ∙ append-nil (joined c.args.tag before)),
        there ∙ sym (is_there_more c.args.tag before o c.if-other-tag.false),
      );
  room = c.options.invariant.room;
}

pub returns-in-End-clause-found : goal.returns-in-End-clause-found
returns-in-End-clause-found c = λ bytes h.
    let (before, rest, here, all, put, there) = c.options.invariant.passed bytes h in
    let whole = all ∙ ap (λ z. before ++ z) (c.in-End.ensures.value rest here) ∙ append-nil before in
    there ∙ sym (ap (is_value c.args.tag) whole ∙ fits_all c.args.tag before (subst (λ z. length z ≤ 1024) put c.options.invariant.room))

pub returns-in-End-clause-value : goal.returns-in-End-clause-value
returns-in-End-clause-value c = λ bytes h yes.
    let (before, rest, here, all, put, there) = c.options.invariant.passed bytes h in
    let whole = all ∙ ap (λ z. before ++ z) (c.in-End.ensures.value rest here) ∙ append-nil before in
    put ∙ sym (ap (joined c.args.tag) whole)
