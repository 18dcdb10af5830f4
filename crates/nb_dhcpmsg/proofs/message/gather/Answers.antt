use Rattle.std.proofs.Common.{◌≡◌, ◌≤◌, ◌++◌, ◌∷◌, [], length, sym, ◌∙◌, ap, subst, arith, append-nil}
use Rattle.nb_dhcpmsg.specs.Options.{joined}
use Rattle.nb_dhcpmsg.specs.Messages.{is_value}
use Rattle.nb_dhcpmsg.specs.Lefts.{parts_of_option}
use Rattle.nb_dhcpmsg.proofs.OptionLemmas.{joined_more, its_value, no_value, is_there_more, is_there_now, too_long, fits_all}
use Rattle.nb_dhcpmsg.proofs.LeftLemmas.{walks_on, left_one}
use Rattle.nb_dhcpmsg.proofs.message.gather.Goals as goal

pub options-preserved-then-option-tag : goal.options-preserved-then-option-tag
options-preserved-then-option-tag c =
    let i = c.options.invariant in
    let o = parts_of_option c.in-Option.option in
    let is : o.tag ≡ c.args.tag = omega (arith, c.if-option-tag.true) in
    record {
      before = i.before ++ o ∷ [];
      walks = walks_on i.before c.args.options c.options.left c.next.new.self o i.walks c.in-Option.ensures;
      put = grind (arith, c.try_extend_from_slice.ensures.ok, c.if-is_err.false, c.is_err.ensures.value, i.put, joined_more c.args.tag i.before o, its_value c.args.tag o is);
      room = grind (arith, c.try_extend_from_slice.ensures, c.if-is_err.false, c.is_err.ensures);
      there = sym (is_there_now c.args.tag i.before o is);
    }

pub options-preserved : goal.options-preserved
options-preserved c =
    let i = c.options.invariant in
    let o = parts_of_option c.in-Option.option in
    record {
      before = i.before ++ o ∷ [];
      walks = walks_on i.before c.args.options c.options.left c.next.new.self o i.walks c.in-Option.ensures;
      put = i.put ∙ sym (joined_more c.args.tag i.before o ∙ ap (λ z. joined c.args.tag i.before ++ z) (no_value c.args.tag o (λ e. omega (arith, e, c.if-option-tag.false))) ∙ append-nil (joined c.args.tag i.before));
      room = i.room;
      there = i.there ∙ sym (is_there_more c.args.tag i.before o (λ e. omega (arith, e, c.if-option-tag.false)));
    }

pub returns-then-is_err-clause-found : goal.returns-then-is_err-clause-found
returns-then-is_err-clause-found c = λ os left.
    let i = c.options.invariant in
    let o = parts_of_option c.in-Option.option in
    let is : o.tag ≡ c.args.tag = omega (arith, c.if-option-tag.true) in
    let (more, whole, at) = i.walks.forth os left in
    let (rest, first, behind) = c.in-Option.ensures.forth more at in
    sym (ap (is_value c.args.tag) (whole ∙ ap (λ z. i.before ++ z) first) ∙ too_long c.args.tag i.before rest o is (grind (arith, c.try_extend_from_slice.ensures.variant, c.if-is_err.true, c.is_err.ensures, ap length i.put)))

pub returns-in-End-clause-found : goal.returns-in-End-clause-found
returns-in-End-clause-found c = λ os left.
    let i = c.options.invariant in
    let (more, whole, at) = i.walks.forth os left in
    let none = left_one c.options.left more [] at c.in-End.ensures in
    let all = whole ∙ ap (λ z. i.before ++ z) none ∙ append-nil i.before in
    i.there ∙ sym (ap (is_value c.args.tag) all ∙ fits_all c.args.tag i.before (subst (λ z. length z ≤ 1024) i.put i.room))

pub returns-in-End-clause-value : goal.returns-in-End-clause-value
returns-in-End-clause-value c = λ os left yes.
    let i = c.options.invariant in
    let (more, whole, at) = i.walks.forth os left in
    let none = left_one c.options.left more [] at c.in-End.ensures in
    i.put ∙ sym (ap (joined c.args.tag) (whole ∙ ap (λ z. i.before ++ z) none ∙ append-nil i.before))

pub returns-in-Broken-clause-found : goal.returns-in-Broken-clause-found
returns-in-Broken-clause-found c = λ os left. let (more, whole, at) = c.options.invariant.walks.forth os left in absurd (c.in-Broken.ensures more at)
