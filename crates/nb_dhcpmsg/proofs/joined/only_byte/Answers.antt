use Rattle.std.proofs.Common.{◌≡◌, ◌++◌, ◌∷◌, [], sym, ◌∙◌, ap, subst, arith, append-nil}
use Rattle.nb_dhcpmsg.specs.Options.{joined}
use Rattle.nb_dhcpmsg.specs.Lefts.{parts_of_option, IsLength}
use Rattle.nb_dhcpmsg.proofs.OptionLemmas.{joined_more, its_value, no_value}
use Rattle.nb_dhcpmsg.proofs.LeftLemmas.{walks_on}
use Rattle.nb_dhcpmsg.proofs.joined.only_byte.Goals as goal

pub options-preserved-then-option-tag : goal.options-preserved-then-option-tag
options-preserved-then-option-tag c =
    let i = c.options.invariant in
    let o = parts_of_option c.in-Option.option in
    let is : o.tag ≡ c.args.tag = omega (arith, c.if-option-tag.true) in
    record {
      before = i.before ++ o ∷ [];
      walks = walks_on i.before c.args.options c.options.left c.next.new.self o i.walks c.in-Option.ensures;
      size = subst (λ z. IsLength c.and-joined.result z) (sym (joined_more c.args.tag i.before o ∙ ap (λ z. joined c.args.tag i.before ++ z) (its_value c.args.tag o is)))
          (c.and-joined.ensures (joined c.args.tag i.before) i.size);
    }

pub options-preserved : goal.options-preserved
options-preserved c =
    let i = c.options.invariant in
    let o = parts_of_option c.in-Option.option in
    record {
      before = i.before ++ o ∷ [];
      walks = walks_on i.before c.args.options c.options.left c.next.new.self o i.walks c.in-Option.ensures;
      size = subst (λ z. IsLength c.options.joined z) (sym (joined_more c.args.tag i.before o ∙ ap (λ z. joined c.args.tag i.before ++ z) (no_value c.args.tag o (λ e. omega (arith, e, c.if-option-tag.false))) ∙ append-nil (joined c.args.tag i.before)))
          i.size;
    }

pub returns-in-Broken : goal.returns-in-Broken
returns-in-Broken c = λ os left. let (more, is, at) = c.options.invariant.walks.forth os left in c.in-Broken.ensures more at
