use Rattle.std.proofs.Common.{◌∷◌, ◌∙◌, length, take, drop, sym, ap, subst, arith}
use Rattle.nb_dhcpmsg.specs.Options.{tag_value}
use Rattle.nb_dhcpmsg.specs.Lefts.{Precedes}
use Rattle.nb_dhcpmsg.specs.Fields.{inner_options}
use Rattle.nb_dhcpmsg.proofs.StreamLemmas.{short_inner, one_inner}
use Rattle.nb_dhcpmsg.proofs.FirstLemmas.{begins}
use Rattle.nb_dhcpmsg.proofs.option.option_of.Goals as goal

pub returns-clause-first : goal.returns-clause-first
returns-clause-first c =
    let back = c.split_at.ensures.back in
    let size = ap length back in
    let whole = c.split_at.ensures.back_len in
    let tag = c.args.tag in
    let bytes = tag ∷ c.args.len ∷ c.args.bytes.now in
    subst (λ v. Precedes (tag_value tag v) c.split_at.result.1.now bytes) (sym c.split_at.ensures.front)
    (subst (λ r. Precedes (tag_value tag (take c.args.len c.args.bytes.now)) r bytes) (sym back)
    (begins tag c.args.len c.args.bytes.now c.requires.tag.0 c.requires.tag.1 (omega (arith, c.if-len-bytes.false)) (omega (arith, size, whole))))

pub returns-then-len-bytes-clause-within : goal.returns-then-len-bytes-clause-within
returns-then-len-bytes-clause-within c =
    short_inner c.args.tag c.args.len c.args.bytes.now c.requires.tag.0 c.requires.tag.1 (omega (arith, c.if-len-bytes.true))

pub returns-clause-within : goal.returns-clause-within
returns-clause-within c =
    let bytes = c.args.bytes.now in
    one_inner c.args.tag c.args.len bytes c.requires.tag.0 c.requires.tag.1 (omega (arith, c.if-len-bytes.false))
    ∙ ap (λ v. tag_value c.args.tag v ∷ inner_options (drop c.args.len bytes)) (sym c.split_at.ensures.front)
    ∙ ap (λ r. tag_value c.args.tag c.split_at.result.0.now ∷ inner_options r) (sym c.split_at.ensures.back)
