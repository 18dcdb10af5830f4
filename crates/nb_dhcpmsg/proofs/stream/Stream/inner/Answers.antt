use Rattle.std.proofs.Common.{◌≡◌, ◌∷◌, ◌<◌, ◌≤◌, length, take, drop, sym, subst, ◌∙◌, ap, arith}
use Rattle.nb_dhcpmsg.specs.Options.{tag_value}
use Rattle.nb_dhcpmsg.specs.Fields.{inner_options}
use Rattle.nb_dhcpmsg.proofs.StreamLemmas.{ended_inner, half_inner, short_inner, one_inner}
use Rattle.nb_dhcpmsg.proofs.stream.Stream.inner.Goals as goal

pub returns-then-tag-clause-value : goal.returns-then-tag-clause-value
returns-then-tag-clause-value c = λ bytes h.
    let (rest, pos, same, later) = c.in-Some.ensures.value bytes h in
    same ∙ ended_inner c.in-Some.tag rest c.if-tag.true

pub returns-in-Some-byte-clause-value : goal.returns-in-Some-byte-clause-value
returns-in-Some-byte-clause-value c = λ bytes h.
    let (rest, pos, same, later) = c.in-Some.ensures.value bytes h in
    let (more, is, left) = c.in-Some-byte.ensures.value rest later in
    let fits = c.if-has.ensures more left in
    let small : c.in-Some.tag < 255 = omega (arith, c.if-tag.false) in
    let len : c.in-Some-byte.len ≡ c.from-in-Some-byte.result = sym c.from-in-Some-byte.ensures in
    let room : c.in-Some-byte.len ≤ length more = subst (λ n. n ≤ length more) c.from.ensures fits in (
      more,
      subst (λ n. n ≤ length more) len room,
      left,
      same ∙ ap (λ r. inner_options (c.in-Some.tag ∷ r)) is
          ∙ one_inner c.in-Some.tag c.in-Some-byte.len more pos small room
          ∙ ap (λ n. tag_value c.in-Some.tag (take n more) ∷ inner_options (drop n more)) len,
    )

pub returns-in_default-byte-clause-value : goal.returns-in_default-byte-clause-value
returns-in_default-byte-clause-value c = λ bytes h.
    let (rest, pos, same, later) = c.in-Some.ensures.value bytes h in
    let (more, is, left) = c.in-Some-byte.ensures.value rest later in
    let short = c.if-has.ensures more left in
    same ∙ ap (λ r. inner_options (c.in-Some.tag ∷ r)) is
    ∙ short_inner c.in-Some.tag c.in-Some-byte.len more pos (omega (arith, c.if-tag.false)) (subst (λ n. length more < n) c.from.ensures short)

pub returns-in_default-byte-2-clause-value : goal.returns-in_default-byte-2-clause-value
returns-in_default-byte-2-clause-value c = λ bytes h.
    let (rest, pos, same, later) = c.in-Some.ensures.value bytes h in
    same ∙ half_inner c.in-Some.tag rest pos (omega (arith, c.if-tag.false)) (c.in_default-byte.ensures.value rest later)
