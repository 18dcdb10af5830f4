use Rattle.std.proofs.Common.{◌≡◌, List, ℕ, false, not, eqb, ◌∙◌, ap}
use Rattle.std.specs.Cmp.Lexicographic.{pointwise}
use Rattle.nb_dnsmsg.specs.Messages.{query_fields, address_fields}
use Rattle.nb_dnsmsg.proofs.QuestionLemmas.{query_cut, address_cut}
use Rattle.nb_dnsmsg.proofs.question.name_in.Goals as goal

pub returns-then-ne : goal.returns-then-ne
returns-then-ne c = λ number name size text.
    let same = query_cut c.args.bytes.now number name c.split_at.result.1.now c.split_at-2.result.0.now size text c.split_at.ensures.back c.split_at-2.ensures.front in
    let equal : c.ne.result ≡ false = c.ne.ensures ∙ ap (λ (x : List ℕ). not (pointwise eqb x c.as_slice.result.now)) same ∙ ap (λ (x : List ℕ). not (pointwise eqb query_fields x)) c.as_slice.ensures in
    let differ = c.if-ne.true in cc

pub returns-then-ne-2 : goal.returns-then-ne-2
returns-then-ne-2 c = λ number name size text.
    let same = address_cut c.args.bytes.now number name c.split_at.result.1.now c.split_at-2.result.1.now c.split_at-3.result.1.now size text c.split_at.ensures.back c.split_at-2.ensures.back c.split_at-3.ensures.back in
    let equal : c.ne-2.result ≡ false = c.ne-2.ensures ∙ ap (λ (x : List ℕ). not (pointwise eqb x c.as_slice-2.result.now)) same ∙ ap (λ (x : List ℕ). not (pointwise eqb address_fields x)) c.as_slice-2.ensures in
    let differ = c.if-ne-2.true in cc
