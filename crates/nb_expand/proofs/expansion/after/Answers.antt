use Rattle.std.proofs.Common.{ap, [], ◌∷◌, ◌∙◌}
use Rattle.std.proofs.lemmas.Bool.{false≢true}
use Rattle.nb_expand.specs.Gathering.{answer_from, with_more}
use Rattle.nb_expand.specs.Values.{named_text}
use Rattle.nb_expand.proofs.ExpansionLemmas.{alike_answer, after_close, after_plain_close, none_open}
use Rattle.nb_expand.proofs.NameLemmas.{named_text-knows}
use Rattle.nb_expand.proofs.expansion.after.Goals as goal

pub returns-in_ok-with-in-Close-clause-same : goal.returns-in_ok-with-in-Close-clause-same
returns-in_ok-with-in-Close-clause-same c = λ rest.
    let value = named_text c.args.table.now in
    let parts = c.args.gathered in
    let some = rw c.inner.ensures at c.in_ok-value-in-Close.ensures.value in
    let alike = rw c.as_slice.ensures at c.in_ok-with-in-Close.ensures in
    ap (λ token. answer_from value parts (token ∷ rest)) c.in-Close.is
    ∙ after_close value (named_text-knows c.args.table.now) parts c.closed.result c.in_ok-with-in-Close.field-0 c.in_ok-value-in-Close.value c.closed.ensures some alike rest

pub returns-in_ok-with-in-Close-2-clause-same : goal.returns-in_ok-with-in-Close-2-clause-same
returns-in_ok-with-in-Close-2-clause-same c = λ rest.
    let value = named_text c.args.table.now in
    let parts = c.args.gathered in
    let none = none_open parts.around (λ h. false≢true (c.if-is_open.ensures.1 h)) in
    ap (λ token. answer_from value parts (token ∷ rest)) c.in-Close-2.is
    ∙ after_plain_close value (named_text-knows c.args.table.now) parts c.in_ok-with-in-Close-2.field-0 none c.in_ok-with-in-Close-2.ensures rest

pub returns-in_ok-with-in-Byte-clause-same : goal.returns-in_ok-with-in-Byte-clause-same
returns-in_ok-with-in-Byte-clause-same c = λ rest.
    let value = named_text c.args.table.now in
    let parts = c.args.gathered in
    let alike = rw c.as_slice-in-Byte.ensures at c.in_ok-with-in-Byte.ensures in
    ap (λ token. answer_from value parts (token ∷ rest)) c.in-Byte.is
    ∙ alike_answer value (named_text-knows c.args.table.now) (with_more parts (c.in-Byte.byte ∷ [])) c.in_ok-with-in-Byte.field-0 alike rest
