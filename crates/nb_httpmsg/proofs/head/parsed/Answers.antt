use Rattle.std.proofs.Common.{[], arith, sym, ap, ◌∙◌, append-nil, length}
use Rattle.httparse.specs.Grammar.{print_response}
use Rattle.nb_httpmsg.proofs.head.parsed.Goals as goal

pub returns-in-Ok-Complete-clause-found : goal.returns-in-Ok-Complete-clause-found
returns-in-Ok-Complete-clause-found c = λ h is.
    let found = c.in-Ok-Complete.ensures.found h [] (is.valid, is.bytes ∙ sym (append-nil (print_response h))) (omega (arith, is.fields, c.requires)) in
    let done = rw c.in-Ok-Complete.field-0-is at found in
    done.len ∙ sym (ap length is.bytes)

pub returns-in-Ok-Partial-clause-found : goal.returns-in-Ok-Partial-clause-found
returns-in-Ok-Partial-clause-found c = λ h is.
    let found = c.in-Ok-Partial.ensures.found h [] (is.valid, is.bytes ∙ sym (append-nil (print_response h))) (omega (arith, is.fields, c.requires)) in
    rw c.in-Ok-Partial.field-0-is at found

pub returns-in-Err-clause-found : goal.returns-in-Err-clause-found
returns-in-Err-clause-found c = λ h is. c.in-Err.ensures.found h [] (is.valid, is.bytes ∙ sym (append-nil (print_response h))) (omega (arith, is.fields, c.requires))
