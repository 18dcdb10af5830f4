use Rattle.std.proofs.Common.{arith, length, ap}
use Rattle.std.proofs.lemmas.List.{length-append}
use Rattle.nb_lab.specs.Pages.{response_text, head_text, body_text}
use Rattle.nb_lab.proofs.PageLemmas.{length-body_text}
use Rattle.nb_lab.proofs.page.Page.len.Goals as goal

pub returns-clause-value : goal.returns-clause-value
unfolding response_text
returns-clause-value c =
    let page = c.args.self in
    omega (arith, length-append (head_text page) (body_text page), length-body_text page, ap length c.head.ensures.text)
