use Rattle.std.proofs.Common.{◌∙◌, Some, refl, sym, ap}
use Rattle.std.proofs.lemmas.Bool.{true≢false}
use Rattle.nb_uri.proofs.PieceLemmas.{either_way}
use Rattle.nb_uri.proofs.IscsiLemmas.{is_iscsi-cut, is_iscsi-other}
use Rattle.nb_uri.proofs.iscsi.after_iscsi.Goals as goal

pub returns : goal.returns
returns c =
    let text = c.args.text.now in
    let scheme = c.in_ok-scheme.scheme.now in
    let rest = c.in_ok-scheme.rest.now in
    either_way c.eq_ignore_ascii_case.result
    (λ yes.
    let found = is_iscsi-cut text scheme rest c.in_ok-scheme.ensures (c.eq_ignore_ascii_case.ensures.test.0 yes) in
    rw (c.then_some.ensures, yes, found.0) (ap Some found.1))
    (λ no.
    let other = is_iscsi-other text scheme rest c.in_ok-scheme.ensures (λ same. true≢false (sym (c.eq_ignore_ascii_case.ensures.test.1 same) ∙ no)) in
    rw (c.then_some.ensures, no, other) refl)
