use Rattle.std.proofs.Common.{sym, ap, ◌∙◌}
use Rattle.nb_lab.specs.Shows.{image_named}
use Rattle.nb_lab.proofs.ReadingLemmas.{named_is, take_rest, url_at_root}
use Rattle.nb_lab.proofs.shown.image_at_url.Goals as goal

pub returns : goal.returns
returns c =
    named_is c.named.result _ c.named.ensures
    ∙ ap image_named (take_rest 16 c.args.url.now)
    ∙ url_at_root c.args.url.now (sym c.starts_with.ensures.value ∙ c.if-not-starts_with.false)
