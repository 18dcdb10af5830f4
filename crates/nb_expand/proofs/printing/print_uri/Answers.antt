use Rattle.nb_expand.proofs.UriLemmas.{percent_encode-reserved}
use Rattle.nb_expand.proofs.printing.print_uri.Goals as goal

pub returns : goal.returns
returns c =
    rw (c.into_bytes.ensures.value, c.in_ok-append_to.ensures.ok, c.new-text.ensures.bytes, c.percent_encode.ensures.text)
    (percent_encode-reserved c.args.bytes.now)
