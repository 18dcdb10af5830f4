use Rattle.std.proofs.Common.{◌∙◌, append_assoc}
use Rattle.nb_expand.proofs.AddressLemmas.{printed_address-four}
use Rattle.nb_expand.proofs.address.print_address.Goals as goal

pub returns-in_ok-format-in-len4-up : goal.returns-in_ok-format-in-len4-up
returns-in_ok-format-in-len4-up c =
    let four = printed_address-four c.args.bytes.now c.in-len4-up.len_at_least in
    rw (four, c.into_bytes.ensures.value) (c.in_ok-format-in-len4-up.ensures.ok ∙ simp append_assoc)
