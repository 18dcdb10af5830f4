use Rattle.nb_tftpmsg.proofs.WrittenLemmas.{oack_again}
use Rattle.nb_tftpmsg.proofs.packet.oack_text.Goals as goal

pub returns-clause-read_back : goal.returns-clause-read_back
returns-clause-read_back c = oack_again c.args.blksize c.args.tsize c.widened.ensures.fits c.push_option-2.ensures.value_fits
