use Rattle.std.proofs.Common.{refl}
use Rattle.nb_nodes.proofs.TftpLemmas.{stands_anew}
use Rattle.nb_nodes.proofs.tftp.Tftp.new.Goals as goal

pub returns : goal.returns
returns c = stands_anew _ refl
