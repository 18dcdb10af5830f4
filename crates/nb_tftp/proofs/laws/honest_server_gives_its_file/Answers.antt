use Rattle.nb_tftp.proofs.CutLaws.{front_of_file, whole_file, few_cuts, all_cuts}
use Rattle.nb_tftp.proofs.laws.honest_server_gives_its_file.Goals as goal

pub returns : goal.returns
returns c = record { front = front_of_file; whole = whole_file; few = few_cuts; all = all_cuts }
