use Rattle.std.proofs.Common.{refl, rules}
use Rattle.nb_ether.proofs.frame.EtherFrame.head.Goals as goal

pub returns-clause-readable : goal.returns-clause-readable
returns-clause-readable c = λ body. record {
  dst = search rules;
  src = search rules;
  kind = search rules;
  spelled = refl;
}
