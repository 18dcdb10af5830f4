use Rattle.std.proofs.Common.{subst}
use Rattle.nb_graph.specs.Trace.{regain}
use Rattle.nb_nodes.specs.declared.obj.Obj.{Obj}
use Rattle.nb_nodes.specs.Standing.{ObjStands}
use Rattle.nb_nodes.proofs.TftpLemmas.{stands_more, regain_on}
use Rattle.nb_nodes.proofs.obj.ObjNode.regain.Goals as goal

pub returns-in-Tftp-clause-stands : goal.returns-in-Tftp-clause-stands
returns-in-Tftp-clause-stands c = λ t s awaits.
    let same = rw c.deref_mut.ensures.value at c.regain.ensures in
    stands_more c.in-Tftp.tftp.value c.regain.new.self t (regain c.args.load) (regain_on c.in-Tftp.tftp.value.work c.regain.new.self.work c.args.load same) (subst (λ (z : Obj). ObjStands z t) c.in-Tftp.is s)
