use Rattle.std.proofs.Common.{◌<◌, ◌^◌, arith, rules}
use Rattle.nb_tcpseg.proofs.PseudoLemmas.{pseudo_stands}
use Rattle.nb_tcpseg.proofs.segment.pseudo_total.Goals as goal

pub returns-clause-sum : goal.returns-clause-sum
returns-clause-sum c =
    let src : c.args.src.0 < 2 ^ 32 = search rules in
    let dst : c.args.dst.0 < 2 ^ 32 = search rules in
    let room : c.args.len < 2 ^ 16 = search rules in
    pseudo_stands c.args.src c.args.dst c.args.len _ src dst room (omega arith)
