use Rattle.std.proofs.Common.{take, refl, arith}
use Rattle.nb_record.proofs.NoteLemmas.{given_front}
use Rattle.nb_record.proofs.sure_line.SureLineLine.read.Goals as goal

pub returns-clause-ok : goal.returns-clause-ok
returns-clause-ok c =
    let n = c.cut_len-len.result in
    let at = c.args.self.now.at in
    let input = c.args.self.now.input.items in
    record {
      gave = given_front input input c.as_slice.result.now (take n c.copy_front.new.into) at at n refl refl c.as_slice.ensures.value c.copy_front.ensures.front;
      taken_stays = refl;
      counts = record { attach_count = omega arith; read_count = omega arith; write_count = omega arith };
    }
