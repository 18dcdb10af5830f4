use Rattle.nb_iscsipdu.proofs.HeadLemmas.{word_read}
use Rattle.std.proofs.Common.{◌≡◌, length, rules, arith}
use Rattle.nb_drivenodes.proofs.drive_ask.word_at.Goals as goal

pub returns : goal.returns
returns c =
    let long : length c.args.bytes.now ≡ 32 = search rules in
    word_read c.args.place c.args.bytes.now c.from_be_bytes.result (omega arith) c.from_be_bytes.ensures
