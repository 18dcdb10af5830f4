use Rattle.nb_iscsipdu.proofs.HeadLemmas.{word_read}
use Rattle.std.proofs.Common.{◌≡◌, length, rules, arith}
use Rattle.nb_iscsipdu.proofs.pdu.word_at.Goals as goal

pub returns : goal.returns
returns c =
    let long : length c.args.head.now ≡ 48 = search rules in
    word_read c.args.place c.args.head.now c.from_be_bytes.result (omega arith) c.from_be_bytes.ensures
