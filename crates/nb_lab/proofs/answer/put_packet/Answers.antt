use Rattle.std.proofs.Common.{◌≡◌, ◌+◌, ◌++◌, [], arith}
use Rattle.std.proofs.lemmas.List.{length-append}
use Rattle.nb_lab.proofs.AnswerLemmas.{packet_put, legal_packet}
use Rattle.nb_lab.proofs.answer.put_packet.Goals as goal

pub returns-clause-put : goal.returns-clause-put
returns-clause-put c =
    let body = c.args.head.now ++ c.args.body.now in
    let written : c.push-4.new.self.written ≡ (((c.args.out.now.written ++ c.head.result) ++ c.head-2.result) ++ c.args.head.now) ++ c.args.body.now =
    cc (c.push-4.ensures.appended, c.push-3.ensures.appended, c.push-2.ensures.appended, c.push.ensures.appended) in
    packet_put _ _ _ _ _ _ c.args.to c.args.proto written c.head.ensures.value
    (c.head-2.ensures.value body (length-append c.args.head.now c.args.body.now))

pub returns-clause-legal : goal.returns-clause-legal
returns-clause-legal c =
    legal_packet c.args.to c.args.proto (c.args.head.now ++ c.args.body.now) (c.head.ensures.readable []).dst
    (omega (arith, length-append c.args.head.now c.args.body.now, c.requires.short))
