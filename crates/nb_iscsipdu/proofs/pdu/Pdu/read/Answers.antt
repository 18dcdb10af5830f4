use Rattle.std.proofs.Common.{length, arith}
use Rattle.nb_iscsipdu.proofs.PduLemmas.{short_one, padded_one, pdu_one, pdu_read, head-long}
use Rattle.nb_iscsipdu.proofs.pdu.Pdu.read.Goals as goal

pub returns-in_err-len-clause-complete : goal.returns-in_err-len-clause-complete
returns-in_err-len-clause-complete c = λ p text.
    let some = c.in_err-len.ensures.none (short_one _ _ p c.in_ok-head.ensures.cases.0 text) in
    absurd cc

pub returns-then-rest-padded_len-clause-complete :
    goal.returns-then-rest-padded_len-clause-complete
returns-then-rest-padded_len-clause-complete c = λ p text.
    let padded = padded_one _ _ _ p c.in_ok-head.ensures.cases.0 c.in_ok-head.ensures.cases.1 text in
    absurd (omega (arith, padded, c.in_ok-len.ensures.some.0))

pub returns-clause-sound : goal.returns-clause-sound
returns-clause-sound c =
    let long = head-long c.args.bytes.now c.in_ok-head.head.now (length c.in_ok-head.rest.now) c.in_ok-head.ensures.cases.0 c.in_ok-head.ensures.cases.2 in
    pdu_read c.args.bytes.now c.in_ok-head.head.now c.in_ok-head.rest.now c.in_ok-len.len c.in_ok-head.ensures.cases.0 c.in_ok-head.ensures.cases.1 long c.in_ok-len.ensures.some.0 c.in_ok-len.ensures.some.1 (omega arith)

pub returns-clause-complete : goal.returns-clause-complete
returns-clause-complete c = λ p text.
    pdu_one c.args.bytes.now c.in_ok-head.head.now c.in_ok-head.rest.now c.in_ok-len.len p c.in_ok-head.ensures.cases.0 c.in_ok-head.ensures.cases.1 c.in_ok-len.ensures.some.0 text
