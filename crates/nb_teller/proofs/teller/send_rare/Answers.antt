use Rattle.nb_teller.proofs.teller.send_rare.Goals as goal

pub returns-in-Ok-Advance : goal.returns-in-Ok-Advance
returns-in-Ok-Advance c = c.send_place.ensures c.args.net.now

pub returns-in-Ok-Bytes : goal.returns-in-Ok-Bytes
returns-in-Ok-Bytes c = c.send_bytes.ensures c.args.net.now c.args.who.now

pub returns-in-Ok-Address : goal.returns-in-Ok-Address
returns-in-Ok-Address c = c.send_address.ensures c.args.net.now c.args.who.now

pub returns-in-Err-2 : goal.returns-in-Err-2
returns-in-Err-2 c = c.send_answer.ensures c.args.net.now c.args.who.now
