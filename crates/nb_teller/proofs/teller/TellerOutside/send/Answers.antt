use Rattle.std.proofs.Common.{◌++◌, refl}
use Rattle.nb_teller.proofs.SpellingLemmas.{message_told}
use Rattle.nb_teller.proofs.teller.TellerOutside.send.Goals as goal

pub returns-then-msg-from : goal.returns-then-msg-from
returns-then-msg-from c =
    let t = c.args.self.now in
    let m = c.args.msg.now in
    record { given = message_told t.net.now t.who.now t.told.value c.deref_mut.result.now c.send_place.new.told c.args._from m.tag m.tag m.rec m.a m.b (m.first.now ++ m.second.now) c.deref_mut.ensures.value refl (c.send_place.ensures t.net.now) }

pub returns-else-msg-from : goal.returns-else-msg-from
returns-else-msg-from c =
    let t = c.args.self.now in
    let m = c.args.msg.now in
    record { given = message_told t.net.now t.who.now t.told.value c.deref_mut-else-msg-from.result.now c.send_more.new.told c.args._from m.tag m.tag m.rec m.a m.b (m.first.now ++ m.second.now) c.deref_mut-else-msg-from.ensures.value refl c.send_more.ensures }
