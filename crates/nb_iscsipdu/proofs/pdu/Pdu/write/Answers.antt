use Rattle.std.proofs.Common.{◌≡◌, length, refl, arith}
use Rattle.nb_iscsipdu.specs.PduTexts.{pdu_parts}
use Rattle.nb_iscsipdu.proofs.PduLemmas.{pdu_text-reads, parts_len, parts_put}
use Rattle.nb_iscsipdu.proofs.pdu.Pdu.write.Goals as goal

pub returns-then-room-self-clause-full : goal.returns-then-room-self-clause-full
returns-then-room-self-clause-full c =
    let len = parts_len (pdu_parts c.args.self.now) c.padding_for-padding.result.now c.requires c.padding_for-padding.ensures in
    (λ _. omega (arith, len), λ _. refl)

pub returns-then-room-self-clause-readable : goal.returns-then-room-self-clause-readable
returns-then-room-self-clause-readable c = pdu_text-reads (pdu_parts c.args.self.now) c.requires

pub returns-clause-full : goal.returns-clause-full
returns-clause-full c =
    let len = parts_len (pdu_parts c.args.self.now) c.padding_for-padding.result.now c.requires c.padding_for-padding.ensures in
    (λ same. absurd cc, λ less. absurd (omega (arith, len)))

pub returns-clause-appended : goal.returns-clause-appended
returns-clause-appended c =
    parts_put (pdu_parts c.args.self.now) c.args.out.now.written c.push.new.self.written c.push-2.new.self.written c.push-3.new.self.written c.padding_for-padding.result.now c.padding_for-padding.ensures c.push.ensures.appended c.push-2.ensures.appended c.push-3.ensures.appended

pub returns-clause-room : goal.returns-clause-room
returns-clause-room c =
    let len = parts_len (pdu_parts c.args.self.now) c.padding_for-padding.result.now c.requires c.padding_for-padding.ensures in
    let head : length c.args.self.now.head ≡ 48 = c.requires.head in
    omega (arith, len, c.push.ensures.room, c.push-2.ensures.room, c.push-3.ensures.room)

pub returns-clause-readable : goal.returns-clause-readable
returns-clause-readable c = pdu_text-reads (pdu_parts c.args.self.now) c.requires
