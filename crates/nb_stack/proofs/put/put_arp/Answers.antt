use Rattle.std.proofs.Common.{[], length, ap, arith}
use Rattle.std.proofs.lemmas.List.{length-take}
use Rattle.nb_ether.specs.ArpText.{arp_text}
use Rattle.nb_stack.proofs.PutLaws.{arp_put, arp_size}
use Rattle.nb_stack.proofs.put.put_arp.Goals as goal

pub returns-clause-put : goal.returns-clause-put
returns-clause-put c = arp_put _ _ _ _ _ c.args.dst c.args.arp.now c.put.ensures.put c.put-2.ensures.put c.head.ensures.value c.bytes.ensures.value

pub returns-clause-size : goal.returns-clause-size
returns-clause-size c =
    let frame = c.head.ensures.readable [] in
    let arp = c.args.arp.now in
    arp_size c.args.dst arp frame.dst frame.src (omega (arith, ap length c.bytes.ensures.readable.spelled, length-take 28 (arp_text arp)))
