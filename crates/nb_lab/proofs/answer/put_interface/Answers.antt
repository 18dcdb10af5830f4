use Rattle.std.proofs.Common.{ℕ, List, ◌++◌, [], length, ap, ◌∙◌, arith}
use Rattle.std.proofs.lemmas.List.{length-take}
use Rattle.nb_ether.specs.ArpText.{arp_text}
use Rattle.nb_ether.specs.declared.arp.Arp.{Arp}
use Rattle.nb_lab.specs.Hosts.{server, server_mac}
use Rattle.nb_lab.specs.Answers.{answer_frame, server_frame}
use Rattle.nb_lab.proofs.AnswerLemmas.{frame_put, legal_frame}
use Rattle.nb_lab.proofs.answer.put_interface.Goals as goal

pub returns-clause-put : goal.returns-clause-put
unfolding answer_frame
returns-clause-put c =
    frame_put _ _ _ _ _ c.args.mac 2054 c.push.ensures.appended c.push-2.ensures.appended c.head.ensures.value
    ∙ ap (λ (x : List ℕ). c.args.out.now.written ++ server_frame c.args.mac 2054 x) c.bytes.ensures.value

pub returns-clause-legal : goal.returns-clause-legal
unfolding answer_frame
returns-clause-legal c =
    let arp : Arp = record { op = 2; sha = server_mac; spa = server; tha = c.args.mac; tpa = c.args.ip } in
    legal_frame c.args.mac 2054 _ (c.head.ensures.readable []).dst
    (omega (arith, ap length c.bytes.ensures.readable.spelled, length-take 28 (arp_text arp)))
