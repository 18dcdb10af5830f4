use Rattle.std.proofs.Common.{◌≡◌, ◌∙◌, ℕ, List, [], length, refl, sym, ap, rules, arith}
use Rattle.std.specs.Int.{w32, to_be_bytes}
use Rattle.nb_iscsipdu.specs.Commands.{asked_len, command_flags, command_block}
use Rattle.nb_iscsipdu.specs.PduTexts.{PduParts}
use Rattle.nb_iscsipdu.specs.Requests.{head_of, command_pdu}
use Rattle.nb_iscsipdu.proofs.HeadLemmas.{elements, elements-all, head_written, head_is}
use Rattle.nb_iscsipdu.proofs.request.ScsiCommand.pdu.Goals as goal

pub returns-clause-value : goal.returns-clause-value
unfolding command_pdu
returns-clause-value c =
    let r = c.args.self.now in
    let eight : length r.lun ≡ 8 = search rules in
    let sixteen : length c.block.result ≡ 16 = search rules in
    let asked : c.to_be_bytes-2.result ≡ to_be_bytes w32 (asked_len r.command) = c.to_be_bytes-2.ensures ∙ ap (λ (n : ℕ). to_be_bytes w32 n) c.asked_len.ensures in
    ap (λ (x : List ℕ). let p : PduParts = record { head = x; seg = [] } in p)
    (head_written 1 c.flags-flags.result 0 r.task_tag (asked_len r.command) r.cmd_sn r.exp_stat_sn r.lun (elements 8 0 r.lun) c.block.result (elements 16 0 c.block.result) (to_be_bytes w32 0) c.to_be_bytes.result c.to_be_bytes-2.result c.to_be_bytes-3.result c.to_be_bytes-4.result refl (elements-all 8 r.lun eight) c.to_be_bytes.ensures asked c.to_be_bytes-3.ensures c.to_be_bytes-4.ensures (elements-all 16 c.block.result sixteen)
    ∙ ap (λ (n : ℕ). head_of 1 n 0 r.lun r.task_tag (asked_len r.command) r.cmd_sn r.exp_stat_sn c.block.result) c.flags-flags.ensures
    ∙ ap (λ (x : List ℕ). head_of 1 (command_flags r.command) 0 r.lun r.task_tag (asked_len r.command) r.cmd_sn r.exp_stat_sn x) c.block.ensures)

pub returns-clause-is : goal.returns-clause-is
unfolding command_pdu
returns-clause-is c =
    let r = c.args.self.now in
    let eight : length r.lun ≡ 8 = search rules in
    let sixteen : length c.block.result ≡ 16 = search rules in
    head_is 1 (command_flags r.command) 0 r.task_tag (asked_len r.command) r.cmd_sn r.exp_stat_sn r.lun (command_block r.command) [] eight (sym (ap length c.block.ensures) ∙ sixteen) refl (omega arith)
