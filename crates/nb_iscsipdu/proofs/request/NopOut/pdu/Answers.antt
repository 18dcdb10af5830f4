use Rattle.std.proofs.Common.{◌≡◌, ℕ, List, [], length, replicate, refl, ap, rules, arith}
use Rattle.std.specs.Int.{w32, to_be_bytes}
use Rattle.nb_iscsipdu.specs.PduTexts.{PduParts}
use Rattle.nb_iscsipdu.specs.Requests.{nop_pdu}
use Rattle.nb_iscsipdu.proofs.HeadLemmas.{elements, elements-all, head_written, head_is}
use Rattle.nb_iscsipdu.proofs.request.NopOut.pdu.Goals as goal

pub returns-clause-value : goal.returns-clause-value
unfolding nop_pdu
returns-clause-value c =
    let nop = c.args.self.now in
    let eight : length nop.lun ≡ 8 = search rules in
    ap (λ (x : List ℕ). let p : PduParts = record { head = x; seg = [] } in p)
    (head_written 64 128 0 0xffffffff nop.target_tag nop.cmd_sn nop.exp_stat_sn nop.lun (elements 8 0 nop.lun) (replicate 16 0) (replicate 16 0) (to_be_bytes w32 0) (to_be_bytes w32 0xffffffff) c.to_be_bytes.result c.to_be_bytes-2.result c.to_be_bytes-3.result refl (elements-all 8 nop.lun eight) refl c.to_be_bytes.ensures c.to_be_bytes-2.ensures c.to_be_bytes-3.ensures refl)

pub returns-clause-is : goal.returns-clause-is
unfolding nop_pdu
returns-clause-is c =
    let nop = c.args.self.now in
    let eight : length nop.lun ≡ 8 = search rules in
    head_is 64 128 0 0xffffffff nop.target_tag nop.cmd_sn nop.exp_stat_sn nop.lun (replicate 16 0) [] eight refl refl (omega arith)
