use Rattle.std.proofs.Common.{◌≡◌, ◌∙◌, ℕ, List, [], ◌∷◌, ◌++◌, length, replicate, refl, ap, rules, arith}
use Rattle.std.specs.Int.{w32, to_be_bytes}
use Rattle.std.proofs.lemmas.List.{length-append}
use Rattle.nb_iscsipdu.specs.PduTexts.{PduParts}
use Rattle.nb_iscsipdu.specs.Requests.{head_of, login_flags, login_pdu}
use Rattle.nb_iscsipdu.proofs.HeadLemmas.{elements, elements-all, head_written, head_is}
use Rattle.nb_iscsipdu.proofs.request.LoginRequest.pdu.Goals as goal

pub returns-clause-value : goal.returns-clause-value
unfolding login_pdu
returns-clause-value c =
    let r = c.args.self.now in
    let six : length r.isid ≡ 6 = search rules in
    let zeros : List ℕ = 0 ∷ 0 ∷ [] in
    ap (λ (x : List ℕ). let p : PduParts = record { head = x; seg = r.keys.now } in p)
    (head_written 67 c.login_flags-flags.result (length r.keys.now) r.task_tag 0 r.cmd_sn r.exp_stat_sn (r.isid ++ zeros) (elements 6 0 r.isid ++ zeros) (replicate 16 0) (replicate 16 0) c.to_be_bytes.result c.to_be_bytes-2.result (to_be_bytes w32 0) c.to_be_bytes-3.result c.to_be_bytes-4.result c.to_be_bytes.ensures (ap (λ (x : List ℕ). x ++ zeros) (elements-all 6 r.isid six)) c.to_be_bytes-2.ensures refl c.to_be_bytes-3.ensures c.to_be_bytes-4.ensures refl
    ∙ ap (λ (n : ℕ). head_of 67 n (length r.keys.now) (r.isid ++ zeros) r.task_tag 0 r.cmd_sn r.exp_stat_sn (replicate 16 0)) c.login_flags-flags.ensures)

pub returns-clause-is : goal.returns-clause-is
unfolding login_pdu
returns-clause-is c =
    let r = c.args.self.now in
    let six : length r.isid ≡ 6 = search rules in
    let zeros : List ℕ = 0 ∷ 0 ∷ [] in
    let eight : length (r.isid ++ zeros) ≡ 8 = omega (arith, length-append r.isid zeros) in
    head_is 67 (login_flags r.current r.next) (length r.keys.now) r.task_tag 0 r.cmd_sn r.exp_stat_sn (r.isid ++ zeros) (replicate 16 0) r.keys.now eight refl refl (omega arith)
