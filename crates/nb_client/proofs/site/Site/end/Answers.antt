use Rattle.std.proofs.Common.{[], ◌∷◌, ◌++◌, subst, arith}
use Rattle.nb_defs.specs.Records.{done, out_text, out_texts}
use Rattle.nb_record.specs.Logged.{Puts}
use Rattle.nb_runner.proofs.Puts.{Puts-one, Puts-outs}
use Rattle.nb_runner.specs.StatusNumber.{status_number}
use Rattle.nb_client.proofs.CloseGoes.{closed_sound, end_finishes, on_ok_both}
use Rattle.nb_client.proofs.CloseStanding.{beside_at, pieces_at}
use Rattle.nb_client.proofs.Waits.{gathered_puts}
use Rattle.nb_client.proofs.site.Site.end.Goals as goal

pub shut_down-requires-clause-waits : goal.shut_down-requires-clause-waits
shut_down-requires-clause-waits c =
    let now = c.args.self.now in
    λ chain is. beside_at c.args.at.now c.waiting_at-waiting.result now.world now.opens chain c.waiting_at-waiting.ensures c.requires.well is

pub returns-clause-finishes : goal.returns-clause-finishes
returns-clause-finishes c =
    let now = c.args.self.now in
    let number = status_number c.args.status in
    let k = c.in_ok-shut_down.ensures.shuts in
    let last : Puts c.shut_down.new.out c.put.new.self (out_texts (done number ∷ [])) =
    Puts-one (done number) (subst (λ k. Puts c.shut_down.new.out c.put.new.self (out_text (done k))) c.number.ensures c.put.ensures) in
    let all = Puts-outs k.records (done number ∷ []) k.puts last in
    on_ok_both c.put_gathered.result
    (λ puts whole. end_finishes now.used number c.args.at.now c.requires (pieces_at c.args.at.now c.waiting_at-waiting.result c.waiting_at-waiting.ensures) k
    (gathered_puts (out_texts (k.records ++ (done number ∷ []))) c.in_ok-out.ensures whole all puts))
    c.put_gathered.ensures.puts c.put_gathered.ensures.whole

pub returns-clause-sound : goal.returns-clause-sound
returns-clause-sound c =
    let now = c.args.self.now in
    let g = c.put_gathered.ensures in
    on_ok_both c.put_gathered.result
    (λ puts whole. rw (g.used, g.world, g.opens, c.in_ok-shut_down.ensures.used) (closed_sound now.used c.args.at.now c.requires c.in_ok-shut_down.ensures.shuts (omega arith)))
    g.puts g.whole
