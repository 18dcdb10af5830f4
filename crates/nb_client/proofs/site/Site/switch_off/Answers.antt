use Rattle.std.proofs.Common.{◌+◌, [], ◌∷◌, refl}
use Rattle.nb_defs.specs.Records.{out_texts, step}
use Rattle.nb_runner.proofs.Puts.{Puts-outs}
use Rattle.nb_client.proofs.CloseGoes.{off_goes}
use Rattle.nb_client.proofs.CloseStanding.{beside_at, pieces_at}
use Rattle.nb_client.proofs.Waits.{gathered_puts}
use Rattle.nb_client.proofs.site.Site.switch_off.Goals as goal

pub shut_down-requires-clause-waits : goal.shut_down-requires-clause-waits
shut_down-requires-clause-waits c =
    let now = c.args.self.now in
    λ chain is. beside_at c.args.stage.now c.waiting_at-waiting.result now.world now.opens chain c.waiting_at-waiting.ensures c.requires.sound.well is

pub returns-clause-goes : goal.returns-clause-goes
returns-clause-goes c =
    let now = c.args.self.now in
    let n = now.used + 1 in
    let k = c.in_ok-shut_down.ensures.shuts in
    let all = Puts-outs (step n ∷ []) k.records c.put_step.ensures k.puts in
    let g = c.in_ok-put_gathered.ensures in
    let puts = gathered_puts (out_texts (step n ∷ k.records)) c.in_ok-out.ensures g.whole all g.puts in
    rw (g.used, c.in_ok-shut_down.ensures.used, g.world, g.opens)
    (off_goes now.used n c.args.stage.now c.requires.sound c.requires.waits (pieces_at c.args.stage.now c.waiting_at-waiting.result c.waiting_at-waiting.ensures) refl k puts)
