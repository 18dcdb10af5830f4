use Rattle.std.proofs.Common.{true, [], ◌∷◌, ◌++◌, ◌∙◌, ap}
use Rattle.nb_defs.specs.Records.{out_texts, result}
use Rattle.nb_machine.specs.CommandRecords.{command_record}
use Rattle.nb_machine.specs.Effects.{shown_as}
use Rattle.nb_machine.specs.Running.{Running, with_result}
use Rattle.nb_runner.proofs.Puts.{Puts-outs}
use Rattle.nb_client.specs.declared.stage.Stage.TheVariants as stage
use Rattle.nb_client.proofs.DriveGoes.{drop_records, lets_goes}
use Rattle.nb_client.proofs.Waits.{gathered_puts}
use Rattle.nb_client.proofs.site.Site.let_drive_go.Goals as goal

pub returns-clause-moves : goal.returns-clause-moves
returns-clause-moves c = λ w intends.
    let now = c.args.self.now in
    let s = c.args.script in
    let ws = c.args.words.now in
    let g = c.in_ok-put_gathered.ensures in
    let b = c.in_ok-script.ensures in
    let k = b.drops in
    let cause = c.args.cause in
    let all = Puts-outs (command_record s (shown_as true ws) ∷ []) (k.records ++ (result cause ∷ [])) b.command (Puts-outs k.records (result cause ∷ []) k.puts c.go_on_with-stage.ensures.puts) in
    let puts = gathered_puts (out_texts (drop_records s ws k.records (result cause ∷ []))) c.in_ok-out.ensures g.whole all g.puts in
    let there = c.go_on_with-stage.ensures.stage ∙ ap (λ (t : Running). stage.Running (with_result t cause)) b.script in
    rw (g.used, g.world, g.opens, there) (lets_goes w s ws c.args.number cause k intends c.requires.sound c.requires.words.early puts)
