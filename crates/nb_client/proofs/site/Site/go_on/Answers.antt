use Rattle.std.proofs.Common.{subst}
use Rattle.nb_client.specs.Soundness.{IsSound}
use Rattle.nb_client.specs.declared.stage.Stage.{Stage}
use Rattle.nb_client.proofs.Moves.{back_goes}
use Rattle.nb_client.proofs.site.Site.go_on.Goals as goal

pub returns-in-Returning-clause-moves : goal.returns-in-Returning-clause-moves
returns-in-Returning-clause-moves c =
    let now = c.args.self.now in
    let sound = subst (λ (st : Stage). IsSound now.used now.world now.opens st) c.in-Returning.is c.requires.sound in
    rw (c.in-Returning.is, c.go_on_with.ensures.stage) (back_goes now.used now.world now.opens c.in-Returning.script c.in-Returning.cause sound c.go_on_with.ensures.puts)
