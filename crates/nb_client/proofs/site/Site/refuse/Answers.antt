use Rattle.std.proofs.Common.{subst}
use Rattle.nb_defs.specs.Commands.{CommandOutcome, refused}
use Rattle.nb_machine.specs.Effects.{shown_as}
use Rattle.nb_runner.specs.Steps.{Does}
use Rattle.nb_client.proofs.Moves.{ends_goes}
use Rattle.nb_client.proofs.site.Site.refuse.Goals as goal

pub returns : goal.returns
returns c =
    let now = c.args.self.now in
    let shown = shown_as c.args.expanded c.args.words.now in
    let did : Does shown (refused c.args.cause) c.finish-left.result c.args.script c.finish-left.new.self c.args.log.now c.finish-left.new.log =
    subst (λ (o : CommandOutcome). Does shown o c.finish-left.result c.args.script c.finish-left.new.self c.args.log.now c.finish-left.new.log) c.with.ensures c.finish-left.ensures in
    ends_goes now.world now c.settled.new.self c.args.script c.finish-left.new.self c.settled.result shown (refused c.args.cause) c.finish-left.result
    c.requires.sound c.requires.words.early c.requires.refused did c.settled.ensures
