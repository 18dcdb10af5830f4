use Rattle.std.proofs.Common.{Some, refl, sym, subst}
use Rattle.nb_client.specs.Snapshots.{snapshot}
use Rattle.nb_client.specs.Soundness.{snapshot_at}
use Rattle.nb_client.specs.Turning.{MovesOn}
use Rattle.nb_client.specs.declared.stage.Stage.TheVariants as stage
use Rattle.nb_client.proofs.AskMoves.{asks_goes}
use Rattle.nb_client.proofs.OpenSites.{same_snapshot}
use Rattle.nb_client.proofs.OpenWaits.{gathered_opened}
use Rattle.nb_client.proofs.site.Site.ask.Goals as goal

pub returns-clause-moves : goal.returns-clause-moves
returns-clause-moves c = λ w asks.
    let now = c.args.self.now in
    let put = c.in_ok-put_gathered.ensures in
    let same = same_snapshot _ _ c.put_gathered.ensures.used c.put_gathered.ensures.world c.put_gathered.ensures.opens refl in
    subst (λ x. MovesOn (snapshot now.used w now.opens (stage.Running c.args.script)) x c.args.log.now c.put_gathered.new.log) (sym same)
    (asks_goes w c.args.asked c.args.script c.args.words.now _ (snapshot_at c.open.new.self c.in_ok-stage.stage) c.requires.words.early asks
    (gathered_opened c.args.asked _ (Some c.args.words.now) c.args.script _ (snapshot_at c.open.new.self c.in_ok-stage.stage) c.in_ok-stage.ensures c.in_ok-out.ensures put.whole put.puts))
