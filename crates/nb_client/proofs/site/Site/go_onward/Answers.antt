use Rattle.std.proofs.Common.{refl, sym, subst}
use Rattle.nb_client.specs.Soundness.{snapshot_at}
use Rattle.nb_client.specs.Turning.{MovesOn}
use Rattle.nb_client.specs.declared.stage.Stage.TheVariants as stage
use Rattle.nb_client.proofs.AskNext.{next_goes}
use Rattle.nb_client.proofs.OpenSites.{same_snapshot}
use Rattle.nb_client.proofs.OpenWaits.{gathered_next}
use Rattle.nb_client.proofs.site.Site.go_onward.Goals as goal

pub returns-clause-moves : goal.returns-clause-moves
returns-clause-moves c =
    let now = c.args.self.now in
    let put = c.in_ok-put_gathered.ensures in
    let same = same_snapshot _ _ c.put_gathered.ensures.used c.put_gathered.ensures.world c.put_gathered.ensures.opens refl in
    subst (λ x. MovesOn (snapshot_at now (stage.Reaching c.args.script c.args.next)) x c.args.log.now c.put_gathered.new.log) (sym same)
    (next_goes c.args.script c.args.next _ (snapshot_at c.open_next.new.self c.in_ok-stage.stage) c.requires.sound
    (gathered_next c.args.script c.args.next _ (snapshot_at c.open_next.new.self c.in_ok-stage.stage) c.in_ok-stage.ensures c.in_ok-out.ensures put.whole put.puts))
