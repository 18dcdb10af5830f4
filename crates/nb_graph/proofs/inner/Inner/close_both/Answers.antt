use Rattle.nb_effects.specs.Scene.{scene_of, shut_of, with_ports}
use Rattle.nb_effects.specs.Follows.{closes_link, peer_closes, peer_enters}
use Rattle.nb_effects.proofs.SceneLemmas.{scene-busy, scene-port}
use Rattle.nb_ledger.specs.GraphRun.{port_but}
use Rattle.nb_ledger.specs.Ledger.{port}
use Rattle.std.proofs.Common.{ap, sym}
use Rattle.nb_ledger.specs.declared.event.GraphEvent.TheVariants.{Closed, Entered}
use Rattle.nb_ledger.specs.declared.event.Way.TheVariants.{Close}
use Rattle.nb_effects.specs.Deeds.{MustUnplug as Unlinks, Closes, MustShut, Shut, MustHear}
use Rattle.nb_graph.proofs.LivesLemmas.{Lives-both, Lives-note, Lives-say, Lives-then}
use Rattle.nb_effects.proofs.CallLemmas.{Calms-half}
use Rattle.nb_graph.proofs.SeatLemmas.{Loses-same}
use Rattle.nb_ledger.proofs.RunLemmas.{Tells-append}
use Rattle.std.proofs.Common.{refl, ◌∙◌, [], ◌∷◌}
use Rattle.nb_ledger.specs.GraphRun.{MustEnter, MustUnplug}
use Rattle.nb_ledger.specs.declared.port.PortState.TheVariants.{Linked}
use Rattle.nb_ledger.proofs.PortLemmas.{live_by}
use Rattle.nb_effects.proofs.MannedLemmas.{IsManned-same}
use Rattle.nb_effects.proofs.CalmLemmas.{other-end, HalfCloses-both, IsWhole-both}
use Rattle.nb_graph.proofs.inner.Inner.close_both.Goals as goal

pub close_peer-requires : goal.close_peer-requires
close_peer-requires g c = other-end c.requires.steady.whole.links c.requires.linked c.close_first.ensures.sets

pub enter_closed-requires : goal.enter_closed-requires
enter_closed-requires g c =
    let there = other-end c.requires.steady.whole.links c.requires.linked c.close_first.ensures.sets in
    c.close_peer.ensures.sets.objects.same_live _ ∙ (live_by _ _ _ (Linked c.args.at) tt there).0

pub returns-clause-told : goal.returns-clause-told
returns-clause-told g c =
    let first = Closed c.args.at c.args.cause.now in
    let peer = Closed c.args.peer c.args.cause.now in
    let entered = Entered c.args.peer Close in
    Tells-append _ _ _ (first ∷ []) (peer ∷ entered ∷ []) c.close_first.ensures.told (Tells-append _ _ _ (peer ∷ []) (entered ∷ []) c.close_peer.ensures.told c.enter_closed.ensures.told)

pub returns-clause-run : goal.returns-clause-run
returns-clause-run g c = λ st idle.
    (_, c.close_first.ensures.step st idle, (_, c.close_peer.ensures.step (MustEnter c.args.peer ∷ MustUnplug c.args.at c.args.peer ∷ st), (_, c.enter_closed.ensures.step (MustUnplug c.args.at c.args.peer ∷ st), refl)))

pub returns-clause-half : goal.returns-clause-half
returns-clause-half g c =
    HalfCloses-both c.requires.steady.whole.links c.requires.linked c.close_first.ensures.sets c.close_peer.ensures.sets c.enter_closed.ensures.sets (other-end c.requires.steady.whole.links c.requires.linked c.close_first.ensures.sets)

pub returns-clause-steady : goal.returns-clause-steady
returns-clause-steady g c =
    let a = c.close_first.ensures.sets in
    let b = c.close_peer.ensures.sets in
    let d = c.enter_closed.ensures.sets in
    record {
      whole = IsWhole-both c.requires.steady.whole.links c.requires.linked a b d c.requires.steady.whole;
      manned = IsManned-same d.objects (IsManned-same b.objects (IsManned-same a.objects c.requires.steady.manned));
    }

pub returns-clause-runs : goal.returns-clause-runs
returns-clause-runs g c = c.enter_closed.ensures.runs

pub returns-clause-lives : goal.returns-clause-lives
unfolding Lives-both Lives-then Lives-note
returns-clause-lives g c = λ now.
    let nodes = c.args.self.now.nodes.items in
    let cause = c.args.cause.now in
    let p = c.args.peer in
    Lives-say (Lives-both (Lives-note g.N.Node.stands now _ _ (λ st. Closes c.args.at cause ∷ st) (λ st. MustShut p cause ∷ Unlinks c.args.at p ∷ st) (Closed c.args.at cause) (Loses-same nodes c.close_first.ensures.sets.objects) (scene-port c.close_first.ensures.sets ∙ ap (λ v. with_ports (port_but c.args.at (shut_of v) (port c.args.self.now.book)) (scene_of c.args.self.now.book)) (sym c.requires.linked)) c.close_first.ensures.given (λ st ds s k. (_, closes_link c.args.at p cause c.requires.linked, k)) {i = λ _. Unit {0}} tt)
    (Lives-both (Lives-note g.N.Node.stands now _ _ (λ st. MustShut p cause ∷ Unlinks c.args.at p ∷ st) (λ st. Shut p cause ∷ Unlinks c.args.at p ∷ st) (Closed p cause) (Loses-same nodes c.close_peer.ensures.sets.objects) (scene-port c.close_peer.ensures.sets ∙ ap (λ v. with_ports (port_but p (shut_of v) (port c.close_first.new.self)) (scene_of c.close_first.new.self)) (sym (other-end c.requires.steady.whole.links c.requires.linked c.close_first.ensures.sets))) c.close_peer.ensures.given (λ st ds s k. (_, peer_closes p cause, k)) {i = λ _. Unit {0}} tt)
    (Lives-note g.N.Node.stands now _ _ (λ st. Shut p cause ∷ Unlinks c.args.at p ∷ st) (λ st. MustHear p cause ∷ Unlinks c.args.at p ∷ st) (Entered p Close) (Loses-same nodes c.enter_closed.ensures.sets.objects) (scene-busy c.enter_closed.ensures.sets) c.enter_closed.ensures.given (λ st ds s k. (_, peer_enters p cause, k)) {i = λ _. Unit {0}} tt)
    (λ x w v k. (w, refl, k)))
    (λ x w v k. (w, refl, k)))
    (Calms-half _ _ _ c.args.at p cause c.requires.steady.whole.links c.requires.linked (returns-clause-half g c))
