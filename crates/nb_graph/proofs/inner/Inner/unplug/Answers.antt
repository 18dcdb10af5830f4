use Rattle.std.proofs.Common.{min, max, []}
use Rattle.std.proofs.Common.{refl, ap, sym, None, ◌∷◌}
use Rattle.nb_ledger.specs.declared.event.Way.TheVariants.{Close}
use Rattle.nb_ledger.specs.declared.event.GraphEvent.TheVariants.{Left, Unplugged}
use Rattle.nb_ledger.specs.Ledger.{port}
use Rattle.nb_effects.specs.Deeds.{MustUnplug as Unlinks, Settles as Frees, Holds}
use Rattle.nb_effects.proofs.AccountLemmas.{Calms-plain, Mild-trans}
use Rattle.nb_effects.specs.Follows.{ends, unplugs}
use Rattle.nb_effects.proofs.SceneLemmas.{scene-busy, scene-ports}
use Rattle.nb_graph.proofs.MildLemmas.{Lives-next, Lives-plain, Mild-busy, Mild-port}
use Rattle.nb_effects.proofs.LinkLemmas.{port_but-other}
use Rattle.nb_graph.proofs.SeatLemmas.{Loses-same, Loses-trans}
use Rattle.std.proofs.Common.{◌∙◌}
use Rattle.nb_ledger.specs.declared.port.PortState.TheVariants.{Closed, Leaving}
use Rattle.nb_ledger.proofs.PortLemmas.{live_by}
use Rattle.nb_effects.proofs.UnplugLemmas.{IsLinked-unplug, CountedButTwo-unplug, live-unplug, Ends-unplug}
use Rattle.nb_effects.proofs.MannedLemmas.{IsManned-same}
use Rattle.nb_graph.proofs.inner.Inner.unplug.Goals as goal

pub leave-requires : goal.leave-requires
leave-requires g c = record { lives = (live_by _ _ _ (Leaving c.args.at) tt c.requires.other).0; place = c.requires.place }

pub settle_two-requires-clause-first : goal.settle_two-requires-clause-first
settle_two-requires-clause-first g c =
    let s = c.unplug.ensures.sets in
    live-unplug c.requires.first c.requires.other c.requires.apart c.leave.ensures.sets s.1 s.2 c.args.at.obj.0 ∙ (live_by _ _ _ (Leaving c.args.peer) tt c.requires.first).0

pub settle_two-requires-clause-other : goal.settle_two-requires-clause-other
settle_two-requires-clause-other g c =
    let s = c.unplug.ensures.sets in
    live-unplug c.requires.first c.requires.other c.requires.apart c.leave.ensures.sets s.1 s.2 c.args.peer.obj.0 ∙ (live_by _ _ _ (Leaving c.args.at) tt c.requires.other).0

pub settle_two-requires-clause-links : goal.settle_two-requires-clause-links
settle_two-requires-clause-links g c =
    let s = c.unplug.ensures.sets in
    IsLinked-unplug c.requires.first c.requires.other c.requires.apart c.leave.ensures.sets s.1 s.2 c.requires.steady.whole.links

pub settle_two-requires-clause-counted : goal.settle_two-requires-clause-counted
settle_two-requires-clause-counted g c =
    let s = c.unplug.ensures.sets in
    CountedButTwo-unplug c.requires.first c.requires.other c.requires.apart c.leave.ensures.sets s.1 s.2 c.requires.steady.whole.counted

pub returns-clause-ends : goal.returns-clause-ends
unfolding Ends-unplug
returns-clause-ends g c =
    let s = c.unplug.ensures.sets in
    let nodes = c.args.self.now.nodes.items in (
      record {
        ends = Ends-unplug c.requires.first c.requires.other c.requires.apart c.leave.ensures.sets s.1 s.2 _ _ _ _ _ c.leave.ensures.told c.leave.ensures.step c.unplug.ensures.told c.unplug.ensures.step c.settle_two.ensures.settles.settles;
        lives = λ now.
            let other = s.1.port_set c.args.peer.obj.0 c.args.peer.slot ∙ port_but-other c.args.at Closed (port c.leave.new.self) c.args.peer.obj.0 c.args.peer.slot (λ i. c.requires.apart (sym i.0)) ∙ c.leave.ensures.sets.same_port c.args.peer.obj.0 c.args.peer.slot ∙ c.requires.other in
            let first = c.leave.ensures.sets.same_port c.args.at.obj.0 c.args.at.slot ∙ c.requires.first in
            Lives-next (Lives-plain g.N.Node.stands now _ _ (λ st. Holds c.args.peer Close None ∷ Unlinks c.args.at c.args.peer ∷ st) (λ st. Unlinks c.args.at c.args.peer ∷ st) (Left c.args.peer) (Loses-same nodes c.leave.ensures.sets.objects) (scene-busy c.leave.ensures.sets) c.leave.ensures.given (λ st ds s k. ([], ends c.args.peer Close, k)) (Calms-plain _ _ _ (Left c.args.peer) (Mild-busy c.leave.ensures.sets) (λ p a. refl)))
            (Lives-next (Lives-plain g.N.Node.stands now _ _ (λ st. Unlinks c.args.at c.args.peer ∷ st) (λ st. Frees (min c.args.at.obj.0 c.args.peer.obj.0) ∷ Frees (max c.args.at.obj.0 c.args.peer.obj.0) ∷ st) (Unplugged c.args.at c.args.peer) (Loses-trans (Loses-same nodes s.1.objects) (Loses-same nodes s.2.objects)) (scene-ports s.1 s.2) c.unplug.ensures.given (λ st ds s k. (_, unplugs c.args.at c.args.peer, k)) (Calms-plain _ _ _ (Unplugged c.args.at c.args.peer) (Mild-trans (Mild-port s.1 (λ q e. cc) (λ q e. absurd (let z = sym first ∙ e in cc)) refl) (Mild-port s.2 (λ q e. cc) (λ q e. absurd (let z = sym other ∙ e in cc)) refl)) (λ p a. refl))) (c.settle_two.ensures.settles.lives now));
      },
      (c.settle_two.ensures.settles.gone, ap (λ l. Left c.args.peer ∷ Unplugged c.args.at c.args.peer ∷ l) c.settle_two.ensures.settles.frees),
    )

pub settle_two-requires-clause-manned : goal.settle_two-requires-clause-manned
settle_two-requires-clause-manned g c = let s = c.unplug.ensures.sets in IsManned-same s.2.objects (IsManned-same s.1.objects (IsManned-same c.leave.ensures.sets.objects c.requires.steady.manned))
