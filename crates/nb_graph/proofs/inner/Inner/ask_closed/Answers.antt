use Rattle.std.proofs.Common.{refl}
use Rattle.nb_effects.specs.Trace.{closed, nature, silence}
use Rattle.nb_effects.specs.Deeds.{runs_of}
use Rattle.nb_effects.specs.Follows.{peer_hears}
use Rattle.nb_graph.proofs.LivesLemmas.{Follows-called}
use Rattle.std.proofs.Common.{true}
use Rattle.nb_effects.proofs.CallLemmas.{Calms-call}
use Rattle.nb_graph.proofs.SeatLemmas.{Lives-seat}
use Rattle.std.proofs.Common.{arith}
use Rattle.nb_effects.proofs.MannedLemmas.{manned-place, IsManned-node}
use Rattle.nb_graph.proofs.inner.Inner.ask_closed.Goals as goal

pub index_mut-requires : goal.index_mut-requires
index_mut-requires g c =
    let h = manned-place c.args.at.obj.0 c.requires.manned c.requires.lives in
    omega (arith, h, c.place_at-place.ensures, c.args.self.now.nodes.ok.0)

pub returns-clause-manned : goal.returns-clause-manned
returns-clause-manned g c =
    let h = manned-place c.args.at.obj.0 c.requires.manned c.requires.lives in
    IsManned-node c.place_at-place.result c.on_close.new.self c.index_mut.result.now (omega (arith, h, c.place_at-place.ensures)) c.index_mut.ensures.value c.on_close.ensures.rank c.requires.manned

pub returns-clause-lives : goal.returns-clause-lives
returns-clause-lives g c = λ u.
    Lives-seat g.N.Node.stands c.args.now _ _ _ c.args.at.obj.0 c.place_at-place.result (closed c.args.at.slot c.args.cause.now c.args.now c.on_close.new.fx) c.index_mut.result.now c.on_close.new.self c.requires.manned c.requires.lives c.place_at-place.ensures c.index_mut.ensures.value
    (λ w v k. k.0 refl)
    (λ x w v n k. k.1 n)
    (c.on_close.ensures.mark, λ t s i. c.on_close.ensures.stands t s)
    (λ t w v k o. tt)
    (λ st ds s k. (_, peer_hears c.args.at.obj.0 c.args.at.slot c.args.cause.now c.on_close.new.fx, Follows-called _ _ _ _ (runs_of (nature g.N.Node.kind_of g.N.Node.mark_of g.N.Load.Parts.first g.N.Load.Parts.second) c.args.at.obj.0 silence true c.on_close.new.fx) st _ ds k))
    (Calms-call _ _ c.args.at.obj.0 (closed c.args.at.slot c.args.cause.now c.args.now c.on_close.new.fx) _ _ (λ k. refl) (λ k. refl))
