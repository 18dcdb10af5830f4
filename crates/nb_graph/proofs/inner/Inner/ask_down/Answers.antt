use Rattle.nb_effects.specs.Trace.{nature, said}
use Rattle.nb_effects.specs.Deeds.{runs_of}
use Rattle.nb_effects.specs.Follows.{takes_down}
use Rattle.nb_graph.proofs.LivesLemmas.{Follows-called}
use Rattle.std.proofs.Common.{refl, true, false}
use Rattle.nb_effects.specs.Trace.{down, said}
use Rattle.nb_effects.proofs.CallLemmas.{Calms-call}
use Rattle.nb_graph.proofs.SeatLemmas.{Calls-seat}
use Rattle.std.proofs.Common.{arith}
use Rattle.nb_effects.proofs.MannedLemmas.{manned-place, IsManned-node}
use Rattle.nb_graph.proofs.inner.Inner.ask_down.Goals as goal

pub index_mut-requires : goal.index_mut-requires
index_mut-requires g c =
    let h = manned-place c.args.id.0 c.requires.manned c.requires.lives in
    omega (arith, h, c.requires.place, c.args.self.now.nodes.ok.0)

pub returns-in-Ok-clause-manned : goal.returns-in-Ok-clause-manned
returns-in-Ok-clause-manned g c =
    let h = manned-place c.args.id.0 c.requires.manned c.requires.lives in
    IsManned-node c.args.index c.on_down.new.self c.index_mut.result.now (omega (arith, h, c.requires.place)) c.index_mut.ensures.value c.on_down.ensures.rank c.requires.manned

pub returns-in-Err-clause-manned : goal.returns-in-Err-clause-manned
returns-in-Err-clause-manned g c =
    let h = manned-place c.args.id.0 c.requires.manned c.requires.lives in
    IsManned-node c.args.index c.on_down.new.self c.index_mut.result.now (omega (arith, h, c.requires.place)) c.index_mut.ensures.value c.on_down.ensures.rank c.requires.manned

pub returns-in-Ok-clause-lives : goal.returns-in-Ok-clause-lives
returns-in-Ok-clause-lives g c = λ u.
    Calls-seat g.N.Node.stands c.args.now _ _ _ c.args.id.0 c.args.index (λ done fx. down (said c.args.msg.now) c.args.now done fx) true c.on_down.new.fx c.index_mut.result.now c.on_down.new.self c.requires.manned c.requires.lives c.requires.place c.index_mut.ensures.value
    (λ w v k. k.0 refl)
    (λ x w v n k. k.1 n)
    (c.on_down.ensures.mark, λ t s i. c.in-Ok.ensures.stands t s)
    (λ t w v k o. tt)
    (λ st ds s k. (_, takes_down c.args.id.0 (said c.args.msg.now) true c.on_down.new.fx, Follows-called _ _ _ _ (runs_of (nature g.N.Node.kind_of g.N.Node.mark_of g.N.Load.Parts.first g.N.Load.Parts.second) c.args.id.0 (said c.args.msg.now) true c.on_down.new.fx) st _ ds k))
    (Calms-call _ _ c.args.id.0 (down (said c.args.msg.now) c.args.now true c.on_down.new.fx) _ _ (λ k. refl) (λ k. refl))

pub returns-in-Err-clause-lives : goal.returns-in-Err-clause-lives
returns-in-Err-clause-lives g c = λ u.
    Calls-seat g.N.Node.stands c.args.now _ _ _ c.args.id.0 c.args.index (λ done fx. down (said c.args.msg.now) c.args.now done fx) false c.on_down.new.fx c.index_mut.result.now c.on_down.new.self c.requires.manned c.requires.lives c.requires.place c.index_mut.ensures.value
    (λ w v k. k.0 refl)
    (λ x w v n k. k.1 n)
    (c.on_down.ensures.mark, λ t s i. c.in-Err.ensures.stands t s)
    (λ t w v k o. tt)
    (λ st ds s k. (_, takes_down c.args.id.0 (said c.args.msg.now) false c.on_down.new.fx, Follows-called _ _ _ _ (runs_of (nature g.N.Node.kind_of g.N.Node.mark_of g.N.Load.Parts.first g.N.Load.Parts.second) c.args.id.0 (said c.args.msg.now) false c.on_down.new.fx) st _ ds k))
    (Calms-call _ _ c.args.id.0 (down (said c.args.msg.now) c.args.now false c.on_down.new.fx) _ _ (λ k. refl) (λ k. refl))
