use Rattle.nb_effects.specs.Trace.{nature, silence}
use Rattle.nb_effects.specs.Deeds.{runs_of}
use Rattle.nb_effects.specs.Follows.{takes_time}
use Rattle.nb_graph.proofs.LivesLemmas.{Follows-called}
use Rattle.std.proofs.Common.{refl, sym, ◌∙◌, ap, subst, true, false, [], ◌++◌}
use Rattle.nb_effects.specs.Trace.{time, lent, Owes, nature}
use Rattle.nb_effects.proofs.CallLemmas.{Asks-call, Calms-call}
use Rattle.nb_graph.proofs.SeatLemmas.{Calls-seat}
use Rattle.std.proofs.Common.{arith}
use Rattle.nb_effects.proofs.MannedLemmas.{manned-place, IsManned-node}
use Rattle.nb_graph.proofs.LivelyLemmas.{manned-rank}
use Rattle.nb_graph.proofs.inner.Inner.ask_time.Goals as goal

pub index_mut-requires : goal.index_mut-requires
index_mut-requires g c =
    let h = manned-place c.args.id.0 c.requires.manned c.requires.lives in
    omega (arith, h, c.place_at-place.ensures, c.args.self.now.nodes.ok.0)

pub returns-in-Ok-clause-asks : goal.returns-in-Ok-clause-asks
returns-in-Ok-clause-asks g c =
    let h = manned-place c.args.id.0 c.requires.manned c.requires.lives in
    let e = manned-rank c.args.id.0 c.index_mut.result.now c.requires.manned c.requires.lives h (rw c.place_at-place.ensures at c.index_mut.ensures.value) in
    rw e c.in-Ok.ensures.asks

pub returns-in-Ok-clause-manned : goal.returns-in-Ok-clause-manned
returns-in-Ok-clause-manned g c =
    let h = manned-place c.args.id.0 c.requires.manned c.requires.lives in
    IsManned-node c.place_at-place.result c.on_time.new.self c.index_mut.result.now (omega (arith, h, c.place_at-place.ensures)) c.index_mut.ensures.value c.on_time.ensures.rank c.requires.manned

pub returns-in-Err-clause-manned : goal.returns-in-Err-clause-manned
returns-in-Err-clause-manned g c =
    let h = manned-place c.args.id.0 c.requires.manned c.requires.lives in
    IsManned-node c.place_at-place.result c.on_time.new.self c.index_mut.result.now (omega (arith, h, c.place_at-place.ensures)) c.index_mut.ensures.value c.on_time.ensures.rank c.requires.manned

pub returns-in-Ok-clause-lives : goal.returns-in-Ok-clause-lives
returns-in-Ok-clause-lives g c = λ u.
    Calls-seat g.N.Node.stands c.args.now _ _ _ c.args.id.0 c.place_at-place.result (λ done fx. time c.args.now done fx) true c.on_time.new.fx c.index_mut.result.now c.on_time.new.self c.requires.manned c.requires.lives c.place_at-place.ensures c.index_mut.ensures.value
    (λ w v k. let b = k.0 refl in b.1 ∙ ap (λ z. z ++ lent c.on_time.new.fx) (sym b.0))
    (λ x w v n k. k.1 n)
    (c.on_time.ensures.mark, c.in-Ok.ensures.stands)
    (λ t w v k o. subst (Owes [] t) (k.0 refl).0 o)
    (λ st ds s k. (_, takes_time c.args.id.0 true c.on_time.new.fx, Follows-called _ _ _ _ (runs_of (nature g.N.Node.kind_of g.N.Node.mark_of g.N.Load.Parts.first g.N.Load.Parts.second) c.args.id.0 silence true c.on_time.new.fx) st _ ds k))
    (Calms-call _ _ c.args.id.0 (time c.args.now true c.on_time.new.fx) _ _ (λ k. refl) (λ k. refl), Asks-call (nature g.N.Node.kind_of g.N.Node.mark_of g.N.Load.Parts.first g.N.Load.Parts.second) c.args.id.0 (time c.args.now true c.on_time.new.fx) _ (λ k. refl))

pub returns-in-Err-clause-lives : goal.returns-in-Err-clause-lives
returns-in-Err-clause-lives g c = λ u.
    Calls-seat g.N.Node.stands c.args.now _ _ _ c.args.id.0 c.place_at-place.result (λ done fx. time c.args.now done fx) false c.on_time.new.fx c.index_mut.result.now c.on_time.new.self c.requires.manned c.requires.lives c.place_at-place.ensures c.index_mut.ensures.value
    (λ w v k. let b = k.0 refl in b.1 ∙ ap (λ z. z ++ lent c.on_time.new.fx) (sym b.0))
    (λ x w v n k. k.1 n)
    (c.on_time.ensures.mark, c.in-Err.ensures.stands)
    (λ t w v k o. subst (Owes [] t) (k.0 refl).0 o)
    (λ st ds s k. (_, takes_time c.args.id.0 false c.on_time.new.fx, Follows-called _ _ _ _ (runs_of (nature g.N.Node.kind_of g.N.Node.mark_of g.N.Load.Parts.first g.N.Load.Parts.second) c.args.id.0 silence false c.on_time.new.fx) st _ ds k))
    (Calms-call _ _ c.args.id.0 (time c.args.now false c.on_time.new.fx) _ _ (λ k. refl) (λ k. refl), Asks-call (nature g.N.Node.kind_of g.N.Node.mark_of g.N.Load.Parts.first g.N.Load.Parts.second) c.args.id.0 (time c.args.now false c.on_time.new.fx) _ (λ k. refl))
