use Rattle.std.proofs.Common.{refl, subst, []}
use Rattle.nb_effects.specs.Trace.{regain, Owes}
use Rattle.nb_effects.specs.Flows.{by_no_slot}
use Rattle.nb_effects.specs.Follows.{returns}
use Rattle.nb_effects.proofs.AccountLemmas.{Calms-weaken}
use Rattle.nb_effects.proofs.CallLemmas.{Calms-call, asks-nothing}
use Rattle.nb_graph.proofs.SeatLemmas.{Lives-seat}
use Rattle.std.proofs.Common.{arith}
use Rattle.nb_effects.proofs.MannedLemmas.{manned-place, IsManned-node}
use Rattle.nb_graph.proofs.inner.Inner.give_back.Goals as goal

pub index_mut-requires : goal.index_mut-requires
index_mut-requires g c =
    let h = manned-place c.args.id.0 c.requires.manned c.requires.lives in
    omega (arith, h, c.requires.place, c.args.self.now.nodes.ok.0)

pub returns-clause-manned : goal.returns-clause-manned
returns-clause-manned g c =
    let h = manned-place c.args.id.0 c.requires.manned c.requires.lives in
    IsManned-node c.args.index c.regain.new.self c.index_mut.result.now (omega (arith, h, c.requires.place)) c.index_mut.ensures.value c.regain.ensures.rank c.requires.manned

pub returns-clause-lives : goal.returns-clause-lives
returns-clause-lives g c = λ now u.
    Lives-seat g.N.Node.stands now _ _ _ c.args.id.0 c.args.index (regain c.args.load) c.index_mut.result.now c.regain.new.self c.requires.manned c.requires.lives c.requires.place c.index_mut.ensures.value
    (λ w v k. k.0 refl)
    (λ x w v n k. (k.1 n).1)
    (c.regain.ensures.mark, c.regain.ensures.stands)
    (λ t w v k o. let b = k.0 refl in (b.0, b.1, subst (Owes [] t) b.2 o))
    (λ st ds s k. ([], returns c.args.id.0 c.args.load, k))
    (Calms-weaken (Calms-call _ _ c.args.id.0 (regain c.args.load) by_no_slot by_no_slot (λ k. refl) (λ k. refl)) (λ p q x y w v e j. asks-nothing _ c.args.id.0 p q y w v e))
