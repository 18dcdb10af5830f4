use Rattle.std.proofs.Common.{sym, ◌∙◌, arith, ap, ltb, refl, inr, Some, None, ◌∷◌, length-append}
use Rattle.std.proofs.lemmas.Bool.{false≢true}
use Rattle.nb_ledger.specs.declared.event.Way.TheVariants.{Up}
use Rattle.nb_ledger.specs.Ledger.{port, open_count}
use Rattle.nb_ledger.proofs.RunLemmas.{told_event}
use Rattle.nb_graph.proofs.LivelyLemmas.{LivelyIn-dropped, LivelyIn-refl}
use Rattle.nb_ledger.specs.declared.event.GraphEvent.TheVariants.{Dropped}
use Rattle.nb_effects.specs.Trace.{said, said_behind}
use Rattle.nb_effects.specs.Deeds.{Holds}
use Rattle.nb_effects.specs.Follows.{drops_rest}
use Rattle.nb_graph.proofs.LivesLemmas.{Lives-none, Lives-under, Lives-weaken}
use Rattle.std.proofs.lemmas.List.{drop_all}
use Rattle.nb_effects.proofs.AccountLemmas.{Calms-idle, Calms-none, Calms-plain, Mild-same}
use Rattle.nb_effects.proofs.LivensLemmas.{Livens-calm}
use Rattle.nb_graph.proofs.MildLemmas.{Lives-plain}
use Rattle.nb_effects.proofs.RiseLemmas.{closed-count, rest-none, rest-shut}
use Rattle.nb_graph.proofs.OwingLemmas.{AllBack-stays}
use Rattle.nb_graph.proofs.SeatLemmas.{Loses-refl}
use Rattle.nb_graph.proofs.LivelyForLemmas.{left-some, left-none}
use Rattle.nb_graph.proofs.inner.Inner.left_of.Goals as goal

pub returns-then-took-whole-clause-goes : goal.returns-then-took-whole-clause-goes
unfolding LivelyIn-refl
returns-then-took-whole-clause-goes g c = λ now.
    let m = said c.args.msg.now in
    let all = length-append c.args.msg.now.first.now c.args.msg.now.second.now in
    let gone = drop_all c.args.took m.bytes (omega arith) in
    rw (left-none c.length_of-whole.result m (omega arith)) (rw (left-none c.args.took m (omega arith)) (record {
      lively = LivelyIn-refl _ _ _;
      lives = Lives-weaken (AllBack-stays _ c.args.at.obj.0) (λ ds k. Livens-calm k) (Lives-under (λ st. Holds c.args.at Up None ∷ st) (Lives-none _ now _ (Calms-idle (Calms-none _ _) (λ p q x y w v i j. inr (rest-none c.args.self.now.book c.args.at _ p q y w v gone i)))));
    }))

pub returns-then-is_open_at-clause-goes : goal.returns-then-is_open_at-clause-goes
returns-then-is_open_at-clause-goes g c = λ now.
    let m = said c.args.msg.now in
    let less = length-append c.args.msg.now.first.now c.args.msg.now.second.now in
    let e = left-some c.args.took m (omega arith) in
    rw e (λ c nc after d. rw e d.0)

pub returns-clause-goes : goal.returns-clause-goes
unfolding LivelyIn-dropped
returns-clause-goes g c = λ now.
    let m = said c.args.msg.now in
    let less = length-append c.args.msg.now.first.now c.args.msg.now.second.now in
    let shut = closed-count (port c.args.self.now.book c.args.at.obj.0 c.args.at.slot) (sym c.is_open_at.ensures ∙ c.if-is_open_at.false) in
    rw (left-none c.length_of-whole.result m (omega arith)) (rw (left-some c.args.took m (omega arith)) (record {
      lively = LivelyIn-dropped _ _ _ c.args.at (λ e. false≢true (sym (sym c.is_open_at.ensures ∙ c.if-is_open_at.false) ∙ ap (λ v. ltb 0 (open_count v)) e)) (rw c.spelled.ensures at (told_event _ _ _ c.event.ensures.given));
      lives = Lives-weaken (AllBack-stays _ c.args.at.obj.0) (λ ds k. Livens-calm (Calms-idle k (λ p q x y w v i j. rest-shut c.args.self.now.book c.args.at _ p q y x.sent y.taken w v shut j i))) (Lives-plain g.N.Node.stands now _ _ (λ st. Holds c.args.at Up (Some (said_behind c.args.took m)) ∷ st) (λ st. Holds c.args.at Up None ∷ st) (Dropped c.args.at) (Loses-refl _) refl (rw c.spelled.ensures at c.event.ensures.given) (λ st ds s k. (_, drops_rest c.args.at (said_behind c.args.took m) shut, k)) (Calms-plain _ _ _ (Dropped c.args.at) (Mild-same refl (λ x k. refl)) (λ p a. refl)));
    }))
