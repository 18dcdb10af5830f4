use Rattle.std.proofs.Common.{refl, ap}
use Rattle.std.proofs.lemmas.Bool.{MatchBool-at_true, MatchBool-at_false}
use Rattle.nb_tcp.specs.declared.conn.Conn.{Conn}
use Rattle.nb_tcpseg.specs.SegmentText.{segment_parts}
use Rattle.nb_conns.specs.declared.stage.Running.{Running as Connected}
use Rattle.nb_conns.proofs.TakenLemmas.{handed}
use Rattle.nb_conns.proofs.stage.Running.hand_on.Goals as goal

pub returns-clause-on : goal.returns-clause-on
returns-clause-on c = λ e a start calls t.
    let new : Connected = record { conn = c.hand_on.new.self; ask = c.args.self.now.ask; closing = c.args.self.now.closing } in
    handed c.args.self.now new a start calls c.hand_on.new.acts c.args.rec (segment_parts c.args.segment.now) c.args.now t refl
    (MatchBool-at_true _ _ e c.hand_on.ensures.stands) (c.hand_on.ensures.taken e).1 (c.hand_on.ensures.taken e).2 (λ k st h is. (c.hand_on.ensures.going e k st h is).2) c.hand_on.ensures.delivered

pub returns-clause-same : goal.returns-clause-same
returns-clause-same c = λ e. ap (λ (z : Conn). record c.args.self.now { conn = z }) (MatchBool-at_false _ _ e c.hand_on.ensures.stands)
