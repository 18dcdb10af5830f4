use Rattle.std.proofs.Common.{sym, ◌∙◌, arith}
use Rattle.nb_conns.proofs.DialogueLemmas.{rests_on, quiet_slot, quiet_over, stands_on, nothing_said}
use Rattle.nb_conns.proofs.tcp.Tcp.on_close.Goals.{then-slot-gt-BELOW-via-then-slot-gt-BELOW, then-slot-gt-BELOW-via-else-slot-gt-BELOW+then-is_over}
use Rattle.nb_conns.proofs.tcp.Tcp.on_close.Goals as goal

pub returns-then-slot-gt-BELOW-clause-stands : goal.returns-then-slot-gt-BELOW-clause-stands
returns-then-slot-gt-BELOW-clause-stands g c =
    elim c.then-slot-gt-BELOW.branch [
      | then-slot-gt-BELOW-via-then-slot-gt-BELOW w ↦ λ t now s. stands_on g.L.CarriesConn.carrier c.args.self.now c.args.self.now t _ (rests_on g.L.CarriesConn.carrier _ _ (λ d at. quiet_slot g.L.CarriesConn.carrier c.args.slot c.args.cause.now now c.args.fx.now d (omega arith)) (nothing_said c.args.fx.now c.requires)) s
      | then-slot-gt-BELOW-via-else-slot-gt-BELOW+then-is_over w ↦ λ t now s. stands_on g.L.CarriesConn.carrier c.args.self.now c.args.self.now t _ (rests_on g.L.CarriesConn.carrier _ _ (λ d at. quiet_over g.L.CarriesConn.carrier c.args.self.now.stage c.args.slot c.args.cause.now now c.args.fx.now d (sym w.is_over.ensures ∙ w.if-is_over.true) at) (nothing_said c.args.fx.now c.requires)) s
    ]

pub returns-clause-within : goal.returns-clause-within
returns-clause-within g c = c.close.ensures.within 0

pub returns-clause-stands : goal.returns-clause-stands
returns-clause-stands g c = λ t now s. stands_on g.L.CarriesConn.carrier c.args.self.now c.close.new.self t _ (c.close.ensures.leads now) s
