use Rattle.std.proofs.Common.{◌+◌, ◌≤◌, length, IfSome}
use Rattle.std.specs.Option.{option_map, option_map_or}
use Rattle.std.specs.Vec.{vec_capacity}
use Rattle.nb_ledger.specs.GraphRun.{IsOpen}
use Rattle.nb_ledger.specs.Ledger.{port}
use Rattle.nb_graph.specs.Lively.{GrowsLively}
use Rattle.nb_effects.specs.Calm.{IsSteady}
use Rattle.nb_graph.specs.Again.{Gives}
use Rattle.nb_effects.specs.Trace.{nature, said}
use Rattle.nb_ledger.specs.Ledger.{rank}
use Rattle.nb_graph.specs.Lively.{reach}
use Rattle.nb_graph.proofs.inner.Inner.+lively.Given as goal

abbrev pub decreases-enter_up : goal.decreases-enter_up
decreases-enter_up g l = reach (rank l.self.now.book l.at.obj.0) (length l.msg.now.first.now + length l.msg.now.second.now) 15

abbrev pub decreases-enter_up_anew : goal.decreases-enter_up_anew
decreases-enter_up_anew g l = reach (rank l.self.now.book l.at.obj.0) (length l.msg.now.first.now + length l.msg.now.second.now) 14

abbrev pub decreases-enter_up_by : goal.decreases-enter_up_by
decreases-enter_up_by g l = reach (rank l.self.now.book l.at.obj.0) (length l.msg.now.first.now + length l.msg.now.second.now) 13

abbrev pub decreases-deliver : goal.decreases-deliver
decreases-deliver g l = reach (rank l.self.now.book l.at.obj.0) (length l.msg.now.first.now + length l.msg.now.second.now) 12

abbrev pub decreases-deliver_rest : goal.decreases-deliver_rest
decreases-deliver_rest g l = reach (rank l.self.now.book l.at.obj.0) (length l.msg.now.first.now + length l.msg.now.second.now) 11

abbrev pub decreases-deliver_again : goal.decreases-deliver_again
decreases-deliver_again g l = reach (rank l.self.now.book l.at.obj.0) (length l.msg.now.first.now + length l.msg.now.second.now) 10

abbrev pub decreases-after_up : goal.decreases-after_up
decreases-after_up g l = reach (rank l.self.now.book l.at.obj.0) (length l.msg.now.first.now + length l.msg.now.second.now) 7

abbrev pub decreases-effects : goal.decreases-effects
decreases-effects g l = reach (rank l.self.now.book l.id.0) 0 6

abbrev pub decreases-run_ups : goal.decreases-run_ups
decreases-run_ups g l = reach (rank l.self.now.book l.id.0) 0 5

abbrev pub decreases-run_up : goal.decreases-run_up
decreases-run_up g l = reach (rank l.self.now.book l.id.0) 0 4

abbrev pub decreases-run_late_up : goal.decreases-run_late_up
decreases-run_late_up g l = reach (rank l.self.now.book l.id.0) 0 4

abbrev pub decreases-send_late_up : goal.decreases-send_late_up
decreases-send_late_up g l = reach (rank l.self.now.book l.id.0) 0 3

abbrev pub decreases-send_up : goal.decreases-send_up
decreases-send_up g l = reach (rank l.self.now.book l.id.0) 0 2

abbrev pub decreases-pass_up : goal.decreases-pass_up
decreases-pass_up g l = reach (rank l.self.now.book l.at.obj.0) 0 1

abbrev pub decreases-hand_up : goal.decreases-hand_up
decreases-hand_up g l = reach (rank l.self.now.book l.at.obj.0) 0 0

abbrev pub decreases-hand_up_to : goal.decreases-hand_up_to
decreases-hand_up_to g l = reach (rank l.self.now.book l.at.obj.0) (length l.first.now + length l.second.now) 16

abbrev pub decreases-give : goal.decreases-give
decreases-give g l = reach (rank l.self.now.book l.at.obj.0) (length l.msg.now.first.now + length l.msg.now.second.now) 9

abbrev pub decreases-deliver_again-loop-rest : goal.decreases-deliver_again-loop-rest
decreases-deliver_again-loop-rest g l = option_map_or (λ r. 1 + length r.first.now + length r.second.now) l.rest 0

abbrev pub invariant-deliver_again-loop-rest : goal.invariant-deliver_again-loop-rest
invariant-deliver_again-loop-rest g l = record {
  gives : Gives g.N.Node.stands (nature g.N.Node.kind_of g.N.Node.mark_of g.N.Load.Parts.first g.N.Load.Parts.second) l.now l.at (said l.msg) l.initial.self.book l.self.book l.initial.self.nodes.items l.self.nodes.items (g.O.Outside.events l.initial.out) (g.O.Outside.events l.out) (option_map said l.rest);
  less : IfSome l.rest (λ r. length r.first.now + length r.second.now ≤ length l.msg.first.now + length l.msg.second.now);
  opened : IfSome l.rest (λ r. IsOpen (port l.self.book l.at.obj.0 l.at.slot));
  grows : GrowsLively l.initial.self.book l.self.book;
  steady : IsSteady g.N.Node.rank_of l.self.book l.self.nodes.items (vec_capacity l.self.nodes);
}
