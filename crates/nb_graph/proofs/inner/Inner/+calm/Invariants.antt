use Rattle.std.proofs.Common.{◌+◌, length}
use Rattle.nb_ledger.specs.Ledger.{opens, rank}
use Rattle.nb_effects.specs.Calm.{distance}
use Rattle.nb_graph.proofs.inner.Inner.+calm.Given as goal

abbrev pub decreases-close_port : goal.decreases-close_port
decreases-close_port g l = distance (opens l.self.now.book) 0 1

abbrev pub decreases-close_link : goal.decreases-close_link
decreases-close_link g l = distance (opens l.self.now.book) 0 0

abbrev pub decreases-calm_effects : goal.decreases-calm_effects
decreases-calm_effects g l = distance (opens l.self.now.book) (rank l.self.now.book l.id.0) 12

abbrev pub decreases-run_downs : goal.decreases-run_downs
decreases-run_downs g l = distance (opens l.self.now.book) (rank l.self.now.book l.id.0) 11

abbrev pub decreases-run_down : goal.decreases-run_down
decreases-run_down g l = distance (opens l.self.now.book) (rank l.self.now.book l.id.0) 10

abbrev pub decreases-send_down : goal.decreases-send_down
decreases-send_down g l = distance (opens l.self.now.book) (rank l.self.now.book l.id.0) 9

abbrev pub decreases-pass_down : goal.decreases-pass_down
decreases-pass_down g l = distance (opens l.self.now.book) (rank l.self.now.book l.at.obj.0) 8

abbrev pub decreases-hand_down : goal.decreases-hand_down
decreases-hand_down g l = distance (opens l.self.now.book) (rank l.self.now.book l.at.obj.0) 7

abbrev pub decreases-hand_down_to : goal.decreases-hand_down_to
decreases-hand_down_to g l = distance (opens l.self.now.book) (rank l.self.now.book l.at.obj.0) 18

abbrev pub decreases-enter_down : goal.decreases-enter_down
decreases-enter_down g l = distance (opens l.self.now.book) (rank l.self.now.book l.at.obj.0) 17

abbrev pub decreases-enter_down_anew : goal.decreases-enter_down_anew
decreases-enter_down_anew g l = distance (opens l.self.now.book) (rank l.self.now.book l.at.obj.0) 16

abbrev pub decreases-enter_down_by : goal.decreases-enter_down_by
decreases-enter_down_by g l = distance (opens l.self.now.book) (rank l.self.now.book l.at.obj.0) 15

abbrev pub decreases-enter_down_with : goal.decreases-enter_down_with
decreases-enter_down_with g l = distance (opens l.self.now.book) (rank l.self.now.book l.at.obj.0) 14

abbrev pub decreases-fail : goal.decreases-fail
decreases-fail g l = distance (opens l.self.now.book) 0 7

abbrev pub decreases-close_all : goal.decreases-close_all
decreases-close_all g l = distance (opens l.self.now.book) 0 6

abbrev pub decreases-close_asked : goal.decreases-close_asked
decreases-close_asked g l = distance (opens l.self.now.book) 0 (3 + length l.closes.now)

abbrev pub decreases-run_closes : goal.decreases-run_closes
decreases-run_closes g l = distance (opens l.self.now.book) 0 (2 + length l.closes.now)

abbrev pub decreases-after_down : goal.decreases-after_down
decreases-after_down g l = distance (opens l.self.now.book) (rank l.self.now.book l.id.0) 13
