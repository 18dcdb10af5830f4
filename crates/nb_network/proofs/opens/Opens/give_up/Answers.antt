use Rattle.std.proofs.Common.{ℕ, subst}
use Rattle.nb_network.specs.Closings.{GivesUpWaiting}
use Rattle.nb_network.specs.Many.{AreSound, Many, WaitsBeside}
use Rattle.nb_network.proofs.GivingUp.{given_up, given_up_sound}
use Rattle.nb_network.proofs.opens.Opens.give_up.Goals as goal

pub returns-clause-gives_up : goal.returns-clause-gives_up
returns-clause-gives_up c =
    subst (λ (m : Many). WaitsBeside c.args.kind c.args.waits m → (w opens : ℕ) → AreSound w opens c.args.net.now m → GivesUpWaiting c.args.kind c.args.waits m opens (record { graph = c.give_up.new.graph; list = c.self.inside.list.items }) c.in_ok-desk.desk.freed.value.text) c.self.view_is
    (λ wait w opens sound. given_up c.args.kind c.args.waits c.self.inside.graph c.give_up.new.graph c.self.inside.list.items c.in_ok-desk.desk.freed.value c.in_ok-desk.ensures c.has_nodes.ensures wait.apart opens)
    c.requires.waits

pub returns-clause-sound : goal.returns-clause-sound
returns-clause-sound c =
    subst (λ (m : Many). WaitsBeside c.args.kind c.args.waits m → (w opens : ℕ) → AreSound w opens c.args.net.now m → AreSound w opens c.args.net.now (record { graph = c.give_up.new.graph; list = c.self.inside.list.items })) c.self.view_is
    (λ wait w opens sound. given_up_sound c.args.kind c.args.waits c.self.inside.graph c.give_up.new.graph c.self.inside.list.items c.in_ok-desk.desk.freed.value c.in_ok-desk.ensures c.has_nodes.ensures wait.apart w opens c.args.net.now sound)
    c.requires.waits
