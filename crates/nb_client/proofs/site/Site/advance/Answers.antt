use Rattle.std.proofs.Common.{[], ◌∷◌, subst}
use Rattle.nb_client.specs.Turning.{LeftTo}
use Rattle.nb_defs.specs.Records.{leave, out_texts}
use Rattle.nb_record.specs.Logged.{Puts}
use Rattle.nb_machine.specs.Running.{Running}
use Rattle.nb_client.proofs.CommandEnds.{ends_unexpanded}
use Rattle.nb_client.proofs.Moves.{pass_goes, left_goes, yield_goes}
use Rattle.nb_client.proofs.site.Site.advance.Goals as goal

pub returns-in-Passed-clause-moves : goal.returns-in-Passed-clause-moves
returns-in-Passed-clause-moves c =
    let now = c.args.self.now in
    let passed = rw c.in-Passed.is at c.in_ok-next.ensures in
    pass_goes now.used now.world now.opens c.args.script c.next.new.self c.requires.sound passed

pub returns-in-Left-clause-moves : goal.returns-in-Left-clause-moves
returns-in-Left-clause-moves c =
    let now = c.args.self.now in
    let is_left = rw c.in-Left.is at c.in_ok-next.ensures in
    let puts = subst (λ (x : Running). Puts c.args.log.now c.leave_with.new.log (out_texts (leave x.depth c.in-Left.cause ∷ []))) is_left.0 c.leave_with.ensures.puts in
    let gone = c.leave_with.ensures.left in
    let to : LeftTo c.args.script.begun c.in-Left.cause now.world.outer c.leave_with.result c.leave_with.new.self.world.outer =
    subst (λ (x : Running). LeftTo x.begun c.in-Left.cause now.world.outer c.leave_with.result c.leave_with.new.self.world.outer) is_left.0 gone.to in
    rw (gone.used, gone.opens, gone.world) (left_goes now.used now.world c.leave_with.new.self.world.outer now.opens c.args.script c.in-Left.cause c.leave_with.result c.requires.sound is_left.1 to puts)

pub returns-in-Full-clause-moves : goal.returns-in-Full-clause-moves
returns-in-Full-clause-moves c =
    let now = c.args.self.now in
    let full = rw c.in-Full.is at c.in_ok-next.ensures in
    rw full.0 (yield_goes now.used now.world now.opens c.args.script c.requires.sound full.1)

pub refuse-requires-clause-refused : goal.refuse-requires-clause-refused
refuse-requires-clause-refused c =
    let now = c.args.self.now in
    let is_refused = rw c.in-Refused.is at c.in_ok-next.ensures in
    rw (is_refused.0, c.as_slice-in-Refused.ensures) (ends_unexpanded c.args.script now.world c.in-Refused.list c.in-Refused.cause c.requires.sound.linked is_refused.1)
