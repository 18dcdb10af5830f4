use Rattle.std.proofs.Common.{refl, sym}
use Rattle.nb_client.proofs.Moved.{next_concludes, over_concludes}
use Rattle.nb_client.proofs.site.Site.follow_move.Goals as goal

pub returns-in-Over : goal.returns-in-Over
returns-in-Over c = λ p e asks none moves.
    let now = c.args.self.now in
    let fails = sym (rw c.in-Over.is at c.in_ok-cause.ensures.value) in
    rw c.go_on_with.ensures.stage
    (over_concludes now c.args.script c.args.wanted c.args.text.now p e asks none moves c.in-Over.cause _ _ fails c.requires.sound c.go_on_with.ensures.puts)

pub returns-in_ok-next-in-Next : goal.returns-in_ok-next-in-Next
returns-in_ok-next-in-Next c = λ p e asks none moves.
    let now = c.args.self.now in
    let follows = sym (rw c.in-Next.is at c.in_ok-cause.ensures.value) in
    let can = rw c.in-Next.is at c.in_ok-cause.ensures.can in
    let hooks = rw c.in-Next.is at c.in_ok-cause.ensures.plain in
    rw c.in_ok-next-in-Next.ensures (next_concludes now c.args.script c.args.wanted c.args.text.now p e asks none moves _ _ follows refl can.1 hooks c.requires.sound)
