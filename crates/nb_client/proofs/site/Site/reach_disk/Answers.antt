use Rattle.std.proofs.Common.{refl, sym}
use Rattle.nb_runner.specs.CommandWords.{onward_hooks}
use Rattle.nb_client.specs.Drives.{fails_there, reaches_there}
use Rattle.nb_client.proofs.DriveAsks.{room_if}
use Rattle.nb_client.proofs.site.Site.reach_disk.Goals as goal

pub returns-in-Over : goal.returns-in-Over
returns-in-Over c =
    let fails = sym (rw c.in-Over.is at c.in_ok-cause.ensures.value) in
    fails_there c.in-Over.cause fails c.go_on_with.ensures.stage c.go_on_with.ensures.puts

pub returns-in_ok-next-in-Next : goal.returns-in_ok-next-in-Next
returns-in_ok-next-in-Next c =
    let now = c.args.self.now in
    let follows = sym (rw c.in-Next.is at c.in_ok-cause.ensures.value) in
    let can = rw c.in-Next.is at c.in_ok-cause.ensures.can in
    let few = rw c.in-Next.is at c.in_ok-cause.ensures.room in
    rw c.in_ok-next-in-Next.ensures (reaches_there _ follows refl can.1 (room_if (onward_hooks c.in-Next.onward) now.world.state.drives few) refl refl)
