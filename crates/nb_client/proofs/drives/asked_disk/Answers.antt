use Rattle.std.proofs.Common.{arith, refl}
use Rattle.nb_client.proofs.DriveAsks.{disk_fits}
use Rattle.nb_client.proofs.drives.asked_disk.Goals as goal

pub returns-clause-asks : goal.returns-clause-asks
returns-clause-asks c = rw (c.in_ok-login.ensures.value, c.open_words-words.ensures, c.in_ok-target.ensures) refl

pub returns-clause-fits : goal.returns-clause-fits
returns-clause-fits c = λ well.
    let h = c.args.hooking in
    let short = c.named_disks_are_short.ensures well.base well.uri h.disk well.names_it in
    disk_fits h c.args.server _ c.in_ok-target.target c.args.world.now.state.table c.in_ok-login.login c.in_ok-login.ensures.value c.in_ok-target.ensures c.unit_is_whole.ensures short
    (c.in_ok-login.ensures.short (omega (arith, short))) (c.sent_names_hold_no_zero.ensures well.base well.uri h.disk _ c.args.world.now.state.table well.names_it)
