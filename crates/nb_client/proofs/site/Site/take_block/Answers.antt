use Rattle.std.proofs.Common.{refl, ap, subst}
use Rattle.nb_client.specs.Booting.{HasCome}
use Rattle.nb_client.proofs.BlockConcludes.{boots_concludes, fits_any, lost_concludes, lost_sound, short_read}
use Rattle.nb_client.proofs.Conclude.{if_all}
use Rattle.nb_client.proofs.site.Site.take_block.Goals as goal

pub returns-in-Lost : goal.returns-in-Lost
returns-in-Lost c = λ p asks number none.
    let now = c.args.self.now in
    let come = rw c.in-Lost.is at c.in_ok-cause.ensures.came in
    rw c.go_on_with.ensures.stage
    (lost_concludes now c.args.script c.args.drive p asks none c.args.answer c.in-Lost.cause (rw number come) (lost_sound c.args.answer c.in-Lost.cause c.args.drive c.args.number now.opens come c.requires.sound) c.go_on_with.ensures.puts)

pub returns-in-Read : goal.returns-in-Read
returns-in-Read c =
    let now = c.args.self.now in
    let e = c.begin_handing.ensures in
    let h = c.hook_booted.ensures in
    let come = rw c.in-Read.is at c.in_ok-cause.ensures.came in
    if_all c.begin_handing.result (λ st is used shuts p asks number none.
    rw is.1 (boots_concludes now c.args.script c.args.drive p asks none c.args.answer c.in-Read.block c.hook_booted.new.self c.begin_handing.new.self is.0 (rw number come)
    (short_read c.args.answer c.in-Read.block c.args.number now.opens come) c.requires.sound h.used h.opens h.world is.2 used shuts)) e.stage e.used e.shuts
