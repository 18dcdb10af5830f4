use Rattle.std.proofs.Common.{Some, sym, ◌∙◌, ap, subst, [], ◌∷◌}
use Rattle.nb_defs.specs.Records.{out_texts, result}
use Rattle.nb_record.specs.Logged.{Puts}
use Rattle.nb_drivecmd.specs.declared.drive.Drive.{Drive}
use Rattle.nb_drivecmd.specs.HookedDrives.{with_hooked}
use Rattle.nb_runner.specs.World.{world_with_drives}
use Rattle.nb_client.specs.Booting.{AsksFirst}
use Rattle.nb_client.specs.Drives.{drive_hooked_by}
use Rattle.nb_client.specs.Soundness.{kept_drives, snapshot_at}
use Rattle.nb_client.proofs.DriveConcludes.{asks_concludes, fails_for, hooks_concludes}
use Rattle.nb_client.proofs.Results.{if_ok}
use Rattle.nb_client.proofs.site.Site.take_drive.Goals as goal

pub returns-in-Some : goal.returns-in-Some
returns-in-Some c = λ p asks number none.
    rw c.go_on_with.ensures.stage
    (fails_for c.args.self.now c.args.script c.args.disk.now p asks none c.requires.sound c.args.answer c.in-Some.cause (sym (rw c.in-Some.is at c.failure_of.ensures)) c.go_on_with.ensures.puts)

pub returns-in-Keep : goal.returns-in-Keep
returns-in-Keep c = λ p asks number none.
    let now = c.args.self.now in
    let d = c.args.disk.now in
    let h = c.hook.ensures in
    let k = c.go_on_with-in-Keep in
    let world = h.world ∙ ap (λ (x : Drive). world_with_drives now.world (kept_drives now.opens.list (with_hooked x now.world.state.drives))) (c.drive_by-drive.ensures ∙ ap (drive_hooked_by d.hooking) (sym number)) in
    rw (k.ensures.stage, c.cause.ensures)
    (hooks_concludes now c.args.script d p asks none c.requires.sound c.args.answer c.hook.new.self (sym (rw c.in_default.is at c.failure_of.ensures)) (rw number c.requires.fits) c.in-Keep.is h.used h.opens world
    (subst (λ z. Puts c.args.out.now k.new.out (out_texts (result z ∷ []))) c.cause.ensures k.ensures.puts))

pub returns-in-Boot : goal.returns-in-Boot
returns-in-Boot c =
    let now = c.args.self.now in
    let d = c.args.disk.now in
    if_ok c.ask_block.result (λ st k p asks number none.
    let after = snapshot_at c.ask_block.new.self st in
    asks_concludes now c.args.script d p asks none c.requires.sound c.args.answer after c.in-Boot.keep (sym (rw c.in_default.is at c.failure_of.ensures)) c.in-Boot.is
    (rw number (subst (λ (x : Drive). AsksFirst c.args.script c.args.number (Some x) now after c.args.out.now c.ask_block.new.out) c.drive_by-drive.ensures k))) c.ask_block.ensures
