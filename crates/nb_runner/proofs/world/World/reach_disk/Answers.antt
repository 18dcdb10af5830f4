use Rattle.std.proofs.Common.{◌≡◌, true, false, length, refl, rules}
use Rattle.std.specs.Prelude.{nat_le}
use Rattle.nb_machine.specs.Effects.{is_host_text, next_at_target, next_at_host}
use Rattle.nb_machine.specs.Errands.{hooks_then}
use Rattle.nb_runner.proofs.world.World.reach_disk.Goals as goal

pub returns-clause-value : goal.returns-clause-value
returns-clause-value c =
    let w = c.args.self.now in
    let hooking = c.args.hooking in
    let host : is_host_text w.state.table hooking.disk.host ≡ true = search rules in
    let room : nat_le 2 (length w.state.drives) ≡ false = search rules in
    let same : next_at_target w.opens w.state.table w.state.drives hooking ≡ next_at_host w.opens w.state.table hooking.disk.host (hooks_then hooking) =
    rw host (rw room refl)
    in
    rw same (search rules)
