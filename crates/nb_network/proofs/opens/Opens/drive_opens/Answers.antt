use Rattle.std.proofs.Common.{◌≡◌, ℕ, map, ◌∙◌, ap}
use Rattle.std.specs.List.{filter_map}
use Rattle.nb_drivelogin.specs.DriveOpens.{drive_open}
use Rattle.nb_machine.specs.BootTables.{drive_open_of}
use Rattle.nb_machine.specs.States.{State}
use Rattle.nb_stack.specs.Client.{Client}
use Rattle.nb_network.specs.Hooked.{hooked_by}
use Rattle.nb_network.specs.Many.{IsStateOf, Many}
use Rattle.nb_network.proofs.HookedOpens.{hooked_are}
use Rattle.nb_network.proofs.Results.{ok_map}
use Rattle.nb_network.proofs.opens.Opens.drive_opens.Goals as goal

pub returns-clause-opens : goal.returns-clause-opens
returns-clause-opens c =
    let list = c.args.self.now.list in
    let v : c.as_slice.result.now ≡ list = c.as_slice.ensures.value ∙ ap (λ (m : Many). m.list) c.self.view_is in
    ok_map
    (λ opens. map drive_open opens.items ≡ filter_map hooked_by c.as_slice.result.now)
    (λ opens. (net : Client) (now : ℕ) (s : State) → IsStateOf c.args.self.now net now s → map drive_open opens.items ≡ filter_map drive_open_of s.live)
    c.hooked_among.result
    (λ opens h net now s state. h ∙ (ap (filter_map hooked_by) v ∙ hooked_are c.args.self.now.graph list s.live state.live))
    c.hooked_among.ensures.opens
