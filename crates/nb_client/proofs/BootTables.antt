-- The boot table by what is made of the opens.
use Rattle.std.proofs.Common.{◌≡◌, List, [], ◌∷◌, Option, sym, ◌∙◌, ap}
use Rattle.std.specs.Prelude.{filter_map, option_map}
use Rattle.nb_ibft.specs.Infos.{Info}
use Rattle.nb_ibft.specs.Tables.{ibft}
use Rattle.nb_drivelogin.specs.DriveInfos.{drive_info}
use Rattle.nb_drivelogin.specs.DriveOpens.{DriveOpen, described_opens}
use Rattle.nb_machine.specs.BootTables.{boot_table, drive_open_of}
use Rattle.nb_machine.specs.Lives.{Live}
use Rattle.nb_machine.specs.Scripts.{net0_mac}
use Rattle.nb_machine.specs.States.{bare}
use Rattle.nb_runner.specs.declared.world.World.{World}
use Rattle.nb_client.specs.Snapshots.{state_of_world}

pub table_is : (w : World) (live : List Live) (opens : List DriveOpen) (info : Option Info) → opens ≡ filter_map drive_open_of live →
    info ≡ drive_info (net0_mac (bare w.net ∷ [])) w.state.table (described_opens w.state.drives opens) → boot_table (state_of_world w live) ≡ option_map ibft info
unfolding boot_table
table_is w live opens info e f = sym (ap (option_map ibft) (f ∙ ap (λ os. drive_info (net0_mac (bare w.net ∷ [])) w.state.table (described_opens w.state.drives os)) e))
