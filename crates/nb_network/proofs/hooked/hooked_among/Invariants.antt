use Rattle.std.proofs.Common.{◌≡◌, map, take}
use Rattle.std.specs.List.{filter_map}
use Rattle.nb_drivelogin.specs.DriveInfos.{LoginsFit}
use Rattle.nb_drivelogin.specs.DriveOpens.{drive_open}
use Rattle.nb_network.specs.Hooked.{hooked_by}
use Rattle.nb_network.proofs.hooked.hooked_among.Given as goal

-- those of the opens so far that are drives are told, and a boot table may have their logins
abbrev pub invariant-loop-living : goal.invariant-loop-living
invariant-loop-living l = (map drive_open l.opens.items ≡ filter_map hooked_by (take l.living-index l.list)) × LoginsFit (map drive_open l.opens.items)
