use Rattle.std.proofs.Common.{[], ◌∷◌, map, sym, ap, subst, ◌∙◌}
use Rattle.nb_ibft.specs.Views.{boot_info}
use Rattle.nb_drivelogin.specs.Described.{described_list}
use Rattle.nb_drivelogin.specs.DriveInfos.{LoginsFit}
use Rattle.nb_drivelogin.specs.DriveOpens.{drive_open}
use Rattle.nb_drivelogin.proofs.DescribedLemmas.{described_fit}
use Rattle.nb_drivelogin.proofs.ShortTexts.{info_short}
use Rattle.nb_drivelogin.proofs.info.drive_info.Goals as goal

pub returns-in_ok-info_with-in-One-clause-short : goal.returns-in_ok-info_with-in-One-clause-short
returns-in_ok-info_with-in-One-clause-short c =
    let said = c.in_ok-info_with-in-One.ensures in
    let list = sym c.described_opens-described.ensures ∙ ap described_list c.in-One.is in
    λ fits. info_short (boot_info c.in_ok-info_with-in-One.field-0) c.args.mac c.args.table.now (drive_open c.in-One.lowest) []
    said.value said.host (subst LoginsFit list (described_fit (map drive_open c.args.opens.now) c.args.drives.now fits))

pub returns-in_ok-info_with-in-Two-clause-short : goal.returns-in_ok-info_with-in-Two-clause-short
returns-in_ok-info_with-in-Two-clause-short c =
    let said = c.in_ok-info_with-in-Two.ensures in
    let list = sym c.described_opens-described.ensures ∙ ap described_list c.in-Two.is in
    λ fits. info_short (boot_info c.in_ok-info_with-in-Two.field-0) c.args.mac c.args.table.now (drive_open c.in-Two.lowest) (drive_open c.in-Two.field-1 ∷ [])
    said.value said.host (subst LoginsFit list (described_fit (map drive_open c.args.opens.now) c.args.drives.now fits))
