use Rattle.std.proofs.Common.{map, sym, ap₂, ◌∙◌}
use Rattle.nb_drivelogin.specs.Described.{described_by}
use Rattle.nb_drivelogin.specs.DriveOpens.{drive_open}
use Rattle.nb_drivelogin.proofs.DescribedLemmas.{few_described}
use Rattle.nb_drivelogin.proofs.described.described_opens.Goals as goal

pub returns : goal.returns
returns c =
    c.described_by.ensures
    ∙ ap₂ described_by c.described_open.ensures c.described_open-2.ensures
    ∙ sym (few_described (map drive_open c.args.opens.now) c.args.drives.now c.len.ensures.few)
