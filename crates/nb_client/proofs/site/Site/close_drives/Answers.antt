use Rattle.std.proofs.Common.{refl}
use Rattle.nb_client.proofs.DriveCloses.{closed_one}
use Rattle.nb_client.proofs.site.Site.close_drives.Goals as goal

pub close_lowest-requires-2 : goal.close_lowest-requires-2
close_lowest-requires-2 c =
    let now = c.args.self.now in
    let first = closed_one c.args.cause.now now c.close_lowest.new.self now.world.state.drives refl c.in_ok-close_lowest.ensures in
    (c.requires.0, first.sound c.requires.0 c.requires.1)

pub returns : goal.returns
returns c = record {
  middle = c.close_lowest.new.self;
  between = c.close_lowest.new.out;
  first = c.in_ok-close_lowest.ensures;
  second = c.in_ok-close_lowest-2.ensures;
  few = c.len-count.ensures.few;
}
