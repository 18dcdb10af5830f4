use Rattle.std.proofs.Common.{◌≡◌, [], ap}
use Rattle.nb_runner.specs.World.{with_net, world_with_drives}
use Rattle.nb_client.proofs.DriveLists.{kept_none}
use Rattle.nb_client.proofs.site.Site.shut_down.Goals as goal

pub returns-clause-shuts : goal.returns-clause-shuts
returns-clause-shuts c =
    let e = c.in_ok-desk-2.ensures in
    let w = c.args.self.now.world in
    let f = c.forget_ended.ensures in
    let k = rw c.cause-stopped.ensures at (e.closes w.w w.opens c.requires.sound) in
    let world : c.forget_ended.new.self.world ≡ world_with_drives (with_net w (record w.net { ports = [] })) [] =
    rw (f.world, e.net, k.none) (ap (world_with_drives (with_net w (record w.net { ports = [] }))) (kept_none w.state.drives)) in
    rw f.opens (record {
      records = k.records;
      puts = k.puts;
      none = k.none;
      closes = k.closes;
      closes_first = k.closes_first;
      traces = k.traces;
      world = world;
      sound = rw f.world (e.sound w.w w.opens c.requires.sound);
      serials = e.serials;
    })
