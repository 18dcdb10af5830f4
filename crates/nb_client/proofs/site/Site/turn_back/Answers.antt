use Rattle.std.proofs.Common.{[], ◌+◌}
use Rattle.nb_client.specs.Beginnings.{DropsWaiting}
use Rattle.nb_client.proofs.OpenWaits.{lets_result}
use Rattle.nb_client.proofs.site.Site.turn_back.Goals as goal

pub returns-clause-lets : goal.returns-clause-lets
returns-clause-lets c =
    let now = c.args.self.now in
    let l = c.in_ok-let_go.ensures.lets in
    let gone : DropsWaiting c.args.kind c.args.made.waits (now.world.opens + 1) now c.let_go.new.self [] c.args.out.now c.let_go.new.out =
    record { events = l.events; puts = l.puts; same_list = l.same_list; state = l.state; sound = l.sound; serials = l.serials; traces = l.traces } in
    lets_result c.args.kind c.args.made.waits (now.world.opens + 1) now c.let_go.new.self c.args.cause gone c.put_result.ensures
