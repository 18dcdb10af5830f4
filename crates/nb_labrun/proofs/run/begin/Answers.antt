use Rattle.std.proofs.Common.{◌+◌, drop}
use Rattle.nb_record.specs.View.{in_of}
use Rattle.nb_lab.specs.Scripts.{lab_start}
use Rattle.nb_labrun.proofs.StartLemmas.{front_is_start, start_not_broken, start_not_partial}
use Rattle.nb_labrun.proofs.run.begin.Goals as goal

pub enter-requires-clause-start : goal.enter-requires-clause-start
enter-requires-clause-start c =
    front_is_start (lab_start c.args.lab.now.server.images) (in_of c.in-Whole.entry) c.in_ok-feed.feed.bytes (drop c.in-Whole.field-1 c.in_ok-feed.feed.bytes)
    c.in_ok-feed.ensures.valid c.in-Whole.ensures.valid c.in_ok-feed.ensures.held c.in-Whole.ensures.spelled

pub unreachable-requires : goal.unreachable-requires
unreachable-requires c =
    start_not_partial (lab_start c.args.lab.now.server.images) c.in_ok-feed.feed.bytes c.in_ok-feed.ensures.valid c.in_ok-feed.ensures.held c.in-Partial.ensures

pub unreachable-requires-in-Broken : goal.unreachable-requires-in-Broken
unreachable-requires-in-Broken c =
    let breaks = c.in-Broken.ensures.1 in
    start_not_broken (lab_start c.args.lab.now.server.images) c.in_ok-feed.feed.bytes (breaks.place + 1) c.in_ok-feed.ensures.valid c.in_ok-feed.ensures.held breaks.with_it
