use Rattle.std.proofs.Common.{drop}
use Rattle.nb_defs.proofs.RecordLaws.{partial_not_whole, partial_not_broken}
use Rattle.nb_record.specs.View.{in_of}
use Rattle.nb_boot.proofs.BadRests.{breaks_broken}
use Rattle.nb_boot.proofs.feeding.is_partial.Goals as goal

pub returns-in-Whole : goal.returns-in-Whole
returns-in-Whole c = λ partial.
    let bytes = c.args.feed.now.bytes in
    partial_not_whole (in_of c.in-Whole.field-0) bytes (drop c.in-Whole.field-1 bytes) c.in-Whole.ensures.valid c.in-Whole.ensures.spelled partial

pub returns-in-Broken : goal.returns-in-Broken
returns-in-Broken c = λ partial.
    let bytes = c.args.feed.now.bytes in
    partial_not_broken bytes partial (breaks_broken bytes c.in-Broken.field-0.why c.in-Broken.ensures.1)
