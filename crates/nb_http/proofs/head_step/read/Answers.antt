use Rattle.std.proofs.Common.{sym, subst, Option, None, take}
use Rattle.nb_terms.specs.declared.cause.Cause.{Cause}
use Rattle.nb_http.specs.declared.state.State.TheVariants.{Over}
use Rattle.nb_http.specs.HeadReading.{IsHeadRead}
use Rattle.nb_http.proofs.DecidedLemmas.{read_many, read_broken}
use Rattle.nb_http.proofs.HeadLemmas.{read_more, read_whole, alone_block}
use Rattle.nb_http.proofs.head_step.read.Goals as goal

pub returns-in-More : goal.returns-in-More
returns-in-More c = subst (IsHeadRead c.args.rec c.args.bytes.now) (sym c.unfinished.ensures) (read_more c.args.rec c.args.bytes.now c.requires c.in-More.ensures)

pub returns-in-TooMany : goal.returns-in-TooMany
returns-in-TooMany c =
    subst (IsHeadRead c.args.rec c.args.bytes.now) (sym c.stops.ensures)
    (subst (λ (o : Option Cause). IsHeadRead c.args.rec c.args.bytes.now (record { len = c.deciding.result; kept = c.deciding.result; state = Over None; over = o })) (sym c.too_many.ensures)
    (read_many c.args.rec c.args.bytes.now c.deciding.result c.deciding.ensures c.requires c.in-TooMany.ensures))

pub returns-in-Broken : goal.returns-in-Broken
returns-in-Broken c =
    subst (IsHeadRead c.args.rec c.args.bytes.now) (sym c.stops-in-Broken.ensures)
    (subst (λ (o : Option Cause). IsHeadRead c.args.rec c.args.bytes.now (record { len = c.deciding-in-Broken.result; kept = c.deciding-in-Broken.result; state = Over None; over = o })) (sym c.not_a_response.ensures)
    (read_broken c.args.rec c.args.bytes.now c.deciding-in-Broken.result c.deciding-in-Broken.ensures c.requires c.in-Broken.ensures))

pub returns-in-Whole : goal.returns-in-Whole
returns-in-Whole c =
    read_whole c.args.rec c.args.bytes.now c.in-Whole.info c.whole.result c.requires c.in-Whole.ensures
    (c.whole.ensures (take c.in-Whole.info.len c.args.bytes.now) c.in-Whole.ensures.known.0 c.in-Whole.ensures.known.1 (alone_block c.args.bytes.now c.in-Whole.info.len c.requires c.in-Whole.ensures.block))
