use Rattle.std.proofs.Common.{◌<◌, ◌^◌, length, arith}
use Rattle.nb_lab.specs.Shows.{seen_of}
use Rattle.nb_labrun.proofs.DeliverLemmas.{all_left, next_left, left_after, none_left}
use Rattle.nb_labrun.proofs.delivering.deliver_all.Goals as goal

pub records-init : goal.records-init
records-init c = (omega arith, λ outs is. all_left outs c.args.records.now c.args.lab.now c.args.summary.now is)

pub records-smaller : goal.records-smaller
records-smaller c = c.in-Some.ensures.shorter

pub records-preserved : goal.records-preserved
records-preserved c =
    let few : length c.records.rest.now < 2 ^ 32 = omega (arith, c.records.invariant.0, c.requires) in (
      omega (arith, c.in-Some.ensures.shorter, c.records.invariant.0),
      λ outs is.
          let n = next_left outs c.records.rest.now c.in-Some.after.now (seen_of c.in-Some.shown) c.args.lab.now c.args.summary.now c.records.lab c.records.summary
          few c.in-Some.ensures.shorter c.in-Some.ensures.first (c.records.invariant.1 outs is) in
          left_after outs c.in-Some.after.now (seen_of c.in-Some.shown) c.args.lab.now c.args.summary.now c.records.lab c.records.summary c.reach.new.lab c.count.new.self
          n (c.in_ok-reach.ensures n.first n.is_seen) c.count.ensures.counts c.count.ensures.images,
    )

pub returns : goal.returns
returns c = λ outs is.
    let few : length c.records.rest.now < 2 ^ 32 = omega (arith, c.records.invariant.0, c.requires) in
    none_left outs c.records.rest.now c.args.lab.now c.args.summary.now c.records.lab c.records.summary few c.in_default.ensures.first (c.records.invariant.1 outs is)
