use Rattle.std.proofs.Common.{subst, sym}
use Rattle.nb_httpmsg.specs.declared.place.Place.{Place}
use Rattle.nb_httpmsg.specs.Feeding.{IsSizeRead}
use Rattle.std.proofs.Common.{length}
use Rattle.nb_httpmsg.proofs.FeedLemmas.{size_whole, size_open, size_bad}
use Rattle.nb_httpmsg.proofs.line.read_size.Goals as goal

pub returns-in-Err : goal.returns-in-Err
returns-in-Err c = size_bad c.args.line.now c.broken_len.result c.broken_len.ensures c.requires

pub returns-in-Ok-Partial : goal.returns-in-Ok-Partial
returns-in-Ok-Partial c =
    let none = rw c.in-Ok-Partial.field-0-is at c.in-Ok-Partial.ensures.partial in
    let may = rw c.in-Ok-Partial.field-0-is at c.in-Ok-Partial.ensures.unfinished in
    subst (λ (p : Place). IsSizeRead c.args.line.now (record { len = length c.args.line.now; place = p })) (sym c.within.ensures) (size_open c.args.line.now none may c.requires)

pub returns-in-Ok-Complete : goal.returns-in-Ok-Complete
returns-in-Ok-Complete c =
    let done = rw c.in-Ok-Complete.field-0-is at c.in-Ok-Complete.ensures.complete in
    subst (λ (p : Place). IsSizeRead c.args.line.now (record { len = c.in-Ok-Complete.len; place = p })) (sym c.after_size.ensures) (size_whole c.args.line.now c.in-Ok-Complete.len c.in-Ok-Complete.size done.0 done.1 c.requires)
