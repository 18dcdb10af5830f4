use Rattle.std.proofs.Common.{◌≡◌, arith}
use Rattle.nb_boot.proofs.Fetching.{gave_none}
use Rattle.nb_boot.proofs.feeding.fetch.Goals as goal

pub returns-in-Ok-eq0-clause-fetches : goal.returns-in-Ok-eq0-clause-fetches
returns-in-Ok-eq0-clause-fetches g c =
    let n = c.in-Ok-eq0.field-0 in
    let none : n ≡ 0 = grind (arith, c.in-Ok-eq0.field-0-is, c.in-Ok-eq0.field-0-test) in
    gave_none n c.args.feed.now c.read.new.self (g.L.Line.outside c.args.line.now) (g.L.Line.outside c.read.new.line) none
    c.in-Ok-eq0.ensures.ok (c.in-Ok-eq0.ensures.over none c.requires.partial)
