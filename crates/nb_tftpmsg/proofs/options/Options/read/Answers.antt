use Rattle.std.proofs.Common.{sym, ◌∙◌}
use Rattle.nb_tftpmsg.specs.FoundViews.{found_of}
use Rattle.nb_tftpmsg.proofs.OptionLemmas.{with_first-reads, with_first-refuses}
use Rattle.nb_tftpmsg.proofs.options.Options.read.Goals as goal

pub returns-in_default : goal.returns-in_default
returns-in_default c = sym (with_first-refuses (found_of c.loop-rest.found) c.loop-rest.rest.now (sym c.loop-rest-test.ensures) (sym c.in_default.ensures)) ∙ c.loop-rest.invariant

pub loop-rest-smaller : goal.loop-rest-smaller
loop-rest-smaller c = (with_first-reads (found_of c.loop-rest.found) (found_of c.in-Some.more) c.loop-rest.rest.now c.in-Some.behind.now (sym c.in-Some.ensures)).1

pub loop-rest-preserved : goal.loop-rest-preserved
loop-rest-preserved c = sym (with_first-reads (found_of c.loop-rest.found) (found_of c.in-Some.more) c.loop-rest.rest.now c.in-Some.behind.now (sym c.in-Some.ensures)).0 ∙ c.loop-rest.invariant
