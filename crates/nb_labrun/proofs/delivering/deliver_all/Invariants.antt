use Rattle.std.proofs.Common.{◌≡◌, ◌≤◌, List, length}
use Rattle.nb_defs.specs.Records.{Out, out_texts}
use Rattle.nb_labrun.proofs.DeliverLemmas.{IsLeft}
use Rattle.nb_labrun.proofs.delivering.deliver_all.Given as goal

-- what was read is delivered, and the rest is left
abbrev pub invariant-records : goal.invariant-records
invariant-records l = (length l.rest ≤ length l.records)
    × ((outs : List Out) → l.records ≡ out_texts outs → IsLeft outs l.rest l.fn.lab l.fn.summary l.lab l.summary)

abbrev pub decreases-records : goal.decreases-records
decreases-records l = length l.rest
