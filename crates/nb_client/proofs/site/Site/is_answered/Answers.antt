use Rattle.std.proofs.Common.{Bor, List, ℕ, ◌∙◌, ap}
use Rattle.std.specs.Option.{is_some}
use Rattle.nb_client.specs.Snapshots.{state_of_world}
use Rattle.nb_client.proofs.Results.{some_mapped}
use Rattle.nb_client.proofs.Served.{state_is}
use Rattle.nb_client.proofs.site.Site.is_answered.Goals as goal

pub returns-in-Block : goal.returns-in-Block
returns-in-Block c =
    let now = c.args.self.now in
    let w = now.world in
    rw c.in-Block.is (λ live are. c.is_some.ensures ∙ (some_mapped (λ (b : Bor (List ℕ)). b.now) c.read.result ∙ ap is_some (c.read.ensures w.net w.time (state_of_world w live) (state_is w now.opens live are))))

pub returns-in-Disk : goal.returns-in-Disk
returns-in-Disk c =
    let now = c.args.self.now in
    let w = now.world in
    rw c.in-Disk.is (λ live are. c.answered.ensures w.net w.time (state_of_world w live) (state_is w now.opens live are))
