use Rattle.std.proofs.lemmas.Bool.{leb-true}
use Rattle.nb_reasm.proofs.RunLemmas.{free_after}
use Rattle.nb_reasm.proofs.held.Held.holds_none_later.Goals as goal

pub returns : goal.returns
returns c = λ none p h. free_after c.args.self.now.ring p c.args.self.now.is_ring.joinable (leb-true c.args.self.now.ring.end c.args.self.now.ring.next none) h
