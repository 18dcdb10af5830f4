use Rattle.std.proofs.Common.{ap, arith, length, reverse}
use Rattle.nb_expand.proofs.GatheringLemmas.{put_back-gathered}
use Rattle.nb_expand.proofs.gathered.Gathered.room.Goals as goal

pub returns : goal.returns
returns c =
    let whole = ap length (put_back-gathered c.self.inside.text.items (reverse c.self.inside.opens.items) c.self.invariant) in
    let inner = ap length (rw (← c.self.view_is) at c.inner.ensures) in
    rw (← c.self.view_is) (omega (arith, whole, inner, c.self.inside.text.ok.0))
