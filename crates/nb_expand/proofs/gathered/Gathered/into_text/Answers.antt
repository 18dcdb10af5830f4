use Rattle.std.proofs.Common.{sym, reverse}
use Rattle.nb_expand.proofs.GatheringLemmas.{put_back-gathered}
use Rattle.nb_expand.proofs.gathered.Gathered.into_text.Goals as goal

pub returns : goal.returns
returns c = rw (← c.self.view_is) (sym (put_back-gathered c.self.inside.text.items (reverse c.self.inside.opens.items) c.self.invariant))
