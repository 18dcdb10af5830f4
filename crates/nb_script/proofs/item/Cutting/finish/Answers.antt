use Rattle.std.proofs.Common.{ap}
use Rattle.nb_script.specs.ShownJoin.{shown_join}
use Rattle.nb_defs.specs.ScriptLines.{item}
use Rattle.nb_script.proofs.ItemLemmas.{before_end}
use Rattle.nb_script.proofs.item.Cutting.finish.Goals as goal

pub returns : goal.returns
returns c = before_end c.args.self _ _ (ap (item (shown_join c.args.self.join)) c.from_vec.ensures) c.in_ok-push.ensures.items
