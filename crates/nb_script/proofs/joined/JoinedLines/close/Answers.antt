use Rattle.std.proofs.Common.{◌∙◌}
use Rattle.nb_script.proofs.JoinedLemmas.{put_keeps}
use Rattle.nb_script.proofs.joined.JoinedLines.close.Goals as goal

pub loop-self-preserved : goal.loop-self-preserved
loop-self-preserved c =
    let e = c.in_ok-put.ensures in
    (put_keeps c.loop-self.self c.put.new.self e.lines e.front e.held ∙ c.loop-self.invariant.0, λ _ _. e.front)
