use Rattle.std.proofs.Common.{◌≡◌, List, ap, ◌∙◌}
use Rattle.nb_defs.specs.Records.{In, Out}
use Rattle.nb_lab.specs.Summaries.{summary}
use Rattle.nb_lab.specs.Tallies.{Counts}
use Rattle.nb_labrun.specs.Shows.{LabRun}
use Rattle.nb_labrun.proofs.EndLemmas.{run_is_summed}
use Rattle.nb_labrun.proofs.TurnLemmas.{if_ok}
use Rattle.nb_labrun.proofs.run.end.Goals as goal

pub returns : goal.returns
returns c =
    let s = c.args.status in
    let images = c.args.summary.now.images in
    if_ok c.text.result (λ text. (ins : List In) (outs : List Out) → Counts c.deliver.new.summary ins outs → text ≡ summary c.deliver.new.summary.images ins outs c.number.result) (LabRun images s)
    (λ text sums. run_is_summed s images c.args.lab.now c.deliver.new.lab c.args.summary.now c.deliver.new.summary c.args.client.now c.args.log.now c.finish.new.log text
    c.requires.played c.requires.cleared c.in_ok-finish.ensures.puts c.in_ok-deliver.ensures.whole c.in_ok-deliver.ensures.delivered
    (λ ins outs counts. sums ins outs counts ∙ ap (λ n. summary c.deliver.new.summary.images ins outs n) c.number.ensures))
    c.text.ensures
