use Rattle.std.proofs.Common.{◌≡◌, ap, ◌∙◌}
use Rattle.nb_defs.specs.Records.{Start, start, in_text}
use Rattle.nb_lab.specs.Scripts.{lab_start}
use Rattle.nb_labrun.proofs.StartLemmas.{pushed_start}
use Rattle.nb_labrun.proofs.start.feed_start.Goals as goal

pub returns-clause-held : goal.returns-clause-held
returns-clause-held c =
    let images = c.args.lab.now.server.images in
    let text : c.as_slice.result.now ≡ in_text (start (lab_start images)) = c.as_slice.ensures.value ∙ c.in_ok-bytes.ensures ∙ ap (λ (s : Start). in_text (start s)) c.start.ensures.value in
    pushed_start images c.in_ok-feed.feed c.push.new.self c.as_slice.result.now c.push.result c.in_ok-feed.ensures text c.start.ensures.valid c.start.ensures.short c.push.ensures.held c.push.ensures.all
