use Rattle.std.proofs.Common.{[], ◌∷◌, ◌∙◌}
use Rattle.nb_record.specs.View.{in_of}
use Rattle.nb_labrun.proofs.LeadLemmas.{led_nowhere}
use Rattle.nb_labrun.proofs.PlayLemmas.{play_starts}
use Rattle.nb_labrun.proofs.TurnLemmas.{turn_gathers}
use Rattle.nb_labrun.proofs.run.enter.Goals as goal

pub returns-clause-plays : goal.returns-clause-plays
returns-clause-plays c = λ counts same.
    let l = c.args.lab.now in
    let images = l.server.images in
    let r = in_of c.args.entry.now in
    let before = c.in_ok-client.client in
    let after = c.step-turn.new.self in
    let led = led_nowhere before c.in_ok-client.ensures.used c.in_ok-client.ensures.ready c.in_ok-client.ensures.fits in
    c.in_ok-end.ensures.plays images 1 (turn_gathers c.step-turn.result (r ∷ []) before after c.args.log.now c.step-turn.new.log images 1 l c.count_input.new.self c.step-turn.ensures
    (λ adv. play_starts images r l c.args.summary.now c.count_input.new.self before after c.args.log.now c.step-turn.new.log c.requires.few c.requires.cleared c.requires.start c.requires.fresh adv
    (c.count_input.ensures.counts [] [] r counts) (c.count_input.ensures.images ∙ same) led))
