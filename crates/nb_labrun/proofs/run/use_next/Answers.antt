use Rattle.std.proofs.Common.{ℕ, [], ◌∷◌, ◌+◌, sym, subst}
use Rattle.nb_lab.specs.Labs.{LabState, coming_record}
use Rattle.nb_labrun.specs.Playing.{GathersUndelivered, InPlay, TurnGathers}
use Rattle.nb_labrun.proofs.PlayLemmas.{play_uses}
use Rattle.nb_labrun.proofs.TurnLemmas.{on_ok, turn_gathers}
use Rattle.nb_labrun.proofs.run.use_next.Goals as goal

pub returns-clause-plays : goal.returns-clause-plays
returns-clause-plays c =
    let l = c.args.lab.now in
    let came = c.advance-come.new.self in
    let r = coming_record c.advance-come.result came in
    let before = c.args.client.now in
    let after = c.step-turn.new.client in
    on_ok c.end_step.result
    ((images used : ℕ) → TurnGathers c.step-turn.result images used c.step-turn.new.log came c.count_input.new.self after → InPlay images used c.end_step.new.lab c.end_step.new.summary c.end_step.new.client)
    ((images used : ℕ) → InPlay images used l c.args.summary.now before → InPlay images (used + 1) c.end_step.new.lab c.end_step.new.summary c.end_step.new.client)
    (λ plays images used p. plays images (used + 1) (turn_gathers c.step-turn.result (r ∷ []) before after c.args.log.now c.step-turn.new.log images (used + 1) came c.count_input.new.self c.step-turn.ensures
    (λ adv. subst (λ (x : LabState). GathersUndelivered images (used + 1) c.step-turn.new.log x c.count_input.new.self after) (sym c.advance-come.ensures.after)
    (play_uses images used r l c.args.summary.now c.count_input.new.self before after c.args.log.now c.step-turn.new.log c.requires.cleared c.advance-come.ensures.value adv
    c.count_input.ensures.counts c.count_input.ensures.images p))))
    c.end_step.ensures.plays
