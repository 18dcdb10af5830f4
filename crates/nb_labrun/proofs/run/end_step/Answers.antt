use Rattle.std.proofs.Common.{◌≡◌, ℕ, [], subst}
use Rattle.nb_client.specs.declared.client.Turn.{Turn}
use Rattle.nb_runner.specs.declared.status.Status.TheVariants as statuses
use Rattle.nb_client.specs.Progressing.{IsAtWork}
use Rattle.nb_labrun.specs.Playing.{InPlay, IsCleared, TurnGathers, TurnLeaves}
use Rattle.nb_labrun.proofs.PlayLemmas.{play_delivered, play_moves}
use Rattle.nb_labrun.proofs.TurnLemmas.{cleared, on_ok, over_gathers, turn_gathers, turn_leaves}
use Rattle.nb_labrun.proofs.run.end_step.Goals as goal

pub moves-preserved : goal.moves-preserved
moves-preserved c =
    let clear : IsCleared c.deliver.new.log = cleared c.deliver.new.log c.moves.log.room c.in_ok-deliver.ensures.cleared in
    let busy : IsAtWork c.moves.client.stage = subst (λ (t : Turn). TurnLeaves t c.moves.client.stage) c.in-More.is c.moves.invariant.0 in (
      turn_leaves c.more-turn.result [] c.moves.client c.more-turn.new.self c.deliver.new.log c.more-turn.new.log c.more-turn.ensures.does,
      λ images used g.
          let gathers = subst (λ (t : Turn). TurnGathers t images used c.moves.log c.moves.lab c.moves.summary c.moves.client) c.in-More.is (c.moves.invariant.1 images used g) in
          let p = play_delivered images used c.moves.log c.moves.lab c.deliver.new.lab c.moves.summary c.deliver.new.summary c.moves.client
          c.in_ok-deliver.ensures.whole c.in_ok-deliver.ensures.delivered gathers in
          turn_gathers c.more-turn.result [] c.moves.client c.more-turn.new.self c.deliver.new.log c.more-turn.new.log images used c.deliver.new.lab c.deliver.new.summary c.more-turn.ensures.does
          (λ adv. play_moves images used c.deliver.new.lab c.deliver.new.summary c.moves.client c.more-turn.new.self c.deliver.new.log c.more-turn.new.log clear busy adv p),
    )

pub returns-in-Waiting-clause-plays : goal.returns-in-Waiting-clause-plays
returns-in-Waiting-clause-plays c = λ images used g.
    let gathers = subst (λ (t : Turn). TurnGathers t images used c.moves.log c.moves.lab c.moves.summary c.moves.client) c.in-Waiting.is (c.moves.invariant.1 images used g) in
    play_delivered images used c.moves.log c.moves.lab c.deliver.new.lab c.moves.summary c.deliver.new.summary c.moves.client
    c.in_ok-deliver.ensures.whole c.in_ok-deliver.ensures.delivered gathers

pub returns-in-Yielded-clause-plays : goal.returns-in-Yielded-clause-plays
returns-in-Yielded-clause-plays c = λ images used g.
    let gathers = subst (λ (t : Turn). TurnGathers t images used c.moves.log c.moves.lab c.moves.summary c.moves.client) c.in-Yielded.is (c.moves.invariant.1 images used g) in
    play_delivered images used c.moves.log c.moves.lab c.deliver.new.lab c.moves.summary c.deliver.new.summary c.moves.client
    c.in_ok-deliver.ensures.whole c.in_ok-deliver.ensures.delivered gathers

pub returns-in-Over-clause-plays : goal.returns-in-Over-clause-plays
returns-in-Over-clause-plays c =
    on_ok c.over.result (c.in-Over.status ≡ statuses.NoMemory → ⊥) ((images used : ℕ) → TurnGathers c.args.first images used c.args.log.now c.args.lab.now c.args.summary.now c.args.client.now
    → InPlay images used c.deliver.new.lab c.deliver.new.summary c.moves.client)
    (λ some images used g.
    let gathers = subst (λ (t : Turn). TurnGathers t images used c.moves.log c.moves.lab c.moves.summary c.moves.client) c.in-Over.is (c.moves.invariant.1 images used g) in
    play_delivered images used c.moves.log c.moves.lab c.deliver.new.lab c.moves.summary c.deliver.new.summary c.moves.client
    c.in_ok-deliver.ensures.whole c.in_ok-deliver.ensures.delivered (over_gathers c.in-Over.status images used c.moves.log c.moves.lab c.moves.summary c.moves.client some gathers))
    c.over.ensures.memory
