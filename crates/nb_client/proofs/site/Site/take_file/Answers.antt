use Rattle.std.proofs.Common.{◌≡◌, Some, sym, ◌∙◌, ap}
use Rattle.nb_client.specs.Concluding.{moved_place}
use Rattle.nb_client.proofs.Results.{if_ok}
use Rattle.nb_client.proofs.site.Site.take_file.Goals as goal

pub take_body-requires-clause-stays : goal.take_body-requires-clause-stays
take_body-requires-clause-stays c = sym (rw c.in-None.is at c.moved_place.ensures)

pub returns-in-Some : goal.returns-in-Some
returns-in-Some c =
    let moves : moved_place c.args.ended ≡ Some c.as_slice.result.now = sym (rw c.in-Some.is at c.moved_place.ensures) ∙ ap Some (sym c.as_slice.ensures) in
    if_ok c.follow_move.result (λ st f p asks none. f p c.args.ended asks none moves) c.follow_move.ensures
