use Rattle.std.proofs.Common.{sym, ◌∙◌, ap, subst}
use Rattle.nb_client.specs.Progressing.{PassesPiece}
use Rattle.nb_client.specs.Snapshots.{Snapshot}
use Rattle.nb_client.specs.Soundness.{IsUsable, snapshot_at}
use Rattle.nb_client.specs.declared.stage.Stage.{Stage}
use Rattle.nb_client.specs.declared.stage.Stage.TheVariants as stage
use Rattle.nb_client.proofs.HandMoves.{piece_turns, usable_hands}
use Rattle.nb_client.proofs.client.Client.pass_piece.Goals as goal

pub returns-clause-does : goal.returns-clause-does
returns-clause-does c =
    let i = c.self.inside in
    let h = c.in-HandingOff.handing in
    let sound = usable_hands i.lost i.site.used i.site.world i.site.opens h (subst (λ (st : Stage). IsUsable i.lost (snapshot_at i.site st)) c.in-HandingOff.is c.self.invariant) in
    subst (λ (s : Snapshot). PassesPiece s (snapshot_at i.site (stage.HandingOff c.pass_piece.new.self)))
    (ap (λ (st : Stage). snapshot_at i.site st) (sym c.in-HandingOff.is) ∙ c.self.view_is)
    (piece_turns i.site.used i.site.world i.site.opens h c.pass_piece.new.self sound c.pass_piece.ensures)
