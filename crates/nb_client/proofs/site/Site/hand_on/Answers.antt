use Rattle.std.proofs.Common.{true, false}
use Rattle.nb_runner.specs.Handings.{HandsOn}
use Rattle.nb_client.proofs.HandMoves.{handed_goes, piece_goes}
use Rattle.nb_client.proofs.site.Site.hand_on.Goals as goal

pub returns-then-put_piece : goal.returns-then-put_piece
returns-then-put_piece c =
    let now = c.args.self.now in
    let does : HandsOn true now.world.state.images c.args.handing c.put_piece.new.self c.args.log.now c.put_piece.new.log = rw c.if-put_piece.true at c.put_piece.ensures in
    piece_goes now.used now.world now.opens c.args.handing c.put_piece.new.self c.requires does

pub returns-else-put_piece : goal.returns-else-put_piece
returns-else-put_piece c =
    let now = c.args.self.now in
    let does : HandsOn false now.world.state.images c.args.handing c.put_piece.new.self c.args.log.now c.put_piece.new.log = rw c.if-put_piece.false at c.put_piece.ensures in
    handed_goes now.used now.world now.opens c.args.handing c.put_piece.new.self c.requires does
