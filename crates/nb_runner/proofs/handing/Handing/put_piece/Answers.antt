use Rattle.std.proofs.Common.{refl}
use Rattle.nb_runner.proofs.HandingLemmas.{piece_put, some_left}
use Rattle.nb_runner.proofs.handing.Handing.put_piece.Goals as goal

pub put-requires : goal.put-requires
put-requires c = c.in-Some.ensures.short

pub pass_piece-requires-clause-some : goal.pass_piece-requires-clause-some
pass_piece-requires-clause-some c = some_left c.args.images.now.images c.args.self.now c.in-Some.piece c.in-Some.ensures

pub returns-in_default : goal.returns-in_default
returns-in_default c = (c.in_default.ensures, refl, refl)

pub returns : goal.returns
returns c = piece_put c.args.images.now c.args.self.now c.pass_piece.new.self c.in-Some.piece c.in-Some.ensures c.pass_piece.ensures c.put.ensures
