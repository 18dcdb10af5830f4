use Rattle.std.proofs.Common.{◌++◌, sym, subst}
use Rattle.nb_record.specs.Logged.{Puts}
use Rattle.nb_boot.proofs.Pieces.{piece_cuts, piece_leads}
use Rattle.nb_boot.proofs.play.write_piece.Goals as goal

pub returns-in-Ok-clause-ok : goal.returns-in-Ok-clause-ok
returns-in-Ok-clause-ok g c =
    let log = c.args.log.now in
    let leads = piece_leads (g.L.Line.outside c.args.line.now) (g.L.Line.outside c.flush_with-written.new.line) log c.flush_with-written.new.log (c.head.result ++ c.in-Some.piece.bytes.now)
    c.args.client.now c.pass_piece.new.self c.in-Ok.ensures.whole c.in-Ok.ensures.ok c.in-Ok.ensures.cleared
    (λ l puts. c.pass_piece.ensures.does c.in-Some.piece log l c.in-Some.ensures (subst (Puts log l) (sym c.head.ensures) puts)) c.requires in
    (leads.0, leads.1, c.pass_piece.ensures.nearer)

pub returns-in-Err-clause-err : goal.returns-in-Err-clause-err
returns-in-Err-clause-err g c =
    let log = c.args.log.now in
    piece_cuts c.in-Err.flaw (g.L.Line.outside c.args.line.now) (g.L.Line.outside c.flush_with-written.new.line) log (c.head.result ++ c.in-Some.piece.bytes.now)
    c.args.client.now c.pass_piece.new.self c.in-Err.ensures.err
    (λ l puts. c.pass_piece.ensures.does c.in-Some.piece log l c.in-Some.ensures (subst (Puts log l) (sym c.head.ensures) puts)) c.requires
