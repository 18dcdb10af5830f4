use Rattle.std.proofs.Common.{ℕ, List, Some, None, ap, sym, ◌∙◌}
use Rattle.std.specs.Option.{option_map}
use Rattle.nb_drivenodes.specs.DriveAsks.{ask_parts_of, name_list}
use Rattle.nb_drivenodes.proofs.AskLemmas.{ask-cut}
use Rattle.nb_drivenodes.proofs.drive_ask.DriveAsk.read.Goals as goal

pub returns-in_err-names-clause-value : goal.returns-in_err-names-clause-value
returns-in_err-names-clause-value c =
    ap (option_map ask_parts_of) c.from_residual-in_err-names.ensures
    ∙ ask-cut c.args.bytes.now c.in_ok-conn.rest.now c.in_ok-lun.rest.now c.in_ok-words.rest.now c.in_ok-conn.conn.now c.in_ok-lun.lun.now c.in_ok-words.words.now (Some c.in_ok-conn-2.conn) None
    c.in_ok-conn.ensures.cases.0 c.in_ok-conn.ensures.cases.1 c.in_ok-conn.ensures.cases.2 c.in_ok-lun.ensures.cases.0 c.in_ok-lun.ensures.cases.1 c.in_ok-lun.ensures.cases.2
    c.in_ok-words.ensures.cases.0 c.in_ok-words.ensures.cases.1 c.in_ok-words.ensures.cases.2 (sym c.in_ok-conn-2.was ∙ c.read.ensures) (ap (option_map name_list) (sym c.in_err-names.was) ∙ c.read-2.ensures)

pub returns-clause-value : goal.returns-clause-value
returns-clause-value c =
    ap (λ (z : List ℕ). Some (ask_parts_of (record { conn = c.in_ok-conn-2.conn; lun = c.in_ok-lun.lun.now; words = z; names = c.in_ok-names.names }))) c.words_of.ensures
    ∙ ask-cut c.args.bytes.now c.in_ok-conn.rest.now c.in_ok-lun.rest.now c.in_ok-words.rest.now c.in_ok-conn.conn.now c.in_ok-lun.lun.now c.in_ok-words.words.now (Some c.in_ok-conn-2.conn) (Some (name_list c.in_ok-names.names))
    c.in_ok-conn.ensures.cases.0 c.in_ok-conn.ensures.cases.1 c.in_ok-conn.ensures.cases.2 c.in_ok-lun.ensures.cases.0 c.in_ok-lun.ensures.cases.1 c.in_ok-lun.ensures.cases.2
    c.in_ok-words.ensures.cases.0 c.in_ok-words.ensures.cases.1 c.in_ok-words.ensures.cases.2 (sym c.in_ok-conn-2.was ∙ c.read.ensures) (ap (option_map name_list) (sym c.in_ok-names.was) ∙ c.read-2.ensures)
