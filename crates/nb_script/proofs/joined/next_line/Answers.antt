use Rattle.std.proofs.Common.{◌+◌, sym}
use Rattle.std.proofs.lemmas.List.{take_rest}
use Rattle.nb_script.proofs.JoinedLemmas.{joined_lines_some, joined_lines_none}
use Rattle.nb_script.proofs.joined.next_line.Goals as goal

pub returns-in_err-count-clause-none : goal.returns-in_err-count-clause-none
returns-in_err-count-clause-none c = λ _. joined_lines_none c.args.text.now (sym c.in_err-count.ensures)

pub returns-clause-some : goal.returns-clause-some
returns-clause-some c =
    rw (take_rest c.args.text.now (c.in_ok-count.count + 1), c.without_cr.ensures) (joined_lines_some c.args.text.now c.in_ok-count.count (sym c.in_ok-count.ensures))
