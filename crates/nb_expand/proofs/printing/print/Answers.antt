use Rattle.std.proofs.Common.{◌∙◌, arith}
use Rattle.nb_expand.proofs.PrintedLengthLemmas.{printed_short}
use Rattle.nb_expand.proofs.ReadBackLemmas.{read_back}
use Rattle.nb_expand.proofs.printing.print.Goals as goal

pub returns-in_err-print_bytes-clause-read_back : goal.returns-in_err-print_bytes-clause-read_back
returns-in_err-print_bytes-clause-read_back c =
    read_back c.args.kind c.args.bytes.now (λ i. let fits = c.type_inv.bytes i in omega arith)

pub returns-clause-read_back : goal.returns-clause-read_back
returns-clause-read_back c = read_back c.args.kind c.args.bytes.now (λ i. let fits = c.type_inv.bytes i in omega arith)

pub returns-clause-short : goal.returns-clause-short
returns-clause-short c =
    let printed_text = c.from_vec.ensures ∙ c.in_ok-print_bytes.ensures in
    rw printed_text (printed_short c.args.kind c.args.bytes.now (λ i. let fits = c.type_inv.bytes i in omega arith))
