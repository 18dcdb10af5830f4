use Rattle.std.proofs.Common.{ℕ, Option, [], ◌∷◌, ◌++◌, sym, subst}
use Rattle.nb_defs.specs.Records.{out_texts, sent}
use Rattle.nb_record.specs.Logged.{Puts}
use Rattle.nb_machine.specs.Sendings.{try_records}
use Rattle.nb_runner.proofs.Puts.{Puts-one}
use Rattle.nb_teller.proofs.put.put_frame.Goals as goal

pub returns-in-None : goal.returns-in-None
returns-in-None c =
    let P : Option ℕ → Type 0 = λ t. Puts c.args.log.now c.put.new.self (out_texts (try_records c.args.number t ++ (sent c.args.frame.now ∷ []))) in
    subst P (sym c.in-None.is) (Puts-one (sent c.args.frame.now) c.put.ensures)
