use Rattle.std.proofs.Common.{◌∙◌, subst}
use Rattle.nb_record.specs.Logged.{Puts}
use Rattle.nb_teller.proofs.put.put_told.Goals as goal

pub returns-clause-told : goal.returns-clause-told
returns-clause-told c = λ net who ns is. subst (Puts c.args.log.now c.append.new.self) (c.text.ensures ∙ is.1) c.append.ensures
