use Rattle.std.proofs.Common.{sym, ◌∙◌}
use Rattle.nb_ledger.proofs.PortLemmas.{unused-some, unused-none}
use Rattle.nb_ledger.proofs.book.Book.is_unused_at.Goals as goal

pub returns-in-Some : goal.returns-in-Some
returns-in-Some c = c.is_unused.ensures ∙ unused-some _ _ _ (sym c.in-Some.ensures.is)

pub returns-in-None : goal.returns-in-None
returns-in-None c = unused-none _ _ (sym c.in-None.ensures.is)
