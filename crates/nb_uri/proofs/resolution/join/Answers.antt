use Rattle.std.proofs.Common.{Some, ap, sym}
use Rattle.std.proofs.lemmas.Str.{is_utf8-from_IsUtf8}
use Rattle.nb_uri.proofs.ResolutionLemmas.{read_back}
use Rattle.nb_uri.proofs.resolution.join.Goals as goal

pub returns-in-Ok-clause-url : goal.returns-in-Ok-clause-url
returns-in-Ok-clause-url c = rw (is_utf8-from_IsUtf8 c.args.text.now c.utf8.text, c.in-Ok.ensures) (ap Some (sym c.valid.ensures.same))

pub returns-in-Ok-clause-back : goal.returns-in-Ok-clause-back
returns-in-Ok-clause-back c = read_back (Some c.args.base) c.args.text.now c.in-Ok.url c.valid.result c.valid.ensures.same c.valid.ensures.valid c.requires c.in-Ok.ensures
