use Rattle.std.proofs.Common.{◌∙◌}
use Rattle.nb_settings.proofs.NameLemmas.{name_read-complete, read_is_sound}
use Rattle.nb_settings.proofs.ByTagLemmas.{line_read, read_by_tag}
use Rattle.nb_settings.proofs.name.Name.read.Goals as goal

pub returns-clause-sound : goal.returns-clause-sound
returns-clause-sound c = read_is_sound c.args.text.now c.parsed.result c.parsed.ensures

pub returns-clause-complete : goal.returns-clause-complete
returns-clause-complete c = λ name is. c.parsed.ensures ∙ name_read-complete c.args.text.now name is

pub returns-clause-listed : goal.returns-clause-listed
returns-clause-listed c = λ row there same. c.parsed.ensures ∙ line_read c.args.text.now row there same

pub returns-clause-by_tag : goal.returns-clause-by_tag
returns-clause-by_tag c = read_by_tag c.args.text.now c.parsed.result c.parsed.ensures
