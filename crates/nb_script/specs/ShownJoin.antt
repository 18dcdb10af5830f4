-- Own: how a command is joined, as the definitions have it.
use Rattle.nb_defs.specs.ScriptLines as defs
use Rattle.nb_script.specs.declared.join.Join.{Join}
use Rattle.nb_script.specs.declared.join.Join.TheVariants.{First, And, Or, Then}

abbrev pub shown_join : Join → defs.Join
shown_join First = defs.first_join
shown_join And = defs.and_join
shown_join Or = defs.or_join
shown_join Then = defs.then_join
