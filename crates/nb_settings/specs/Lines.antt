-- own: a line of the program's list of names
use Rattle.nb_settings.specs.declared.listed.Listed.{Listed}
use Rattle.nb_settings.specs.Keys.{key_of}
use Rattle.nb_settings.specs.Listed as names

-- a line, without where its name lies in memory
abbrev pub line_of : Listed → names.Listed
line_of row = names.line row.name.now (key_of row.key) row.kind
