-- Records that change nothing of what a history says of commands.
use Rattle.std.specs.Prelude.{List}
use Rattle.std.specs.List.{AllByRecursion}
use Rattle.nb_defs.specs.Records.{Out, step, sent, text, command, result, script, opened, tried, advanced, ended, graph, part, done}

-- no FRAME, COMMAND, RESULT, SCRIPT, OPEN or DONE
abbrev pub IsSilent : Out → Type 0
IsSilent (sent bytes) = ⊥
IsSilent (step number) = Unit {0}
IsSilent (text bytes) = Unit {0}
IsSilent (command depth line place expanded words) = ⊥
IsSilent (result cause) = ⊥
IsSilent (script what depth cause) = ⊥
IsSilent (opened number kind server port own target) = ⊥
IsSilent (tried number count) = Unit {0}
IsSilent (advanced number place) = Unit {0}
IsSilent (ended number cause) = Unit {0}
IsSilent (graph happens) = Unit {0}
IsSilent (part kind index offset bytes) = Unit {0}
IsSilent (done status) = ⊥

abbrev pub AreSilent : List Out → Type 0
AreSilent outs = AllByRecursion IsSilent outs
