-- The records that hand images off, and those that don't.
use Rattle.std.specs.Prelude.{List}
use Rattle.std.specs.List.{AllByRecursion}
use Rattle.nb_defs.specs.Records.{Out, step, sent, text, command, result, script, opened, tried, advanced, ended, graph, part, done}

-- no piece of a hand-off
abbrev pub IsNoPart : Out → Type 0
IsNoPart (part kind index offset bytes) = ⊥
IsNoPart (step number) = Unit {0}
IsNoPart (sent bytes) = Unit {0}
IsNoPart (text bytes) = Unit {0}
IsNoPart (command depth line place expanded words) = Unit {0}
IsNoPart (result cause) = Unit {0}
IsNoPart (script what depth cause) = Unit {0}
IsNoPart (opened number kind server port own target) = Unit {0}
IsNoPart (tried number count) = Unit {0}
IsNoPart (advanced number place) = Unit {0}
IsNoPart (ended number cause) = Unit {0}
IsNoPart (graph happens) = Unit {0}
IsNoPart (done status) = Unit {0}

abbrev pub HaveNoParts : List Out → Type 0
HaveNoParts outs = AllByRecursion IsNoPart outs
