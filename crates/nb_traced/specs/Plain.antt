-- An output without the records of the object graph. Our own.
use Rattle.std.specs.Prelude.{Bool, true, false, not, List, filter}
use Rattle.nb_defs.specs.Records.{Out, step, sent, text, command, result, script, opened, tried, advanced, ended, graph, part, done}

abbrev pub is_graph : Out → Bool
is_graph (graph happens) = true
is_graph (step number) = false
is_graph (sent bytes) = false
is_graph (text bytes) = false
is_graph (command depth line place expanded words) = false
is_graph (result cause) = false
is_graph (script what depth cause) = false
is_graph (opened number kind server port own target) = false
is_graph (tried number count) = false
is_graph (advanced number place) = false
is_graph (ended number cause) = false
is_graph (part kind index offset bytes) = false
is_graph (done status) = false

-- the other records
abbrev pub without_graph : List Out → List Out
without_graph outs = filter (λ o. not (is_graph o)) outs
