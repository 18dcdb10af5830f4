-- Records that say nothing of opens, in an output.
use Rattle.std.proofs.Common.{◌≡◌, ℕ, List, [], ◌∷◌, ◌++◌, Option, Some, None, sym, ap, subst, append-nil, append_assoc}
use Rattle.std.specs.List.{AllByRecursion}
use Rattle.nb_defs.specs.Commands.{CommandOutcome}
use Rattle.nb_defs.specs.Records.{Out, step, sent, text, command, result, script, opened, tried, advanced, ended, graph, part, done}
use Rattle.nb_machine.specs.CommandRecords.{command_record, prints}
use Rattle.nb_machine.specs.Effects.{ShownWords}
use Rattle.nb_machine.specs.Running.{Running}
use Rattle.nb_traced.specs.Plain.{without_graph}
use Rattle.nb_traced.proofs.Plain.{plain_aside}
use Rattle.nb_traced.proofs.RecordLemmas.{AreAside, IsAside}
use Rattle.nb_traced.specs.Holdings.{Holdings}
use Rattle.nb_traced.specs.Outputs.{Arrived, Traced, apart, commands}
use Rattle.nb_traced.specs.Pieces.{IsApart}

apart_aside : (o : Out) → IsApart o → IsAside o
apart_aside (step number) a = tt
apart_aside (sent bytes) a = absurd a
apart_aside (text bytes) a = tt
apart_aside (command depth line place expanded words) a = absurd a
apart_aside (result cause) a = tt
apart_aside (script what depth cause) a = tt
apart_aside (opened number kind server port own target) a = absurd a
apart_aside (tried number count) a = absurd a
apart_aside (advanced number place) a = absurd a
apart_aside (ended number cause) a = absurd a
apart_aside (graph happens) a = absurd a
apart_aside (part kind index offset bytes) a = tt
apart_aside (done status) a = tt

are_aside : (outs : List Out) → AllByRecursion IsApart outs → AreAside outs
are_aside [] a = tt
are_aside (o ∷ outs) a = (apart_aside o a.0, are_aside outs a.1)

pub plain_apart : (outs : List Out) → AllByRecursion IsApart outs → without_graph outs ≡ outs
plain_apart outs a = plain_aside outs (are_aside outs a)

pub trace_apart : (outs added : List Out) (h : Holdings) (came : List Arrived) → Traced outs h came → AllByRecursion IsApart added → Traced (outs ++ added) h (came ++ [])
trace_apart outs added h came t a = subst (λ x. Traced (outs ++ added) h x) (sym (append-nil came)) (apart outs added h came t a)

-- a command begins, and records follow that say nothing of opens
pub trace_command : (outs rest : List Out) (s : Running) (shown : ShownWords) (h : Holdings) (came : List Arrived) → Traced outs h came → h.waits ≡ [] → AllByRecursion IsApart rest →
    Traced (outs ++ (command_record s shown ∷ rest)) h (came ++ [])
trace_command outs rest s shown h came t none a =
    subst (λ x. Traced (outs ++ (command_record s shown ∷ rest)) h x) (sym (append-nil came))
    (subst (λ xs. Traced xs h came) (append_assoc outs (command_record s shown ∷ []) rest)
    (apart (outs ++ (command_record s shown ∷ [])) rest h came (commands outs s.depth s.passed s.place shown.expanded shown.words h came t none) a))

pub apart_append : (xs ys : List Out) → AllByRecursion IsApart xs → AllByRecursion IsApart ys → AllByRecursion IsApart (xs ++ ys)
apart_append [] ys a b = b
apart_append (x ∷ xs) ys a b = (a.0, apart_append xs ys a.1 b)

apart_prints : (o : Option (List ℕ)) → AllByRecursion IsApart (prints o)
apart_prints None = tt
apart_prints (Some bytes) = (tt, tt)

-- what follows COMMAND where a command is over at once
pub apart_ends : (o : CommandOutcome) → AllByRecursion IsApart (prints o.prints ++ (result o.cause ∷ []))
apart_ends o = apart_append (prints o.prints) (result o.cause ∷ []) (apart_prints o.prints) (tt, tt)

-- the other records of such a command
pub plain_command : (s : Running) (shown : ShownWords) (rest : List Out) → AllByRecursion IsApart rest → without_graph (command_record s shown ∷ rest) ≡ command_record s shown ∷ rest
plain_command s shown rest a = ap (λ t. command_record s shown ∷ t) (plain_apart rest a)
