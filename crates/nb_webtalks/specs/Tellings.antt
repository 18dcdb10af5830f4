-- What the network is told in a call on an open by HTTP: the messages, and how they say what the promise of its talk puts. Our own.
use Rattle.std.specs.Prelude.{List, [], ◌∷◌}
use Rattle.nb_ledger.specs.Flat.{Notice, event, message}
use Rattle.nb_graph.specs.Trace.{Said}

-- the messages among what is told
abbrev pub messages_of : List Notice → List Said
messages_of [] = []
messages_of (event e ∷ ns) = messages_of ns
messages_of (message from tag rec a b bytes ∷ ns) = record { tag = tag; rec = rec; a = a; b = b; bytes = bytes } ∷ messages_of ns
