-- What an OPEN says, and a message as an open's core is handed it.
use Rattle.std.specs.Prelude.{ℕ, List}
use Rattle.nb_wire.specs.declared.address.Ip4.{Ip4}
use Rattle.nb_graph.specs.Trace.{Said}
use Rattle.nb_nodes.specs.declared.tag.Tag.TheVariants.{Datagram}
use Rattle.nb_nodes.specs.Tags.{tag_number}

-- what an OPEN says of it
pub record OpenFields : Type 0 where
  pub kind : ℕ
  pub server : ℕ
  pub port : ℕ
  pub own : ℕ
  pub target : List ℕ

abbrev pub datagram_from : ℕ → ℕ → Ip4 → List ℕ → Said
datagram_from rec port src body = record { tag = tag_number Datagram; rec = rec; a = port; b = src.0; bytes = body }
