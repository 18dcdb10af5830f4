-- The nodes of the tests: our own.
use Rattle.std.specs.Prelude.{◌≡◌, ◌+◌, ◌<◌, ◌≤◌, ℕ, List, [], ◌∷◌, ◌++◌, Option, Some, None, refl}
use Rattle.nb_terms.specs.declared.cause.Cause.{Cause}
use Rattle.nb_effects.specs.declared.effects.Emit.{Emit}
use Rattle.nb_effects.specs.declared.effects.Fx.{Fx}
use Rattle.nb_graph.specs.Trace.{NodeEntry}
use Rattle.nb_graph.specs.Effects.{AreDowns, AreUps, AreCloseSlots}
use Rattle.nb_conns.specs.ConnLoads.{Carrier, first_of_conn, second_of_conn}
use Rattle.nb_conns.specs.Dialogues.{TcpStands}
use Rattle.nb_conn_tests.specs.declared.knot.Carried.{Carried}
use Rattle.nb_conn_tests.specs.declared.knot.Knot.{Knot}
use Rattle.nb_conn_tests.specs.declared.knot.Knot.TheVariants as knot

abbrev pub carried_first : Carried → List ℕ
carried_first l = first_of_conn l.0

abbrev pub carried_second : Carried → List ℕ
carried_second l = second_of_conn l.0

-- each load is a connection's
abbrev pub carried_carrier : Carrier Carried
carried_carrier = record { as_load = λ c. record { 0 = c }; as_conn = λ l. Some l.0; load_bytes = λ l. carried_first l ++ carried_second l; read_again = λ c. refl; same_bytes = λ c. refl }

abbrev pub rank_of_knot : Knot → ℕ
rank_of_knot (knot.Taker t) = 5
rank_of_knot (knot.Tcp p) = 2

abbrev pub kind_of_knot : Knot → ℕ
kind_of_knot (knot.Taker t) = 1
kind_of_knot (knot.Tcp p) = 3

-- a connection stands for its trace, and a user for any
abbrev pub KnotStands : Knot → List (NodeEntry Knot Carried) → Type 0
KnotStands (knot.Taker t) trace = Unit {0}
KnotStands (knot.Tcp p) trace = TcpStands carried_carrier p.value trace

-- of a message of so many bytes a few are taken, and maybe a port is closed
pub record TakesFew (len : ℕ) (fx : Fx Knot Carried) : Type 0 where
  pub no_make : fx.makes ≡ None
  pub downs : AreDowns len fx.downs
  pub ups : AreUps len fx.ups
  pub closes : AreCloseSlots fx.closes.items
  pub within : fx.took ≤ len

-- one message goes down
pub record HandsDown (len : ℕ) (fx : Fx Knot Carried) : Type 0 where
  pub no_make : fx.makes ≡ None
  pub no_up : fx.ups.first ≡ None
  pub no_ups : fx.ups.second ≡ None
  pub downs : AreDowns len fx.downs
  pub closes : AreCloseSlots fx.closes.items
