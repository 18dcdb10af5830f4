-- The nodes of the tests: our own.
use Rattle.std.specs.Prelude.{◌≡◌, ◌≤◌, ℕ, List, [], ◌++◌, None, refl}
use Rattle.nb_effects.specs.declared.effects.Fx.{Fx}
use Rattle.nb_graph.specs.Trace.{NodeEntry}
use Rattle.nb_graph.specs.Effects.{AreDowns, AreUps, AreCloseSlots}
use Rattle.nb_webnodes.specs.WebEffects.{WebCarrier}
use Rattle.nb_webnodes.specs.WebTalks.{WebStands}
use Rattle.std.proofs.Common.{append-nil}
use Rattle.nb_webnode_tests.specs.declared.bench.Words.{Words}
use Rattle.nb_webnode_tests.specs.declared.bench.Bench.{Bench}
use Rattle.nb_webnode_tests.specs.declared.bench.Bench.TheVariants as bench

abbrev pub words_first : Words → List ℕ
words_first l = l.0

abbrev pub words_second : Words → List ℕ
words_second l = []

-- each load is a text
abbrev pub words_carrier : WebCarrier Words
words_carrier = record { as_load = λ t. record { 0 = t }; load_bytes = λ l. words_first l ++ words_second l; same_text = λ t. append-nil t }

abbrev pub rank_of_bench : Bench → ℕ
rank_of_bench (bench.Keeper k) = 5
rank_of_bench (bench.Web p) = 3

abbrev pub kind_of_bench : Bench → ℕ
kind_of_bench (bench.Keeper k) = 1
kind_of_bench (bench.Web p) = 2

-- a fetch stands for its trace, and a user for any
abbrev pub BenchStands : Bench → List (NodeEntry Bench Words) → Type 0
BenchStands (bench.Keeper k) trace = Unit {0}
BenchStands (bench.Web p) trace = WebStands words_carrier p.value trace

-- nothing is sent, and maybe a port is closed
pub record KeepsAll (len : ℕ) (fx : Fx Bench Words) : Type 0 where
  pub no_make : fx.makes ≡ None
  pub downs : AreDowns len fx.downs
  pub ups : AreUps len fx.ups
  pub closes : AreCloseSlots fx.closes.items
  pub within : fx.took ≤ len

-- one message goes down
pub record PassesDown (len : ℕ) (fx : Fx Bench Words) : Type 0 where
  pub no_make : fx.makes ≡ None
  pub no_up : fx.ups.first ≡ None
  pub no_ups : fx.ups.second ≡ None
  pub downs : AreDowns len fx.downs
  pub closes : AreCloseSlots fx.closes.items
