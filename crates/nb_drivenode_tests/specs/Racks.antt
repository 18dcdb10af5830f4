-- The nodes of the tests: our own.
use Rattle.std.specs.Prelude.{◌≡◌, ◌≤◌, ℕ, List, [], ◌++◌, None}
use Rattle.std.proofs.Common.{append-nil}
use Rattle.nb_effects.specs.declared.effects.Fx.{Fx}
use Rattle.nb_graph.specs.Trace.{NodeEntry}
use Rattle.nb_graph.specs.Effects.{AreDowns, AreUps, AreCloseSlots}
use Rattle.nb_drivenodes.specs.DriveEffects.{TextCarrier}
use Rattle.nb_drivenodes.specs.SessionTalks.{IscsiStands}
use Rattle.nb_drivenodes.specs.UnitTalks.{UnitStands}
use Rattle.nb_drivenode_tests.specs.declared.rack.Cargo.{Cargo}
use Rattle.nb_drivenode_tests.specs.declared.rack.Rack.{Rack}
use Rattle.nb_drivenode_tests.specs.declared.rack.Rack.TheVariants as rack

abbrev pub cargo_first : Cargo → List ℕ
cargo_first l = l.0

abbrev pub cargo_second : Cargo → List ℕ
cargo_second l = []

-- each load is a text
abbrev pub cargo_carrier : TextCarrier Cargo
cargo_carrier = record { as_load = λ t. record { 0 = t }; load_bytes = λ l. cargo_first l ++ cargo_second l; same_text = λ t. append-nil t }

abbrev pub rank_of_rack : Rack → ℕ
rank_of_rack (rack.Taker k) = 7
rank_of_rack (rack.Unit p) = 5
rank_of_rack (rack.Session p) = 3

abbrev pub kind_of_rack : Rack → ℕ
kind_of_rack (rack.Taker k) = 1
kind_of_rack (rack.Unit p) = 2
kind_of_rack (rack.Session p) = 3

-- a drive's objects stand for their traces, and a user for any
abbrev pub RackStands : Rack → List (NodeEntry Rack Cargo) → Type 0
RackStands (rack.Taker k) trace = Unit {0}
RackStands (rack.Unit p) trace = UnitStands cargo_carrier p.value trace
RackStands (rack.Session p) trace = IscsiStands cargo_carrier p.value trace

-- nothing is sent
pub record TakerKeeps (len : ℕ) (fx : Fx Rack Cargo) : Type 0 where
  pub no_make : fx.makes ≡ None
  pub downs : AreDowns len fx.downs
  pub ups : AreUps len fx.ups
  pub closes : AreCloseSlots fx.closes.items
  pub within : fx.took ≤ len

-- one message goes down
pub record TakerPasses (len : ℕ) (fx : Fx Rack Cargo) : Type 0 where
  pub no_make : fx.makes ≡ None
  pub no_up : fx.ups.first ≡ None
  pub no_ups : fx.ups.second ≡ None
  pub downs : AreDowns len fx.downs
  pub closes : AreCloseSlots fx.closes.items
