-- for callers, of what is asked for
pub use Rattle.nb_effects.specs.Trace
pub use Rattle.nb_effects.specs.Effects
pub use Rattle.nb_effects.specs.Whole
pub use Rattle.nb_effects.specs.Deeds
pub use Rattle.nb_effects.specs.Scene
pub use Rattle.nb_effects.specs.Follows
pub use Rattle.nb_effects.specs.Hosts
pub use Rattle.nb_effects.specs.Accounts
pub use Rattle.nb_effects.specs.Lived
pub use Rattle.nb_effects.specs.Went
pub use Rattle.nb_effects.specs.Order
pub use Rattle.nb_effects.specs.Laws
pub use Rattle.nb_effects.specs.Counted
pub use Rattle.nb_effects.specs.Drained
-- for callers
pub mod Noded
-- of the inside
pub mod Sending
pub mod Ending
pub mod Lively
pub mod Lives
pub mod Again
