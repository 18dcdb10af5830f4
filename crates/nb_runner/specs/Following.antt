-- What a command asks for next, as the code has it.
use Rattle.std.specs.Prelude.{ℕ, ◌<◌, Bool, false, Result, Ok, Err}
use Rattle.nb_terms.specs.declared.cause.Cause.{Cause}
use Rattle.nb_machine.specs.Errands.{Onward as Next}
use Rattle.nb_runner.specs.declared.following.Following.{Following}
use Rattle.nb_runner.specs.declared.following.Following.TheVariants as following
use Rattle.nb_runner.specs.CommandWords.{onward_of, onward_hooks, FitsOnward}

-- what is asked for next, or why the command fails
abbrev pub following_of : Following → Result Next Cause
following_of (following.Over cause) = Err cause
following_of (following.Next next) = Ok (onward_of next)

-- an open may be made for it
abbrev pub CanFollow : ℕ → Following → Type 0
CanFollow opens (following.Over cause) = Unit {0}
CanFollow opens (following.Next next) = (opens < 16384) × FitsOnward next

-- a disk is hooked by it
abbrev pub following_hooks : Following → Bool
following_hooks (following.Over cause) = false
following_hooks (following.Next next) = onward_hooks next
