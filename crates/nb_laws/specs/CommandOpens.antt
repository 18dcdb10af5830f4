-- The open of the command that began last: only the command that runs makes opens, so it is the one made last.
use Rattle.std.specs.Prelude.{ℕ, ◌==◌, List, fold, Option, Some, None, option_map, if◌then◌else◌}
use Rattle.std.specs.Option.{option_and_then}
use Rattle.nb_terms.specs.declared.cause.Cause.{Cause}
use Rattle.nb_defs.specs.Records.{step, command, opened, ended}
use Rattle.nb_laws.specs.Events.{Event, puts}

-- an open that a command has made, and how it has ended, if it has
pub record CommandOpen : Type 0 where
  pub number : ℕ
  pub over : Option Cause

abbrev pub command_open_ended : (number : ℕ) → Cause → CommandOpen → CommandOpen
command_open_ended number cause o = if number == o.number then record { number = o.number; over = Some cause } else o

abbrev pub command_open_by : Option CommandOpen → Event → Option CommandOpen
command_open_by last (puts (opened number kind server port own target)) = Some (record { number = number; over = None })
command_open_by last (puts (ended number cause)) = option_map (command_open_ended number cause) last
command_open_by last (puts (command depth line place expanded words)) = None
command_open_by last (puts (step number)) = last
command_open_by last _ = last

-- the last open that was made since the last COMMAND, if one was; others may end meanwhile
unfoldable pub command_open : List Event → Option CommandOpen
command_open es = fold command_open_by None es

abbrev pub end_by : ℕ → Option Cause → Event → Option Cause
end_by k last (puts (ended number cause)) = if number == k then Some cause else last
end_by k last (puts (step number)) = last
end_by k last _ = last

-- how open k has ended, if it has
unfoldable pub end_of : ℕ → List Event → Option Cause
end_of k es = fold (end_by k) None es

abbrev pub over_of : Option CommandOpen → Option Cause
over_of last = option_and_then (λ (o : CommandOpen). o.over) last

-- how it has ended, if it was made and has ended
abbrev pub command_end : List Event → Option Cause
command_end es = over_of (command_open es)
