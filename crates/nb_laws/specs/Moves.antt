-- Which opens' servers have moved a command's file, and to which places, by the history alone.
use Rattle.std.specs.Prelude.{ℕ, ◌+◌, ◌==◌, ◌&&◌, List, [], ◌∷◌, ◌++◌, Option, Some, None, if◌then◌else◌}
use Rattle.std.specs.List.{flat_map}
use Rattle.nb_defs.specs.Causes.{is_ok_cause}
use Rattle.nb_defs.specs.Records.{step, command, ended}
use Rattle.nb_readings.specs.Ends.{text_of}
use Rattle.nb_laws.specs.Events.{Event, puts, followed}
use Rattle.nb_laws.specs.Lists.{Opening, openings, made}
use Rattle.nb_laws.specs.Webs.{opens_web, response_so_far}

-- an open whose server has moved its file to this place, as its response names it
pub record MovedOpen : Type 0 where
  pub opening : Opening
  pub place : List ℕ

abbrev pub moved_open : Opening → Option (List ℕ) → List MovedOpen
moved_open o None = []
moved_open o (Some place) = record { opening = o; place = place } ∷ []

-- open k, if its response names a place
abbrev pub moved_by_server : ℕ → List Event → Opening → List MovedOpen
moved_by_server k es o = if opens_web o then moved_open o (text_of (response_so_far k o es).verdict) else []

abbrev pub moves_by : List Event → List MovedOpen → Event → List MovedOpen
moves_by before moves (puts (ended k cause)) =
    if is_ok_cause cause && (k + 1 == made before) then moves ++ flat_map (moved_by_server k before) (openings k before) else moves
moves_by before moves (puts (command depth line place expanded words)) = []
moves_by before moves (puts (step number)) = moves
moves_by before moves _ = moves

-- The opens since the last COMMAND that have ended well and whose servers have moved their file, in order: each was the one made last when it
-- ended, so none is that of an earlier command.
unfoldable pub moves : List Event → List MovedOpen
moves es = followed moves_by [] [] es
