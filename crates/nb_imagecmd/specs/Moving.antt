-- A file that its server has moved: the text of the move is joined to its URI; at most five moves.
use Rattle.std.specs.Prelude.{ℕ, ◌+◌, nat_lt, not, List, Some, Result, Ok, Err, if◌then◌else◌}
use Rattle.nb_uri.specs.declared.target.UriTarget.{UriTarget}
use Rattle.nb_uri.specs.declared.target.UriError.{UriError}
use Rattle.nb_uri.specs.Resolutions.{resolution}
use Rattle.nb_imagecmd.specs.declared.asking.Asking.{Asking}
use Rattle.nb_imagecmd.specs.declared.error.ImageFailure.{ImageFailure}
use Rattle.nb_imagecmd.specs.declared.error.ImageFailure.TheVariants.{NoScheme, LongPath, ManyMoves}
use Rattle.nb_imagecmd.specs.Asking.{has_long_path, is_file, target_uri}
use Rattle.nb_imagecmd.specs.Failures.{unresolved}

-- disks aren't fetched, and a TFTP server's path may be too long
abbrev pub fetched_place : UriTarget → Result UriTarget ImageFailure
fetched_place target = if not (is_file target) then Err NoScheme else if has_long_path target then Err LongPath else Ok target

abbrev pub place_resolved : Result UriTarget UriError → Result UriTarget ImageFailure
place_resolved (Ok target) = fetched_place target
place_resolved (Err why) = Err (unresolved why)

-- the place that a text names which is joined to the URI of the file before
abbrev pub place_of_move : UriTarget → List ℕ → Result UriTarget ImageFailure
place_of_move before text = place_resolved (resolution (Some (target_uri before)) text)

abbrev pub with_place : Asking → Result UriTarget ImageFailure → Result Asking ImageFailure
with_place asking (Ok target) = Ok (record asking { target = target; moves = asking.moves + 1 })
with_place asking (Err why) = Err why

-- the same file there, or why its command fails; the image keeps its name
abbrev pub moved_file : Asking → List ℕ → Result Asking ImageFailure
moved_file asking text = if nat_lt asking.moves 5 then with_place asking (place_of_move asking.target text) else Err ManyMoves
