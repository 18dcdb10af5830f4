-- What a history says of the command that began last, of the settings, of the device, of the images, of the drives, and of the scripts
-- within one another.
use Rattle.std.specs.Prelude.{◌≡◌, ℕ, ◌+◌, ◌-◌, ◌==◌, Bool, true, false, List, [], ◌∷◌, ◌++◌, length, drop, find, fold, Option, Some, None, Result, Ok, Err, filter, if◌then◌else◌}
use Rattle.std.specs.Option.{option_map_or, option_and_then}
use Rattle.nb_terms.specs.declared.cause.Cause.{Cause}
use Rattle.nb_defs.specs.Causes.{ok, is_ok_cause}
use Rattle.nb_defs.specs.Records.{step, command, result, script}
use Rattle.nb_defs.specs.ScriptLines.{Line, script_reading}
use Rattle.nb_drivecmd.specs.declared.drive.Drive.{Drive}
use Rattle.nb_drivecmd.specs.declared.outcome.Hooking.{Hooking}
use Rattle.nb_drivecmd.specs.HookedDrives.{with_hooked, drive_numbered}
use Rattle.nb_image.specs.Images.{ImageList}
use Rattle.nb_tftp.specs.Blocks.{file, is_whole_transfer}
use Rattle.nb_machine.specs.Conclusions.{Conclusion, keeps, tells, fails, boots, runs_script, conclusion}
use Rattle.nb_imagecmd.specs.declared.asking.Asking.{Asking}
use Rattle.nb_imagecmd.specs.declared.error.ImageFailure.{ImageFailure}
use Rattle.nb_imagecmd.specs.declared.error.ImageFailure.TheVariants.{NoScheme}
use Rattle.nb_imagecmd.specs.Moving.{moved_file}
use Rattle.nb_responses.specs.Chunks.{Response}
use Rattle.nb_machine.specs.Errands.{Wanted, fetches_then, echoes_then, hooks_then}
use Rattle.nb_machine.specs.FirstText.{first_text, lines_of}
use Rattle.nb_laws.specs.Wanting.{wanted_by, is_open_of, is_open_for}
use Rattle.nb_settings.specs.Tables.{TableLists, root_alone}
use Rattle.nb_machine.specs.StartTable.{start_table}
use Rattle.nb_machine.specs.Starting.{is_up, no_images}
use Rattle.nb_machine.specs.Effects.{Effect, says, asks, goes, sleeps, shuts_device, inquires, on_images, on_drives, hooks_disk, unhooks_drive, boots_drive, concludes_at_once, Surroundings, settled_effect, ShownWords, shown_as, effect, next_effect, next_moved, words_effect, words_table, words_up, changed}
use Rattle.nb_machine.specs.Queries.{Query, for_lease, for_echo, for_host, for_address}
use Rattle.nb_machine.specs.Findings.{lease_change}
use Rattle.nb_command.specs.Settings.{Change}
use Rattle.nb_command.specs.Addresses.{address_table}
use Rattle.nb_dns.specs.LookupReplies.{address_found}
use Rattle.nb_dhcp.specs.History.{acknowledgement_in}
use Rattle.nb_tftp.specs.Received.{Received}
use Rattle.nb_laws.specs.Events.{Event, starts, hears, waits, stops, puts, followed}
use Rattle.nb_laws.specs.Lists.{Hardware, hardware, Opening, openings, live, datagrams_of, made, last_end, came_ok}
use Rattle.nb_laws.specs.Webs.{opens_web, opens_a_file, is_body, response_so_far}
use Rattle.nb_laws.specs.Moves.{MovedOpen, moves}
use Rattle.nb_laws.specs.Cores.{lookup_by, asker_by, looked_at, handed_over}

-- what a command comes to by the words that its record shows: they are expanded, or stand as they are written
abbrev pub shown_effect : ℕ → TableLists → ShownWords → Effect
shown_effect opens table shown = if shown.expanded then words_effect opens table shown.words else effect opens table shown.words

-- the settings that it leaves
abbrev pub shown_table : TableLists → Option ShownWords → TableLists
shown_table table None = table
shown_table table (Some shown) = if shown.expanded then words_table table shown.words else table

-- whether the device is up then
abbrev pub shown_up : Bool → ShownWords → Bool
shown_up up shown = if shown.expanded then words_up up shown.words else up

-- A script that runs or waits, by the history: its lines, and the URI that it was fetched from; the first script has none.
pub record ScriptSoFar : Type 0 where
  pub code : List Line
  pub base : Option (List ℕ)

-- that of a text
abbrev pub script_so_far : List ℕ → Option (List ℕ) → ScriptSoFar
script_so_far text base = record { code = lines_of (script_reading text); base = base }

-- the one that runs: its lines and its URI; none where none does
abbrev pub running_code : List ScriptSoFar → List Line
running_code [] = []
running_code (s ∷ outer) = s.code

abbrev pub running_base : List ScriptSoFar → Option (List ℕ)
running_base [] = None
running_base (s ∷ outer) = s.base

-- the time; the settings; the images; whether the device is up; the scripts, the one that runs first; the words of the command that
-- began last, and when it began; whether a command has no result yet; the cause with which a script within the one that runs was left,
-- until its command has it; what came of the command that has its result, if it was one on images; the drives that commands have hooked,
-- also where their opens have ended since; and those of them that lived when the command began
pub record CommandsSoFar : Type 0 where
  pub now : ℕ
  pub table : TableLists
  pub images : ImageList
  pub up : Bool
  pub scripts : List ScriptSoFar
  pub shown : Option ShownWords
  pub since : ℕ
  pub is_open : Bool
  pub left : Option Cause
  pub concluded : Option Conclusion
  pub hooked : List Drive
  pub drives : List Drive

abbrev pub no_commands : CommandsSoFar
no_commands = record { now = 0; table = root_alone; images = no_images; up = false; scripts = []; shown = None; since = 0; is_open = false; left = None; concluded = None; hooked = []; drives = [] }

-- what a command on images or drives finds, where so many opens were made
abbrev pub surroundings_in : ℕ → CommandsSoFar → Surroundings
surroundings_in opens m = record { opens = opens; table = m.table; images = m.images; drives = m.drives; base = running_base m.scripts; depth = length m.scripts }

-- what the command of these words comes to
abbrev pub comes_by : ℕ → CommandsSoFar → ShownWords → Effect
comes_by opens m shown = settled_effect (surroundings_in opens m) (shown_effect opens m.table shown)

-- the file that a command asks for, if it asks for one
abbrev pub asking_of_query : Query → Option Asking
asking_of_query (for_host (fetches_then asking) name by) = Some asking
asking_of_query (for_host echoes_then name by) = None
asking_of_query (for_host (hooks_then hooking) name by) = None
asking_of_query for_lease = None
asking_of_query (for_echo server) = None
asking_of_query (for_address setting name by) = None

abbrev pub asking_in : Effect → Option Asking
asking_in (asks wanted) = Some wanted.asking
asking_in (inquires q) = asking_of_query q
asking_in (says o) = None
asking_in (goes name) = None
asking_in (sleeps seconds) = None
asking_in shuts_device = None
asking_in (on_images c) = None
asking_in (on_drives c) = None
asking_in (hooks_disk hooking) = None
asking_in (unhooks_drive number cause) = None
asking_in (boots_drive number) = None
asking_in (concludes_at_once c) = None

-- the same, where the server of this open has moved it, or why its command fails; an open that asked for another file moves it nowhere
abbrev pub asking_moved : Result Asking ImageFailure → MovedOpen → Result Asking ImageFailure
asking_moved (Ok asking) m = if is_open_for asking.target m.opening then moved_file asking m.place else Err NoScheme
asking_moved (Err why) m = Err why

-- after the moves of these opens, one after another
abbrev pub asking_after : Asking → List MovedOpen → Result Asking ImageFailure
asking_after asking moved = fold asking_moved (Ok asking) moved

-- where it was moved it is asked for there, with so many opens made
abbrev pub effect_moved : ℕ → TableLists → Effect → List MovedOpen → Option Asking → Effect
effect_moved opens table e [] asked = e
effect_moved opens table e (m ∷ moved) None = e
effect_moved opens table e (m ∷ moved) (Some asking) = next_effect (next_moved opens table (asking_after asking (m ∷ moved)))

-- what the command of these words comes to once these opens' servers have moved its file; which file that is doesn't depend on the opens made
abbrev pub comes_after : ℕ → CommandsSoFar → ShownWords → List MovedOpen → Effect
comes_after opens m shown moved = effect_moved opens m.table (comes_by opens m shown) moved (asking_in (comes_by 0 m shown))

-- WHAT A COMMAND HAS FOUND

-- the address that open k has found for its name, put into the setting that this names
abbrev pub address_change : Hardware → ℕ → List ℕ → TableLists → Opening → List Received → Change
address_change h k setting table o ms =
    option_map_or (λ address. address_table setting address.0 table) (address_found (lookup_by h k o) (looked_at o ms)) (Ok table)

-- the same of its opening, if it was made
abbrev pub opened_change : TableLists → (Opening → Change) → List Opening → Change
opened_change table change [] = Ok table
opened_change table change (o ∷ os) = change o

-- what open k has found by these datagrams, put into the settings as its command wants it: a lease's settings, an address, or
-- nothing of an echo, nor of a server that its command goes on to
abbrev pub query_change : Hardware → ℕ → List Opening → List Received → TableLists → Query → Change
query_change h k os ms table for_lease = option_map_or (lease_change table) (acknowledgement_in (asker_by h k) (handed_over ms)) (Ok table)
query_change h k os ms table (for_echo server) = Ok table
query_change h k os ms table (for_host errand name by) = Ok table
query_change h k os ms table (for_address setting name by) = opened_change table (λ o. address_change h k setting table o ms) os

-- what the last open has found
abbrev pub change_found : List Event → TableLists → Query → Change
change_found es table q = query_change (hardware es) (made es - 1) (openings (made es - 1) es) (datagrams_of (made es - 1) es) table q

-- what is asked for by one exchange, if anything is
abbrev pub query_in : Effect → Option Query
query_in (inquires q) = Some q
query_in (says o) = None
query_in (asks wanted) = None
query_in (goes name) = None
query_in (sleeps seconds) = None
query_in shuts_device = None
query_in (on_images c) = None
query_in (on_drives c) = None
query_in (hooks_disk hooking) = None
query_in (unhooks_drive number cause) = None
query_in (boots_drive number) = None
query_in (concludes_at_once c) = None

-- the settings with what a command has found, unless they refuse it
abbrev pub found_table : List Event → TableLists → Option Query → TableLists
found_table es table None = table
found_table es table (Some q) = changed table (change_found es table q)

abbrev pub shown_query : ℕ → TableLists → Option ShownWords → Option Query
shown_query opens table None = None
shown_query opens table (Some shown) = query_in (shown_effect opens table shown)

-- The settings that a command leaves at its result. Where the last open has ended well, it was the command's.
abbrev pub left_table : List Event → TableLists → Option ShownWords → TableLists
left_table es table shown =
    if came_ok (last_end es) then found_table es (shown_table table shown) (shown_query (made es - 1) table shown) else shown_table table shown

-- WHAT A COMMAND ON IMAGES HAS COME TO

-- the file that the command fetches by this open, once it was moved by these
abbrev pub wanted_so_far : ℕ → CommandsSoFar → List MovedOpen → Opening → Option Wanted
wanted_so_far opens m moved o = option_and_then (λ shown. wanted_by (comes_after opens m shown moved) o) m.shown

-- the file that open k has fetched, if it is whole: by TFTP all its blocks, by HTTP a body; a move is none
abbrev pub body_of : Response → Option (List ℕ)
body_of r = if is_body r.verdict then Some r.bytes else None

abbrev pub file_of : List Received → Option (List ℕ)
file_of received = if is_whole_transfer received then Some (file received) else None

abbrev pub file_fetched : ℕ → List Event → Opening → Option (List ℕ)
file_fetched k es o = if opens_web o then body_of (response_so_far k o es) else file_of (datagrams_of k es)

-- what comes of a file that an open has fetched
abbrev pub arrived_so_far : Option (List ℕ) → CommandsSoFar → Opening → Wanted → Option Conclusion
arrived_so_far None m o wanted = None
arrived_so_far (Some bytes) m o wanted =
    if is_open_of wanted o then Some (conclusion ok wanted.asking bytes (length m.scripts) m.images) else None

-- and of the last open, if it was made to fetch the command's file
abbrev pub concluded_by_open : List Event → CommandsSoFar → Option Conclusion
concluded_by_open es m =
    option_and_then (λ o. option_and_then (arrived_so_far (file_fetched (made es - 1) es o) m o) (wanted_so_far (made es - 1) m (moves es) o))
    (find opens_a_file (openings (made es - 1) es))

abbrev pub concluded_in : Effect → Option Conclusion
concluded_in (concludes_at_once c) = Some c
concluded_in (says o) = None
concluded_in (asks wanted) = None
concluded_in (goes name) = None
concluded_in (sleeps seconds) = None
concluded_in shuts_device = None
concluded_in (inquires q) = None
concluded_in (on_images c) = None
concluded_in (on_drives c) = None
concluded_in (hooks_disk hooking) = None
concluded_in (unhooks_drive number cause) = None
concluded_in (boots_drive number) = None

-- what the command that began last comes to as one on images: by its file, where its open has ended so, or else by its words
abbrev pub conclusion_so_far : Option Cause → List Event → CommandsSoFar → Option Conclusion
conclusion_so_far over es m =
    if came_ok over then concluded_by_open es m else option_and_then (λ shown. concluded_in (comes_by (made es) m shown)) m.shown

-- the images that it leaves
abbrev pub list_after : Conclusion → ImageList → ImageList
list_after (keeps list) images = list
list_after (tells list lines) images = list
list_after (fails cause) images = images
list_after (boots list kernel) images = list
list_after (runs_script list image replaces) images = list

abbrev pub images_after : Option Conclusion → ImageList → ImageList
images_after None images = images
images_after (Some c) images = list_after c images

-- the script that it runs
abbrev pub script_in : Conclusion → List ScriptSoFar
script_in (runs_script list image replaces) = script_so_far image.text (Some image.uri) ∷ []
script_in (keeps list) = []
script_in (tells list lines) = []
script_in (fails cause) = []
script_in (boots list kernel) = []

abbrev pub script_run : Option Conclusion → List ScriptSoFar
script_run None = []
script_run (Some c) = script_in c

-- THE DRIVES

abbrev pub has_opening : List Opening → Bool
has_opening [] = false
has_opening (o ∷ os) = true

-- a drive is hooked as long as its open lives
abbrev pub drive_lives : List Event → Drive → Bool
drive_lives es drive = has_opening (live drive.open_number es)

abbrev pub still_living : List Event → List Drive → List Drive
still_living es drives = filter (drive_lives es) drives

-- the disk that the words of a command hook, if they hook one
abbrev pub hooking_in : Effect → Option Hooking
hooking_in (hooks_disk hooking) = Some hooking
hooking_in (says o) = None
hooking_in (asks wanted) = None
hooking_in (goes name) = None
hooking_in (sleeps seconds) = None
hooking_in shuts_device = None
hooking_in (inquires q) = None
hooking_in (on_images c) = None
hooking_in (on_drives c) = None
hooking_in (unhooks_drive number cause) = None
hooking_in (boots_drive number) = None
hooking_in (concludes_at_once c) = None

abbrev pub hooking_so_far : CommandsSoFar → Option Hooking
hooking_so_far m = option_and_then (λ shown. hooking_in (comes_by 0 m shown)) m.shown

-- the number of the hooked drive that the words of a command boot, if they boot one
abbrev pub booted_in : Effect → Option ℕ
booted_in (boots_drive number) = Some number
booted_in (says o) = None
booted_in (asks wanted) = None
booted_in (goes name) = None
booted_in (sleeps seconds) = None
booted_in shuts_device = None
booted_in (inquires q) = None
booted_in (on_images c) = None
booted_in (on_drives c) = None
booted_in (hooks_disk hooking) = None
booted_in (unhooks_drive number cause) = None
booted_in (concludes_at_once c) = None

abbrev pub booted_so_far : CommandsSoFar → Option ℕ
booted_so_far m = option_and_then (λ shown. booted_in (comes_by 0 m shown)) m.shown

-- that drive: it was hooked when the command began
abbrev pub booted_drive : CommandsSoFar → Option Drive
booted_drive m = option_and_then (λ number. drive_numbered number m.drives) (booted_so_far m)

-- with a drive that is hooked on this open, where the command succeeds
abbrev pub hooked_after : Option Hooking → Cause → ℕ → List Drive → List Drive
hooked_after None cause k drives = drives
hooked_after (Some hooking) cause k drives =
    if is_ok_cause cause then with_hooked (record { number = hooking.number; described = hooking.described; open_number = k }) drives else drives

-- a command finds the drives that are hooked
abbrev pub finding : List Event → CommandsSoFar → CommandsSoFar
finding before m = record m { drives = still_living before m.hooked }

-- a result hooks the disk of its command, on the open made last
abbrev pub hooked_then : Cause → List Event → CommandsSoFar → List Drive
hooked_then cause before m = hooked_after (hooking_so_far m) cause (made before - 1) m.hooked

abbrev pub hooking : List Drive → CommandsSoFar → CommandsSoFar
hooking drives m = record m { hooked = drives }

-- WHAT THE COMMANDS DID

-- a result: that of a command whose script was left changes nothing more; any other leaves its command's settings and images
abbrev pub result_so_far : Option Cause → List Event → CommandsSoFar → CommandsSoFar
result_so_far (Some cause) before m = record m { is_open = false; left = None; concluded = None }
result_so_far None before m = record m {
  table = left_table before m.table m.shown;
  images = images_after (conclusion_so_far (last_end before) before m) m.images;
  is_open = false;
  concluded = conclusion_so_far (last_end before) before m;
}

-- a script is entered within the one that runs, by the command that has no result yet; the first one is there from START on
abbrev pub entered_so_far : ℕ → List Event → CommandsSoFar → CommandsSoFar
entered_so_far depth before m =
    if depth == 1 then m
    else record m {
      images = images_after (conclusion_so_far (last_end before) before m) m.images;
      scripts = script_run (conclusion_so_far (last_end before) before m) ++ m.scripts;
      is_open = false;
    }

-- one is left: the command that ran it has no result yet, if one did; its words are those of no command that began last
abbrev pub left_so_far : ℕ → Cause → CommandsSoFar → CommandsSoFar
left_so_far depth cause m =
    if depth == 1 then record m { scripts = drop 1 m.scripts } else record m { scripts = drop 1 m.scripts; shown = None; is_open = true; left = Some cause }

-- one takes the place of the one that runs, by the command that has its result
abbrev pub replaced_so_far : CommandsSoFar → CommandsSoFar
replaced_so_far m = record m { scripts = script_run m.concluded ++ drop 1 m.scripts; concluded = None }

-- 0 enters, 1 leaves, and 2 replaces
abbrev pub script_done : ℕ → ℕ → Cause → List Event → CommandsSoFar → CommandsSoFar
script_done what depth cause before m =
    if what == 0 then entered_so_far depth before m else if what == 1 then left_so_far depth cause m else replaced_so_far m

-- START gives the first settings and the first script, and says whether the device is up; a command begins, and sets the device up or
-- down, and finds the drives that are hooked; a result leaves its command's settings and images, and the drive that it hooks, by the events
-- before it; scripts are entered, left and replaced; time passes
abbrev pub so_far_by : List Event → CommandsSoFar → Event → CommandsSoFar
so_far_by before m (starts n s) = record m { table = start_table s; up = is_up s; scripts = script_so_far (first_text s.script) None ∷ [] }
so_far_by before m (hears n bytes b) = m
so_far_by before m (waits n ms) = record m { now = m.now + ms }
so_far_by before m (stops n) = m
so_far_by before m (puts (command depth line place expanded words)) =
    record (finding before m) { up = shown_up m.up (shown_as expanded words); shown = Some (shown_as expanded words); since = m.now; is_open = true }
so_far_by before m (puts (result cause)) = hooking (hooked_then cause before m) (result_so_far m.left before m)
so_far_by before m (puts (script what depth cause)) = script_done what depth cause before m
so_far_by before m (puts (step number)) = m
so_far_by before m (puts o) = m

unfoldable pub so_far : List Event → CommandsSoFar
so_far es = followed so_far_by [] no_commands es

-- what the command that began last comes to, where so many opens were made, as it stands after these events: also after its file was moved
abbrev pub ComesTo : List Event → ℕ → Effect → Type 0
ComesTo es opens e = (shown : ShownWords) × ((so_far es).shown ≡ Some shown) × (comes_after opens (so_far es) shown (moves es) ≡ e)

-- the lines of the script that runs
abbrev pub script_code : List Event → List Line
script_code es = running_code (so_far es).scripts

-- what comes of a command on images gives it this result
abbrev pub GivesCause : Conclusion → Cause → Type 0
GivesCause (keeps list) cause = cause ≡ ok
GivesCause (tells list lines) cause = cause ≡ ok
GivesCause (fails why) cause = cause ≡ why
GivesCause (boots list kernel) cause = cause ≡ ok
GivesCause (runs_script list image true) cause = cause ≡ ok
GivesCause (runs_script list image false) cause = ⊥
