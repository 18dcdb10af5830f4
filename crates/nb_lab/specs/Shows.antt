-- What the output of a run shows of what is counted
use Rattle.std.specs.Prelude.{ℕ, ◌==◌, Bool, nat_eq, List, drop, Option, Some, None, codes, if◌then◌else◌}
use Rattle.std.specs.List.{starts_with}
use Rattle.nb_defs.specs.Records.{Out, step, sent, text, command, script, opened, advanced, ended, graph, part, done}
use Rattle.nb_defs.specs.Records as defs
use Rattle.nb_numerals.specs.Addresses.{decimal_byte}
use Rattle.nb_lab.specs.declared.image.Image.{Image}
use Rattle.nb_lab.specs.declared.shown.Shown.{Shown}
use Rattle.nb_lab.specs.declared.shown.Shown.TheVariants as shown

-- an output record, as far as it is counted
pub data Seen : Type 0 where
  -- a frame is sent
  frame : (bytes : List ℕ) → Seen
  -- a message is tried
  try : Seen
  -- an open begins, for an image or for something else
  open_for : (image : Option Image) → Seen
  -- a command's result, and whether it is Ok
  result : (ok : Bool) → Seen
  other : Seen

abbrev pub image_numbered : Option ℕ → Option Image
image_numbered None = None
image_numbered (Some i) = Some (record { 0 = i })

-- the image that a file's name is the number of
abbrev pub image_named : List ℕ → Option Image
image_named name = image_numbered (decimal_byte name)

-- and that of a URL of the servers
abbrev pub image_at_url : List ℕ → Option Image
image_at_url url = if starts_with nat_eq url (codes "http://10.0.0.1/") then image_named (drop 16 url) else None

-- the image that an open is for: by TFTP its target is the path, by HTTP the URL
abbrev pub image_of_open : ℕ → List ℕ → Option Image
image_of_open kind target = if kind == 1 then image_named target else (if kind == 2 then image_at_url target else None)

-- what a record shows
abbrev pub seen : Out → Seen
seen (step number) = other
seen (sent bytes) = frame bytes
seen (text bytes) = other
seen (command depth line place expanded words) = other
seen (defs.result cause) = result (cause.code == 0)
seen (script what depth cause) = other
seen (opened number kind server port own target) = open_for (image_of_open kind target)
seen (defs.tried number count) = try
seen (advanced number place) = other
seen (ended number cause) = other
seen (graph happens) = other
seen (part kind index offset bytes) = other
seen (done status) = other

-- what was read, without where it lies in memory
abbrev pub seen_of : Shown → Seen
seen_of (shown.Frame bytes) = frame bytes.now
seen_of shown.Try = try
seen_of (shown.Open image) = open_for image
seen_of (shown.Result ok) = result ok
seen_of shown.Other = other
