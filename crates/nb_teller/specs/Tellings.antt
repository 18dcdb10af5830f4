-- The records of what the graph tells its outside in a call, and whether a message among it found no route.
use Rattle.std.specs.Prelude.{ℕ, ◌==◌, ◌||◌, Bool, false, not, List, [], ◌∷◌, ◌++◌, take, drop, Option, Some, None, if◌then◌else◌}
use Rattle.std.specs.List.{flat_map, list_any}
use Rattle.nb_defs.specs.Records.{Out, graph, advanced}
use Rattle.nb_ledger.specs.Flat.{Notice, event, message}
use Rattle.nb_stack.specs.Client.{Client}
use Rattle.nb_nodes.specs.Tags.{tag_number}
use Rattle.nb_nodes.specs.declared.tag.Tag.TheVariants.{Advance, Try, Bytes, Address}
use Rattle.nb_conns.specs.StreamTags.{stream_tag_number}
use Rattle.nb_conns.specs.declared.stream_tag.StreamTag.TheVariants.{TwoSegments}
use Rattle.nb_drivenodes.specs.DriveTags.{drive_tag_number}
use Rattle.nb_drivenodes.specs.declared.drive_tag.DriveTag.TheVariants.{Answered}
use Rattle.nb_teller.specs.declared.speaker.Speaker.{Speaker}
use Rattle.nb_teller.specs.Speakers.{datagram_of}
use Rattle.nb_machine.specs.Sendings.{send_records, has_route}

-- two segments, of which the first has so many bytes and isn't a try; the second is a try of this number, unless that is 0
abbrev pub try_by : ℕ → Option ℕ
try_by number = if number == 0 then None else Some number

abbrev pub two_segments : Client → Speaker → ℕ → ℕ → List ℕ → List Out
two_segments net who number count bytes =
    send_records net who.number None (datagram_of who 0 (take count bytes))
    ++ send_records net who.number (try_by number) (datagram_of who 0 (drop count bytes))

-- what was found or answered has no record
abbrev pub is_delivery : ℕ → Bool
is_delivery tag = (tag == tag_number Bytes) || ((tag == tag_number Address) || (tag == drive_tag_number Answered))

-- a message, by its tag: a delivery has no record; else it says that the place has grown, is two segments, or is a datagram or a
-- segment, which may be a try
abbrev pub message_records : Client → Speaker → ℕ → ℕ → ℕ → List ℕ → List Out
message_records net who tag a b bytes =
    if is_delivery tag then []
    else if tag == tag_number Advance then advanced who.number a ∷ []
    else if tag == stream_tag_number TwoSegments then two_segments net who a b bytes
    else send_records net who.number (if tag == tag_number Try then Some a else None) (datagram_of who b bytes)

abbrev pub notice_records : Client → Speaker → Notice → List Out
notice_records net who (event e) = graph e ∷ []
notice_records net who (message from tag rec a b bytes) = message_records net who tag a b bytes

abbrev pub told_records : Client → Speaker → List Notice → List Out
told_records net who ns = flat_map (notice_records net who) ns

-- a message, by its tag, is a datagram, which may be a try, that finds no route
abbrev pub message_lacks_route : Client → Speaker → ℕ → ℕ → List ℕ → Bool
message_lacks_route net who tag b bytes =
    if is_delivery tag then false
    else if tag == tag_number Advance then false
    else if tag == stream_tag_number TwoSegments
    then not (has_route net (datagram_of who 0 (take b bytes))) || not (has_route net (datagram_of who 0 (drop b bytes)))
    else not (has_route net (datagram_of who b bytes))

abbrev pub lacks_route : Client → Speaker → Notice → Bool
lacks_route net who (event e) = false
lacks_route net who (message from tag rec a b bytes) = message_lacks_route net who tag b bytes

-- some message among what is told finds no route
abbrev pub any_lacks_route : Client → Speaker → List Notice → Bool
any_lacks_route net who ns = list_any (lacks_route net who) ns
