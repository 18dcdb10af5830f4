-- What a message of a connection's object is, by its tag: our own.
use Rattle.std.specs.Prelude.{ℕ}
use Rattle.nb_conns.specs.declared.stream_tag.StreamTag.{StreamTag}
use Rattle.nb_conns.specs.declared.stream_tag.StreamTag.TheVariants.{Begin, Segment, TriedSegment, Place, Received, Send, End, TwoSegments}

abbrev pub stream_tag_number : StreamTag → ℕ
stream_tag_number Begin = 1
stream_tag_number Segment = 2
stream_tag_number TriedSegment = 3
stream_tag_number Place = 4
stream_tag_number Received = 5
stream_tag_number Send = 7
stream_tag_number End = 8
stream_tag_number TwoSegments = 9
