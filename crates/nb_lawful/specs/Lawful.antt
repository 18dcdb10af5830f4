-- What holds of the history of each course, however many opens live.
use Rattle.std.specs.Prelude.{List, []}
use Rattle.nb_laws.specs.Events.{Event, outputs, EachEvent, EachThen}
use Rattle.nb_laws.specs.Frames.{TriesSo}
use Rattle.nb_lawful.specs.ScriptAgreement.{HandsWhatCame}
use Rattle.nb_laws.specs.Hookings.{NoneIsHooked}
use Rattle.nb_laws.specs.Progress.{StepsSo, AdvancesSo, IsAdvanced, NoneIsAnswered, NoneOversleeps}
use Rattle.nb_openlaws.specs.OpenEndings.{OpensEndSo, FramesSo}
use Rattle.nb_lawful.specs.Results.{CommandsSo}

pub record KeepsLaws (es : List Event) : Type 0 where
  -- each STEP has its record's place among those used, and when a record is used what no live open asks for has come, as a whole
  -- file, no disk has answered that a command hooks, no block of a disk has come that a command boots, and no sleep is over;
  -- START is used first, and each other record while an open of a command lives or a command sleeps, or where the step before had 4,096 COMMANDs
  pub steps : EachEvent StepsSo [] es
  -- each ENDED has its cause in the records so far, and is Ok exactly where what the open asks for has come: its file is whole, or was
  -- moved, an address or a lease was given, or the host has replied
  pub ends : EachEvent OpensEndSo [] es
  -- each RESULT and each OPEN has its cause in the records so far, and each COMMAND one RESULT at most, before the next; no step has
  -- more than 4,096 COMMANDs; no DONE stands before the end
  pub commands : EachEvent CommandsSo [] es
  -- each FRAME is a reply to its step's record, once, a message that a live open may send, or the ARP request for its next hop; or it
  -- closes a connection
  pub frames : EachEvent FramesSo [] es
  -- each TRY has its FRAME, or the ARP request for its next hop, directly after it
  pub tries : EachThen TriesSo [] es
  -- an ADVANCE stands exactly where an open's file has grown by a block, or its stream by bytes, before anything else
  pub advances : EachEvent AdvancesSo [] es
  -- after the last record, too, no ADVANCE is missing
  pub advanced : IsAdvanced es
  -- and what no live open asks for has come: it ended in that step
  pub unfinished : NoneIsAnswered es
  -- nor has a disk answered that a command hooks, nor has the block of one come that it boots: that had its result in that step
  pub unhooked : NoneIsHooked es
  -- nor is a sleep over: its command ended in that step
  pub rested : NoneOversleeps es
  -- all PARTs are the hand-off's, of the images that the commands have left in the list, the selected one first, or of the first
  -- block of a disk, as it was read
  pub parts : HandsWhatCame es (outputs es)
