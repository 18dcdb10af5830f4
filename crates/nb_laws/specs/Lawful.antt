-- What holds of the history of each run.
use Rattle.std.specs.Prelude.{◌⊎◌, List, []}
use Rattle.nb_defs.specs.Parts.{HaveNoParts}
use Rattle.nb_defs.specs.Records.{Out}
use Rattle.nb_laws.specs.Events.{Event, outputs, EachEvent, EachThen}
use Rattle.nb_laws.specs.Endings.{EndsSo}
use Rattle.nb_laws.specs.Frames.{WritesSo, TriesSo}
use Rattle.nb_laws.specs.HandOff.{HandsOff, HandsDiskOff}
use Rattle.nb_laws.specs.Hookings.{NoneIsHooked}
use Rattle.nb_laws.specs.Progress.{StepsSo, AdvancesSo, IsAdvanced, NoneIsAnswered, NoneOversleeps}

-- the PARTs are those of the hand-off, of images or of a disk, or there are none
abbrev pub HandsAsBrought : List Event → List Out → Type 0
HandsAsBrought es outs = HaveNoParts outs ⊎ (((rest : List Out) × HandsOff es outs rest) ⊎ ((rest : List Out) × HandsDiskOff es outs rest))

pub record IsLawful (es : List Event) : Type 0 where
  -- each STEP has its record's place among those used, and when a record is used what no live open asks for has come, as a whole
  -- file, no disk has answered that a command hooks or boots, and no sleep is over;
  -- START is used first, and each other record while an open of a command or of the drive that it boots lives or a command sleeps, or where the
  -- step before had 4,096 COMMANDs
  pub steps : EachEvent StepsSo [] es
  -- each ENDED has its cause in the records so far, and is Ok exactly where what the open asks for has come: its file is whole, or was
  -- moved, an address or a lease was given, or the host has replied
  pub ends : EachEvent EndsSo [] es
  -- each RESULT and each OPEN has its cause in the records so far, and each COMMAND one RESULT at most, before the next; each FRAME is
  -- a reply to its step's record, once, a message that a live open may send, or the ARP request for its next hop, or closes a connection as
  -- the power is switched off, or a drive; no step has more than 4,096 COMMANDs; no DONE stands before the end
  pub writes : EachEvent WritesSo [] es
  -- each TRY has its FRAME, or the ARP request for its next hop, directly after it
  pub tries : EachThen TriesSo [] es
  -- an ADVANCE stands exactly where an open's file has grown by a block, or its stream by bytes, before anything else
  pub advances : EachEvent AdvancesSo [] es
  -- after the last record, too, no ADVANCE is missing
  pub advanced : IsAdvanced es
  -- and what no live open asks for has come: it ended in that step
  pub unfinished : NoneIsAnswered es
  -- nor has a disk answered that a command hooks or boots: that had its result in that step
  pub unhooked : NoneIsHooked es
  -- nor is a sleep over: its command ended in that step
  pub rested : NoneOversleeps es
  -- all PARTs are the hand-off's: of the images that the commands have left in the list, the selected one first, or of the first block of the
  -- disk that a command boots; and of the boot table
  pub parts : HandsAsBrought es (outputs es)
