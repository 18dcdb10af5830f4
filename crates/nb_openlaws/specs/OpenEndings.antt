-- Why an open has ended, and why a FRAME stands, where other opens may live on while commands begin and end.
use Rattle.std.specs.Prelude.{◌≡◌, ℕ, true, List, [], ◌∷◌}
use Rattle.nb_terms.specs.declared.cause.Cause.{Cause}
use Rattle.nb_defs.specs.Causes.{is_ok_cause}
use Rattle.nb_defs.specs.Records.{step, sent, ended}
use Rattle.nb_stack.specs.declared.taken.Fate.TheVariants as fate
use Rattle.nb_machine.specs.Effects.{shuts_device}
use Rattle.nb_machine.specs.CommandRecords.{no_route, stopped_cause}
use Rattle.nb_laws.specs.Events.{Event, puts}
use Rattle.nb_laws.specs.Histories.{client}
use Rattle.nb_laws.specs.Lists.{hardware, Opening, openings, live, made}
use Rattle.nb_laws.specs.CommandsSoFar.{so_far, ComesTo}
use Rattle.nb_laws.specs.Cores.{has_its_answer}
use Rattle.nb_laws.specs.Endings.{fate_to, HadWay, ClosesToBoot, ClosesToBootDisk, WhyClosed, Holds}
use Rattle.nb_laws.specs.Frames.{IsSent, IsPut}
use Rattle.nb_laws.specs.Drives.{ClosesSession}
use Rattle.nb_laws.specs.Webs.{brought_to, closing_message}
use Rattle.nb_machine.specs.Courses.{down_cause}

-- the cause of an end of open k, by what came before it
pub data EndsBecause (k : ℕ) (es : List Event) (cause : Cause) : Type 0 where
  -- one that any open may have
  by_itself : Holds k es cause → EndsBecause k es cause
  -- there is no way any more to the open's server, and there was one when it was made
  by_lost_way : (o : Opening) → openings k es ≡ o ∷ [] → cause ≡ no_route o.server → fate_to (client es) o ≡ fate.NoRoute → HadWay k es o → EndsBecause k es cause
  -- a command sets the device down
  by_device : cause ≡ down_cause → (so_far es).is_open ≡ true → ComesTo es (made es) shuts_device → EndsBecause k es cause
  -- a command boots what was brought
  by_hand_off : cause ≡ stopped_cause → ClosesToBoot es → EndsBecause k es cause
  -- or a disk
  by_disk_off : cause ≡ stopped_cause → ClosesToBootDisk es → EndsBecause k es cause

-- each ENDED is of an open that lives, has its cause in the records so far, and is Ok exactly where what the open asks for has come
abbrev pub OpensEndSo : List Event → Event → Type 0
OpensEndSo before (puts (ended k cause)) = EndsBecause k before cause × (o : Opening) × (live k before ≡ o ∷ []) × (is_ok_cause cause ≡ has_its_answer k o before)
OpensEndSo before (puts (step number)) = Unit {0}
OpensEndSo before _ = Unit {0}

-- why a FRAME stands
pub data IsPutOrCloses (es : List Event) (bytes : List ℕ) : Type 0 where
  -- as any may
  by_reason : IsPut es bytes → IsPutOrCloses es bytes
  -- it closes a connection that lives, as all that lives is closed
  by_close : (k : ℕ) (sends : IsSent k es bytes) → sends.opening.kind ≡ 2 → sends.send ≡ closing_message (hardware es) k sends.opening (brought_to k es) → WhyClosed es → IsPutOrCloses es bytes
  by_drive_close : (k : ℕ) (sends : IsSent k es bytes) → sends.opening.kind ≡ 3 → ClosesSession k es sends.send → WhyClosed es → IsPutOrCloses es bytes

-- each FRAME is a reply to its step's record, once, a message that a live open may send in a step that brings it something, or the ARP
-- request for its next hop; or it closes a connection
abbrev pub FramesSo : List Event → Event → Type 0
FramesSo before (puts (sent bytes)) = IsPutOrCloses before bytes
FramesSo before (puts (step number)) = Unit {0}
FramesSo before _ = Unit {0}
