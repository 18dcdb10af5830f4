-- What is put in reply to a frame, and of a message.
use Rattle.std.specs.Prelude.{◌≡◌, ◌⊎◌, ℕ, List, [], Option, true}
use Rattle.nb_defs.specs.Records.{IsFrameRecord, out_texts}
use Rattle.nb_record.specs.Logged.{Logged, Puts}
use Rattle.nb_stack.specs.Client.{Client}
use Rattle.nb_machine.specs.Sendings.{send_records, has_route}
use Rattle.nb_teller.specs.declared.speaker.Speaker.{Speaker}
use Rattle.nb_teller.specs.Speakers.{datagram_of}

-- nothing, or a frame
abbrev pub IsFrameOrNothing : List ℕ → Type 0
IsFrameOrNothing bytes = (bytes ≡ []) ⊎ IsFrameRecord bytes

-- the records of a message of these bytes, which may be a try, were put
abbrev pub PutsMessage : Client → Speaker → Option ℕ → ℕ → List ℕ → Logged → Logged → Type 0
PutsMessage net who tried port body old new = Puts old new (out_texts (send_records net who.number tried (datagram_of who port body)))

-- they were put, and the message leaves
abbrev pub LeavesByRoute : Client → Speaker → Option ℕ → ℕ → List ℕ → Logged → Logged → Type 0
LeavesByRoute net who tried port body old new = (has_route net (datagram_of who port body) ≡ true) × PutsMessage net who tried port body old new
