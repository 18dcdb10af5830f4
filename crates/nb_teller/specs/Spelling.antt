-- The records of what a graph tells of one open, spelled as it is told.
use Rattle.std.specs.Prelude.{◌≡◌, ℕ, ◌==◌, List, [], ◌∷◌, ◌++◌, ◌||◌, Bool, true, false, Option, Some, None, if◌then◌else◌}
use Rattle.nb_terms.specs.declared.cause.Cause.{Cause}
use Rattle.nb_wire.specs.declared.address.Ip4.{Ip4}
use Rattle.nb_defs.specs.Records.{Out, out_texts}
use Rattle.nb_ledger.specs.Flat.{Notice, Heard, unknown, shows}
use Rattle.nb_graph.specs.Deeds.{no_memory}
use Rattle.nb_stack.specs.Client.{Client}
use Rattle.nb_nodes.specs.Tags.{tag_number}
use Rattle.nb_nodes.specs.declared.tag.Tag.TheVariants.{Bytes, Address}
use Rattle.nb_opens.specs.Notices.{first_close}
use Rattle.nb_teller.specs.declared.speaker.Speaker.{Speaker}
use Rattle.nb_drivechains.specs.declared.drive_answer.DriveAnswer.{DriveAnswer}
use Rattle.nb_drivechains.specs.DriveCalls.{drive_answer_in}
use Rattle.nb_teller.specs.Deliveries.{delivered_address, delivered_answer, delivered_blocks, delivered_bytes}
use Rattle.nb_teller.specs.Tellings.{told_records, message_records, any_lacks_route, message_lacks_route}

-- the records, the cause of the first close, the first bytes and the first address that were delivered, all bytes that were, what a
-- drive answered first, whether some message found no route, and whether some of it is lost
pub record Spelling : Type 0 where
  pub text : List ℕ
  pub closed : Option Cause
  pub bytes : Option (List ℕ)
  pub address : Option Ip4
  pub blocks : List ℕ
  pub answer : Option DriveAnswer
  pub is_stuck : Bool
  pub is_lost : Bool

-- a cause as a row of numbers
abbrev pub closed_row : Option Cause → List ℕ
closed_row None = []
closed_row (Some c) = c.code ∷ c.a ∷ c.b ∷ []

-- what was delivered as a row; no bytes differ from none
abbrev pub bytes_row : Option (List ℕ) → List ℕ
bytes_row None = []
bytes_row (Some bytes) = 1 ∷ bytes

abbrev pub address_row : Option Ip4 → List ℕ
address_row None = []
address_row (Some address) = address.0 ∷ []

abbrev pub answer_row : Option DriveAnswer → List ℕ
answer_row None = []
answer_row (Some a) = a.blocks ∷ a.chap ∷ []

abbrev pub stuck_row : Bool → List ℕ
stuck_row true = 1 ∷ []
stuck_row false = []

-- what is spelled of what was told, its first close, what it delivers, and whether a message found no route
abbrev pub rows_of : Client → Speaker → List Notice → List (List ℕ)
rows_of net who ns =
    out_texts (told_records net who ns) ∷ closed_row (first_close ns) ∷ bytes_row (delivered_bytes ns) ∷ address_row (delivered_address ns)
    ∷ stuck_row (any_lacks_route net who ns) ∷ delivered_blocks ns ∷ answer_row (delivered_answer ns) ∷ []

abbrev pub rows_in : Spelling → List (List ℕ)
rows_in s = s.text ∷ closed_row s.closed ∷ bytes_row s.bytes ∷ address_row s.address ∷ stuck_row s.is_stuck ∷ s.blocks ∷ answer_row s.answer ∷ []

-- what is known by it of what was told
abbrev pub heard_by : Client → Speaker → Spelling → Heard
heard_by net who s = if s.is_lost then unknown else shows (rows_of net who) (rows_in s)

-- nothing is lost, and this was told
abbrev pub IsSpelled : Client → Speaker → Spelling → List Notice → Type 0
IsSpelled net who s ns =
    (s.is_lost ≡ false) × (s.text ≡ out_texts (told_records net who ns)) × (s.closed ≡ first_close ns)
    × (s.bytes ≡ delivered_bytes ns) × (s.address ≡ delivered_address ns) × (s.is_stuck ≡ any_lacks_route net who ns)
    × (s.blocks ≡ delivered_blocks ns) × (s.answer ≡ delivered_answer ns)

-- nothing was told, unless it is lost
abbrev pub IsBlank : Spelling → Type 0
IsBlank s = (s.text ≡ []) × (s.closed ≡ None) × (s.bytes ≡ None) × (s.address ≡ None) × (s.is_stuck ≡ false) × (s.blocks ≡ []) × (s.answer ≡ None)

-- nothing is lost, and this is the cause of the first close, which isn't that memory ran out
abbrev pub HasSpelled : Spelling → Option Cause → Type 0
HasSpelled s cause = (s.is_lost ≡ false) × (s.closed ≡ cause) × (cause ≡ Some no_memory → ⊥)

-- so it is with some first close, or none
abbrev pub IsWholeSpelling : Spelling → Type 0
IsWholeSpelling s = HasSpelled s s.closed

-- these records were added, unless some are lost
abbrev pub SpellsMore : Spelling → Spelling → List Out → Type 0
SpellsMore s t outs = t.is_lost ≡ false → (s.is_lost ≡ false) × (t.text ≡ s.text ++ out_texts outs)

-- nothing was delivered
abbrev pub FindsNothing : Spelling → Spelling → Type 0
FindsNothing s t = (t.bytes ≡ s.bytes) × (t.address ≡ s.address) × (t.blocks ≡ s.blocks) × (t.answer ≡ s.answer)

-- a message found no route, or one did before, unless some of it is lost
abbrev pub StuckAfter : Spelling → Spelling → Bool → Type 0
StuckAfter s t lacks = t.is_lost ≡ false → t.is_stuck ≡ (s.is_stuck || lacks)

-- the first of two that is there
abbrev pub first_there : {A : Type 0} → Option A → Option A → Option A
first_there None b = b
first_there (Some a) b = Some a

-- what was delivered first, where a message comes after this
abbrev pub bytes_after : Option (List ℕ) → ℕ → List ℕ → Option (List ℕ)
bytes_after before tag bytes = if tag == tag_number Bytes then first_there before (Some bytes) else before

abbrev pub address_after : Option Ip4 → ℕ → ℕ → Option Ip4
address_after before tag a = if tag == tag_number Address then first_there before (Some (record { 0 = a })) else before

-- all bytes so far, and what was answered first
abbrev pub blocks_after : List ℕ → ℕ → List ℕ → List ℕ
blocks_after before tag bytes = if tag == tag_number Bytes then before ++ bytes else before

abbrev pub answer_after : Option DriveAnswer → ℕ → ℕ → ℕ → Option DriveAnswer
answer_after before tag a b = first_there before (drive_answer_in tag a b)

abbrev pub FindsMore : Spelling → Spelling → ℕ → ℕ → ℕ → List ℕ → Type 0
FindsMore s t tag a b bytes = t.is_lost ≡ false → (t.bytes ≡ bytes_after s.bytes tag bytes) × (t.address ≡ address_after s.address tag a)
    × (t.blocks ≡ blocks_after s.blocks tag bytes) × (t.answer ≡ answer_after s.answer tag a b)

-- a message's records were added, and what it delivers, unless some is lost
abbrev pub SpellsMessage : Client → Speaker → Spelling → Spelling → ℕ → ℕ → ℕ → List ℕ → Type 0
SpellsMessage net who s t tag a b bytes =
    (t.closed ≡ s.closed) × SpellsMore s t (message_records net who tag a b bytes) × FindsMore s t tag a b bytes
    × StuckAfter s t (message_lacks_route net who tag b bytes)
