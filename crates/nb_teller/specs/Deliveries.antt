-- What the objects of an open deliver: one object at its end the bytes of an acknowledgement, or an address; those of a drive the bytes
-- of blocks, and that a command was answered.
use Rattle.std.specs.Prelude.{ℕ, ◌==◌, List, [], ◌∷◌, ◌++◌, Option, Some, None, if◌then◌else◌}
use Rattle.std.specs.Option.{option_or}
use Rattle.nb_wire.specs.declared.address.Ip4.{Ip4}
use Rattle.nb_ledger.specs.Flat.{Notice, event, message}
use Rattle.nb_nodes.specs.Tags.{tag_number}
use Rattle.nb_nodes.specs.declared.tag.Tag.TheVariants.{Bytes, Address}
use Rattle.nb_drivechains.specs.declared.drive_answer.DriveAnswer.{DriveAnswer}
use Rattle.nb_drivechains.specs.DriveCalls.{drive_answer_in}

-- the first bytes that were delivered
unfoldable pub delivered_bytes : List Notice → Option (List ℕ)
delivered_bytes [] = None
delivered_bytes (event e ∷ ns) = delivered_bytes ns
delivered_bytes (message from tag rec a b bytes ∷ ns) = if tag == tag_number Bytes then Some bytes else delivered_bytes ns

-- the first address that was
unfoldable pub delivered_address : List Notice → Option Ip4
delivered_address [] = None
delivered_address (event e ∷ ns) = delivered_address ns
delivered_address (message from tag rec a b bytes ∷ ns) = if tag == tag_number Address then Some (record { 0 = a }) else delivered_address ns

-- all bytes that were delivered, in order
unfoldable pub delivered_blocks : List Notice → List ℕ
delivered_blocks [] = []
delivered_blocks (event e ∷ ns) = delivered_blocks ns
delivered_blocks (message from tag rec a b bytes ∷ ns) = if tag == tag_number Bytes then bytes ++ delivered_blocks ns else delivered_blocks ns

-- what a drive answered first
unfoldable pub delivered_answer : List Notice → Option DriveAnswer
delivered_answer [] = None
delivered_answer (event e ∷ ns) = delivered_answer ns
delivered_answer (message from tag rec a b bytes ∷ ns) = option_or (drive_answer_in tag a b) (delivered_answer ns)
