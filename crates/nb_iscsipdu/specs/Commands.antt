-- SPC-4, sections 6.47, and SBC-3, sections 5.8 and 5.15: the commands that are sent
use Rattle.std.specs.Prelude.{ℕ, ◌*◌, List, ◌∷◌, ◌++◌, replicate}
use Rattle.std.specs.Int.{w16, w32, to_be_bytes}
use Rattle.nb_iscsipdu.specs.declared.command.Command.{Command}
use Rattle.nb_iscsipdu.specs.declared.command.Command.TheVariants.{TestUnitReady, ReadCapacity, Read}

-- how many bytes a command asks for: a block has 512
abbrev pub asked_len : Command → ℕ
asked_len TestUnitReady = 0
asked_len ReadCapacity = 8
asked_len (Read lba blocks) = 512 * blocks

-- the last PDU of the command, with data to be read for the second and third, as a simple task
abbrev pub command_flags : Command → ℕ
command_flags TestUnitReady = 0x81
command_flags ReadCapacity = 0xC1
command_flags (Read lba blocks) = 0xC1

-- the command descriptor block, with zeros after it
abbrev pub command_block : Command → List ℕ
command_block TestUnitReady = replicate 16 0
command_block ReadCapacity = 0x25 ∷ replicate 15 0
command_block (Read lba blocks) = 0x28 ∷ 0 ∷ (to_be_bytes w32 lba ++ (0 ∷ (to_be_bytes w16 blocks ++ replicate 7 0)))
