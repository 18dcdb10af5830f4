-- The numbers of an open's words, and what a command makes of what it has found.
use Rattle.std.specs.Prelude.{ℕ, ◌+◌, ◌%◌, ◌*◌, List, [], ◌∷◌, map, Ok, Err, codes}
use Rattle.rand_chacha.specs.ChaCha.{key_of, word_at}
use Rattle.nb_terms.specs.declared.cause.Cause.{Cause}
use Rattle.nb_wire.specs.declared.address.Mac.{Mac}
use Rattle.nb_defs.specs.Causes.{ok}
use Rattle.nb_dhcp.specs.declared.asker.Asker.{Asker}
use Rattle.nb_settings.specs.Tables.{TableLists}
use Rattle.nb_settings.specs.LeaseSettings.{leased, lease_refusal}
use Rattle.nb_command.specs.Settings.{Change, put_answer}
use Rattle.nb_command.specs.Failures.{apply_cause}
use Rattle.nb_machine.specs.declared.identity.Identity.{Identity}

-- the first word of an open: from START's key, by its number
unfoldable pub first_word : Identity → ℕ → ℕ
first_word m number = word_at 4 (key_of m.key) 0 (16 * number)

-- its words 0 to 7, which a drive's login has
unfoldable pub open_words : Identity → ℕ → List ℕ
open_words m number = map (λ i. word_at 4 (key_of m.key) 0 (16 * number + i)) (0 ∷ 1 ∷ 2 ∷ 3 ∷ 4 ∷ 5 ∷ 6 ∷ 7 ∷ [])

-- the client that asks for a lease; its transaction's number is the open's first word
abbrev pub asker_at : Mac → Identity → ℕ → Asker
asker_at mac m number = record { mac = mac; uuid = m.uuid; arch = m.arch; xid = first_word m number }

-- a query's number is the low 16 bits of its open's first word
abbrev pub query_id : Identity → ℕ → ℕ
query_id m number = first_word m number % 65536

-- the block of a lease's settings
abbrev pub lease_block : List ℕ
lease_block = codes "net0.dhcp"

-- an acknowledgement's settings, all or none
abbrev pub lease_change : TableLists → List ℕ → Change
lease_change table ack = put_answer (lease_refusal lease_block ack table) (leased lease_block ack table)

-- a command whose open has ended: its result, and the settings that it leaves
pub record Settlement : Type 0 where
  pub cause : Cause
  pub table : TableLists

abbrev pub settled_by : TableLists → Change → Settlement
settled_by before (Ok table) = record { cause = ok; table = table }
settled_by before (Err why) = record { cause = apply_cause why; table = before }
