-- What a command asks by one exchange: a lease, an echo, a name's address, or that of its server; and the words and settings
-- that say it.
use Rattle.std.specs.Prelude.{ℕ, ◌==◌, Bool, List, [], ◌∷◌, ◌++◌, Option, Some, None, if◌then◌else◌}
use Rattle.std.specs.List.{list_any}
use Rattle.nb_terms.specs.declared.cause.Cause.{Cause}
use Rattle.nb_terms.specs.declared.reason.Plain.TheVariants as plain
use Rattle.nb_terms.specs.declared.reason.Reason.TheVariants as reason
use Rattle.nb_terms.specs.Reasons.{as_cause}
use Rattle.nb_wire.specs.declared.address.Ip4.{Ip4}
use Rattle.nb_settings.specs.declared.setting.OwnedKey.TheVariants.{Tag}
use Rattle.nb_settings.specs.Tables.{TableLists, SettingValue, look}
use Rattle.nb_command.specs.SettingAddresses.{value_address, nonzero}
use Rattle.nb_machine.specs.Errands.{Errand}

pub data Query : Type 0 where
  -- `dhcp`: a lease
  for_lease : Query
  -- `ping`: an echo of this host
  for_echo : (server : ℕ) → Query
  -- `nslookup`: the address of a name, which a name server is asked for, and which this setting gets
  for_address : (setting : List ℕ) (name : List ℕ) (by : ℕ) → Query
  -- the address of a server's name, which a name server is asked for, and of which something is asked then
  for_host : Errand → (name : List ℕ) (by : ℕ) → Query

-- a name that can't be one
abbrev pub bad_name : Cause
bad_name = as_cause (reason.Plain plain.BadName)

-- no name server is known
abbrev pub no_server : Cause
no_server = as_cause (reason.Plain plain.NoServer)

-- the name server: the first four bytes of `dns`, which has tag 6 (RFC 2132)
abbrev pub dns_in : TableLists → Option Ip4
dns_in table = nonzero (value_address (look None (Tag 6) table))

abbrev pub is_dot_byte : ℕ → Bool
is_dot_byte byte = byte == 46

abbrev pub after_dot : List ℕ → List ℕ → List ℕ
after_dot text [] = text
after_dot text (byte ∷ domain) = text ++ (46 ∷ byte ∷ domain)

abbrev pub domain_bytes : Option SettingValue → List ℕ
domain_bytes None = []
domain_bytes (Some value) = value.bytes

-- a name without a dot gets `domain`, which has tag 15, after it, where that is set
abbrev pub with_domain : TableLists → List ℕ → List ℕ
with_domain table text = if list_any is_dot_byte text then text else after_dot text (domain_bytes (look None (Tag 15) table))
