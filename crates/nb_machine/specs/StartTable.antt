-- The settings that a run begins with: START gives the block `net0`.
use Rattle.std.specs.Prelude.{ℕ, ◌==◌, List, pos, if◌then◌else◌, codes}
use Rattle.std.specs.Int.{w32, to_be_bytes}
use Rattle.nb_defs.specs.Records.{Start}
use Rattle.nb_settings.specs.declared.kind.Kind.{Kind}
use Rattle.nb_settings.specs.declared.kind.Kind.TheVariants.{Hex, Ipv4, Uuid}
use Rattle.nb_settings.specs.declared.setting.OwnedKey.{OwnedKey}
use Rattle.nb_settings.specs.declared.setting.OwnedKey.TheVariants.{Tag, Free}
use Rattle.nb_settings.specs.Tables.{TableLists, root_alone, registered, block_of, setting_of, with_value}

-- with a value in that block
abbrev pub with_own : OwnedKey → Kind → List ℕ → TableLists → TableLists
with_own key kind bytes table = with_value (setting_of (codes "net0") key kind bytes) table

-- with an address there, unless it is 0
abbrev pub with_address : OwnedKey → ℕ → TableLists → TableLists
with_address key address table = if address == 0 then table else with_own key Ipv4 (to_be_bytes w32 address) table

-- the block alone, empty
abbrev pub net0_alone : TableLists
net0_alone = registered (block_of (codes "net0") (pos 0)) root_alone

-- with the client's MAC and its UUID
abbrev pub with_names : Start → TableLists → TableLists
with_names s table = with_own (Free (codes "uuid")) Uuid s.uuid (with_own (Free (codes "mac")) Hex s.mac table)

-- with the addresses of the client, its mask, its gateway and its name server: the last three have tags of RFC 2132, and are ignored
-- where the client has none
abbrev pub with_addresses : Start → TableLists → TableLists
with_addresses s table =
    if s.ip == 0 then table
    else with_address (Tag 6) s.dns (with_address (Tag 3) s.gateway (with_address (Tag 1) s.mask (with_address (Free (codes "ip")) s.ip table)))

unfoldable pub start_table : Start → TableLists
start_table s = with_addresses s (with_names s net0_alone)
