-- The bytes of an iSCSI Boot Firmware Table: iBFT 1.03, in a layout of our own. Numbers are little-endian.
use Rattle.std.specs.Prelude.{ℕ, zero, suc, ◌+◌, ◌-◌, ◌*◌, ◌%◌, List, [], ◌∷◌, ◌++◌, length, replicate, sum, codes}
use Rattle.std.specs.Int.{to_le_bytes, to_be_bytes, w16, w32}
use Rattle.nb_ibft.specs.Infos.{Target, Info, target_texts, info_texts}

-- an IPv4 address among those of 16 bytes: ten zeros, two bytes of all ones, and the address; all zeros where there is none
abbrev pub mark : ℕ → ℕ
mark zero = 0
mark (suc n) = 255

abbrev pub address_text : ℕ → List ℕ
address_text address = replicate 10 0 ++ (mark address ∷ mark address ∷ to_be_bytes w32 address)

-- a text as it is kept: with a zero byte after it, or nothing where it has no bytes
abbrev pub kept : List ℕ → List ℕ
kept [] = []
kept (x ∷ xs) = x ∷ (xs ++ 0 ∷ [])

-- texts one after another
abbrev pub texts_joined : List (List ℕ) → List ℕ
texts_joined [] = []
texts_joined (text ∷ texts) = kept text ++ texts_joined texts

-- where a text that stands at a place is said to be: its length and its place, or zeros where it has no bytes
abbrev pub place_or_zero : List ℕ → ℕ → ℕ
place_or_zero [] at = 0
place_or_zero (x ∷ xs) at = at

abbrev pub reference : ℕ → List ℕ → List ℕ
reference at text = to_le_bytes w16 (length text) ++ to_le_bytes w16 (place_or_zero text at)

-- the same of texts one after another, the first at this place
abbrev pub references : ℕ → List (List ℕ) → List ℕ
references at [] = []
references at (text ∷ texts) = reference at text ++ references (at + length (kept text)) texts

-- the header: the signature, the total length, revision 1, the checksum, who made it
abbrev pub table_header_text : ℕ → ℕ → List ℕ
table_header_text total checksum = codes "iBFT" ++ (to_le_bytes w32 total ++ (1 ∷ checksum ∷ (codes "NETBT NETBOOT " ++ replicate 24 0)))

-- where the disks' parts stand; the second interface has none
abbrev pub target_places : List Target → List ℕ
target_places [] = 0 ∷ 0 ∷ 0 ∷ 0 ∷ 0 ∷ 0 ∷ []
target_places (t ∷ []) = 16 ∷ 1 ∷ 0 ∷ 0 ∷ 0 ∷ 0 ∷ []
target_places (t ∷ u ∷ ts) = 16 ∷ 1 ∷ 0 ∷ 0 ∷ 80 ∷ 1 ∷ []

-- part 1, at 48: no extensions, and the places of the other parts
abbrev pub control_text : List Target → List ℕ
control_text targets = 1 ∷ 1 ∷ 18 ∷ 0 ∷ 0 ∷ 0 ∷ 0 ∷ 0 ∷ 80 ∷ 0 ∷ 160 ∷ 0 ∷ (target_places targets ++ replicate 14 0)

-- part 2, at 80: no servers, and the initiator's name
abbrev pub initiator_text : ℕ → List ℕ → List ℕ
initiator_text at name = 2 ∷ 1 ∷ 74 ∷ 0 ∷ 0 ∷ 3 ∷ (replicate 64 0 ++ (reference at name ++ replicate 6 0))

-- part 3, at 160: the interface's address and how long its net's prefix is
abbrev pub own_text : Info → List ℕ
own_text i = 3 ∷ 1 ∷ 102 ∷ 0 ∷ 0 ∷ 3 ∷ (address_text i.address ++ (i.prefix ∷ 0 ∷ []))

-- the addresses of others
abbrev pub servers_text : Info → List ℕ
servers_text i = address_text i.gateway ++ (address_text i.first_dns ++ (address_text i.second_dns ++ address_text i.dhcp_server))

-- both, and its VLAN, of which there is none
abbrev pub addresses_text : Info → List ℕ
addresses_text i = own_text i ++ (servers_text i ++ 0 ∷ 0 ∷ [])

-- the rest of it after the hardware address: no place on the bus, and the host's name
abbrev pub host_text : ℕ → List ℕ → List ℕ
host_text at host = 0 ∷ 0 ∷ (reference at host ++ replicate 10 0)

-- part 4, at 272 or 336: a disk's address and port
abbrev pub portal_text : ℕ → Target → List ℕ
portal_text index t = 4 ∷ 1 ∷ 54 ∷ 0 ∷ index ∷ 3 ∷ (address_text t.address ++ to_le_bytes w16 t.port)

-- the rest of it after the unit's number: how the client logs in, on interface 0, and the texts
abbrev pub target_login_text : ℕ → Target → List ℕ
target_login_text at t = t.chap ∷ 0 ∷ (references at (target_texts t) ++ replicate 10 0)

-- the parts of disks, whose texts stand from this place on
abbrev pub targets_text : ℕ → ℕ → List Target → List ℕ
targets_text index at [] = []
targets_text index at (t ∷ ts) =
    portal_text index t ++ (t.lun ++ (target_login_text at t ++ targets_text (index + 1) (at + length (texts_joined (target_texts t))) ts))

-- where the texts begin: after the last part
abbrev pub texts_place : Info → ℕ
texts_place i = 272 + 64 * length i.targets

-- the place after the initiator's name, and the one after the host's
abbrev pub host_place : Info → ℕ
host_place i = texts_place i + length (kept i.initiator)

abbrev pub disks_place : Info → ℕ
disks_place i = host_place i + length (kept i.host)

-- all parts but the header
abbrev pub parts_text : Info → List ℕ
parts_text i =
    control_text i.targets ++ (initiator_text (texts_place i) i.initiator ++ (addresses_text i ++ (i.mac
    ++ (host_text (host_place i) i.host ++ targets_text 0 (disks_place i) i.targets))))

-- all texts
abbrev pub texts_text : Info → List ℕ
texts_text i = texts_joined (info_texts i)

abbrev pub total_length : Info → ℕ
total_length i = texts_place i + length (texts_text i)

-- the byte that makes a sum 0 modulo 256, by what the sum is without it
abbrev pub check_of : ℕ → ℕ
check_of total = (256 - total) % 256

-- the byte that makes the sum of these bytes and itself 0 modulo 256
abbrev pub check_byte : List ℕ → ℕ
check_byte bytes = check_of (sum bytes % 256)

-- a table with this byte in the place of its checksum
unfoldable pub table_text : Info → ℕ → List ℕ
table_text i checksum = table_header_text (total_length i) checksum ++ (parts_text i ++ texts_text i)

-- the table: all its bytes sum to 0 modulo 256
unfoldable pub ibft : Info → List ℕ
ibft i = table_text i (check_byte (table_text i 0))
