-- What a Dhcp has done over its trace (RFC 2131), in terms of nb_dhcp's history: our own.
use Rattle.std.specs.Prelude.{◌≡◌, ◌==◌, ◌&&◌, ℕ, Bool, true, false, List, [], ◌∷◌, ◌++◌, length, take, drop, nat_le, Option, Some, None, if◌then◌else◌}
use Rattle.std.specs.Int.{w16, w32, to_be_bytes, from_be_bytes}
use Rattle.nb_effects.specs.declared.effects.Emit.{Emit}
use Rattle.nb_graph.specs.Trace.{Said}
use Rattle.nb_dhcp.specs.declared.asker.Asker.{Asker}
use Rattle.nb_dhcp.specs.declared.state.State.{State}
use Rattle.nb_dhcp.specs.Acting.{lease_asking}
use Rattle.nb_dhcp.specs.History.{Handed, handed_body, replied, elapsed, LeaseEntry, lease_entry, all_handed, acknowledgement_in, is_done}
use Rattle.nb_dhcp.specs.Promises.{LeasePromises}
use Rattle.nb_dhcp.specs.LeaseStands.{LeaseStands}
use Rattle.nb_nodes.specs.declared.load.Load.{Load}
use Rattle.nb_nodes.specs.declared.lease_ask.LeaseAsk.{LeaseAsk}
use Rattle.nb_nodes.specs.declared.tag.Tag.TheVariants.{Bytes}
use Rattle.nb_nodes.specs.Tags.{tag_number}
use Rattle.nb_nodes.specs.Conversations.{is_datagram}
use Rattle.nb_nodes.specs.Exchanges.{Service}

-- the client that asks
abbrev pub asker_of : LeaseAsk → Asker
asker_of a = record { mac = a.mac; uuid = a.uuid; arch = a.arch; xid = a.xid }

-- the bytes that ask for a lease: the client's hardware address, its machine's identifier, its architecture, and the
-- transaction's number
abbrev pub lease_bytes : Asker → List ℕ
lease_bytes a = a.mac.0 ++ a.uuid ++ to_be_bytes w16 a.arch ++ to_be_bytes w32 a.xid

abbrev pub lease_ask_at : List ℕ → Asker
lease_ask_at bytes =
    record { mac = record { 0 = take 6 bytes }; uuid = take 16 (drop 6 bytes); arch = from_be_bytes w16 (take 2 (drop 16 (drop 6 bytes))); xid = from_be_bytes w32 (drop 2 (drop 16 (drop 6 bytes))) }

-- what the bytes ask for, if they are 28
abbrev pub lease_asked : List ℕ → Option Asker
lease_asked bytes = if length bytes == 28 then Some (lease_ask_at bytes) else None

-- a datagram from port 67, of at most 1,480 bytes: no frame has more
abbrev pub is_from_servers : ℕ → Said → Bool
is_from_servers slot m = is_datagram slot m && (m.a == 67) && nat_le (length m.bytes) 1480

abbrev pub handed_in : Said → Handed
handed_in m = handed_body m.rec m.bytes

abbrev pub lease_said : ℕ → Option (List ℕ) → List Said
lease_said rec None = []
lease_said rec (Some bytes) = record { tag = tag_number Bytes; rec = rec; a = 0; b = 0; bytes = bytes } ∷ []

-- at its end the acknowledgement goes up, where one has come
abbrev pub GivesLease : ℕ → Asker → List LeaseEntry → List Said → Type 0
GivesLease rec a calls given = given ≡ lease_said rec (acknowledgement_in a (all_handed calls))

abbrev pub lease_service : Service State Asker LeaseEntry
lease_service = record {
  asked = lease_asked;
  opening = λ a. lease_asking a None 1;
  takes = is_from_servers;
  received = λ m now acts. lease_entry (replied (handed_in m) now) acts;
  timed = λ now acts. lease_entry (elapsed now) acts;
  gives = GivesLease;
  stands = LeaseStands;
  meets = LeasePromises;
  has_ended = is_done;
}

-- so many bytes of a message as a message up, at the end
abbrev pub whole_emit : Bool → Option ℕ → Option (Emit Load)
whole_emit has_ended None = None
whole_emit false (Some len) = None
whole_emit true (Some len) = Some (record { slot = 0; tag = tag_number Bytes; a = 0; b = 0; from = 0; to = len; load = None })
