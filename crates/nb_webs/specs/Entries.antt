-- What an honest server holds under a target, and the responses that tell it
use Rattle.std.specs.Prelude.{◌≡◌, ◌≢◌, ◌<◌, ◌-◌, ◌^◌, ℕ, true, List, [], length}
use Rattle.nb_streams.specs.Flows.{TcpCall, asking}
use Rattle.nb_streams.specs.Carrying.{Carry}
use Rattle.nb_responses.specs.Chunks.{more, body, moved, status, Response, response}
use Rattle.nb_readings.specs.Readings.{response_read}
use Rattle.nb_webs.specs.Webs.{response_come}

-- a file, another place, a refusal, or the bytes of a disk
pub data StoreEntry : Type 0 where
  file : (bytes : List ℕ) → StoreEntry
  elsewhere : (text : List ℕ) → StoreEntry
  refusal : (code : ℕ) → StoreEntry
  disk : (bytes : List ℕ) → StoreEntry

-- a response is that of an entry; none is of a disk
pub data IsOfEntry : Response → StoreEntry → Type 0 where
  of_file : (bytes : List ℕ) → IsOfEntry (response body bytes) (file bytes)
  of_move : (text given : List ℕ) → IsOfEntry (response (moved text) given) (elsewhere text)
  of_refusal : (code : ℕ) (given : List ℕ) → IsOfEntry (response (status code) given) (refusal code)

-- What came to a connection carries one stream: each segment that is taken has its bytes at their places, and each FIN
-- stands at its end.
pub record CarriesStream (stream : List ℕ) (isn : ℕ) (calls : List TcpCall) : Type 0 where
  pub short : length stream < 2 ^ 31 - 1
  pub carried : Carry stream isn (asking []) calls

-- A server is honest to a connection: one stream is carried, whose response is that of the entry.
pub record ServesEntry (entry : StoreEntry) (isn : ℕ) (calls : List TcpCall) : Type 0 where
  pub stream : List ℕ
  pub carries : CarriesStream stream isn calls
  pub serves : IsOfEntry (response_read stream true) entry

-- Of an honest server a response that is decided is that of its entry.
abbrev pub HonestResponsesAreTheirs : Type 0
HonestResponsesAreTheirs = (entry : StoreEntry) (isn : ℕ) (calls : List TcpCall) → ServesEntry entry isn calls
    → (response_come isn calls).verdict ≢ more → IsOfEntry (response_come isn calls) entry

-- What has come decided from an honest server of a file is its body, byte for byte.
abbrev pub HonestBodiesAreFiles : Type 0
HonestBodiesAreFiles = (bytes : List ℕ) (isn : ℕ) (calls : List TcpCall) → ServesEntry (file bytes) isn calls
    → (response_come isn calls).verdict ≢ more → response_come isn calls ≡ response body bytes
