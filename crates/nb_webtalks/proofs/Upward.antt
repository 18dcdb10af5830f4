-- What goes up with an entry of the connection, and what follows a segment's entry then.
use Rattle.std.proofs.Common.{◌≡◌, ℕ, Bool, false, List, [], ◌∷◌, ◌++◌, Option, Some, None, refl, ap, ◌∙◌, append-nil}
use Rattle.nb_graph.specs.Trace.{Said}
use Rattle.nb_tcp.specs.ConnHistory.{ConnEntry, conn_entry, delivered, lends_out, tcp_calls}
use Rattle.nb_tcp.specs.Replies.{only_ready}
use Rattle.nb_conns.specs.ConnEffects.{end_says, received_says}

-- the bytes that go up
abbrev pub sent_bytes : Option (List ℕ) → List ℕ
sent_bytes None = []
sent_bytes (Some bytes) = bytes

-- these bytes go up, and the end of the stream
abbrev pub says_up : ℕ → Option (List ℕ) → Bool → List Said
says_up rec None ends = end_says rec ends
says_up rec (Some bytes) ends = received_says rec bytes ∷ end_says rec ends

-- After a segment's entry comes nothing, where nothing waited; or all that waited was lent and rose, and may be back.
pub data LetsUp (ready : Bool) : List ConnEntry → List ℕ → Type 0 where
  lets_none : ready ≡ false → LetsUp ready [] []
  lets_all : (bytes : List ℕ) (back : List ConnEntry) → tcp_calls back ≡ [] → delivered back ≡ [] → LetsUp ready (conn_entry (lends_out bytes) (only_ready false) ∷ back) bytes

-- no segment, time or text is among that
pub lets_silent : (ready : Bool) (behind : List ConnEntry) (gave : List ℕ) → LetsUp ready behind gave → tcp_calls behind ≡ []
lets_silent ready _ _ (lets_none idle) = refl
lets_silent ready _ _ (lets_all bytes back silent holds) = silent

-- its bytes are those that rose
pub lets_gave : (ready : Bool) (behind : List ConnEntry) (gave : List ℕ) → LetsUp ready behind gave → delivered behind ≡ gave
lets_gave ready _ _ (lets_none idle) = refl
lets_gave ready _ _ (lets_all bytes back silent holds) = ap (λ z. bytes ++ z) holds ∙ append-nil bytes
