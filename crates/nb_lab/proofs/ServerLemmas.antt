-- What the servers make of a frame.
use Rattle.std.proofs.Common.{◌≡◌, ℕ, List, Option, Some, None, refl, subst}
use Rattle.std.specs.Option.{option_map}
use Rattle.nb_tcpseg.specs.SegmentText.{SegmentParts}
use Rattle.nb_lab.specs.declared.hosts.Peer.{Peer}
use Rattle.nb_lab.specs.declared.connection.StreamPart.{StreamPart}
use Rattle.nb_lab.specs.declared.connection.Connection.{Connection}
use Rattle.nb_lab.specs.declared.answer.Answer.TheVariants.{Stream}
use Rattle.nb_lab.specs.Receptions.{IsSegmentTaken}
use Rattle.nb_lab.specs.declared.answer.Answer.{Answer}
use Rattle.nb_lab.specs.declared.server.Server.{Server}
use Rattle.nb_lab.specs.Bringing.{FrameBrought, FrameBrings}
use Rattle.nb_lab.specs.Servers.{Answers, TakesFrame, IsStreamed}

-- a frame that brings this and nothing else
pub takes_brought : (s : Server) (bytes : List ℕ) (b : FrameBrought) (answer : Option Answer) (after : Server) → FrameBrings bytes b
    → ((other : FrameBrought) → FrameBrings bytes other → b ≡ other) → Answers s b answer after → TakesFrame s bytes answer after
takes_brought s bytes b answer after is only answers = record {
  brings = λ other h.
      let P : FrameBrought → Type 0 = λ x. Answers s x answer after in
      subst P (only other h) answers;
  nothing = λ none. absurd (none b is);
}

-- one that brings nothing
pub takes_nothing : (s : Server) (bytes : List ℕ) → ((b : FrameBrought) → FrameBrings bytes b → ⊥) → TakesFrame s bytes None s
takes_nothing s bytes none = record { brings = λ b h. absurd (none b h); nothing = λ _. (refl, refl) }

-- a segment of another peer is nothing to a connection
pub stream_other : (c : Connection) (from : Peer) (s : SegmentParts) (images : ℕ) → (c.peer ≡ from → ⊥) → IsStreamed (Some c) from s images None (Some c)
stream_other c from s images other = (λ same. absurd (other same), λ _. (refl, refl))

-- one of its own is taken
pub stream_on : (c d : Connection) (from : Peer) (s : SegmentParts) (images : ℕ) (part : Option StreamPart) (answer : Option Answer) → c.peer ≡ from
    → IsSegmentTaken c s images part d → answer ≡ option_map (Stream from d.expected) part → IsStreamed (Some c) from s images answer (Some d)
stream_on c d from s images part answer same taken is =
    (λ _. record { part = part; next = d; taken = taken; sent = is; stands = refl }, λ other. absurd (other same))
