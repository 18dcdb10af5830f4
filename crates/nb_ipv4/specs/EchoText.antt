-- RFC 792: an echo request or an echo reply
use Rattle.std.specs.Prelude.{◌≡◌, ℕ, ◌<◌, ◌^◌, ◌⊎◌, true, ◌==◌, List, ◌∷◌, ◌++◌, length}
use Rattle.std.specs.Int.{w16, to_be_bytes}
use Rattle.std.specs.List.{list_all}
use Rattle.nb_wire.specs.Checksum.{checksum}
use Rattle.nb_ipv4.specs.declared.echo.Echo.{Echo}

-- an echo without where its body lies in memory
pub record EchoParts : Type 0 where
  pub kind : ℕ
  pub ident : ℕ
  pub seq : ℕ
  pub body : List ℕ

abbrev pub echo_parts : Echo → EchoParts
echo_parts e = record { kind = e.kind; ident = e.ident; seq = e.seq; body = e.body.now }

-- an echo with this identifier and sequence number, whose body is two parts
abbrev pub echo_of : ℕ → ℕ → ℕ → List ℕ → List ℕ → EchoParts
echo_of kind ident seq first second = record { kind = kind; ident = ident; seq = seq; body = first ++ second }

-- a request is of kind 8, a reply of kind 0
abbrev pub IsEchoKind : ℕ → Type 0
IsEchoKind kind = (kind ≡ 8) ⊎ (kind ≡ 0)

-- the eight bytes before the body, with this checksum; the code is 0
unfoldable pub echo_header : EchoParts → ℕ → List ℕ
echo_header e sum = e.kind ∷ 0 ∷ to_be_bytes w16 sum ++ to_be_bytes w16 e.ident ++ to_be_bytes w16 e.seq

-- an echo's spelling with this checksum
abbrev pub echo_text : EchoParts → ℕ → List ℕ
echo_text e sum = echo_header e sum ++ e.body

-- the checksum is right. All bits 0 and all bits 1 are both zero in its sum, so a message whose bytes are all 0
-- has a right one too, as Linux answers an echo whose identifier, number and body are 0.
abbrev pub IsIntactEcho : List ℕ → Type 0
IsIntactEcho bytes = (checksum bytes ≡ 0) ⊎ (list_all (λ byte. byte == 0) bytes ≡ true)

-- these bytes are the echo: the checksum is over all of them, and they fit into a packet
pub record IsEcho (bytes : List ℕ) (e : EchoParts) : Type 0 where
  pub sum : ℕ
  pub kind : IsEchoKind e.kind
  pub ident : e.ident < 2 ^ 16
  pub seq : e.seq < 2 ^ 16
  pub sum_fits : sum < 2 ^ 16
  pub total : length bytes < 2 ^ 16
  pub spelled : bytes ≡ echo_text e sum
  pub checked : IsIntactEcho bytes

-- an echo as it is sent: the checksum is that of the echo with 0 in its place
unfoldable pub sent_echo : EchoParts → List ℕ
sent_echo e = echo_text e (checksum (echo_text e 0))
