-- RFC 826, for Ethernet and IPv4: hardware 1, protocol 0x0800, addresses of 6 and 4 bytes
use Rattle.std.specs.Prelude.{◌≡◌, ℕ, ◌<◌, ◌^◌, ◌⊎◌, List, [], ◌∷◌, ◌++◌, length, take}
use Rattle.std.specs.Int.{w16, w32, to_be_bytes}
use Rattle.nb_ether.specs.declared.arp.Arp.{Arp}

-- a message's spelling, 28 bytes
abbrev pub arp_text : Arp → List ℕ
arp_text a =
    (0 ∷ 1 ∷ 8 ∷ 0 ∷ 6 ∷ 4 ∷ []) ++ to_be_bytes w16 a.op
    ++ a.sha.0 ++ to_be_bytes w32 a.spa.0 ++ a.tha.0 ++ to_be_bytes w32 a.tpa.0

-- these bytes are the message, of any operation, and maybe padding after it
pub record HasForm (bytes : List ℕ) (a : Arp) : Type 0 where
  pub op : a.op < 2 ^ 16
  pub sha : length a.sha.0 ≡ 6
  pub spa : a.spa.0 < 2 ^ 32
  pub tha : length a.tha.0 ≡ 6
  pub tpa : a.tpa.0 < 2 ^ 32
  pub spelled : take 28 bytes ≡ arp_text a

-- a request or a reply
abbrev pub IsOperation : ℕ → Type 0
IsOperation op = (op ≡ 1) ⊎ (op ≡ 2)

-- these bytes are the request or the reply, and maybe padding after it
pub record IsArp (bytes : List ℕ) (a : Arp) : Type 0 where
  pub form : HasForm bytes a
  pub op : IsOperation a.op
