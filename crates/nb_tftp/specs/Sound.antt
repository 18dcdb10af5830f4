-- What a call of a transfer asks, whatever came before it.
use Rattle.std.specs.Prelude.{◌≡◌, ◌≤◌, ℕ, List, [], ◌∷◌, length, Option, IfSome}
use Rattle.nb_terms.specs.declared.acts.Acts.{Acts}
use Rattle.nb_terms.specs.declared.acts.SendTo.{SendTo}

-- each of these messages goes by UDP (protocol 17)
abbrev pub AreUdp : List SendTo → Type 0
AreUdp [] = Unit {0}
AreUdp (send ∷ sends) = (send.proto ≡ 17) × AreUdp sends

-- a range of so many bytes
abbrev pub IsRange : Option (ℕ × ℕ) → ℕ → Type 0
IsRange range len = IfSome range (λ r. (r.0 ≤ r.1) × (r.1 ≤ len))

-- at most one message, by UDP, and a range of the body's bytes
pub record AreSoundActs (len : ℕ) (acts : Acts) : Type 0 where
  pub few : length acts.sends.items ≤ 1
  pub udp : AreUdp acts.sends.items
  pub range : IsRange acts.give len
