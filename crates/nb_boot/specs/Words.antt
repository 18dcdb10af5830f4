-- The words of the program: `replay IN OUT`, and `live PEER`.
use Rattle.std.specs.Prelude.{◌≡◌, ℕ, ◌<◌, List, [], ◌∷◌, ◌++◌, length, codes}
use Rattle.std.specs.Fmt.{decimal}
use Rattle.nb_record.specs.declared.line.Target.{Target}
use Rattle.nb_record.specs.declared.line.Target.TheVariants.{Files, Peer}

-- a port from 1 to 65535 in decimal, without leading zeros
pub record IsPortText (text : List ℕ) : Type 0 where
  pub port : ℕ
  pub low : 0 < port
  pub high : port < 65536
  pub spelled : text ≡ decimal port

-- a host that isn't empty, a colon and a port
pub record IsPeerText (text : List ℕ) : Type 0 where
  pub host : List ℕ
  pub port : List ℕ
  pub named : 0 < length host
  pub numbered : IsPortText port
  pub spelled : text ≡ host ++ 58 ∷ port

-- `replay IN OUT`, the last two not empty; or `live PEER`
abbrev pub AreWords : List (List ℕ) → Type 0
AreWords [] = ⊥
AreWords (a ∷ []) = ⊥
AreWords (a ∷ b ∷ []) = (a ≡ codes "live") × IsPeerText b
AreWords (a ∷ b ∷ c ∷ []) = (a ≡ codes "replay") × (0 < length b) × (0 < length c)
AreWords (a ∷ b ∷ c ∷ d ∷ rest) = ⊥

-- what the words name: IN and OUT, or PEER
abbrev pub NamesTarget : List (List ℕ) → Target → Type 0
NamesTarget words (Files input output) = words ≡ codes "replay" ∷ input.now ∷ output.now ∷ []
NamesTarget words (Peer peer) = words ≡ codes "live" ∷ peer.now ∷ []
