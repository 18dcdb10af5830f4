-- RFC 1994, section 4.1: the response to a challenge
use Rattle.std.specs.Prelude.{ℕ, List, ◌∷◌, ◌++◌}
use Rattle.md5.specs.Md5.{md5}

-- the MD5 of the identifier, the secret and the challenge
unfoldable pub chap_response : ℕ → List ℕ → List ℕ → List ℕ
chap_response identifier secret challenge = md5 (identifier ∷ secret ++ challenge)
