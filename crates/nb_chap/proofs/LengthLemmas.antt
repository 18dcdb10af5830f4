-- How long responses and the texts of binary values are, for those who put them into messages.
use Rattle.std.proofs.Common.{◌≡◌, ℕ, ◌+◌, ◌*◌, List, length, refl, arith}
use Rattle.hex.specs.Hex.{lower_digits}
use Rattle.hex.proofs.HexLemmas.{length-encode_with}
use Rattle.md5.specs.Md5.{md5, digest_bytes}
use Rattle.nb_chap.specs.Responses.{chap_response}
use Rattle.nb_chap.specs.Values.{binary_text}

length-digest : (h : List ℕ) → length (digest_bytes h 4) ≡ 16
unfolding digest_bytes
length-digest h = refl

pub length-chap_response : (identifier : ℕ) (secret challenge : List ℕ) → length (chap_response identifier secret challenge) ≡ 16
unfolding chap_response md5
length-chap_response identifier secret challenge = length-digest _

pub length-binary_text : (bytes : List ℕ) → length (binary_text bytes) ≡ 2 * length bytes + 2
length-binary_text bytes = let l = length-encode_with lower_digits bytes in omega arith
