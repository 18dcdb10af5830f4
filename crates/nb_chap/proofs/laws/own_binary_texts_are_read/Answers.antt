use Rattle.std.proofs.Common.{◌≡◌, ◌≤◌, ◌<◌, ℕ, List, length, Some, refl, ap, ◌∙◌}
use Rattle.std.specs.Prelude.{option_and_then}
use Rattle.std.specs.Result.{result_ok}
use Rattle.std.proofs.lemmas.Bool.{lt-ltb, le-leb}
use Rattle.hex.specs.Hex.{IsBytes}
use Rattle.hex.proofs.HexLemmas.{decode_of-encode_lower}
use Rattle.nb_chap.specs.Values.{encoded_in, of_binary_length, binary_in, binary_text}
use Rattle.nb_chap.proofs.laws.own_binary_texts_are_read.Goals as goal

encoded : (bytes : List ℕ) → IsBytes bytes → encoded_in (binary_text bytes) ≡ Some bytes
unfolding encoded_in
encoded bytes are = ap result_ok (decode_of-encode_lower bytes are)

read : (bytes : List ℕ) → IsBytes bytes → 0 < length bytes → length bytes ≤ 1024 → binary_in (binary_text bytes) ≡ Some bytes
unfolding binary_in
read bytes are some few =
    ap (option_and_then of_binary_length) (encoded bytes are) ∙ rw (lt-ltb 0 (length bytes) some, le-leb (length bytes) 1024 few) refl

pub returns : goal.returns
returns c = read
