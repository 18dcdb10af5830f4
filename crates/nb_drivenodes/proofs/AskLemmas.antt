-- What a drive's asking is read from.
use Rattle.std.proofs.Common.{◌≡◌, ℕ, ◌+◌, Bool, true, List, length, take, drop, nat_le, Option, None, ap, sym, ◌∙◌, arith, if◌then◌else◌}
use Rattle.std.proofs.lemmas.Bool.{le-leb}
use Rattle.std.proofs.lemmas.List.{drop-drop}
use Rattle.std.specs.Prelude.{option_and_then}
use Rattle.nb_conns.specs.declared.conn_ask.ConnAsk.{ConnAsk}
use Rattle.nb_conns.specs.ConnAsks.{conn_ask_in}
use Rattle.nb_drivenodes.specs.DriveAsks.{names_in, words_of, info_by, drive_ask_by, drive_ask_in}

-- the bytes are cut so
pub ask-cut : (bytes r1 r2 r3 conn lun words : List ℕ) (a : Option ConnAsk) (names : Option (List (List ℕ))) → conn ≡ take 16 bytes → r1 ≡ drop 16 bytes → length r1 + 16 ≡ length bytes
    → lun ≡ take 8 r1 → r2 ≡ drop 8 r1 → length r2 + 8 ≡ length r1 → words ≡ take 32 r2 → r3 ≡ drop 32 r2 → length r3 + 32 ≡ length r2 → a ≡ conn_ask_in conn → names ≡ names_in 6 r3
    → drive_ask_by a (option_and_then (info_by lun (words_of words)) names) ≡ drive_ask_in bytes
ask-cut bytes r1 r2 r3 conn lun words a names c1 d1 l1 c2 d2 l2 c3 d3 l3 asks has =
    let second : r2 ≡ drop 24 bytes = d2 ∙ ap (drop 8) d1 ∙ drop-drop 8 16 bytes in
    let third : r3 ≡ drop 56 bytes = d3 ∙ ap (drop 32) second ∙ drop-drop 32 24 bytes in
    let long : nat_le 56 (length bytes) ≡ true = le-leb 56 (length bytes) (omega (arith, l1, l2, l3)) in
    ap (λ (z : Option ConnAsk). drive_ask_by z (option_and_then (info_by lun (words_of words)) names)) (asks ∙ ap conn_ask_in c1)
    ∙ ap (λ (z : List ℕ). drive_ask_by (conn_ask_in (take 16 bytes)) (option_and_then (info_by z (words_of words)) names)) (c2 ∙ ap (take 8) d1)
    ∙ ap (λ (z : List ℕ). drive_ask_by (conn_ask_in (take 16 bytes)) (option_and_then (info_by (take 8 (drop 16 bytes)) (words_of z)) names)) (c3 ∙ ap (take 32) second)
    ∙ ap (λ (z : Option (List (List ℕ))). drive_ask_by (conn_ask_in (take 16 bytes)) (option_and_then (info_by (take 8 (drop 16 bytes)) (words_of (take 32 (drop 24 bytes)))) z)) (has ∙ ap (names_in 6) third)
    ∙ ap (λ (b : Bool). if b then drive_ask_by (conn_ask_in (take 16 bytes)) (option_and_then (info_by (take 8 (drop 16 bytes)) (words_of (take 32 (drop 24 bytes)))) (names_in 6 (drop 56 bytes))) else None) (sym long)
