-- Laws of a text that is cut at its first colon.
use Rattle.std.proofs.Common.{◌≡◌, ℕ, suc, ◌+◌, ◌<◌, List, [], ◌∷◌, ◌++◌, length, take, drop, get_or, Some, refl, sym, ap, ◌∙◌, arith, eqb, length-append, append_assoc, take-append-drop}
use Rattle.std.proofs.Math.Seq.{drop-cons, get_or-append_seam}
use Rattle.std.specs.List.{position_or_len}
use Rattle.std.proofs.lemmas.Bool.{eqb-true, eqb-false, ne_eqb, lt-ltb}
use Rattle.std.proofs.lemmas.List.{take_at, drop_at, get_or-take, get_or_append_left, length-take-le}
use Rattle.std.proofs.lemmas.List.Sums.{position_or_len_is, fails_before_first, passes_at_first}
use Rattle.nb_uri.specs.Pieces.{cut_at_first}
use Rattle.nb_uri.specs.IscsiNames.{HasNoColon}
use Rattle.nb_uri.proofs.PieceLemmas.{cut_found}

drop-past : (field rest : List ℕ) → drop (length field + 1) (field ++ 58 ∷ rest) ≡ rest
drop-past field rest =
    ap (drop (length field + 1)) (sym (append_assoc field (58 ∷ []) rest)) ∙ drop_at (field ++ 58 ∷ []) rest (length field + 1) (length-append field (58 ∷ []))

-- a field and what follows its colon are cut there
pub cut-at : (field rest : List ℕ) → HasNoColon field → cut_at_first 58 (field ++ 58 ∷ rest) ≡ Some (field, rest)
cut-at field rest none =
    let text = field ++ 58 ∷ rest in
    let within : length field < length text = simp length-append (omega arith) in
    let at : position_or_len (λ b. eqb b 58) text ≡ length field = position_or_len_is (λ b. eqb b 58) text (length field) 0 (omega (arith, within))
    (λ k below. ne_eqb (get_or text k 0) 58 (λ same. none k below (sym (get_or_append_left field (58 ∷ rest) 0 k below) ∙ same)))
    (λ _. ap (λ b. eqb b 58) (get_or-append_seam field 58 rest 0)) in
    let after = drop-past field rest in
    rw (at, lt-ltb (length field) (length text) within) (λ i. Some (take_at field (58 ∷ rest) (length field) refl i, after i))

-- what is cut was spelled so
pub cut-joins : (text field rest : List ℕ) → Some (field, rest) ≡ cut_at_first 58 text → (text ≡ field ++ 58 ∷ rest) × HasNoColon field
cut-joins text field rest is =
    let at = position_or_len (λ b. eqb b 58) text in
    let found = cut_found 58 text field rest is in
    let colon : get_or text at 0 ≡ 58 = eqb-true (get_or text at 0) 58 (passes_at_first (λ b. eqb b 58) text 0 found.0) in
    let one_more : suc at ≡ at + 1 = omega arith in
    let after : drop at text ≡ 58 ∷ rest = drop-cons text at 0 found.0 ∙ ap (λ b. b ∷ drop (suc at) text) colon ∙ ap (λ t. 58 ∷ t) (ap (λ n. drop n text) one_more ∙ found.2) in
    let spelled = sym (take-append-drop at text) ∙ ap (λ t. take at text ++ t) after ∙ ap (λ t. t ++ 58 ∷ rest) found.1 in
    let long : length field ≡ at = ap length (sym found.1) ∙ length-take-le at text (omega (arith, found.0)) in
    (spelled, λ place below same. eqb-false (get_or text place 0) 58 (fails_before_first (λ b. eqb b 58) text place 0 (omega (arith, below, long))) (sym (get_or-take at text place 0 (omega (arith, below, long))) ∙ ap (λ t. get_or t place 0) found.1 ∙ same))
