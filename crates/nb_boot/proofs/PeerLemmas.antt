-- A host and a port with a colon between them, cut at the last colon.
use Rattle.std.proofs.Common.{◌≡◌, ◌↔◌, ◌≢◌, ℕ, suc, ◌<◌, List, [], ◌∷◌, ◌++◌, length, get_or, take, drop, ◌==◌, Some, decimal, refl, sym, ap, subst, ◌∙◌, arith}
use Rattle.std.specs.Str.{NoCharPasses}
use Rattle.std.specs.Str.Pattern.{RFindsChar}
use Rattle.std.proofs.lemmas.List.{take-append-drop}
use Rattle.std.proofs.lemmas.Str.Pattern.{NoCharPasses-char, drop_at_char}
use Rattle.std.proofs.lemmas.Fmt.{decimal_is_IsNumeral}
use Rattle.std.proofs.lemmas.Str.Parse.{digit_at}
use Rattle.nb_boot.specs.Words.{IsPortText, IsPeerText}

-- no byte is a colon
abbrev NoColon : List ℕ → Type 0
NoColon bytes = (i : ℕ) → i < length bytes → get_or bytes i 0 ≢ 58

port-no-colon : (text : List ℕ) → IsPortText text → NoColon text
port-no-colon text is i below e =
    let digit = digit_at (decimal is.port) i (decimal_is_IsNumeral is.port (omega (arith, is.high))).0.1 (subst (λ t. i < length t) is.spelled below) in
    let same : get_or (decimal is.port) i 0 ≡ 58 = ap (λ t. get_or t i 0) (sym is.spelled) ∙ e in
    omega (arith, digit.1, same)

colon-inside : (host port : List ℕ) → NoColon (host ++ 58 ∷ port) → ⊥
colon-inside [] port none = none 0 (omega arith) refl
colon-inside (c ∷ host) port none = colon-inside host port (λ i below. none (suc i) (omega (arith, below)))

-- what stands before the last colon and after it, told by the text
last-colon : (host host' port port' : List ℕ) → host ++ 58 ∷ port ≡ host' ++ 58 ∷ port' → NoColon port → NoColon port' → (host ≡ host') × (port ≡ port')
last-colon [] [] port port' same none none' = (refl, cc same)
last-colon [] (c ∷ host') port port' same none none' =
    let inside : port ≡ host' ++ 58 ∷ port' = cc same in
    absurd (colon-inside host' port' (subst NoColon inside none))
last-colon (c ∷ host) [] port port' same none none' =
    let inside : port' ≡ host ++ 58 ∷ port = cc (sym same) in
    absurd (colon-inside host port (subst NoColon inside none'))
last-colon (c ∷ host) (d ∷ host') port port' same none none' =
    let first : c ≡ d = cc same in
    let rest : host ++ 58 ∷ port ≡ host' ++ 58 ∷ port' = cc same in
    let parts = last-colon host host' port port' rest none none' in
    (cc (first, parts.0), parts.1)

-- a text without a colon is no peer
pub uncut : (text : List ℕ) → NoCharPasses (λ d. d == 58) text → IsPeerText text → ⊥
uncut text passes is =
    let none : NoColon text = λ i below. NoCharPasses-char 58 text i passes (omega arith) below in
    colon-inside is.host is.port (subst NoColon is.spelled none)

-- cut at the last colon, a text is a peer where the host isn't empty and the rest is a port
pub cut : (text host port : List ℕ) (i j : ℕ) → RFindsChar 58 text (Some (i, j)) → host ≡ take i text → port ≡ drop j text → IsPeerText text ↔ ((0 < length host) × IsPortText port)
cut text host port i j finds is-host is-port =
    let none : NoColon port = rw is-port (λ k below. NoCharPasses-char 58 (drop j text) k finds.0 (omega arith) below) in
    let after = drop_at_char 58 text i j finds.1 (omega arith) in
    let spelled : text ≡ host ++ 58 ∷ port = rw (is-host, is-port) (sym (take-append-drop i text) ∙ ap (λ t. take i text ++ t) after) in (
      λ is. let parts = last-colon host is.host port is.port (sym spelled ∙ is.spelled) none (port-no-colon is.port is.numbered) in
          (rw parts.0 is.named, rw parts.1 is.numbered),
      λ parts. record { host = host; port = port; named = parts.0; numbered = parts.1; spelled = spelled },
    )
