-- The path that a URL's text spells.
use Rattle.std.proofs.Common.{◌≡◌, ◌⊎◌, inl, inr, get_or, ℕ, ◌+◌, Bool, true, not, List, [], ◌∷◌, ◌++◌, All, Some, None, Option, refl, ap, ◌∙◌, arith, take, drop, length, codes, append_assoc, append-nil}
use Rattle.std.specs.Prelude.{is_some, unwrap_or}
use Rattle.std.specs.List.{before_first, after_first}
use Rattle.std.proofs.Math.Seq.{drop-append-add}
use Rattle.std.proofs.lemmas.Bool.Decides.{nat_tests}
use Rattle.std.proofs.lemmas.List.{take_at}
use Rattle.std.proofs.lemmas.List.Elements.{All-nil, All-cons, All-append, All-weaker}
use Rattle.url.specs.declared.slicing.Position.TheVariants.{BeforeUsername, AfterPort}
use Rattle.url.specs.declared.scheme.SchemeType.TheVariants.{NotSpecial}
use Rattle.url.specs.Input.{when}
use Rattle.url.specs.Path.{IsSegmentList}
use Rattle.url.specs.Parts.{Parts, has_authority, text_between, IsValid}
use Rattle.url.specs.Scheme.{is_scheme_byte}
use Rattle.url.proofs.InputLemmas.{Passes, StopsAt, prefix_len_at}
use Rattle.url.proofs.PathLemmas.{rooted}
use Rattle.url.proofs.SchemeLemmas.{scheme_bytes}
use Rattle.url.proofs.TextLemmas.{is_authority_byte, is_body_byte, authority_bytes, All_kept}
use Rattle.url.proofs.ValidLemmas.{segment_list_kept}
use Rattle.url.specs.declared.sets.TheConstants.{PATH}
use Rattle.nb_uri.specs.Pieces.{is_slash}
use Rattle.nb_uri.specs.Resolutions.{whole_of}
use Rattle.nb_uri.specs.ImageNames.{is_question_mark, authority_and_path, path_text}

-- what follows a byte is after a text without such a byte
past : (test : ℕ → Bool) (xs ys : List ℕ) → All (Passes (λ b. not (test b))) xs → StopsAt (λ b. not (test b)) ys → after_first test (xs ++ ys) ≡ drop 1 ys
past test xs ys all stops = ap (λ n. drop (n + 1) (xs ++ ys)) (prefix_len_at (λ b. not (test b)) xs ys all stops) ∙ drop-append-add xs ys 1

-- what stands before a byte is a text without such a byte
before : (test : ℕ → Bool) (xs ys : List ℕ) → All (Passes (λ b. not (test b))) xs → StopsAt (λ b. not (test b)) ys → before_first test (xs ++ ys) ≡ xs
before test xs ys all stops = ap (λ n. take n (xs ++ ys)) (prefix_len_at (λ b. not (test b)) xs ys all stops) ∙ take_at xs ys (length xs) refl

-- a URL's text from its scheme on, without the fragment
spelled : (url : Parts) → has_authority url ≡ true → whole_of url ≡ (url.scheme ++ 58 ∷ []) ++ 47 ∷ 47 ∷ ((text_between url BeforeUsername AfterPort ++ url.path) ++ (when (is_some url.query) (codes "?") ++ unwrap_or url.query []))
spelled url authority = rw authority (simp (append_assoc, append-nil))

query_stops : (query : Option (List ℕ)) → StopsAt (λ b. not (is_question_mark b)) (when (is_some query) (codes "?") ++ unwrap_or query [])
query_stops None = tt
query_stops (Some query) = refl

path_stops : (path : List ℕ) → (path ≡ []) ⊎ (get_or path 0 0 ≡ 47) → StopsAt (λ b. not (is_slash b)) path
path_stops [] is = tt
path_stops (b ∷ path) (inl none) = absurd (cc none)
path_stops (b ∷ path) (inr slash) = rw slash refl

-- the path that the text spells is the URL's, without its first slash
pub path_spelled : (url : Parts) → IsValid url → has_authority url ≡ true → IsSegmentList NotSpecial url.path → path_text (whole_of url) ≡ drop 1 url.path
path_spelled url valid authority list =
    let server = text_between url BeforeUsername AfterPort in
    let tail = when (is_some url.query) (codes "?") ++ unwrap_or url.query [] in
    let bytes = authority_bytes url valid.head in
    let scheme = All-weaker (Passes is_scheme_byte) (Passes (λ b. not (is_slash b))) (λ b passes. grind (arith, nat_tests)) url.scheme (scheme_bytes url.scheme valid.head.scheme) in
    let colon = All-append (Passes (λ b. not (is_slash b))) url.scheme (58 ∷ []) scheme (All-cons (Passes (λ b. not (is_slash b))) 58 [] refl (All-nil (Passes (λ b. not (is_slash b))))) in
    let slashes : after_first is_slash (after_first is_slash (whole_of url)) ≡ (server ++ url.path) ++ tail =
    ap (λ text. after_first is_slash (after_first is_slash text)) (spelled url authority)
    ∙ ap (after_first is_slash) (past is_slash (url.scheme ++ 58 ∷ []) (47 ∷ 47 ∷ ((server ++ url.path) ++ tail)) colon refl) in
    let unasked = All-append (Passes (λ b. not (is_question_mark b))) server url.path
    (All-weaker (Passes is_authority_byte) (Passes (λ b. not (is_question_mark b))) (λ b passes. grind (arith, nat_tests)) server bytes)
    (All-weaker (Passes is_body_byte) (Passes (λ b. not (is_question_mark b))) (λ b passes. grind (arith, nat_tests)) url.path (All_kept is_body_byte PATH refl url.path (segment_list_kept NotSpecial url.path list))) in
    let front : authority_and_path (whole_of url) ≡ server ++ url.path = ap (before_first is_question_mark) slashes ∙ before is_question_mark (server ++ url.path) tail unasked (query_stops url.query) in
    let unslashed = All-weaker (Passes is_authority_byte) (Passes (λ b. not (is_slash b))) (λ b passes. grind (arith, nat_tests)) server bytes in
    ap (after_first is_slash) front ∙ past is_slash server url.path unslashed (path_stops url.path (rooted NotSpecial url.path list))
