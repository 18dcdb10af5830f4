-- How long a lab's script is.
use Rattle.std.proofs.Common.{◌≡◌, ◌==◌, ℕ, zero, suc, ◌+◌, ◌*◌, ◌%◌, ◌<◌, ◌≤◌, Bool, true, false, List, [], ◌∷◌, ◌++◌, length, replicate, codes, if◌then◌else◌, refl, sym, ap, ◌∙◌, append_assoc, arith}
use Rattle.std.specs.List.{flat_map, range_with_len}
use Rattle.std.specs.Fmt.{decimal}
use Rattle.std.proofs.lemmas.List.{length-append, append-nil, map-id}
use Rattle.std.proofs.lemmas.Fmt.{length-decimal-le}
use Rattle.std.proofs.lemmas.Grind.{flat_map-append}
use Rattle.std.proofs.lemmas.List.FromFn.{map-range_with_len_more}
use Rattle.nb_defs.specs.Records.{Start, IsStart}
use Rattle.nb_lab.specs.Scripts.{scheme_of, fetch_lines, script_text, lab_start}

short_scheme : (even : Bool) → length (if even then codes "tftp" else codes "http") ≤ 4
short_scheme true = omega arith
short_scheme false = omega arith

short_end : (fourth : Bool) → length (if fourth then codes "imgfree\n" else []) ≤ 8
short_end true = omega arith
short_end false = omega arith

length-fetch_lines : (i : ℕ) → i < 1000 → length (fetch_lines i) ≤ 40
unfolding fetch_lines
length-fetch_lines i small =
    let scheme = scheme_of i in
    let end : List ℕ = if i % 4 == 3 then codes "imgfree\n" else [] in
    let one = length-append (codes "imgfetch ") scheme in
    let two = length-append (codes "imgfetch " ++ scheme) (codes "://10.0.0.1/") in
    let three = length-append (codes "imgfetch " ++ scheme ++ codes "://10.0.0.1/") (decimal i) in
    let four = length-append (codes "imgfetch " ++ scheme ++ codes "://10.0.0.1/" ++ decimal i) (codes "\n") in
    let five = length-append (codes "imgfetch " ++ scheme ++ codes "://10.0.0.1/" ++ decimal i ++ codes "\n") end in
    let digits = length-decimal-le 3 i (omega arith) small (omega arith) in
    omega (arith, one, two, three, four, five, digits, short_scheme (i % 2 == 0), short_end (i % 4 == 3))

length-lines : (from count : ℕ) → from + count ≤ 1000 → length (flat_map fetch_lines (range_with_len from count)) ≤ 40 * count
length-lines from zero small = omega arith
length-lines from (suc count) small =
    omega (arith, length-append (fetch_lines from) (flat_map fetch_lines (range_with_len (from + 1) count)), length-fetch_lines from (omega arith), length-lines (from + 1) count (omega arith))

pub length-script_text : (images : ℕ) → images < 256 → length (script_text images) ≤ 10212
unfolding script_text
length-script_text images small =
    let lines = flat_map fetch_lines (range_with_len 0 images) in
    omega (arith, length-append (codes "#!ipxe\n" ++ lines) (codes "exit\n"), length-append (codes "#!ipxe\n") lines, length-lines 0 images (omega arith))

-- the lines of an image, put after what stands there
pub put_lines : (old one two line scheme end : List ℕ) (i : ℕ) → one ≡ old ++ line → two ≡ one ++ end
    → line ≡ codes "imgfetch " ++ (scheme ++ (codes "://10.0.0.1/" ++ (decimal i ++ codes "\n")))
    → scheme ≡ scheme_of i → end ≡ (if i % 4 == 3 then codes "imgfree\n" else []) → two ≡ old ++ fetch_lines i
unfolding fetch_lines
put_lines old one two line scheme end i first second line_is scheme_is end_is =
    let text : List ℕ → List ℕ = λ s. codes "imgfetch " ++ (s ++ (codes "://10.0.0.1/" ++ (decimal i ++ codes "\n"))) in
    let last : List ℕ = if i % 4 == 3 then codes "imgfree\n" else [] in
    let whole : (old ++ text (scheme_of i)) ++ last ≡ old ++ fetch_lines i = simp append_assoc in
    second
    ∙ ap (λ (x : List ℕ). x ++ end) (first ∙ ap (λ (x : List ℕ). old ++ x) (line_is ∙ ap text scheme_is))
    ∙ ap (λ (x : List ℕ). (old ++ text (scheme_of i)) ++ x) end_is
    ∙ whole

-- the lines of one image more
pub lines_more : (old : List ℕ) (i : ℕ) → old ≡ codes "#!ipxe\n" ++ flat_map fetch_lines (range_with_len 0 i) → old ++ fetch_lines i ≡ codes "#!ipxe\n" ++ flat_map fetch_lines (range_with_len 0 (i + 1))
lines_more old i is =
    let range : range_with_len 0 (i + 1) ≡ range_with_len 0 i ++ i ∷ [] = range_more i in
    ap (λ (x : List ℕ). x ++ fetch_lines i) is
    ∙ append_assoc (codes "#!ipxe\n") (flat_map fetch_lines (range_with_len 0 i)) (fetch_lines i)
    ∙ ap (λ (x : List ℕ). codes "#!ipxe\n" ++ x) (sym (ap (flat_map fetch_lines) range ∙ flat_map-append fetch_lines (range_with_len 0 i) (i ∷ []) ∙ ap (λ (x : List ℕ). flat_map fetch_lines (range_with_len 0 i) ++ x) (append-nil (fetch_lines i))))
  where
    range_more : (n : ℕ) → range_with_len 0 (n + 1) ≡ range_with_len 0 n ++ n ∷ []
    range_more n = sym (map-id (range_with_len 0 (n + 1))) ∙ map-range_with_len_more (λ (k : ℕ). k) 0 n n (omega arith) ∙ ap (λ (x : List ℕ). x ++ n ∷ []) (map-id (range_with_len 0 n))

-- the START of a script
abbrev pub started : List ℕ → Start
started script = record {
  mac = 82 ∷ 84 ∷ 0 ∷ 0 ∷ 0 ∷ 1 ∷ [];
  uuid = replicate 16 0;
  key = replicate 32 0;
  arch = 0;
  w = 0;
  ip = 0x0a000002;
  mask = 0xffffff00;
  gateway = 0;
  dns = 0;
  script = script;
}

pub started_with : (images : ℕ) (script : List ℕ) → script ≡ script_text images → started script ≡ lab_start images
unfolding lab_start
started_with images script is = ap started is

pub start_is_valid : (images : ℕ) → images < 256 → IsStart (lab_start images)
unfolding lab_start
start_is_valid images small = record {
  mac_len = refl;
  uuid_len = refl;
  key_len = refl;
  arch_fits = omega arith;
  w_fits = omega arith;
  ip_fits = omega arith;
  mask_fits = omega arith;
  gateway_fits = omega arith;
  dns_fits = omega arith;
  script_fits = omega (arith, length-script_text images small);
}
