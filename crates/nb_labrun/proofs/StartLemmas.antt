-- START as it is spelled, and as it is read again.
use Rattle.std.proofs.Common.{◌≡◌, ℕ, ◌+◌, ◌≤◌, List, [], ◌∷◌, ◌++◌, length, take, drop, refl, sym, ap, subst, ◌∙◌, append-nil, append_assoc, arith}
use Rattle.std.specs.Int.{w16, w32, to_be_bytes}
use Rattle.std.proofs.lemmas.List.{take_all, take-append-drop}
use Rattle.nb_defs.specs.Records.{Start, In, start, IsIn, IsStart, in_text, IsPartial, IsBroken, start_body}
use Rattle.nb_defs.proofs.RecordLaws.{in_text_apart, front_not_broken, nothing_partial, partial_not_whole}
use Rattle.nb_defs.proofs.StartLaws.{fields, start_body-is, start_text-is, length-start_body}
use Rattle.nb_record.specs.Bytes.{Held}
use Rattle.nb_lab.specs.Scripts.{lab_start, script_text}

-- the fields, one after another
pub spelled_start : (s : Start) (len : ℕ) → IsStart s → len ≡ 76 + length s.script →
    ((((((((((([] ++ to_be_bytes w32 len) ++ (1 ∷ 1 ∷ [])) ++ s.mac) ++ s.uuid) ++ s.key) ++ to_be_bytes w16 s.arch) ++ to_be_bytes w16 s.w) ++ to_be_bytes w32 s.ip) ++ to_be_bytes w32 s.mask) ++ to_be_bytes w32 s.gateway) ++ to_be_bytes w32 s.dns) ++ s.script
    ≡ in_text (start s)
unfolding fields
spelled_start s len ok is =
    let one : len ≡ length (start_body s) + 1 = omega (arith, is, length-start_body s ok) in
    let joined : ((((((((((([] ++ to_be_bytes w32 len) ++ (1 ∷ 1 ∷ [])) ++ s.mac) ++ s.uuid) ++ s.key) ++ to_be_bytes w16 s.arch) ++ to_be_bytes w16 s.w) ++ to_be_bytes w32 s.ip) ++ to_be_bytes w32 s.mask) ++ to_be_bytes w32 s.gateway) ++ to_be_bytes w32 s.dns) ++ s.script
    ≡ to_be_bytes w32 len ++ (1 ∷ 1 ∷ fields s) = simp append_assoc in
    joined
    ∙ ap (λ (n : ℕ). to_be_bytes w32 n ++ (1 ∷ 1 ∷ fields s)) one
    ∙ ap (λ (b : List ℕ). to_be_bytes w32 (length (start_body s) + 1) ++ (1 ∷ b)) (sym (start_body-is s))
    ∙ sym (start_text-is s)

-- how long it is
length_start : (s : Start) → IsStart s → length (in_text (start s)) ≡ 80 + length s.script
length_start s ok = omega (arith, ap length (start_text-is s), length-start_body s ok)

-- the record that stands at its front is it
pub front_is_start : (s : Start) (r : In) (bytes rest : List ℕ) → IsStart s → IsIn r → bytes ≡ in_text (start s) → bytes ≡ in_text r ++ rest → r ≡ start s
front_is_start s r bytes rest ok valid is front =
    (in_text_apart r (start s) rest [] valid ok (sym front ∙ is ∙ sym (append-nil (in_text (start s))))).record_is

pub start_not_partial : (s : Start) (bytes : List ℕ) → IsStart s → bytes ≡ in_text (start s) → IsPartial bytes → ⊥
start_not_partial s bytes ok is = partial_not_whole (start s) bytes [] ok (is ∙ sym (append-nil (in_text (start s))))

pub start_not_broken : (s : Start) (bytes : List ℕ) (place : ℕ) → IsStart s → bytes ≡ in_text (start s) → IsBroken (take place bytes) → ⊥
start_not_broken s bytes place ok is broken =
    front_not_broken (start s) (take place bytes) [] (drop place bytes) ok (take-append-drop place bytes ∙ is ∙ sym (append-nil (in_text (start s)))) broken

length-lab_script : (images : ℕ) → length (lab_start images).script ≡ length (script_text images)
unfolding lab_start
length-lab_script images = refl

-- an empty feed takes the lab's START whole
pub pushed_start : (images : ℕ) (old new : Held) (bytes : List ℕ) (count : ℕ) → old ≡ record { bytes = []; passed = 0 } → bytes ≡ in_text (start (lab_start images)) → IsStart (lab_start images) →
    length (script_text images) ≤ 10212 → new ≡ record { bytes = old.bytes ++ take count bytes; passed = old.passed } → (IsPartial old.bytes → length bytes ≤ 65536 → count ≡ length bytes) →
    new.bytes ≡ in_text (start (lab_start images))
pushed_start images old new bytes count none text ok few held all =
    let empty : old.bytes ≡ [] = ap (λ (h : Held). h.bytes) none in
    let long : length bytes ≤ 65536 = omega (arith, ap length text, length_start (lab_start images) ok, length-lab_script images, few) in
    let whole : count ≡ length bytes = all (subst IsPartial (sym empty) nothing_partial) long in
    ap (λ (h : Held). h.bytes) held ∙ ap (λ (xs : List ℕ). xs ++ take count bytes) empty ∙ take_all count bytes (omega (arith, whole)) ∙ text
