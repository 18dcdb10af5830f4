-- A text begins with a chunk's size line, or more bytes can make one of it, or none can.
use Rattle.std.proofs.Common.{◌≡◌, ◌≤◌, ◌<◌, ℕ, zero, suc, List, [], ◌∷◌, ◌++◌, length, Option, Some, None, true, false, refl, ap, ◌∙◌, sym, subst, arith, eqb, append_assoc}
use Rattle.std.specs.Char.{is_ascii_hexdigit}
use Rattle.std.proofs.lemmas.Bool.{false≢true, eqb-true, eqb-false}
use Rattle.std.proofs.lemmas.Bool.Decides.{nat_tests}
use Rattle.httparse.specs.Ascii.{crlf_bytes}
use Rattle.httparse.specs.Grammar.{AllPass, is_ows, is_extension_byte, print_extension, ChunkLine, print_chunk_line, ReadsChunkLine}
use Rattle.httparse.specs.Pieces.{Piece, Extension}
use Rattle.nb_responses.proofs.Cases.{either}
use Rattle.nb_responses.proofs.Decisions.{Decided, reads, begun, never, decided_by, pass_one_more, first_passes, rest_passes, After, at_once, one_more, one_less, none_before, after_decided}

data Nothing : Type 0 where
  nothing : Nothing

-- CR LF
abbrev LineEnding : Piece Nothing
LineEnding a text rest = text ≡ crlf_bytes ++ rest

after_cr : (b : ℕ) (bs : List ℕ) → b ≡ 13 → Decided LineEnding (b ∷ bs)
after_cr b [] is = begun (λ a rest e. cc) (10 ∷ []) nothing (ap (λ x. x ∷ 10 ∷ []) is)
after_cr b (c ∷ cs) is = either (eqb c 10)
    (λ on. reads nothing cs (ap (λ x. x ∷ c ∷ cs) is ∙ ap (λ x. 13 ∷ x ∷ cs) (eqb-true c 10 on)))
    (λ off. never (λ more a rest e. eqb-false c 10 off (cc)))

ending_decided : (text : List ℕ) → Decided LineEnding text
ending_decided [] = begun (λ a rest e. cc) crlf_bytes nothing refl
ending_decided (b ∷ bs) = either (eqb b 13) (λ on. after_cr b bs (eqb-true b 13 on)) (λ off. never (λ more a rest e. eqb-false b 13 off (cc)))

-- the text of an extension and CR LF
abbrev Extended : Piece (List ℕ × Nothing)
Extended = After is_extension_byte LineEnding

no_ending : (a : Nothing) (rest : List ℕ) → ¬ (LineEnding a [] rest)
no_ending a rest e = cc

first_of_ending : (a : Nothing) (b : ℕ) (text rest : List ℕ) → LineEnding a (b ∷ text) rest → is_extension_byte b ≡ false
first_of_ending a b text rest e = let is : b ≡ 13 = cc in ap is_extension_byte is

extended_decided : (text : List ℕ) → Decided Extended text
extended_decided = after_decided is_extension_byte LineEnding no_ending first_of_ending (record { text = crlf_bytes; tree = nothing; is = refl }) ending_decided

no_extension : (e : Option (List ℕ)) (rest : List ℕ) → ¬ (Extension e [] rest)
no_extension None rest (is, e) = cc
no_extension (Some x) rest (is, e) = cc

extension_up : (b : ℕ) (text : List ℕ) → b ≡ 59 → (x : List ℕ × Nothing) (rest : List ℕ) → Extended x text rest → Extension (Some x.0) (b ∷ text) rest
extension_up b text is x rest h = (h.pass, ap (λ c. c ∷ text) is ∙ ap (λ t. 59 ∷ t) h.stands ∙ ap (λ m. 59 ∷ (x.0 ++ m)) h.reads)

not_cr : ◌≡◌ {A = ℕ} 59 13 → ⊥
not_cr e = omega arith

extension_down : (b : ℕ) (text : List ℕ) → b ≡ 59 → (x : Option (List ℕ)) (rest : List ℕ) → Extension x (b ∷ text) rest → (y : List ℕ × Nothing) × Extended y text rest
extension_down b text is None rest (all, e) = absurd (not_cr (cc))
extension_down b text is (Some x) rest (all, e) = ((x, nothing), record { pass = all; middle = crlf_bytes ++ rest; stands = cc; reads = refl })

extension_without : (b : ℕ) (text : List ℕ) → (b ≡ 59 → ⊥) → (x : Option (List ℕ)) (rest : List ℕ) → Extension x (b ∷ text) rest → (y : Nothing) × LineEnding y (b ∷ text) rest
extension_without b text other None rest (all, e) = (nothing, e)
extension_without b text other (Some x) rest (all, e) = absurd (other (cc))

extension_decided : (text : List ℕ) → Decided Extension text
extension_decided [] = begun no_extension crlf_bytes None (tt, refl)
extension_decided (b ∷ bs) = either (eqb b 59)
    (λ on. decided_by Extended Extension (λ x. Some x.0) bs (b ∷ bs) (λ x more rest h. extension_up b (bs ++ more) (eqb-true b 59 on) x rest h)
    (λ x more rest h. extension_down b (bs ++ more) (eqb-true b 59 on) x rest h) (extended_decided bs))
    (λ off. decided_by LineEnding Extension (λ a. None) (b ∷ bs) (b ∷ bs) (λ a more rest e. (tt, e))
    (λ x more rest h. extension_without b (bs ++ more) (eqb-false b 59 off) x rest h) (ending_decided (b ∷ bs)))

-- white space, an extension and CR LF
abbrev Padded : Piece (List ℕ × Option (List ℕ))
Padded = After is_ows Extension

first_of_extension : (e : Option (List ℕ)) (b : ℕ) (text rest : List ℕ) → Extension e (b ∷ text) rest → (is_ows b ≡ false) × (is_ascii_hexdigit b ≡ false)
first_of_extension None b text rest (all, e) = let is : b ≡ 13 = cc in (ap is_ows is, ap is_ascii_hexdigit is)
first_of_extension (Some x) b text rest (all, e) = let is : b ≡ 59 = cc in (ap is_ows is, ap is_ascii_hexdigit is)

padded_decided : (text : List ℕ) → Decided Padded text
padded_decided = after_decided is_ows Extension no_extension (λ a b text rest h. (first_of_extension a b text rest h).0) (record { text = crlf_bytes; tree = None; is = (tt, refl) }) extension_decided

ows_is_no_digit : (b : ℕ) → is_ows b ≡ true → is_ascii_hexdigit b ≡ false
ows_is_no_digit b ows = grind (arith, nat_tests)

first_of_padded : (a : List ℕ × Option (List ℕ)) (b : ℕ) (text rest : List ℕ) → Padded a (b ∷ text) rest → is_ascii_hexdigit b ≡ false
first_of_padded ([], a) b text rest h = (first_of_extension a b text rest (none_before is_ows Extension a (b ∷ text) rest h)).1
first_of_padded (c ∷ cs, a) b text rest h = ows_is_no_digit b (one_less is_ows Extension b c cs a text rest h).0

no_padded : (a : List ℕ × Option (List ℕ)) (rest : List ℕ) → ¬ (Padded a [] rest)
no_padded ([], a) rest h = no_extension a rest (none_before is_ows Extension a [] rest h)
no_padded (c ∷ cs, a) rest h = let e : [] ≡ (c ∷ cs) ++ h.middle = h.stands in cc

abbrev Parts : Type 0
Parts = List ℕ × (List ℕ × Option (List ℕ))

-- at most so many digits, and what follows them
record Digits (most : ℕ) (a : Parts) (text rest : List ℕ) : Type 0 where
  few : length a.0 ≤ most
  reads : After is_ascii_hexdigit Padded a text rest

no_digits : (most : ℕ) (a : List ℕ × Option (List ℕ)) (text rest : List ℕ) → Padded a text rest → Digits most ([], a) text rest
no_digits most a text rest h = record { few = omega arith; reads = at_once is_ascii_hexdigit Padded a text rest h }

digit_more : (most b : ℕ) (a : Parts) (text rest : List ℕ) → is_ascii_hexdigit b ≡ true → Digits most a text rest → Digits (suc most) (b ∷ a.0, a.1) (b ∷ text) rest
digit_more most b a text rest on h = let l : length a.0 ≤ most = h.few in record { few = omega (arith, l); reads = one_more is_ascii_hexdigit Padded b a text rest on h.reads }

digits_end : (text : List ℕ) (a : Parts) (rest : List ℕ) → Digits 0 a text rest → (c : List ℕ × Option (List ℕ)) × Padded c text rest
digits_end text ([], a) rest h = (a, none_before is_ascii_hexdigit Padded a text rest h.reads)
digits_end text (c ∷ cs, a) rest h = absurd (none (length cs) h.few)
  where
    none : (n : ℕ) → suc n ≤ 0 → ⊥
    none n l = omega (arith, l)

digit_less : (most b : ℕ) (text : List ℕ) → is_ascii_hexdigit b ≡ true → (a : Parts) (rest : List ℕ) → Digits (suc most) a (b ∷ text) rest → (c : Parts) × Digits most c text rest
digit_less most b text on ([], a) rest h = absurd (false≢true (sym (first_of_padded a b text rest (none_before is_ascii_hexdigit Padded a (b ∷ text) rest h.reads)) ∙ on))
digit_less most b text on (c ∷ cs, a) rest h = let l : suc (length cs) ≤ suc most = h.few in ((cs, a), record { few = omega (arith, l); reads = (one_less is_ascii_hexdigit Padded b c cs a text rest h.reads).1 })

digits_stop : (most b : ℕ) (text : List ℕ) → is_ascii_hexdigit b ≡ false → (a : Parts) (rest : List ℕ) → Digits most a (b ∷ text) rest → (c : List ℕ × Option (List ℕ)) × Padded c (b ∷ text) rest
digits_stop most b text off ([], a) rest h = (a, none_before is_ascii_hexdigit Padded a (b ∷ text) rest h.reads)
digits_stop most b text off (c ∷ cs, a) rest h = absurd (false≢true (sym off ∙ (one_less is_ascii_hexdigit Padded b c cs a text rest h.reads).0))

no_digits_read : (most : ℕ) (a : Parts) (rest : List ℕ) → ¬ (Digits most a [] rest)
no_digits_read most ([], a) rest h = no_padded a rest (none_before is_ascii_hexdigit Padded a [] rest h.reads)
no_digits_read most (c ∷ cs, a) rest h = let e : [] ≡ (c ∷ cs) ++ h.reads.middle = h.reads.stands in cc

padded_end : Padded ([], None) crlf_bytes []
padded_end = at_once is_ows Extension None crlf_bytes [] (tt, refl)

digits_decided : (most : ℕ) (text : List ℕ) → Decided (Digits most) text
digits_decided zero text = decided_by Padded (Digits 0) (λ a. ([], a)) text text (λ a more rest h. no_digits 0 a (text ++ more) rest h)
    (λ a more rest h. digits_end (text ++ more) a rest h) (padded_decided text)
digits_decided (suc most) [] = begun (no_digits_read (suc most)) crlf_bytes ([], ([], None)) (no_digits (suc most) ([], None) crlf_bytes [] padded_end)
digits_decided (suc most) (b ∷ bs) = either (is_ascii_hexdigit b)
    (λ on. decided_by (Digits most) (Digits (suc most)) (λ a. (b ∷ a.0, a.1)) bs (b ∷ bs) (λ a more rest h. digit_more most b a (bs ++ more) rest on h)
    (λ a more rest h. digit_less most b (bs ++ more) on a rest h) (digits_decided most bs))
    (λ off. decided_by Padded (Digits (suc most)) (λ a. ([], a)) (b ∷ bs) (b ∷ bs) (λ a more rest h. no_digits (suc most) a (b ∷ (bs ++ more)) rest h)
    (λ a more rest h. digits_stop (suc most) b (bs ++ more) off a rest h) (padded_decided (b ∷ bs)))

-- the whole line
abbrev pub Line : Piece ChunkLine
Line l text rest = ReadsChunkLine text l rest

abbrev line_of : Parts → ChunkLine
line_of a = record { digits = a.0; pad = a.1.0; extension = a.1.1 }

print_apart : (l : ChunkLine) (rest : List ℕ) → print_chunk_line l ++ rest ≡ l.digits ++ (l.pad ++ (print_extension l.extension ++ (crlf_bytes ++ rest)))
unfolding print_chunk_line
print_apart l rest = simp append_assoc

line_up : (b : ℕ) (text : List ℕ) → is_ascii_hexdigit b ≡ true → (a : Parts) (rest : List ℕ) → Digits 15 a text rest → Line (line_of (b ∷ a.0, a.1)) (b ∷ text) rest
line_up b text on a rest h =
    let digits : length a.0 ≤ 15 = h.few in
    let pads : Padded a.1 h.reads.middle rest = h.reads.reads in
    let extension : Extension a.1.1 pads.middle rest = pads.reads in (
      record { digits = (omega arith, omega (arith, digits), pass_one_more is_ascii_hexdigit b a.0 on h.reads.pass); pad = pads.pass; extension = extension.0 },
      ap (λ t. b ∷ t) (h.reads.stands ∙ ap (λ t. a.0 ++ t) (pads.stands ∙ ap (λ t. a.1.0 ++ t) extension.1)) ∙ sym (print_apart (line_of (b ∷ a.0, a.1)) rest),
    )

-- the first digit, and the parts after it
record FirstDigit (b : ℕ) (text rest : List ℕ) : Type 0 where
  digit : is_ascii_hexdigit b ≡ true
  parts : Parts
  reads : Digits 15 parts text rest

after_digits : ChunkLine → List ℕ → List ℕ
after_digits l rest = l.pad ++ (print_extension l.extension ++ (crlf_bytes ++ rest))

no_less : {n : ℕ} → n ≡ 0 → 0 < n → ⊥
no_less e l = omega (arith, e, l)

by_digits : (b : ℕ) (text rest : List ℕ) (l : ChunkLine) (ds : List ℕ) → l.digits ≡ ds → Line l (b ∷ text) rest → FirstDigit b text rest
unfolding after_digits
by_digits b text rest l [] e is = absurd (no_less (ap length e) is.0.digits.0)
by_digits b text rest l (c ∷ cs) e is =
    let spelled : b ∷ text ≡ (c ∷ cs) ++ after_digits l rest = is.1 ∙ print_apart l rest ∙ ap (λ ds. ds ++ after_digits l rest) e in
    let pass : AllPass is_ascii_hexdigit (c ∷ cs) = subst (AllPass is_ascii_hexdigit) e is.0.digits.2 in
    let short : suc (length cs) ≤ 16 = subst (λ ds. length ds ≤ 16) e is.0.digits.1 in
    let first : c ≡ b = cc in
    record {
      digit = ap is_ascii_hexdigit (sym first) ∙ first_passes is_ascii_hexdigit c cs pass;
      parts = (cs, (l.pad, l.extension));
      reads = record {
        few = omega (arith, short);
        reads = record {
          pass = rest_passes is_ascii_hexdigit c cs pass;
          middle = after_digits l rest;
          stands = cc;
          reads = record { pass = is.0.pad; middle = print_extension l.extension ++ (crlf_bytes ++ rest); stands = refl; reads = (is.0.extension, refl) };
        };
      };
    }

first_digit : (b : ℕ) (text rest : List ℕ) (l : ChunkLine) → Line l (b ∷ text) rest → FirstDigit b text rest
first_digit b text rest l is = by_digits b text rest l l.digits refl is

no_digit : (l : ChunkLine) (rest ds : List ℕ) → l.digits ≡ ds → ¬ (Line l [] rest)
unfolding after_digits
no_digit l rest [] e is = no_less (ap length e) is.0.digits.0
no_digit l rest (c ∷ cs) e is = let spelled : [] ≡ (c ∷ cs) ++ after_digits l rest = is.1 ∙ print_apart l rest ∙ ap (λ ds. ds ++ after_digits l rest) e in cc

-- Each text has a size line, may come to have one, or never will.
pub line_decided : (text : List ℕ) → Decided Line text
line_decided [] = begun (λ l rest is. no_digit l rest l.digits refl is) (48 ∷ crlf_bytes) (line_of (48 ∷ [], ([], None))) (line_up 48 crlf_bytes refl ([], ([], None)) [] (no_digits 15 ([], None) crlf_bytes [] padded_end))
line_decided (b ∷ bs) = either (is_ascii_hexdigit b)
    (λ on. decided_by (Digits 15) Line (λ a. line_of (b ∷ a.0, a.1)) bs (b ∷ bs) (λ a more rest h. line_up b (bs ++ more) on a rest h)
    (λ l more rest h. let d = first_digit b (bs ++ more) rest l h in (d.parts, d.reads)) (digits_decided 15 bs))
    (λ off. never (λ more l rest h. false≢true (sym off ∙ (first_digit b (bs ++ more) rest l h).digit)))
