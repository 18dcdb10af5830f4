-- A text begins with a response's head, or it doesn't.
use Rattle.std.proofs.Common.{◌≡◌, ◌≤◌, ◌<◌, ℕ, zero, suc, List, [], ◌∷◌, ◌++◌, length, Option, Some, None, Bool, true, false, refl, ap, ◌∙◌, sym, subst, arith, eqb, append_assoc, inl, inr}
use Rattle.std.specs.Bool.{IsTrue}
use Rattle.std.specs.Char.{is_ascii_digit}
use Rattle.std.specs.List.{flat_map}
use Rattle.std.proofs.lemmas.Bool.{false≢true, eqb-true, eqb-false}
use Rattle.std.proofs.lemmas.List.{length-append}
use Rattle.std.proofs.lemmas.List.Elements.{All-nil, All-cons}
use Rattle.httparse.specs.Grammar.{LineEnd, crlf, lf, print_end, print_blank, print_version, is_token_byte, is_value_byte, Field, print_field, IsField}
use Rattle.httparse.specs.Pieces.{Piece, Then, Stops, is_newline, Bytes, Newline, Blank, Word, Version, Digit, Code, Text, Reason, FieldLine, FieldLines, Section, ResponseStart}
use Rattle.httparse.proofs.PieceLemmas.{IsDeterministic, Newline_deterministic, Bytes_deterministic, Blank_deterministic, Version_deterministic, Digit_deterministic, Code_deterministic, Name_deterministic, newline_not_stopped, FieldLine_parts, print_field-append, FieldLines_push, Section_skip, Section_line, ResponseStart_deterministic, colon_ends_token}
use Rattle.nb_responses.proofs.Cases.{either}
use Rattle.nb_responses.proofs.Decisions.{After, at_once, one_more, one_less, none_before, first_passes}

pub data Begun {A : Type 0} (G : Piece A) (text : List ℕ) : Type 0 where
  has : (a : A) (rest : List ℕ) → G a text rest → Begun G text
  hasnt : ((a : A) (rest : List ℕ) → ¬ (G a text rest)) → Begun G text

-- a piece and another after it
pub then_begun : {A B : Type 0} (G : Piece A) (H : Piece B) → IsDeterministic G → (text : List ℕ) → Begun G text → ((middle : List ℕ) → Begun H middle) → Begun (Then G H) text
then_begun {A} {B} G H det text (hasnt none) next = hasnt (λ ab rest h. none ab.0 h.0 h.1)
then_begun {A} {B} G H det text (has a middle g) next = by_next (next middle)
  where
    by_next : Begun H middle → Begun (Then G H) text
    by_next (has b rest h) = has (a, b) rest (middle, g, h)
    by_next (hasnt none) = hasnt (λ ab rest h.
        let same = det.unique ab.0 a text h.0 middle h.1 g in
        none ab.1 rest (subst (λ m. H ab.1 m rest) same.1 h.2))

-- a piece that is another's, each way
pub begun_by : {A B : Type 0} (G : Piece A) (H : Piece B) (s t : List ℕ) (f : A → B) → ((a : A) (rest : List ℕ) → G a s rest → H (f a) t rest)
    → ((b : B) (rest : List ℕ) → H b t rest → (a : A) × G a s rest) → Begun G s → Begun H t
begun_by G H s t f up down (has a rest g) = has (f a) rest (up a rest g)
begun_by G H s t f up down (hasnt none) = hasnt (λ b rest h. let d = down b rest h in none d.0 rest d.1)

after_begun : {A : Type 0} (test : ℕ → Bool) (G : Piece A) → ((a : A) (rest : List ℕ) → ¬ (G a [] rest))
    → ((a : A) (b : ℕ) (text rest : List ℕ) → G a (b ∷ text) rest → test b ≡ false)
    → ((text : List ℕ) → Begun G text) → (text : List ℕ) → Begun (After test G) text
after_begun {A} test G none stops decide [] = hasnt empty
  where
    empty : (a : List ℕ × A) (rest : List ℕ) → ¬ (After test G a [] rest)
    empty ([], a) rest h = none a rest (none_before test G a [] rest h)
    empty (b ∷ bs, a) rest h = let e : [] ≡ (b ∷ bs) ++ h.middle = h.stands in cc
after_begun {A} test G none stops decide (b ∷ bs) = either (test b)
    (λ on. begun_by (After test G) (After test G) bs (b ∷ bs) (λ a. (b ∷ a.0, a.1)) (λ a rest h. one_more test G b a bs rest on h) (on_down on) (after_begun test G none stops decide bs))
    (λ off. begun_by G (After test G) (b ∷ bs) (b ∷ bs) (λ a. ([], a)) (λ a rest g. at_once test G a (b ∷ bs) rest g) (off_down off) (decide (b ∷ bs)))
  where
    on_down : test b ≡ true → (a : List ℕ × A) (rest : List ℕ) → After test G a (b ∷ bs) rest → (c : List ℕ × A) × After test G c bs rest
    on_down on ([], a) rest h = absurd (false≢true (sym (stops a b bs rest (none_before test G a (b ∷ bs) rest h)) ∙ on))
    on_down on (c ∷ cs, a) rest h = ((cs, a), (one_less test G b c cs a bs rest h).1)

    off_down : test b ≡ false → (a : List ℕ × A) (rest : List ℕ) → After test G a (b ∷ bs) rest → (c : A) × G c (b ∷ bs) rest
    off_down off ([], a) rest h = (a, none_before test G a (b ∷ bs) rest h)
    off_down off (c ∷ cs, a) rest h = absurd (false≢true (sym off ∙ (one_less test G b c cs a bs rest h).0))

-- ---- the pieces

after_cr : (b : ℕ) (bs : List ℕ) → b ≡ 13 → Begun Newline (b ∷ bs)
after_cr b [] is = hasnt none
  where
    none : (a : LineEnd) (rest : List ℕ) → ¬ (Newline a (b ∷ []) rest)
    none crlf rest e = cc
    none lf rest e = let no_lf : ◌≡◌ {A = ℕ} 13 10 = cc in absurd (apart no_lf)
      where
        apart : ◌≡◌ {A = ℕ} 13 10 → ⊥
        apart e = omega arith
after_cr b (c ∷ cs) is = either (eqb c 10)
    (λ on. has crlf cs (ap (λ x. x ∷ c ∷ cs) is ∙ ap (λ x. 13 ∷ x ∷ cs) (eqb-true c 10 on)))
    (λ off. hasnt (none (eqb-false c 10 off)))
  where
    none : (c ≡ 10 → ⊥) → (a : LineEnd) (rest : List ℕ) → ¬ (Newline a (b ∷ c ∷ cs) rest)
    none other crlf rest e = other (cc)
    none other lf rest e = let no_lf : ◌≡◌ {A = ℕ} 13 10 = cc in absurd (apart no_lf)
      where
        apart : ◌≡◌ {A = ℕ} 13 10 → ⊥
        apart e = omega arith

newline_begun : (text : List ℕ) → Begun Newline text
newline_begun [] = hasnt none
  where
    none : (a : LineEnd) (rest : List ℕ) → ¬ (Newline a [] rest)
    none crlf rest e = cc
    none lf rest e = cc
newline_begun (b ∷ bs) = either (eqb b 10)
    (λ on. has lf bs (ap (λ x. x ∷ bs) (eqb-true b 10 on)))
    (λ off. either (eqb b 13) (λ on. after_cr b bs (eqb-true b 13 on)) (λ off_too. hasnt (none (eqb-false b 10 off) (eqb-false b 13 off_too))))
  where
    none : (b ≡ 10 → ⊥) → (b ≡ 13 → ⊥) → (a : LineEnd) (rest : List ℕ) → ¬ (Newline a (b ∷ bs) rest)
    none no_lf no_cr crlf rest e = no_cr (cc)
    none no_lf no_cr lf rest e = no_lf (cc)

first_of_newline : (a : LineEnd) (b : ℕ) (text rest : List ℕ) → Newline a (b ∷ text) rest → is_value_byte b ≡ false
first_of_newline crlf b text rest e = let is : b ≡ 13 = cc in ap is_value_byte is
first_of_newline lf b text rest e = let is : b ≡ 10 = cc in ap is_value_byte is

no_newline : (a : LineEnd) (rest : List ℕ) → ¬ (Newline a [] rest)
no_newline crlf rest e = cc
no_newline lf rest e = cc

text_begun : (text : List ℕ) → Begun Text text
text_begun text = begun_by (After is_value_byte Newline) Text text text (λ a. a)
    (λ a rest h. (h.pass, h.stands ∙ ap (λ t. a.0 ++ t) h.reads))
    (λ a rest h. (a, record { pass = h.0; middle = print_end a.1 ++ rest; stands = h.1; reads = refl }))
    (after_begun is_value_byte Newline no_newline first_of_newline newline_begun text)

reason_begun : (text : List ℕ) → Begun Reason text
reason_begun [] = hasnt none
  where
    none : (a : Option (List ℕ) × LineEnd) (rest : List ℕ) → ¬ (Reason a [] rest)
    none (None, a) rest h = no_newline a rest h.1
    none (Some x, a) rest h = let e : [] ≡ 32 ∷ (x ++ (print_end a ++ rest)) = h.1 in cc
reason_begun (b ∷ bs) = either (eqb b 32)
    (λ on. begun_by Text Reason bs (b ∷ bs) (λ a. (Some a.0, a.1)) (λ a rest h. (h.0, ap (λ x. x ∷ bs) (eqb-true b 32 on) ∙ ap (λ t. 32 ∷ t) h.1)) (on_down (eqb-true b 32 on)) (text_begun bs))
    (λ off. begun_by Newline Reason (b ∷ bs) (b ∷ bs) (λ a. (None, a)) (λ a rest h. (All-nil (λ b. IsTrue (is_value_byte b)), h)) (off_down (eqb-false b 32 off)) (newline_begun (b ∷ bs)))
  where
    no_space : (a : LineEnd) (rest : List ℕ) → b ≡ 32 → ¬ (Newline a (b ∷ bs) rest)
    no_space a rest is e = newline_not_stopped a rest (b ∷ bs) (sym e) (ap is_newline is)

    on_down : b ≡ 32 → (a : Option (List ℕ) × LineEnd) (rest : List ℕ) → Reason a (b ∷ bs) rest → (c : List ℕ × LineEnd) × Text c bs rest
    on_down is (None, a) rest h = absurd (no_space a rest is h.1)
    on_down is (Some x, a) rest h = let e : b ∷ bs ≡ 32 ∷ (x ++ (print_end a ++ rest)) = h.1 in ((x, a), (h.0, cc))

    off_down : (b ≡ 32 → ⊥) → (a : Option (List ℕ) × LineEnd) (rest : List ℕ) → Reason a (b ∷ bs) rest → (c : LineEnd) × Newline c (b ∷ bs) rest
    off_down other (None, a) rest h = (a, h.1)
    off_down other (Some x, a) rest h = let e : b ∷ bs ≡ 32 ∷ (x ++ (print_end a ++ rest)) = h.1 in absurd (other (cc))

bytes_begun : (bytes text : List ℕ) → Begun (Bytes bytes) text
bytes_begun [] text = has tt text refl
bytes_begun (b ∷ bs) [] = hasnt (λ a rest e. cc)
bytes_begun (b ∷ bs) (c ∷ cs) = either (eqb c b)
    (λ on. begun_by (Bytes bs) (Bytes (b ∷ bs)) cs (c ∷ cs) (λ a. a) (λ a rest h. ap (λ x. x ∷ cs) (eqb-true c b on) ∙ ap (λ t. b ∷ t) h) (λ a rest h. (a, cc)) (bytes_begun bs cs))
    (λ off. hasnt (λ a rest e. eqb-false c b off (cc)))

version_begun : (text : List ℕ) → Begun Version text
version_begun text = by_zero (bytes_begun (print_version 0) text) (bytes_begun (print_version 1) text)
  where
    neither : ((rest : List ℕ) → ¬ (text ≡ print_version 0 ++ rest)) → ((rest : List ℕ) → ¬ (text ≡ print_version 1 ++ rest)) → (a : ℕ) (rest : List ℕ) → ¬ (Version a text rest)
    neither first second zero rest h = first rest h.1
    neither first second (suc zero) rest h = second rest h.1
    neither first second (suc (suc n)) rest h = too_many n h.0
      where
        too_many : (n : ℕ) → suc (suc n) ≤ 1 → ⊥
        too_many n l = omega (arith, l)

    by_zero : Begun (Bytes (print_version 0)) text → Begun (Bytes (print_version 1)) text → Begun Version text
    by_zero (has a rest e) second = has 0 rest (omega arith, e)
    by_zero (hasnt none) (has a rest e) = has 1 rest (omega arith, e)
    by_zero (hasnt none) (hasnt none_too) = hasnt (neither (none tt) (none_too tt))

digit_begun : (text : List ℕ) → Begun Digit text
digit_begun [] = hasnt (λ a rest h. let e : [] ≡ a ∷ rest = h.1 in cc)
digit_begun (b ∷ bs) = either (is_ascii_digit b) (λ on. has b bs (on, refl))
    (λ off. hasnt (λ a rest h. let e : b ∷ bs ≡ a ∷ rest = h.1 in let same : a ≡ b = cc in false≢true (sym off ∙ ap is_ascii_digit (sym same) ∙ h.0)))

code_begun : (text : List ℕ) → Begun Code text
code_begun text = then_begun Digit (Then Digit Digit) Digit_deterministic text (digit_begun text) (λ m. then_begun Digit Digit Digit_deterministic m (digit_begun m) digit_begun)

-- the empty lines before a start line
blank_within : (n : ℕ) (text : List ℕ) → length text < n → Begun Blank text
blank_within zero text l = absurd (none_below (length text) l)
  where
    none_below : (k : ℕ) → k < 0 → ⊥
    none_below k l = omega (arith, l)
blank_within (suc n) text l = by_line (newline_begun text) (λ rest less. blank_within n rest (omega (arith, l, less)))
  where
    line_less : (a : LineEnd) (rest : List ℕ) → text ≡ print_end a ++ rest → length rest < length text
    line_less crlf rest e = omega (arith, ap length e)
    line_less lf rest e = omega (arith, ap length e)

    up : (a : LineEnd) (rest : List ℕ) → text ≡ print_end a ++ rest → (ends : List LineEnd) (later : List ℕ) → Blank ends rest later → Blank (a ∷ ends) text later
    up a rest e ends later h = (e ∙ ap (λ t. print_end a ++ t) h.0 ∙ sym (append_assoc (print_end a) (print_blank ends) later), h.1)

    down : (a : LineEnd) (rest : List ℕ) → text ≡ print_end a ++ rest → (ends : List LineEnd) (later : List ℕ) → Blank ends text later → (cs : List LineEnd) × Blank cs rest later
    down a rest e [] later h = absurd (newline_not_stopped a rest later (sym e ∙ h.0) h.1)
    down a rest e (c ∷ cs) later h =
        let same = Newline_deterministic.unique a c text rest (print_blank cs ++ later) e (h.0 ∙ append_assoc (print_end c) (print_blank cs) later) in
        (cs, (same.1, h.1))

    stop : ((a : LineEnd) (rest : List ℕ) → ¬ (Newline a text rest)) → Begun Blank text
    stop none = by_first text none
      where
        by_first : (t : List ℕ) → ((a : LineEnd) (rest : List ℕ) → ¬ (Newline a t rest)) → Begun Blank t
        by_first [] none = hasnt nothing
          where
            nothing : (ends : List LineEnd) (later : List ℕ) → ¬ (Blank ends [] later)
            nothing [] later h = subst (Stops is_newline) (sym h.0) h.1
            nothing (a ∷ ends) later h = no_newline a (print_blank ends ++ later) (h.0 ∙ append_assoc (print_end a) (print_blank ends) later)
        by_first (b ∷ bs) none = either (is_newline b)
            (λ on. hasnt (nothing on))
            (λ off. has [] (b ∷ bs) (refl, off))
          where
            nothing : is_newline b ≡ true → (ends : List LineEnd) (later : List ℕ) → ¬ (Blank ends (b ∷ bs) later)
            nothing on [] later h = false≢true (sym (subst (Stops is_newline) (sym h.0) h.1) ∙ on)
            nothing on (a ∷ ends) later h = none a (print_blank ends ++ later) (h.0 ∙ append_assoc (print_end a) (print_blank ends) later)

    by_line : Begun Newline text → ((rest : List ℕ) → length rest < length text → Begun Blank rest) → Begun Blank text
    by_line (has a rest e) go_on = begun_by Blank Blank rest text (λ ends. a ∷ ends) (up a rest e) (down a rest e) (go_on rest (line_less a rest e))
    by_line (hasnt none) go_on = stop none

blank_begun : (text : List ℕ) → Begun Blank text
blank_begun text = blank_within (suc (length text)) text (omega arith)

start_begun : (text : List ℕ) → Begun ResponseStart text
start_begun text = then_begun Blank (Then Version (Then (Bytes (32 ∷ [])) (Then Code Reason))) Blank_deterministic text (blank_begun text)
    (λ a. then_begun Version (Then (Bytes (32 ∷ [])) (Then Code Reason)) Version_deterministic a (version_begun a)
    (λ b. then_begun (Bytes (32 ∷ [])) (Then Code Reason) (Bytes_deterministic (32 ∷ [])) b (bytes_begun (32 ∷ []) b)
    (λ c. then_begun Code Reason Code_deterministic c (code_begun c) reason_begun)))

-- a field's name and its colon
name_begun : (text : List ℕ) → Begun (Word is_token_byte 58) text
name_begun text = by_run (after_begun is_token_byte (Bytes (58 ∷ [])) (λ a rest e. cc) (λ a b t rest e. first_of_colon b t rest e) (bytes_begun (58 ∷ [])) text)
  where
    first_of_colon : (b : ℕ) (t rest : List ℕ) → b ∷ t ≡ 58 ∷ rest → is_token_byte b ≡ false
    first_of_colon b t rest e = let is : b ≡ 58 = cc in ap is_token_byte is ∙ colon_ends_token

    run_of : (word rest : List ℕ) → Word is_token_byte 58 word text rest → After is_token_byte (Bytes (58 ∷ [])) (word, tt) text rest
    run_of word rest h = record { pass = h.1; middle = 58 ∷ rest; stands = h.2; reads = refl }

    by_run : Begun (After is_token_byte (Bytes (58 ∷ []))) text → Begun (Word is_token_byte 58) text
    by_run (hasnt none) = hasnt (λ word rest h. none (word, tt) rest (run_of word rest h))
    by_run (has ([], a) rest h) = hasnt nothing
      where
        colon_first : text ≡ 58 ∷ rest
        colon_first = none_before is_token_byte (Bytes (58 ∷ [])) a text rest h

        nothing : (word later : List ℕ) → ¬ (Word is_token_byte 58 word text later)
        nothing [] later w = absurd (none_below w.0)
          where
            none_below : 0 < 0 → ⊥
            none_below l = omega (arith, l)
        nothing (c ∷ cs) later w =
            let e : 58 ∷ rest ≡ (c ∷ cs) ++ 58 ∷ later = sym colon_first ∙ w.2 in
            let same : c ≡ 58 = cc in
            false≢true (sym colon_ends_token ∙ ap is_token_byte (sym same) ∙ first_passes is_token_byte c cs w.1)
    by_run (has (c ∷ cs, a) rest h) = has (c ∷ cs) rest (omega arith, h.pass, h.stands ∙ ap (λ t. (c ∷ cs) ++ t) h.reads)

field_begun : (text : List ℕ) → Begun FieldLine text
field_begun text = begun_by (Then (Word is_token_byte 58) Text) FieldLine text text (λ a. record { name = a.0; raw = a.1.0; end = a.1.1 }) up
    (λ f rest h. ((f.name, (f.raw, f.end)), FieldLine_parts f text rest h))
    (then_begun (Word is_token_byte 58) Text Name_deterministic text (name_begun text) text_begun)
  where
    up : (a : List ℕ × (List ℕ × LineEnd)) (rest : List ℕ) → Then (Word is_token_byte 58) Text a text rest → FieldLine (record { name = a.0; raw = a.1.0; end = a.1.1 }) text rest
    up a rest h = (
      record { name = (h.1.0, h.1.1); raw = h.2.0 },
      h.1.2 ∙ ap (λ t. a.0 ++ 58 ∷ t) h.2.1 ∙ sym (print_field-append (record { name = a.0; raw = a.1.0; end = a.1.1 }) rest),
    )

field_less : (f : Field) (text rest : List ℕ) → FieldLine f text rest → length rest < length text
field_less f text rest h =
    let parts : text ≡ f.name ++ 58 ∷ (f.raw ++ (print_end f.end ++ rest)) = h.1 ∙ print_field-append f rest in
    omega (arith, ap length parts, length-append f.name (58 ∷ (f.raw ++ (print_end f.end ++ rest))), length-append f.raw (print_end f.end ++ rest), length-append (print_end f.end) rest)

section_within : (n : ℕ) (text : List ℕ) → length text < n → Begun Section text
section_within zero text l = absurd (none_below (length text) l)
  where
    none_below : (k : ℕ) → k < 0 → ⊥
    none_below k l = omega (arith, l)
section_within (suc n) text l = by_line (newline_begun text) (field_begun text) (λ rest less. section_within n rest (omega (arith, l, less)))
  where
    one_line : (f : Field) (middle : List ℕ) → FieldLine f text middle → FieldLines (f ∷ []) text middle
    one_line f middle x = FieldLines_push [] f text text middle (All-nil IsField, refl) x

    up : (f : Field) (middle : List ℕ) → FieldLine f text middle → (a : List Field × LineEnd) (rest : List ℕ) → Section a middle rest → Section (f ∷ a.0, a.1) text rest
    up f middle x a rest h = (
      All-cons IsField f a.0 x.0 h.0,
      x.1 ∙ ap (λ t. print_field f ++ t) h.1 ∙ sym (append_assoc (print_field f) (flat_map print_field a.0 ++ print_end a.1) rest)
          ∙ ap (λ t. t ++ rest) (sym (append_assoc (print_field f) (flat_map print_field a.0) (print_end a.1))),
    )

    down : (f : Field) (middle : List ℕ) → FieldLine f text middle → (a : List Field × LineEnd) (rest : List ℕ) → Section a text rest → (c : List Field × LineEnd) × Section c middle rest
    down f middle x a rest h = let skipped = Section_skip (f ∷ []) a.0 a.1 text middle rest (one_line f middle x) h in ((skipped.0, a.1), skipped.2)

    by_line : Begun Newline text → Begun FieldLine text → ((rest : List ℕ) → length rest < length text → Begun Section rest) → Begun Section text
    by_line (has a rest e) second go_on = has ([], a) rest (All-nil IsField, e)
    by_line (hasnt none) (has f middle x) go_on = begun_by Section Section middle text (λ a. (f ∷ a.0, a.1)) (up f middle x) (down f middle x) (go_on middle (field_less f text middle x))
    by_line (hasnt none) (hasnt none_too) go_on = hasnt (λ a rest h. elim (Section_line a text rest h) [ inl x ↦ none x.0 x.1 x.2 | inr x ↦ none_too x.0 x.1 x.2 ])

section_begun : (text : List ℕ) → Begun Section text
section_begun text = section_within (suc (length text)) text (omega arith)

-- Each text begins with a head, or doesn't.
pub head_begun : (text : List ℕ) → Begun (Then ResponseStart Section) text
head_begun text = then_begun ResponseStart Section ResponseStart_deterministic text (start_begun text) section_begun
