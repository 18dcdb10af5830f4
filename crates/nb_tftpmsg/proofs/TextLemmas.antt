-- Laws of texts that end in a zero byte.
use Rattle.std.proofs.Common.{◌≡◌, ℕ, ◌+◌, ◌-◌, ◌<◌, ◌≤◌, List, [], ◌∷◌, ◌++◌, Option, Some, None, Bool, true, false, cond, refl, ap, sym, subst, ◌∙◌, arith, eqb, ltb, take, drop, length, suc, length-drop, length-append, append_assoc}
use Rattle.std.proofs.lemmas.Bool.{lt-ltb, le-ltb, ltb-true, ltb-false, ne_eqb, eqb-true, eqb-false}
use Rattle.std.proofs.lemmas.Option.{same_Some, none-some}
use Rattle.std.proofs.lemmas.List.{append-nil}
use Rattle.std.proofs.Math.Seq.{take-length}
use Rattle.std.specs.List.{position, position_or_len}
use Rattle.std.specs.Option.{option_map, option_map_or}
use Rattle.nb_tftpmsg.specs.Texts.{HasNoZero, EndsText, ended, text_at, text_before}

-- either answer of a test
pub either_way : {P : Type 0} (b : Bool) → (b ≡ true → P) → (b ≡ false → P) → P
either_way true on off = on refl
either_way false on off = off refl

-- a text and what follows it
abbrev pub cut : List ℕ → List ℕ → List ℕ × List ℕ
cut text rest = (text, rest)

-- the text before a place, and what stands after it
abbrev pub split_before : List ℕ → ℕ → List ℕ × List ℕ
split_before bytes end = (take end bytes, drop (end + 1) bytes)

shifted : (byte : ℕ) (bytes : List ℕ) (k n : ℕ) (found : Option (List ℕ × List ℕ)) → found ≡ option_map (split_before bytes) (cond (ltb k n) (Some k) None) → option_map (λ f. (byte ∷ f.0, f.1)) found ≡ option_map (split_before (byte ∷ bytes)) (cond (ltb (1 + k) (suc n)) (Some (1 + k)) None)
shifted byte bytes k n found is = either_way (ltb k n)
    (λ on.
    let before : k < n = ltb-true k n on in
    let one : 1 + k ≡ suc k = omega arith in
    let more : suc k + 1 ≡ suc (k + 1) = omega arith in
    rw (is, on, lt-ltb (1 + k) (suc n) (omega arith), one, more) refl)
    (λ off.
    let behind : n ≤ k = ltb-false k n off in
    rw (is, off, le-ltb (1 + k) (suc n) (omega arith)) refl)

-- the text ends where the first zero byte stands
pub text_at-is : (bytes : List ℕ) → text_at bytes ≡ option_map (split_before bytes) (position (λ byte. eqb byte 0) bytes)
text_at-is [] = refl
text_at-is (byte ∷ bytes) = either_way (eqb byte 0)
    (λ on. rw on (rw (lt-ltb 0 (suc (length bytes)) (omega arith)) refl))
    (λ off. rw off (shifted byte bytes (position_or_len (λ b. eqb b 0) bytes) (length bytes) (text_at bytes) (text_at-is bytes)))

take_rest : (bytes : List ℕ) (from : ℕ) → take (length bytes - from) (drop from bytes) ≡ drop from bytes
take_rest bytes from = rw (← length-drop from bytes) (take-length (drop from bytes))

pub text_at-found : (bytes : List ℕ) (end : ℕ) → Some end ≡ position (λ byte. eqb byte 0) bytes → Some (take end bytes, take (length bytes - (end + 1)) (drop (end + 1) bytes)) ≡ text_at bytes
text_at-found bytes end found = rw (text_at-is bytes, ← found, take_rest bytes (end + 1)) refl

pub text_at-none : (bytes : List ℕ) → None ≡ position (λ byte. eqb byte 0) bytes → None ≡ text_at bytes
text_at-none bytes found = rw (text_at-is bytes, ← found) refl

-- a text and its zero byte are found before anything
pub text_at-front : (text rest : List ℕ) → HasNoZero text → text_at (text ++ 0 ∷ rest) ≡ Some (cut text rest)
text_at-front [] rest clean = refl
text_at-front (byte ∷ bytes) rest clean =
    let off : eqb byte 0 ≡ false = ne_eqb byte 0 (λ zero. omega (arith, clean.0)) in
    rw (off, text_at-front bytes rest clean.1) refl

first_stands : (byte : ℕ) (bytes text rest : List ℕ) → byte ≡ 0 → Some (cut [] bytes) ≡ Some (cut text rest) → HasNoZero text × (byte ∷ bytes ≡ ended text ++ rest)
first_stands byte bytes text rest zero is =
    let pair : cut [] bytes ≡ cut text rest = same_Some (cut [] bytes) (cut text rest) is in
    let empty : [] ≡ text = ap (λ c. c.0) pair in
    let same : bytes ≡ rest = ap (λ c. c.1) pair in
    (subst HasNoZero empty tt, cc)

later_stands : (byte : ℕ) (bytes text rest : List ℕ) → (byte ≡ 0 → ⊥) → (found : Option (List ℕ × List ℕ)) → ((t r : List ℕ) → found ≡ Some (cut t r) → HasNoZero t × (bytes ≡ ended t ++ r)) → option_map (λ f. cut (byte ∷ f.0) f.1) found ≡ Some (cut text rest) → HasNoZero text × (byte ∷ bytes ≡ ended text ++ rest)
later_stands byte bytes text rest other None stands is = absurd cc
later_stands byte bytes [] rest other (Some f) stands is =
    let pair : cut (byte ∷ f.0) f.1 ≡ cut [] rest = same_Some (cut (byte ∷ f.0) f.1) (cut [] rest) is in
    let front : byte ∷ f.0 ≡ [] = ap (λ c. c.0) pair in
    absurd cc
later_stands byte bytes (t ∷ ts) rest other (Some f) stands is =
    let pair : cut (byte ∷ f.0) f.1 ≡ cut (t ∷ ts) rest = same_Some (cut (byte ∷ f.0) f.1) (cut (t ∷ ts) rest) is in
    let fronts : byte ∷ f.0 ≡ t ∷ ts = ap (λ c. c.0) pair in
    let backs : f.1 ≡ rest = ap (λ c. c.1) pair in
    let head : byte ≡ t = cc in
    let tail : f.0 ≡ ts = cc in
    let inner = stands ts rest (ap (λ front. Some (cut front f.1)) tail ∙ ap (λ back. Some (cut ts back)) backs) in
    ((omega arith, inner.0), ap (λ b. b ∷ bytes) head ∙ ap (λ bs. t ∷ bs) inner.1)

-- what is found stands there
pub text_at-stands : (bytes text rest : List ℕ) → text_at bytes ≡ Some (text, rest) → HasNoZero text × (bytes ≡ ended text ++ rest)
text_at-stands [] text rest is = absurd cc
text_at-stands (byte ∷ bytes) text rest is = either_way (eqb byte 0)
    (λ on. first_stands byte bytes text rest (eqb-true byte 0 on) (rw on at is))
    (λ off. later_stands byte bytes text rest (eqb-false byte 0 off) (text_at bytes) (λ t r. text_at-stands bytes t r) (rw off at is))

-- a text without a zero byte has no end
text_at-clean : (text : List ℕ) → HasNoZero text → text_at text ≡ None
text_at-clean [] clean = refl
text_at-clean (byte ∷ bytes) clean =
    let off : eqb byte 0 ≡ false = ne_eqb byte 0 (λ zero. omega (arith, clean.0)) in
    rw (off, text_at-clean bytes clean.1) refl

map_none : {T U : Type 0} (f : T → U) (o : Option T) → option_map f o ≡ None → o ≡ None
map_none f None is = refl
map_none f (Some x) is = absurd cc

clean-without_end : (bytes : List ℕ) → text_at bytes ≡ None → HasNoZero bytes
clean-without_end [] is = tt
clean-without_end (byte ∷ bytes) is = either_way (eqb byte 0)
    (λ on. absurd (none-some (cut [] bytes) (sym (rw on at is))))
    (λ off.
    let some : byte ≡ 0 → ⊥ = eqb-false byte 0 off in
    (omega arith, clean-without_end bytes (map_none _ (text_at bytes) (rw off at is))))

-- a text is found before what may stand after it
pub text_before-front : (text rest : List ℕ) → HasNoZero text → EndsText rest → text_before (text ++ rest) ≡ text
text_before-front text [] clean ends = rw (append-nil text, text_at-clean text clean) refl
text_before-front text (byte ∷ rest) clean zero = rw (zero, text_at-front text rest clean) refl

-- the bytes are a text and what may stand after it
pub record StandsBefore (bytes text : List ℕ) : Type 0 where
  pub clean : HasNoZero text
  pub rest : List ℕ
  pub ends : EndsText rest
  pub all : bytes ≡ text ++ rest

before_at : (bytes : List ℕ) (found : Option (List ℕ × List ℕ)) → text_at bytes ≡ found → StandsBefore bytes (option_map_or (λ f. f.0) found bytes)
before_at bytes None is = record { clean = clean-without_end bytes is; rest = []; ends = tt; all = sym (append-nil bytes) }
before_at bytes (Some f) is =
    let stand = text_at-stands bytes f.0 f.1 is in
    record { clean = stand.0; rest = 0 ∷ f.1; ends = refl; all = stand.1 ∙ append_assoc f.0 (0 ∷ []) f.1 }

pub text_before-stands : (bytes : List ℕ) → StandsBefore bytes (text_before bytes)
text_before-stands bytes = before_at bytes (text_at bytes) refl

-- less stands after it
pub text_at-shorter : (bytes text rest : List ℕ) → text_at bytes ≡ Some (cut text rest) → length rest < length bytes
text_at-shorter bytes text rest is =
    let all : length bytes ≡ length (ended text ++ rest) = ap length (text_at-stands bytes text rest is).1 in
    omega (arith, length-append (ended text) rest, length-append text (0 ∷ []))
