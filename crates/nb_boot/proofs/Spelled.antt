-- The records of a run, and a list of records that spells its input.
use Rattle.std.proofs.Common.{◌≡◌, ℕ, ◌<◌, List, [], ◌∷◌, ◌++◌, length, refl, ◌∙◌, ap, arith, append_assoc, length-append}
use Rattle.nb_defs.specs.Records.{In, IsIn, in_text, in_texts}
use Rattle.nb_defs.proofs.RecordLaws.{in_text_apart, length-in_text}
use Rattle.nb_boot.specs.Complete.{AreNoStarts}

-- each has a spelling
abbrev pub AreIn : List In → Type 0
AreIn [] = Unit {0}
AreIn (r ∷ rs) = IsIn r × AreIn rs

pub are_in_then : (ins : List In) (r : In) → AreIn ins → IsIn r → AreIn (ins ++ r ∷ [])
are_in_then [] r a v = (v, tt)
are_in_then (q ∷ qs) r a v = (a.0, are_in_then qs r a.1 v)

pub are-here : (xs : List In) (q : In) (qs : List In) → AreIn (xs ++ q ∷ qs) → IsIn q
are-here [] q qs v = v.0
are-here (x ∷ xs) q qs v = are-here xs q qs v.1

-- the first of these records are those, and the others spell what follows
pub record Rest (ins all : List In) (tail : List ℕ) : Type 0 where
  pub more : List In
  pub are : all ≡ ins ++ more
  pub spelled : in_texts more ≡ tail

-- records that spell the start of a list's spelling are the first of the list
pub spelled_rest : (ins all : List In) (tail : List ℕ) → AreIn ins → AreIn all → in_texts all ≡ in_texts ins ++ tail → Rest ins all tail
spelled_rest [] all tail v w e = record { more = all; are = refl; spelled = e }
spelled_rest (r ∷ rs) [] tail v w e =
    absurd (omega (arith, ap length e, length-append (in_texts (r ∷ rs)) tail, length-append (in_text r) (in_texts rs), length-in_text r))
spelled_rest (r ∷ rs) (q ∷ qs) tail v w e =
    let both : in_text q ++ in_texts qs ≡ in_text r ++ (in_texts rs ++ tail) = e ∙ append_assoc (in_text r) (in_texts rs) tail in
    let same = in_text_apart q r (in_texts qs) (in_texts rs ++ tail) w.0 v.0 both in
    let t = spelled_rest rs qs tail v.1 w.1 same.rest_is in
    record { more = t.more; are = ap (λ x. x ∷ qs) same.record_is ∙ ap (λ xs. r ∷ xs) t.are; spelled = t.spelled }

pub others_in : (rs : List In) → AreNoStarts rs → AreIn rs
others_in [] a = tt
others_in (r ∷ rs) a = (a.0, others_in rs a.2)

others_behind : (qs more : List In) → AreNoStarts (qs ++ more) → AreNoStarts more
others_behind [] more a = a
others_behind (q ∷ qs) more a = others_behind qs more a.2

-- after some records of a list that begins with a START there is none
pub others_rest : (ins more others : List In) (r : In) → r ∷ others ≡ ins ++ more → 0 < length ins → AreNoStarts others → AreNoStarts more
others_rest [] more others r e h a = absurd (omega (arith, h))
others_rest (q ∷ qs) more others r e h a =
    let tails : others ≡ qs ++ more = cc in others_behind qs more (rw (← tails) a)
