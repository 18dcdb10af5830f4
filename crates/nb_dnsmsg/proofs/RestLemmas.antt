-- What stands at a place, by the piece that stands there.
use Rattle.std.proofs.Common.{◌≡◌, ℕ, ◌+◌, ◌-◌, ◌*◌, ◌<◌, ◌≤◌, List, [], ◌∷◌, ◌++◌, length, take, drop, refl, sym, ◌∙◌, ap, subst, arith}
use Rattle.std.proofs.lemmas.List.{take_at}
use Rattle.nb_dnsmsg.specs.Names.{IsLabel, IsRestAt, root_here, label_here, pointer_here}
use Rattle.nb_dnsmsg.specs.Walks.{BeginsNoPiece}

head : List ℕ → ℕ
head [] = 0
head (x ∷ xs) = x

tail : List ℕ → List ℕ
tail [] = []
tail (x ∷ xs) = xs

heads : (a b : ℕ) (xs ys zs : List ℕ) → zs ≡ a ∷ xs → zs ≡ b ∷ ys → (a ≡ b) × (xs ≡ ys)
unfolding head tail
heads a b xs ys zs e f = (ap head (sym e ∙ f), ap tail (sym e ∙ f))

pub root_cut : (message : List ℕ) (part place : ℕ) (rest : List ℕ) (end : ℕ) (after : List ℕ) → drop place message ≡ 0 ∷ after
    → IsRestAt message part place rest end → (rest ≡ 0 ∷ []) × (end ≡ place + 1)
root_cut message part place rest end after at (root_here _ _ _ _ _ e is ends) = (is, ends)
root_cut message part place rest end after at (label_here _ _ _ _ l more after2 are e is h) =
    let z = (heads 0 (length l) _ _ _ at e).0 in let s = are.some in absurd (omega (arith, z, s))
root_cut message part place rest end after at (pointer_here _ _ _ _ high low target last after2 e big t back h ends) =
    let z = (heads 0 high _ _ _ at e).0 in absurd (omega (arith, z, big))

same_label : (a b xs ys : List ℕ) → length a ≡ length b → a ++ xs ≡ b ++ ys → a ≡ b
same_label a b xs ys size same = sym (take_at a xs (length b) size) ∙ ap (take (length b)) same ∙ take_at b ys (length b) refl

pub label_cut : (message : List ℕ) (part place : ℕ) (rest : List ℕ) (end : ℕ) (l after : List ℕ) → IsLabel l → drop place message ≡ length l ∷ (l ++ after)
    → IsRestAt message part place rest end → (more : List ℕ) × (rest ≡ length l ∷ (l ++ more)) × IsRestAt message part (place + (1 + length l)) more end
label_cut message part place rest end l after are at (root_here _ _ _ _ after2 e is ends) =
    let z = (heads (length l) 0 _ _ _ at e).0 in let s = are.some in absurd (omega (arith, z, s))
label_cut message part place rest end l after are at (label_here _ _ _ _ k more after2 are2 e is h) =
    let z = heads (length l) (length k) _ _ _ at e in
    let same : k ≡ l = sym (same_label l k after after2 z.0 z.1) in
    (more, is ∙ ap (λ x. length x ∷ (x ++ more)) same, subst (λ x. IsRestAt message part (place + (1 + length x)) more end) same h)
label_cut message part place rest end l after are at (pointer_here _ _ _ _ high low target last after2 e big t back h ends) =
    let z = (heads (length l) high _ _ _ at e).0 in let s = are.few in absurd (omega (arith, z, s, big))

pub record Pointed (message : List ℕ) (part place : ℕ) (rest : List ℕ) (end target : ℕ) : Type 0 where
  pub back : target < part
  pub last : ℕ
  pub spelled : IsRestAt message target target rest last
  pub ends : end ≡ place + 2

pub pointer_cut : (message : List ℕ) (part place : ℕ) (rest : List ℕ) (end high low : ℕ) (after : List ℕ) → drop place message ≡ high ∷ low ∷ after → 192 ≤ high
    → IsRestAt message part place rest end → Pointed message part place rest end ((high - 192) * 256 + low)
pointer_cut message part place rest end high low after at big (root_here _ _ _ _ after2 e is ends) =
    let z = (heads high 0 _ _ _ at e).0 in absurd (omega (arith, z, big))
pointer_cut message part place rest end high low after at big (label_here _ _ _ _ l more after2 are e is h) =
    let z = (heads high (length l) _ _ _ at e).0 in let s = are.few in absurd (omega (arith, z, s, big))
pointer_cut message part place rest end high low after at big (pointer_here _ _ _ _ high2 low2 target last after2 e big2 t back h ends) =
    let z = heads high high2 _ _ _ at e in
    let y : low ≡ low2 = (heads low low2 after after2 (low ∷ after) refl z.1).0 in
    let same : target ≡ (high - 192) * 256 + low = t ∙ ap (λ x. (x - 192) * 256 + low2) (sym z.0) ∙ ap (λ x. (high - 192) * 256 + x) (sym y) in
    record {
      back = subst (λ x. x < part) same back;
      last = last;
      spelled = subst (λ x. IsRestAt message x x rest last) same h;
      ends = ends;
    }

pub no_rest : (message : List ℕ) (part place : ℕ) (rest : List ℕ) (end : ℕ) → BeginsNoPiece (drop place message) → IsRestAt message part place rest end → ⊥
no_rest message part place rest end none (root_here _ _ _ _ after e is ends) = none.root after e
no_rest message part place rest end none (label_here _ _ _ _ l more after are e is h) = none.label l after are e
no_rest message part place rest end none (pointer_here _ _ _ _ high low target last after e big t back h ends) = none.pointer high low after e big

-- a rest of a name has one text and one end
pub rest_one : (message : List ℕ) (part place : ℕ) (a b : List ℕ) (end other : ℕ) → IsRestAt message part place a end → IsRestAt message part place b other → (a ≡ b) × (end ≡ other)
rest_one message part place a b end other (root_here _ _ _ _ after e is ends) h =
    let z = root_cut message part place b other after e h in (is ∙ sym z.0, ends ∙ sym z.1)
rest_one message part place a b end other (label_here _ _ _ _ l more after are e is g) h =
    let (more2, is2, h2) = label_cut message part place b other l after are e h in
    let z = rest_one message part (place + (1 + length l)) more more2 end other g h2 in
    (is ∙ ap (λ x. length l ∷ (l ++ x)) z.0 ∙ sym is2, z.1)
rest_one message part place a b end other (pointer_here _ _ _ _ high low target last after e big t back g ends) h =
    let p = pointer_cut message part place b other high low after e big h in
    let z = rest_one message target target a b last p.last g (subst (λ x. IsRestAt message x x b p.last) (sym t) p.spelled) in
    (z.0, ends ∙ sym p.ends)
