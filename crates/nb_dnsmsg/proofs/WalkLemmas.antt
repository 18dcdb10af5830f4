-- What a walk passes with a piece.
use Rattle.std.proofs.Common.{◌≡◌, ℕ, suc, ◌+◌, ◌-◌, ◌*◌, ◌<◌, ◌≤◌, List, [], ◌∷◌, ◌++◌, length, drop, Some, None, unwrap_or, refl, sym, ◌∙◌, ap, subst, arith, length-drop, append_assoc, suc-mul, length-append}
use Rattle.std.proofs.Math.Nat.{mul-le-mul_right}
use Rattle.nb_dnsmsg.specs.declared.walk.Walk.{Walk}
use Rattle.nb_dnsmsg.specs.Names.{IsLabel, IsRestAt, root_here, label_here, pointer_here, IsNameAt}
use Rattle.nb_dnsmsg.specs.Walks.{IsAhead, PassesBytes, way_left, BeginsNoPiece}
use Rattle.nb_dnsmsg.proofs.RestLemmas.{label_cut, pointer_cut, no_rest, rest_one}

-- the walk at a name's beginning
abbrev pub begun : ℕ → Walk
begun place = record { part = place; place = place; end = None }

pub root_ahead : (message : List ℕ) (w : Walk) (after : List ℕ) (end : ℕ) → drop w.place message ≡ 0 ∷ after → end ≡ unwrap_or w.end (w.place + 1) → IsAhead message w (0 ∷ []) end
root_ahead message w after end at is = record { last = w.place + 1; spelled = root_here w.part w.place (0 ∷ []) (w.place + 1) after at refl refl; is_end = is }

pub label_passes : (message : List ℕ) (a b : Walk) (l after : List ℕ) → IsLabel l → drop a.place message ≡ length l ∷ (l ++ after)
    → b.part ≡ a.part → b.place ≡ a.place + (1 + length l) → b.end ≡ a.end → PassesBytes (length l ∷ l) message a b
label_passes message a b l after are at part place end_is = record {
  back = λ rest end h. record {
    last = h.last;
    spelled = label_here a.part a.place (length l ∷ (l ++ rest)) h.last l rest after are at refl
        (subst (λ x. IsRestAt message x (a.place + (1 + length l)) rest h.last) part (subst (λ x. IsRestAt message b.part x rest h.last) place h.spelled));
    is_end = h.is_end ∙ ap (λ x. unwrap_or x h.last) end_is;
  };
  forth = λ rest end h.
      let (more, is, g) = label_cut message a.part a.place rest h.last l after are at h.spelled in (
        more,
        is,
        record {
          last = h.last;
          spelled = subst (λ x. IsRestAt message b.part x more h.last) (sym place) (subst (λ x. IsRestAt message x (a.place + (1 + length l)) more h.last) (sym part) g);
          is_end = h.is_end ∙ ap (λ x. unwrap_or x h.last) (sym end_is);
        },
      );
}

pub pointer_passes : (message : List ℕ) (a b : Walk) (high low target : ℕ) (after : List ℕ) → drop a.place message ≡ high ∷ low ∷ after → 192 ≤ high → target ≡ (high - 192) * 256 + low → target < a.part
    → b.part ≡ target → b.place ≡ target → b.end ≡ Some (unwrap_or a.end (a.place + 2)) → PassesBytes [] message a b
pointer_passes message a b high low target after at big is back part place end_is = record {
  back = λ rest end h. record {
    last = a.place + 2;
    spelled = pointer_here a.part a.place rest (a.place + 2) high low target h.last after at big is back
        (subst (λ x. IsRestAt message x target rest h.last) part (subst (λ x. IsRestAt message b.part x rest h.last) place h.spelled)) refl;
    is_end = h.is_end ∙ ap (λ x. unwrap_or x h.last) end_is;
  };
  forth = λ rest end h.
      let p = pointer_cut message a.part a.place rest h.last high low after at big h.spelled in (
        rest,
        refl,
        record {
          last = p.last;
          spelled = subst (λ x. IsRestAt message b.part x rest p.last) (sym (place ∙ is)) (subst (λ x. IsRestAt message x ((high - 192) * 256 + low) rest p.last) (sym (part ∙ is)) p.spelled);
          is_end = h.is_end ∙ ap (λ x. unwrap_or a.end x) p.ends ∙ sym (ap (λ x. unwrap_or x p.last) end_is);
        },
      );
}

times_more : (m n k : ℕ) → m < n → m * suc k + suc k ≤ n * suc k
times_more m n k less = let h : suc m * suc k ≤ n * suc k = mul-le-mul_right (suc k) less in omega (arith, h, suc-mul m (suc k))

pub jumps_nearer : (message : List ℕ) (a b : Walk) → b.part < a.part → way_left message b < way_left message a
jumps_nearer message a b less =
    let h = times_more b.part a.part (length message) less in omega (arith, h)

pub steps_nearer : (message : List ℕ) (a b : Walk) (l after : List ℕ) → drop a.place message ≡ length l ∷ (l ++ after)
    → b.part ≡ a.part → b.place ≡ a.place + (1 + length l) → way_left message b < way_left message a
steps_nearer message a b l after at part place =
    let size : length message - a.place ≡ suc (length (l ++ after)) = sym (length-drop a.place message) ∙ ap length at in
    let same : b.part * suc (length message) ≡ a.part * suc (length message) = ap (λ x. x * suc (length message)) part in
    omega (arith, size, same, place)

pub none_ahead : (message : List ℕ) (w : Walk) (rest : List ℕ) (end : ℕ) → BeginsNoPiece (drop w.place message) → IsAhead message w rest end → ⊥
none_ahead message w rest end none h = no_rest message w.part w.place rest h.last none h.spelled

pub no_jump : (message : List ℕ) (w : Walk) (rest : List ℕ) (end high low : ℕ) (after : List ℕ) → drop w.place message ≡ high ∷ low ∷ after → 192 ≤ high → w.part ≤ (high - 192) * 256 + low → IsAhead message w rest end → ⊥
no_jump message w rest end high low after at big forwards h =
    let p = pointer_cut message w.part w.place rest h.last high low after at big h.spelled in
    let back = p.back in omega (arith, back, forwards)

pub ahead_one : (message : List ℕ) (w : Walk) (a b : List ℕ) (end other : ℕ) → IsAhead message w a end → IsAhead message w b other → (a ≡ b) × (end ≡ other)
ahead_one message w a b end other g h =
    let z = rest_one message w.part w.place a b g.last h.last g.spelled h.spelled in
    (z.0, g.is_end ∙ ap (unwrap_or w.end) z.1 ∙ sym h.is_end)

pub passes_none : (message : List ℕ) (w : Walk) → PassesBytes [] message w w
passes_none message w = record { back = λ rest end h. h; forth = λ rest end h. (rest, refl, h) }

pub passes_on : (before passed message : List ℕ) (a b c : Walk) → PassesBytes before message a b → PassesBytes passed message b c → PassesBytes (before ++ passed) message a c
passes_on before passed message a b c p q = record {
  back = λ rest end h. subst (λ x. IsAhead message a x end) (sym (append_assoc before passed rest)) (p.back (passed ++ rest) end (q.back rest end h));
  forth = λ rest end h.
      let (more, is, at) = p.forth rest end h in
      let (last, is2, at2) = q.forth more end at in
      (last, is ∙ ap (λ x. before ++ x) is2 ∙ sym (append_assoc before passed last), at2);
}

-- a name is what is before the walk at its beginning
pub name_ahead : (message : List ℕ) (place : ℕ) (name : List ℕ) (end : ℕ) → IsNameAt message place name end → IsAhead message (begun place) name end
name_ahead message place name end h = record { last = end; spelled = h.spelled; is_end = refl }

pub ahead_name : (message : List ℕ) (place : ℕ) (name : List ℕ) (end : ℕ) → IsAhead message (begun place) name end → length name ≤ 255 → IsNameAt message place name end
ahead_name message place name end h short = record { spelled = subst (λ x. IsRestAt message place place name x) (sym h.is_end) h.spelled; short = short }

-- a name that has passed more than its limit is none
pub too_long : (message : List ℕ) (place : ℕ) (name : List ℕ) (end : ℕ) (passed : List ℕ) (w : Walk) → PassesBytes passed message (begun place) w → 255 < length passed → IsNameAt message place name end → ⊥
too_long message place name end passed w p long h =
    let (more, is, at) = p.forth name end (name_ahead message place name end h) in
    let size : length name ≡ length passed + length more = ap length is ∙ length-append passed more in
    let short = h.short in
    omega (arith, size, short, long)

-- the root is the last
pub root_read : (message : List ℕ) (place end : ℕ) (passed : List ℕ) (w : Walk) → PassesBytes passed message (begun place) w → IsAhead message w (0 ∷ []) end → length (passed ++ 0 ∷ []) ≤ 255 → IsNameAt message place (passed ++ 0 ∷ []) end
root_read message place end passed w p h short = ahead_name message place (passed ++ 0 ∷ []) end (p.back (0 ∷ []) end h) short

pub root_too_long : (message : List ℕ) (place : ℕ) (name : List ℕ) (end other : ℕ) (passed : List ℕ) (w : Walk) → PassesBytes passed message (begun place) w → IsAhead message w (0 ∷ []) other → 255 < length passed + 1 → IsNameAt message place name end → ⊥
root_too_long message place name end other passed w p g long h =
    let (more, is, at) = p.forth name end (name_ahead message place name end h) in
    let same : more ≡ 0 ∷ [] = (ahead_one message w more (0 ∷ []) end other at g).0 in
    let size : length name ≡ length passed + length more = ap length is ∙ length-append passed more in
    let one : length more ≡ 1 = ap length same in
    let short = h.short in
    omega (arith, size, one, short, long)

pub none_passed : (message : List ℕ) (place : ℕ) (name : List ℕ) (end : ℕ) (passed : List ℕ) (w : Walk) → PassesBytes passed message (begun place) w → ((rest : List ℕ) (end : ℕ) → IsAhead message w rest end → ⊥) → IsNameAt message place name end → ⊥
none_passed message place name end passed w p none h =
    let (more, is, at) = p.forth name end (name_ahead message place name end h) in none more end at
