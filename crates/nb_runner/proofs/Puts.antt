-- Puts one after another.
use Rattle.std.proofs.Common.{◌≡◌, ℕ, ◌+◌, ◌<◌, Bool, true, false, ◌⊎◌, inl, inr, List, [], ◌∷◌, ◌++◌, length, refl, sym, ◌∙◌, ap, arith, append_assoc, append-nil, length-append}
use Rattle.std.proofs.lemmas.Grind.{flat_map-append}
use Rattle.nb_defs.specs.Records.{Out, out_text, out_texts}
use Rattle.nb_record.specs.Logged.{Logged, Puts}

pub is_either : (b : Bool) → (b ≡ true) ⊎ (b ≡ false)
is_either true = inl refl
is_either false = inr refl

-- the first of two puts left the log short: it keeps what it had
after_short : {a b c : Logged} (x y : List ℕ) → b.is_short ≡ true → Puts a b x → Puts b c y → Puts a c (x ++ y)
after_short {a} {b} {c} x y e p q =
    let same : c ≡ b = q.stays e in
    record {
      room_stays = q.room_stays ∙ p.room_stays;
      whole = λ g. let t : true ≡ false = sym e ∙ sym (ap (λ (l : Logged). l.is_short) same) ∙ g in cc;
      part = p.part;
      lost = p.lost ++ y;
      fronts = ap (λ t. t ++ y) p.fronts ∙ append_assoc p.part p.lost y;
      appended = ap (λ (l : Logged). l.bytes) same ∙ p.appended;
      stays = λ g. same ∙ p.stays g;
      too_small = λ g h. let small : a.room < length a.bytes + length x = p.too_small g e in omega (arith, length-append x y);
    }

-- the first left it whole: the second's part comes after
after_whole : {a b c : Logged} (x y : List ℕ) → b.is_short ≡ false → Puts a b x → Puts b c y → Puts a c (x ++ y)
after_whole {a} {b} {c} x y e p q =
    let first = p.whole e in
    record {
      room_stays = q.room_stays ∙ p.room_stays;
      whole = λ g. (first.0, (q.whole g).1 ∙ ap (λ t. t ++ y) first.1 ∙ append_assoc a.bytes x y);
      part = x ++ q.part;
      lost = q.lost;
      fronts = ap (λ t. x ++ t) q.fronts ∙ sym (append_assoc x q.part q.lost);
      appended = q.appended ∙ ap (λ t. t ++ q.part) first.1 ∙ append_assoc a.bytes x q.part;
      stays = λ g. let t : true ≡ false = sym g ∙ first.0 in cc;
      too_small = λ g h.
          let small : b.room < length b.bytes + length y = q.too_small e h in
          omega (arith, small, p.room_stays, ap length first.1, length-append a.bytes x, length-append x y);
    }

-- two puts are a put of both
pub Puts-append : {a b c : Logged} (x y : List ℕ) → Puts a b x → Puts b c y → Puts a c (x ++ y)
Puts-append {a} {b} {c} x y p q = elim (is_either b.is_short) [ inl e ↦ after_short x y e p q | inr e ↦ after_whole x y e p q ]

-- nothing put
pub Puts-nothing : {a : Logged} → Puts a a []
Puts-nothing {a} = record {
  room_stays = refl;
  whole = λ g. (g, sym (append-nil a.bytes));
  part = [];
  lost = [];
  fronts = refl;
  appended = sym (append-nil a.bytes);
  stays = λ _. refl;
  too_small = λ g h. let t : true ≡ false = sym h ∙ g in cc;
}

-- one record put
pub Puts-one : {a b : Logged} (o : Out) → Puts a b (out_text o) → Puts a b (out_texts (o ∷ []))
Puts-one o p = rw (append-nil (out_text o)) p

-- records put after records
pub Puts-outs : {a b c : Logged} (xs ys : List Out) → Puts a b (out_texts xs) → Puts b c (out_texts ys) → Puts a c (out_texts (xs ++ ys))
Puts-outs xs ys p q = rw (flat_map-append out_text xs ys) (Puts-append (out_texts xs) (out_texts ys) p q)
