-- A name by itself: its text, read from its beginning.
use Rattle.std.proofs.Common.{◌≡◌, ℕ, ◌+◌, ◌≤◌, List, [], ◌∷◌, ◌++◌, length, drop, refl, sym, ◌∙◌, ap, subst, arith, length-append, append_assoc, append-nil}
use Rattle.std.specs.List.{AllByRecursion}
use Rattle.std.proofs.lemmas.List.{drop_at, drop-drop, drop_all}
use Rattle.nb_dnsmsg.specs.Names.{IsLabel, name_text, IsDnsName, IsRestAt, root_here, label_here, pointer_here, IsNameAt}
use Rattle.nb_dnsmsg.proofs.RecordLemmas.{name_one}

spelled_after : (front : List ℕ) (labels : List (List ℕ)) → AllByRecursion IsLabel labels → IsRestAt (front ++ name_text labels) 0 (length front) (name_text labels) (length (front ++ name_text labels))
spelled_after front [] are =
    let size = length-append front (0 ∷ []) in
    root_here 0 (length front) (0 ∷ []) (length (front ++ 0 ∷ [])) [] (drop_at front (0 ∷ []) (length front) refl) refl size
spelled_after front (l ∷ labels) (first, are) =
    let whole : (front ++ (length l ∷ l)) ++ name_text labels ≡ front ++ (length l ∷ (l ++ name_text labels)) = append_assoc front (length l ∷ l) (name_text labels) in
    let place : length (front ++ (length l ∷ l)) ≡ length front + (1 + length l) = let s = length-append front (length l ∷ l) in omega (arith, s) in
    let more = spelled_after (front ++ (length l ∷ l)) labels are in
    label_here 0 (length front) (length l ∷ (l ++ name_text labels)) (length (front ++ (length l ∷ (l ++ name_text labels)))) l (name_text labels) (name_text labels) first
    (drop_at front (length l ∷ (l ++ name_text labels)) (length front) refl) refl
    (subst (λ x. IsRestAt (front ++ (length l ∷ (l ++ name_text labels))) 0 x (name_text labels) (length (front ++ (length l ∷ (l ++ name_text labels))))) place
    (subst (λ x. IsRestAt x 0 (length (front ++ (length l ∷ l))) (name_text labels) (length x)) whole more))

-- the text of a name is read as itself
pub name_alone : (name : List ℕ) → IsDnsName name → IsNameAt name 0 name (length name)
name_alone name is = record {
  spelled = subst (λ x. IsRestAt x 0 0 x (length x)) (sym is.text) (spelled_after [] is.labels is.are);
  short = is.short;
}

record Alone (name : List ℕ) (place : ℕ) (text : List ℕ) (end : ℕ) : Type 0 where
  pub labels : List (List ℕ)
  pub are : AllByRecursion IsLabel labels
  pub text_is : text ≡ name_text labels
  pub left : drop place name ≡ text ++ drop end name

alone : (name : List ℕ) (place : ℕ) (text : List ℕ) (end : ℕ) → IsRestAt name 0 place text end → Alone name place text end
alone name place text end (root_here _ _ _ _ after at is ends) =
    let behind : drop end name ≡ after = ap (λ x. drop x name) ends ∙ sym (drop-drop 1 place name) ∙ ap (drop 1) at in
    record {
      labels = [];
      are = tt;
      text_is = is;
      left = at ∙ ap (λ x. 0 ∷ x) (sym behind) ∙ ap (λ x. x ++ drop end name) (sym is);
    }
alone name place text end (label_here _ _ _ _ l more after first at is h) =
    let a = alone name (place + (1 + length l)) more end h in
    let behind : after ≡ more ++ drop end name = sym (drop_at (length l ∷ l) after (1 + length l) (omega arith)) ∙ ap (drop (1 + length l)) (sym at) ∙ drop-drop (1 + length l) place name ∙ a.left in
    record {
      labels = l ∷ a.labels;
      are = (first, a.are);
      text_is = is ∙ ap (λ x. length l ∷ (l ++ x)) a.text_is;
      left = at ∙ ap (λ x. length l ∷ (l ++ x)) behind ∙ ap (λ x. length l ∷ x) (sym (append_assoc l more (drop end name))) ∙ ap (λ x. x ++ drop end name) (sym is);
    }
alone name place text end (pointer_here _ _ _ _ high low target last after at big is back h ends) = absurd (omega (arith, back))

-- what is read as a name up to its end is its own text
pub alone_name : (name text : List ℕ) → IsNameAt name 0 text (length name) → IsDnsName name
alone_name name text h =
    let a = alone name 0 text (length name) h.spelled in
    let same : name ≡ text = a.left ∙ ap (λ x. text ++ x) (drop_all (length name) name (omega arith)) ∙ append-nil text in
    record { labels = a.labels; are = a.are; text = same ∙ a.text_is; short = subst (λ x. length x ≤ 255) (sym same) h.short }

pub no_name_alone : (name text : List ℕ) (end : ℕ) → IsNameAt name 0 text end → (end ≡ length name → ⊥) → IsDnsName name → ⊥
no_name_alone name text end h other is = other (name_one name 0 text name end (length name) h (name_alone name is)).1
