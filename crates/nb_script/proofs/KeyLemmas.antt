-- A map whose keys are bytes, after one was put.
use Rattle.std.proofs.Common.{◌≡◌, ℕ, true, false, cond, List, Option, Some, None, refl, sym, subst, ◌∙◌, inl, inr}
use Rattle.std.specs.BTreeMap.{BTreeMap, UpdatesBy, get_by, is_at}
use Rattle.std.specs.Cmp.{eq_by_cmp_equiv}
use Rattle.std.specs.Cmp.Lexicographic.{slice_cmp, nat_list_cmp_total, nat_list_eq_equiv, bytes_decides}
use Rattle.std.specs.Map.{KeepsOthers, lookup}
use Rattle.std.specs.Option.{option_or, is_some}
use Rattle.std.specs.Ordering.{is_eq, nat_cmp, eq_by_cmp}
use Rattle.std.specs.Str.{bytes_eq}
use Rattle.std.proofs.lemmas.Bool.{cases_Bool, cond-true, cond-false}
use Rattle.std.proofs.lemmas.Map.Text.{is_eq-slice_cmp}
use Rattle.nb_script.specs.Labels.{place_if}

apart : (bs cs ks : List ℕ) → bytes_eq bs cs ≡ false → is_eq (slice_cmp nat_cmp bs ks) ≡ true → is_eq (slice_cmp nat_cmp cs ks) ≡ false
apart bs cs ks n y =
    let at : bytes_eq bs ks ≡ true = sym (is_eq-slice_cmp bs ks) ∙ y in
    is_eq-slice_cmp cs ks ∙ nat_list_eq_equiv.symm cs ks ∙ sym (nat_list_eq_equiv.congr bs ks cs at) ∙ n

module _ {K X : Type 0} (bytes : K → List ℕ) where
  -- the value at these bytes
  abbrev pub at_bytes : BTreeMap K X → List ℕ → Option X
  at_bytes m name = get_by (λ k. slice_cmp nat_cmp name (bytes k)) m

  others_stay : (bs cs : List ℕ) (old new : List (K × X)) → KeepsOthers (eq_by_cmp (λ x y. slice_cmp nat_cmp (bytes x) (bytes y))) (is_at (λ k. slice_cmp nat_cmp bs (bytes k))) old new → bytes_eq bs cs ≡ false → lookup (is_at (λ k. slice_cmp nat_cmp cs (bytes k))) new ≡ lookup (is_at (λ k. slice_cmp nat_cmp cs (bytes k))) old
  unfolding KeepsOthers
  others_stay bs cs old new h e = h _ (λ x y. (eq_by_cmp_equiv nat_list_cmp_total).congr cs (bytes x) (bytes y)) (λ k. apart bs cs (bytes k) e)

  -- at each other bytes it has what it had
  pub bytes_updated : (bs : List ℕ) (m n : BTreeMap K X) (w : Option X) → UpdatesBy (λ x y. slice_cmp nat_cmp (bytes x) (bytes y)) (λ k. slice_cmp nat_cmp bs (bytes k)) m n w
      → (cs : List ℕ) → at_bytes n cs ≡ cond (bytes_eq bs cs) w (at_bytes m cs)
  bytes_updated bs m n w h cs = elim (cases_Bool (bytes_eq bs cs)) [
    | inl y ↦ subst (λ l. at_bytes n l ≡ w) ((bytes_decides bs cs).0 y) h.1 ∙ sym (cond-true (bytes_eq bs cs) w (at_bytes m cs) y)
    | inr apart_is ↦ others_stay bs cs m.entries n.entries h.3 apart_is ∙ sym (cond-false (bytes_eq bs cs) w (at_bytes m cs) apart_is)
  ]

none_of : {X : Type 0} (o : Option X) → is_some o ≡ false → o ≡ None
none_of None e = refl
none_of (Some x) e = cc

or_none : {X : Type 0} (o : Option X) → o ≡ option_or o None
or_none None = refl
or_none (Some x) = refl

-- where nothing stood under the name, its place stands there now, and all else is as before
pub adds_place : (old_at : List ℕ → Option ℕ) (name other : List ℕ) (place : ℕ) (new : Option ℕ) → is_some (old_at name) ≡ false → new ≡ cond (bytes_eq name other) (Some place) (old_at other)
    → new ≡ option_or (old_at other) (place_if (bytes_eq name other) place)
adds_place old_at name other place new absent e = elim (cases_Bool (bytes_eq name other)) [
  | inl y ↦
      let here : old_at other ≡ None = subst (λ l. old_at l ≡ None) ((bytes_decides name other).0 y) (none_of (old_at name) absent) in
      rw (e, here, y) refl
  | inr apart_is ↦ rw (e, apart_is) (or_none (old_at other))
]
