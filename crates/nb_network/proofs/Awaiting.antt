-- What is said of the opens that are tied and of the newest objects goes on where something comes to one open.
use Rattle.std.proofs.Common.{◌≡◌, ◌⊎◌, inl, inr, ℕ, ◌≤◌, ◌==◌, Bool, true, false, cond, List, [], ◌∷◌, ◌++◌, Option, Some, None, refl, sym, ◌∙◌, subst}
use Rattle.std.specs.Option.{option_or}
use Rattle.std.specs.List.{AllByRecursion}
use Rattle.std.proofs.lemmas.Bool.{eqb-true}
use Rattle.nb_frames.specs.Frames.{is_one_of}
use Rattle.nb_graph.specs.Whole.{Objects}
use Rattle.nb_ledger.specs.Ledger.{object_lives, run_state}
use Rattle.nb_ledger.specs.declared.event.Way.{Way}
use Rattle.nb_nodes.specs.declared.obj.Obj.{Obj}
use Rattle.nb_defs.specs.Records.{Out}
use Rattle.nb_teller.specs.Spelling.{Spelling}
use Rattle.nb_chains.specs.declared.chain.Chain.{Chain}
use Rattle.nb_chains.specs.Chains.{AreChained}
use Rattle.nb_traced.specs.Outputs.{own_serials}
use Rattle.nb_traced.specs.Pieces.{IsCallOn}
use Rattle.nb_traced.proofs.StateLemmas.{run_leaves}
use Rattle.nb_open.specs.declared.ended.Ended.{Ended}
use Rattle.nb_network.specs.declared.living.Living.{Living}
use Rattle.nb_open.specs.DriveAnswers.{found_bytes}
use Rattle.nb_open.specs.Objects.{objects_ids}
use Rattle.nb_network.specs.declared.over.HasEnded.{HasEnded}
use Rattle.nb_network.specs.Many.{HasNoneTied, HasTiedOnlyOf, IsNewestBut, IsOfNumber, IsUntied, IsUntiedBut, Many, kin_of}
use Rattle.nb_network.specs.Steps.{GoesOnSo, answer_for}
use Rattle.nb_network.specs.Takes.{still_awaited}
use Rattle.nb_network.proofs.Lists.{HasOtherNumber, all_both, all_but}
use Rattle.nb_network.proofs.Ports.{either_test}
use Rattle.nb_network.proofs.Traces.{own_are}
use Rattle.nb_network.specs.Drives.{DriveNews, has_answered, noted, last_read_by}
use Rattle.nb_network.proofs.Noting.{all_noted, of_number_noted}

-- one after another
pub so_both : (says : Option ℕ → Many → Type 0) (awaited : Option ℕ) (a b : Option HasEnded) (m m1 m2 : Many) → GoesOnSo says awaited a m m1 → GoesOnSo says awaited b m1 m2 → GoesOnSo says awaited (option_or a b) m m2
so_both says awaited None b m m1 m2 f g = ((λ x. g.0 (f.0 x)), (λ x. g.1 (f.1 x)))
so_both says awaited (Some e) b m m1 m2 f g = ((λ x. g.0 (f.0 x)), (λ x. g.0 (f.1 x)))

-- nothing changes in what it is said of
pub so_same : (says : Option ℕ → Many → Type 0) (awaited : Option ℕ) (m m' : Many) → ((k : Option ℕ) → says k m → says k m') → GoesOnSo says awaited None m m'
so_same says awaited m m' f = (f None, f awaited)

-- an object that lives after a call lived before it
pub lived : (o : Living) (by : Option Way) (records : List Out) (x : ℕ) (g h : Objects Obj) → IsCallOn o.speaker.number (own_serials (kin_of o)) x by records (run_state g.book []) (run_state h.book []) → AreChained g (objects_ids o.objects) → (y : ℕ) → object_lives h.book y ≡ true → object_lives g.book y ≡ true
lived o by records x g h call chained y live =
    either_test (is_one_of (own_serials (kin_of o)) y)
    (λ t. chained.lives y (subst (λ z. is_one_of z y ≡ true) (own_are o) t))
    (λ f. sym ((run_leaves (is_one_of (own_serials (kin_of o))) call.events (run_state g.book []) (run_state h.book []) call.within call.run).live y f) ∙ live)

-- IT GOES ON

module _ (g h : Objects Obj) (list list' before : List Living) (o : Living) (behind : List Living) (heard : DriveNews) (is : list ≡ before ++ o ∷ behind) (new : list' ≡ before ++ noted heard o ∷ behind) (back : (y : ℕ) → object_lives h.book y ≡ true → object_lives g.book y ≡ true) where
  newest_on : (c : Chain) (k : Option ℕ) → IsNewestBut k c (record { graph = g; list = list }) → IsNewestBut k c (record { graph = h; list = list' })
  newest_on c None n = λ y live. n y (back y live)
  newest_on c (Some k) n = λ y live. by y (n y (back y live))
    where
      by : (y : ℕ) → IsOfNumber k y list ⊎ (y ≤ c.top.0) → IsOfNumber k y list' ⊎ (y ≤ c.top.0)
      by y (inl i) = inl (subst (IsOfNumber k y) (sym new) (of_number_noted heard k y before o behind (subst (IsOfNumber k y) is i)))
      by y (inr i) = inr i

  tied_on : (k : Option ℕ) → HasTiedOnlyOf k (record { graph = g; list = list }) → HasTiedOnlyOf k (record { graph = h; list = list' })
  tied_on None n = subst (AllByRecursion IsUntied) (sym new) (all_noted heard IsUntied before o behind (λ u. u) (subst (AllByRecursion IsUntied) is n))
  tied_on (Some k) n = subst (AllByRecursion (IsUntiedBut k)) (sym new) (all_noted heard (IsUntiedBut k) before o behind (λ u. u) (subst (AllByRecursion (IsUntiedBut k)) is n))

  pub newest_stays : (awaited : Option ℕ) (c : Chain) → GoesOnSo (λ k z. IsNewestBut k c z) awaited None (record { graph = g; list = list }) (record { graph = h; list = list' })
  newest_stays awaited c = (newest_on c None, newest_on c awaited)

  pub tied_stay : (awaited : Option ℕ) → GoesOnSo HasTiedOnlyOf awaited None (record { graph = g; list = list }) (record { graph = h; list = list' })
  tied_stay awaited = (tied_on None, tied_on awaited)

-- IT ENDS

of_number_parts : (k y : ℕ) (before : List Living) (o : Living) (behind : List Living) → IsOfNumber k y (before ++ o ∷ behind) → IsOfNumber k y (before ++ behind) ⊎ ((o.speaker.number ≡ k) × (is_one_of (objects_ids o.objects) y ≡ true))
of_number_parts k y [] o behind (inl i) = inr i
of_number_parts k y [] o behind (inr i) = inl i
of_number_parts k y (p ∷ before) o behind (inl i) = inl (inl i)
of_number_parts k y (p ∷ before) o behind (inr i) = by (of_number_parts k y before o behind i)
  where
    by : IsOfNumber k y (before ++ behind) ⊎ ((o.speaker.number ≡ k) × (is_one_of (objects_ids o.objects) y ≡ true)) → IsOfNumber k y ((p ∷ before) ++ behind) ⊎ ((o.speaker.number ≡ k) × (is_one_of (objects_ids o.objects) y ≡ true))
    by (inl j) = inl (inr j)
    by (inr j) = inr j

not_of_number : (k y : ℕ) (os : List Living) → AllByRecursion (λ o. o.speaker.number ≡ k → ⊥) os → IsOfNumber k y os → ⊥
not_of_number k y [] a i = i
not_of_number k y (o ∷ os) a (inl i) = a.0 i.0
not_of_number k y (o ∷ os) a (inr i) = not_of_number k y os a.1 i

module _ (g h : Objects Obj) (list list' : List Living) (before : List Living) (o : Living) (behind : List Living) (is : list ≡ before ++ o ∷ behind) (new : list' ≡ before ++ behind) (back : (y : ℕ) → object_lives h.book y ≡ true → object_lives g.book y ≡ true)
    (gone : (y : ℕ) → is_one_of (objects_ids o.objects) y ≡ true → object_lives h.book y ≡ false) (differ : AllByRecursion (HasOtherNumber o) (before ++ behind)) where
  others_differ : (k : ℕ) → o.speaker.number ≡ k → AllByRecursion (λ p. p.speaker.number ≡ k → ⊥) (before ++ behind)
  others_differ k e = subst (λ z. AllByRecursion (λ p. p.speaker.number ≡ z → ⊥) (before ++ behind)) e differ

  parts : (k y : ℕ) (c : Chain) → object_lives h.book y ≡ true → IsNewestBut (Some k) c (record { graph = g; list = list }) → IsOfNumber k y (before ++ behind) ⊎ (y ≤ c.top.0)
  parts k y c live n = by (n y (back y live))
    where
      from : IsOfNumber k y (before ++ behind) ⊎ ((o.speaker.number ≡ k) × (is_one_of (objects_ids o.objects) y ≡ true)) → IsOfNumber k y (before ++ behind) ⊎ (y ≤ c.top.0)
      from (inl i) = inl i
      from (inr i) = absurd (let no : true ≡ false = sym live ∙ gone y i.1 in cc)

      by : IsOfNumber k y list ⊎ (y ≤ c.top.0) → IsOfNumber k y (before ++ behind) ⊎ (y ≤ c.top.0)
      by (inl i) = from (of_number_parts k y before o behind (subst (IsOfNumber k y) is i))
      by (inr i) = inr i

  newest_by : (k : ℕ) (c : Chain) (x : Living) (e : Ended) (s : Spelling) (b : Bool) → (o.speaker.number == k) ≡ b → IsNewestBut (Some k) c (record { graph = g; list = list }) →
      IsNewestBut (still_awaited (Some k) (cond b (Some (record { number = o.speaker.number; cause = e.cause; body = e.body; moved = e.moved; bytes = found_bytes o.objects s.bytes; address = s.address; answered = has_answered x; read = last_read_by x })) None)) c (record { graph = h; list = list' })
  newest_by k c x e s true t n = λ y live. by y (parts k y c live n)
    where
      by : (y : ℕ) → IsOfNumber k y (before ++ behind) ⊎ (y ≤ c.top.0) → y ≤ c.top.0
      by y (inl i) = absurd (not_of_number k y (before ++ behind) (others_differ k (eqb-true o.speaker.number k t)) i)
      by y (inr i) = i
  newest_by k c x e s false f n = λ y live. subst (λ os. IsOfNumber k y os ⊎ (y ≤ c.top.0)) (sym new) (parts k y c live n)

  tied_by : (k : ℕ) (x : Living) (e : Ended) (s : Spelling) (b : Bool) → (o.speaker.number == k) ≡ b → HasTiedOnlyOf (Some k) (record { graph = g; list = list }) →
      HasTiedOnlyOf (still_awaited (Some k) (cond b (Some (record { number = o.speaker.number; cause = e.cause; body = e.body; moved = e.moved; bytes = found_bytes o.objects s.bytes; address = s.address; answered = has_answered x; read = last_read_by x })) None)) (record { graph = h; list = list' })
  tied_by k x e s true t n = subst (AllByRecursion IsUntied) (sym new)
      (all_both (λ p. p.speaker.number ≡ k → ⊥) (IsUntiedBut k) IsUntied (before ++ behind) (λ p d f. f d) (others_differ k (eqb-true o.speaker.number k t)) (all_but (IsUntiedBut k) before o behind (subst (AllByRecursion (IsUntiedBut k)) is n)))
  tied_by k x e s false f n = subst (AllByRecursion (IsUntiedBut k)) (sym new) (all_but (IsUntiedBut k) before o behind (subst (AllByRecursion (IsUntiedBut k)) is n))

  newest_none : (c : Chain) → IsNewestBut None c (record { graph = g; list = list }) → IsNewestBut None c (record { graph = h; list = list' })
  newest_none c n = λ y live. n y (back y live)

  tied_none : HasNoneTied (record { graph = g; list = list }) → HasNoneTied (record { graph = h; list = list' })
  tied_none n = subst (AllByRecursion IsUntied) (sym new) (all_but IsUntied before o behind (subst (AllByRecursion IsUntied) is n))

  pub newest_ends : (awaited : Option ℕ) (heard : DriveNews) (c : Chain) (e : Ended) (s : Spelling) → GoesOnSo (λ k z. IsNewestBut k c z) awaited (answer_for awaited (noted heard o) e s) (record { graph = g; list = list }) (record { graph = h; list = list' })
  newest_ends None heard c e s = (newest_none c, newest_none c)
  newest_ends (Some k) heard c e s = (newest_none c, newest_by k c (noted heard o) e s (o.speaker.number == k) refl)

  pub tied_ends : (awaited : Option ℕ) (heard : DriveNews) (e : Ended) (s : Spelling) → GoesOnSo HasTiedOnlyOf awaited (answer_for awaited (noted heard o) e s) (record { graph = g; list = list }) (record { graph = h; list = list' })
  tied_ends None heard e s = (tied_none, tied_none)
  tied_ends (Some k) heard e s = (tied_none, tied_by k (noted heard o) e s (o.speaker.number == k) refl)
