-- Bytes on links through the effects of an entry: makes, downs, ups, closes.
use Rattle.nb_effects.proofs.AccountLemmas.{Midway-append}
use Rattle.nb_effects.specs.Trace.{Nature}
use Rattle.std.proofs.Common.{◌≡◌, ℕ, ◌≤◌, inl, inr, true, false, List, [], ◌++◌, Option, Some, None, IfSome, refl, ap, sym, ◌∙◌, subst, append_assoc, append-nil, arith}
use Rattle.std.proofs.lemmas.Bool.{cases_eq, cases_Bool, eq-eqb, ne_eqb, false≢true}
use Rattle.nb_ledger.specs.declared.port.Port.{Port}
use Rattle.nb_ledger.specs.Ledger.{Ledger, busy}
use Rattle.nb_effects.specs.declared.effects.Emit.{Emit}
use Rattle.nb_effects.specs.declared.effects.Fx.{Fx}
use Rattle.nb_effects.specs.Deeds.{Deed}
use Rattle.nb_effects.specs.Effects.{AreDowns, AreUps, IsUp}
use Rattle.nb_effects.specs.Whole.{port_at}
use Rattle.nb_effects.specs.Accounts.{Account, account, emit_bytes, few_bytes, fx_bytes}
use Rattle.nb_effects.specs.Flows.{IsClear, Closing, Downs, Delivering, DoesEffects, Leaves, Making, by_no_slot}
use Rattle.nb_effects.specs.Moves.{Livens, HasAsked, always, asked_due, none_due}
use Rattle.nb_effects.proofs.LivensLemmas.{Livens-then, cases_peer, port-eq}
use Rattle.nb_effects.proofs.AccountLemmas.{account-append}
use Rattle.nb_effects.proofs.FlowLemmas.{emit-elsewhere, few-zero}
use Rattle.nb_effects.proofs.RiseLemmas.{quiet-none, quiet-same, quiet-clear}

-- what an entry sends downwards, and upwards
pub downs-bytes : {N L : Type 0} (known : Nature N L) (bytes : List ℕ) (len : ℕ) (fx : Fx N L) → AreUps len fx.ups → (k : ℕ) → 1 ≤ k → fx_bytes known k bytes fx ≡ few_bytes known k bytes fx.downs
downs-bytes {N} {L} known bytes len fx u k o = ap (λ z. few_bytes known k bytes fx.downs ++ (z ++ emit_bytes known k bytes fx.ups.second)) (none fx.ups.first u.1) ∙ ap (λ z. few_bytes known k bytes fx.downs ++ z) (none fx.ups.second u.2) ∙ append-nil (few_bytes known k bytes fx.downs)
  where
    none : (e : Option (Emit L)) → IfSome e (IsUp len) → emit_bytes known k bytes e ≡ []
    none None h = refl
    none (Some e) h = emit-elsewhere known bytes k e (λ z. let i = h.0 in absurd (omega arith))

pub ups-bytes : {N L : Type 0} (known : Nature N L) (bytes : List ℕ) (len : ℕ) (fx : Fx N L) → AreDowns len fx.downs → fx_bytes known 0 bytes fx ≡ few_bytes known 0 bytes fx.ups
ups-bytes known bytes len fx d = ap (λ z. z ++ few_bytes known 0 bytes fx.ups) (few-zero known bytes len fx.downs d)

-- the ups and then the closes of x
ups-closes : (c d : Ledger) (x : ℕ) (mu : List ℕ) (p q : Port) (y z : Account) (w v : List ℕ) → Leaves c (port_at x 0) mu p q y w v → Closing d x p q z v v
ups-closes c d x mu p q y z w v (inl i) = inr (refl, inl (ap (λ u. u.obj.0) i.0))
ups-closes c d x mu p q y z w v (inr i) = inr (refl, inr (subst (IsClear d p x) i.2 (quiet-clear c d p x w i.1)))

pub Livens-ups : {N L : Type 0} {known : Nature N L} {c d e : Ledger} {ds es : List (Deed N L)} (x : ℕ) (mu : List ℕ) → ((y : ℕ) → busy d y ≡ busy c y) → Livens known c d always none_due (Leaves c (port_at x 0) mu) ds → Livens known d e always none_due (Closing d x) es → Livens known c e always none_due (Leaves c (port_at x 0) mu) (ds ++ es)
Livens-ups {known = known} {c = c} {d = d} {ds = ds} x mu same k l = Livens-then k l same (λ p q a y w v i j. (v, i, λ _ _ _. ups-closes c d x mu p q y (account known q y ds) w v i)) (λ p q y n f. inr (refl, inr (inr (inl refl))))

-- the downs before them
pub Livens-downs : {N L : Type 0} {known : Nature N L} {b c e : Ledger} {ds es : List (Deed N L)} (x : ℕ) (sent md : ℕ → List ℕ) (mu : List ℕ) → busy b x ≡ true → ((k : ℕ) → 1 ≤ k → sent k ≡ md k) → sent 0 ≡ mu → ((y : ℕ) → busy c y ≡ busy b y) → Livens known b c always none_due (Downs b x md) ds → Livens known c e always none_due (Leaves c (port_at x 0) mu) es → Livens known b e always none_due (DoesEffects b x sent) (ds ++ es)
Livens-downs {known = known} {b = b} {c = c} {ds = ds} x sent md mu runs low high same k l =
    Livens-then k l same (λ p q a y w v i j. let s = go p q y (account known q y ds) w v i in (s.0, s.1, λ _ _ _. s.2)) (λ p q y n f. inr ((λ z. false≢true (sym (n (ap (λ u. u.slot) z)) ∙ ap (λ u. busy b u.obj.0) z ∙ runs)), quiet-none c p, refl))
  where
    go : (p q : Port) (y z : Account) (w v : List ℕ) → DoesEffects b x sent p q y w v → (u : List ℕ) × Downs b x md p q y w u × Leaves c (port_at x 0) mu p q z u v
    go p q y z w v (inr (n, quiet, h)) = (w, inr (inr ((λ o. absurd (n o)), refl, quiet-clear b b p x w quiet)), inr ((λ o. n (ap (λ u. u.obj.0) o)), quiet-same b c p w same quiet, h))
    go p q y z w v (inl (o, e, h)) = elim (cases_eq p.slot 0) [
      | inl i ↦ (w, inr (inr ((λ _. i), refl, inl i)), inl (port-eq p (port_at x 0) o i, same p.obj.0 ∙ ap (busy b) o ∙ runs, e ∙ ap sent i ∙ high ∙ sym (append-nil mu) ∙ ap (λ u. mu ++ u) (sym h)))
      | inr i ↦ ([], inr (inl (o, omega arith, e ∙ low p.slot (omega arith), refl)), inr ((λ u. i (ap (λ t. t.slot) u)), quiet-none c p, sym h))
    ]

-- and what was made before that
pub Livens-effects : {N L : Type 0} {known : Nature N L} {a b e : Ledger} {ds es : List (Deed N L)} (x : ℕ) (sent : ℕ → List ℕ) → ((y : ℕ) → busy b y ≡ busy a y) → Livens known a b always (asked_due x) (Making a x) ds → Livens known b e always none_due (DoesEffects b x sent) es → Livens known a e (HasAsked x sent) none_due (DoesEffects a x sent) (ds ++ es)
Livens-effects {known = known} {a = a} {b = b} {e = e} {ds = ds} {es = es} x sent same k l = record {
  quiet = λ q y o r h. ap (λ z. z.entered) (account-append known q y ds es) ∙ l.quiet q (account known q y ds) o (same q.obj.0 ∙ r) (k.quiet q y o r h);
  joins = λ p q c y w v i j.
      let s = makes p q y (account known q y ds) w v i in
      let mid = k.joins p q c y w w s.0 j in
      let last = l.joins p q (account known p c ds) (account known q y ds) w v s.1 mid.0 in
      rw (account-append known p c ds es, account-append known q y ds es) (last.0, λ h. last.1 (mid.1 h));
  midway = λ p q c y w v i j.
      let s = makes p q y (account known q y ds) w v i in
      let mid = k.joins p q c y w w s.0 j in
      Midway-append known p q c y ds es (k.midway p q c y w w s.0 j) (l.midway p q (account known p c ds) (account known q y ds) w v s.1 mid.0);
  newly = λ p q c y r n. Midway-append known p q c y ds es (k.newly p q c y tt n) (elim (cases_peer (account known p c ds).peer q) [
    | inl m ↦ l.midway p q (account known p c ds) (account known q y ds) (asked_due x p c) [] (pends p q c (account known q y ds) r) (k.news p q c y tt n m).0
    | inr m ↦ l.newly p q (account known p c ds) (account known q y ds) tt m
  ]);
  news = λ p q c y r n i.
      let j = sym (ap (λ z. z.peer) (account-append known p c ds es)) ∙ i in
      rw (account-append known p c ds es, account-append known q y ds es) (elim (cases_peer (account known p c ds).peer q) [
        | inl m ↦
            let s = k.news p q c y tt n m in
            let last = l.joins p q (account known p c ds) (account known q y ds) (asked_due x p c) [] (pends p q c (account known q y ds) r) s.0 in
            (last.0, s.1, λ o t. l.quiet q (account known q y ds) o (same q.obj.0 ∙ t) (s.2 o t))
        | inr m ↦
            let s = l.news p q (account known p c ds) (account known q y ds) tt m j in
            (s.0, (λ o. sym (same p.obj.0) ∙ s.1 o), λ o t. s.2 o (same q.obj.0 ∙ t))
      ]);
}
  where
    makes : (p q : Port) (y z : Account) (w v : List ℕ) → DoesEffects a x sent p q y w v → Making a x p q y w w × DoesEffects b x sent p q z w v
    makes p q y z w v (inl i) = ((refl, inl i.0), inl i)
    makes p q y z w v (inr (n, quiet, h)) = ((refl, inr quiet), inr (n, quiet-same a b p w same quiet, h))

    pends : (p q : Port) (c z : Account) → HasAsked x sent p c → DoesEffects b x sent p q z (asked_due x p c) []
    pends p q c z r = elim (cases_eq p.obj.0 x) [
      | inl o ↦ inl (o, rw (eq-eqb p.obj.0 x o) (r o), refl)
      | inr o ↦ rw (ne_eqb p.obj.0 x o) (inr (o, quiet-none b p, refl))
    ]

-- what is left of a message is given after the effects
pub Livens-rest : {N L : Type 0} {known : Nature N L} {a b c : Ledger} {ds es : List (Deed N L)} (at : Port) (m : List ℕ) (sent : ℕ → List ℕ) → 1 ≤ at.slot → busy a at.obj.0 ≡ true → ((y : ℕ) → busy b y ≡ busy a y) → Livens known a b (HasAsked at.obj.0 sent) none_due (DoesEffects a at.obj.0 sent) ds → Livens known b c always none_due (Delivering b at m by_no_slot) es → Livens known a c (HasAsked at.obj.0 sent) none_due (Delivering a at m sent) (ds ++ es)
Livens-rest {known = known} {a = a} {b = b} {ds = ds} at m sent one runs same k l =
    Livens-then k l same (λ p q x y w v i j. let s = go p q y (account known q y ds) w v i in (s.0, s.1, λ _. s.2)) nils
  where
    go : (p q : Port) (y z : Account) (w v : List ℕ) → Delivering a at m sent p q y w v → (u : List ℕ) × DoesEffects a at.obj.0 sent p q y w u × ((y.entered ≡ true → z.entered ≡ true) → (1 ≤ q.slot → busy a q.obj.0 ≡ true → y.entered ≡ false → z.entered ≡ false) → Delivering b at m by_no_slot p q z u v)
    go p q y z w v (inl (o, e, h)) = ([], inl (o, e, refl), λ _ _. inl (o, refl, h))
    go p q y z w v (inr (n, quiet, inl (g, en, h))) = (w, inr (n, quiet, refl), λ up _. inr (n, quiet-same a b p w same quiet, inl (g, up en, h)))
    go p q y z w v (inr (n, quiet, inr (g, h))) = (
      w,
      inr (n, quiet, refl),
      λ _ down. inr (
        n,
        quiet-same a b p w same quiet,
        inr (
          (λ i. elim (cases_Bool y.entered) [
            | inl k ↦ g (i.0, k)
            | inr k ↦ false≢true (sym (down (rw (ap (λ u. u.slot) i.0) one) (ap (λ u. busy a u.obj.0) i.0 ∙ runs) k) ∙ i.1)
          ]),
          h,
        ),
      ),
    )

    nils : (p q : Port) (y : Account) → (p.slot ≡ 0 → busy a p.obj.0 ≡ false) → (1 ≤ q.slot → busy a q.obj.0 ≡ true → y.entered ≡ false) → Delivering b at m by_no_slot p q y [] []
    nils p q y n f = elim (cases_eq p.obj.0 at.obj.0) [
      | inl o ↦ inl (o, refl, refl)
      | inr o ↦ inr (o, quiet-none b p, inr ((λ i. false≢true (sym (f (rw (ap (λ u. u.slot) i.0) one) (ap (λ u. busy a u.obj.0) i.0 ∙ runs)) ∙ i.1)), refl))
    ]

-- two ups, one after the other
pub Livens-few : {N L : Type 0} {known : Nature N L} {a b c : Ledger} {ds es : List (Deed N L)} (x : ℕ) (m1 m2 : List ℕ) → busy a x ≡ true → ((y : ℕ) → busy b y ≡ busy a y) → Livens known a b always none_due (Leaves a (port_at x 0) m1) ds → Livens known b c always none_due (Leaves b (port_at x 0) m2) es → Livens known a c always none_due (Leaves a (port_at x 0) (m1 ++ m2)) (ds ++ es)
Livens-few {known = known} {a = a} {b = b} {ds = ds} x m1 m2 runs same k l =
    Livens-then k l same (λ p q c y w v i j. let s = go p q y (account known q y ds) w v i in (s.0, s.1, λ _ _ _. s.2)) (λ p q y n f. inr ((λ z. false≢true (sym (n (ap (λ u. u.slot) z)) ∙ ap (λ u. busy a u.obj.0) z ∙ runs)), quiet-none b p, refl))
  where
    go : (p q : Port) (y z : Account) (w v : List ℕ) → Leaves a (port_at x 0) (m1 ++ m2) p q y w v → (u : List ℕ) × Leaves a (port_at x 0) m1 p q y w u × Leaves b (port_at x 0) m2 p q z u v
    go p q y z w v (inl (e, r, h)) = (m2 ++ v, inl (e, r, h ∙ append_assoc m1 m2 v), inl (e, same p.obj.0 ∙ r, refl))
    go p q y z w v (inr (n, quiet, h)) = (w, inr (n, quiet, refl), inr (n, quiet-same a b p w same quiet, h))
