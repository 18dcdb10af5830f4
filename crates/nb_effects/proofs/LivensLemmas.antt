-- Bytes on links through calls that may make objects.
use Rattle.nb_effects.specs.Trace.{Nature}
use Rattle.std.proofs.Common.{◌≡◌, ℕ, ◌≤◌, inl, inr, ◌⊎◌, true, false, List, [], ◌++◌, Option, Some, None, refl, ap, sym, ◌∙◌, subst}
use Rattle.std.proofs.lemmas.Bool.{cases_eq}
use Rattle.nb_ledger.specs.declared.port.Port.{Port}
use Rattle.nb_ledger.specs.Ledger.{Ledger, busy}
use Rattle.nb_effects.specs.Deeds.{Deed}
use Rattle.nb_effects.specs.Accounts.{Account, JoinedEnds, account}
use Rattle.nb_effects.specs.Moves.{Calms, Livens, always, none_due}
use Rattle.nb_effects.proofs.AccountLemmas.{account-append, Midway-append}

pub port-eq : (p q : Port) → p.obj.0 ≡ q.obj.0 → p.slot ≡ q.slot → p ≡ q
port-eq p q a b = subst (λ s. p ≡ record { obj = q.obj; slot = s }) b (subst (λ x. p ≡ record { obj = record { 0 = x }; slot = p.slot }) a refl)

-- two ports are one, or differ
pub cases_ports : (p q : Port) → (p ≡ q) ⊎ (p ≡ q → ⊥)
cases_ports p q = elim (cases_eq p.obj.0 q.obj.0) [
  | inl a ↦ elim (cases_eq p.slot q.slot) [ inl b ↦ inl (port-eq p q a b) | inr b ↦ inr (λ e. b (ap (λ z. z.slot) e)) ]
  | inr a ↦ inr (λ e. a (ap (λ z. z.obj.0) e))
]

pub cases_peer : (m : Option Port) (q : Port) → (m ≡ Some q) ⊎ (m ≡ Some q → ⊥)
cases_peer None q = inr (λ e. cc)
cases_peer (Some p) q = elim (cases_ports p q) [ inl e ↦ inl (ap Some e) | inr n ↦ inr (λ e. n (cc)) ]

pub Livens-calm : {N L : Type 0} {known : Nature N L} {a b : Ledger} {f : Port → Port → Account → List ℕ → List ℕ → Type 0} {ready : Port → Account → Type 0} {due : Port → Account → List ℕ} {ds : List (Deed N L)} → Calms known a b f ds → Livens known a b ready due f ds
Livens-calm k = record {
  quiet = λ q b o r e. k.quiet q b o e;
  joins = λ p q x y w v i j. (k.joins p q x y w v i j, k.enters q y);
  midway = k.midway;
  newly = λ p q x y r n. k.apart p q x y n;
  news = λ p q x y r n e. absurd (n (sym (k.peers p x) ∙ e));
}

pub Livens-weaken : {N L : Type 0} {known : Nature N L} {a b : Ledger} {f g : Port → Port → Account → List ℕ → List ℕ → Type 0} {ready : Port → Account → Type 0} {due : Port → Account → List ℕ} {ds : List (Deed N L)} → Livens known a b ready due f ds → ((p q : Port) (x y : Account) (w v : List ℕ) → g p q y w v → JoinedEnds a p q x.sent y.taken w → f p q y w v) → Livens known a b ready due g ds
Livens-weaken k less = record { quiet = k.quiet; joins = λ p q x y w v i j. k.joins p q x y w v (less p q x y w v i j) j; midway = λ p q x y w v i j. k.midway p q x y w v (less p q x y w v i j) j; newly = k.newly; news = k.news }

-- one call after the other
pub Livens-then : {N L : Type 0} {known : Nature N L} {a b c : Ledger} {f g h : Port → Port → Account → List ℕ → List ℕ → Type 0} {ready : Port → Account → Type 0} {ds es : List (Deed N L)} → Livens known a b ready none_due f ds → Livens known b c always none_due g es → ((x : ℕ) → busy b x ≡ busy a x) → ((p q : Port) (x y : Account) (w v : List ℕ) → h p q y w v → JoinedEnds a p q x.sent y.taken w → (u : List ℕ) × f p q y w u × (JoinedEnds b p q (account known p x ds).sent (account known q y ds).taken u → (y.entered ≡ true → (account known q y ds).entered ≡ true) → (1 ≤ q.slot → busy a q.obj.0 ≡ true → y.entered ≡ false → (account known q y ds).entered ≡ false) → g p q (account known q y ds) u v)) → ((p q : Port) (y : Account) → (p.slot ≡ 0 → busy a p.obj.0 ≡ false) → (1 ≤ q.slot → busy a q.obj.0 ≡ true → y.entered ≡ false) → g p q y [] []) → Livens known a c ready none_due h (ds ++ es)
Livens-then {known = known} {c = c} {ds = ds} {es = es} k l same split nils = record {
  quiet = λ q y o r e. ap (λ z. z.entered) (account-append known q y ds es) ∙ l.quiet q (account known q y ds) o (same q.obj.0 ∙ r) (k.quiet q y o r e);
  joins = λ p q x y w v i j.
      let s = split p q x y w v i j in
      let mid = k.joins p q x y w s.0 s.1 j in
      let last = l.joins p q (account known p x ds) (account known q y ds) s.0 v (s.2 mid.0 mid.1 (k.quiet q y)) mid.0 in
      rw (account-append known p x ds es, account-append known q y ds es) (last.0, λ e. last.1 (mid.1 e));
  midway = λ p q x y w v i j.
      let s = split p q x y w v i j in
      let mid = k.joins p q x y w s.0 s.1 j in
      Midway-append known p q x y ds es (k.midway p q x y w s.0 s.1 j) (l.midway p q (account known p x ds) (account known q y ds) s.0 v (s.2 mid.0 mid.1 (k.quiet q y)) mid.0);
  newly = λ p q x y r n. Midway-append known p q x y ds es (k.newly p q x y r n) (elim (cases_peer (account known p x ds).peer q) [
    | inl m ↦ let s = k.news p q x y r n m in l.midway p q (account known p x ds) (account known q y ds) [] [] (nils p q (account known q y ds) s.1 s.2) s.0
    | inr m ↦ l.newly p q (account known p x ds) (account known q y ds) tt m
  ]);
  news = λ p q x y r n e.
      let i = sym (ap (λ z. z.peer) (account-append known p x ds es)) ∙ e in
      rw (account-append known p x ds es, account-append known q y ds es) (elim (cases_peer (account known p x ds).peer q) [
        | inl m ↦
            let s = k.news p q x y r n m in
            let last = l.joins p q (account known p x ds) (account known q y ds) [] [] (nils p q (account known q y ds) s.1 s.2) s.0 in
            (last.0, s.1, λ o t. l.quiet q (account known q y ds) o (same q.obj.0 ∙ t) (s.2 o t))
        | inr m ↦
            let s = l.news p q (account known p x ds) (account known q y ds) tt m i in
            (s.0, (λ o. sym (same p.obj.0) ∙ s.1 o), λ o t. s.2 o (same q.obj.0 ∙ t))
      ]);
}
