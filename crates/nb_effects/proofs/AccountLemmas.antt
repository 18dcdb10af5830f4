-- Accounts after one deed and after many, and what keeps links.
use Rattle.nb_effects.specs.Trace.{Nature}
use Rattle.std.proofs.Common.{◌≡◌, ℕ, ◌⊎◌, inl, inr, List, [], ◌∷◌, ◌++◌, refl, ap, sym, ◌∙◌, subst}
use Rattle.nb_ledger.specs.declared.port.Port.{Port}
use Rattle.nb_ledger.specs.declared.event.GraphEvent.{GraphEvent}
use Rattle.nb_ledger.specs.Ledger.{Ledger, port, open_count}
use Rattle.nb_effects.specs.Deeds.{Deed, writes, begins, calls, turns, Turn}
use Rattle.nb_effects.specs.Accounts.{Account, JoinedEnds, Midway, joined, parted, account, after_note, rests}
use Rattle.nb_effects.specs.Flows.{IsShut, Still}
use Rattle.nb_effects.specs.Moves.{Calms, Mild}

pub account-append : {N L : Type 0} (known : Nature N L) (p : Port) (a : Account) (ds es : List (Deed N L)) → account known p a (ds ++ es) ≡ account known p (account known p a ds) es
account-append known p a [] es = refl
account-append known p a (writes e ∷ ds) es = account-append known p (after_note p a e) ds es
account-append known p a (calls y e ∷ ds) es = account-append known p _ ds es
account-append known p a (begins y n ∷ ds) es = account-append known p a ds es
account-append known p a (turns u ∷ ds) es = account-append known p a ds es

-- what was taken is the first of what was sent
pub start-joined : {l : Ledger} {p q : Port} {s t w : List ℕ} → JoinedEnds l p q s t w → (rest : List ℕ) × (s ≡ t ++ rest)
start-joined {w = w} (joined a b c d e) = (w, e)
start-joined (parted a b c d r e) = (r, e)

pub Midway-append : {N L : Type 0} (known : Nature N L) (p q : Port) (a b : Account) (ds es : List (Deed N L)) → Midway known p q a b ds → Midway known p q (account known p a ds) (account known q b ds) es → Midway known p q a b (ds ++ es)
Midway-append known p q a b [] es m n = n
Midway-append known p q a b (writes e ∷ ds) es m n = (m.0, Midway-append known p q (after_note p a e) (after_note q b e) ds es m.1 n)
Midway-append known p q a b (calls y e ∷ ds) es m n = (m.0, Midway-append known p q _ _ ds es m.1 n)
Midway-append known p q a b (begins y o ∷ ds) es m n = Midway-append known p q a b ds es m n
Midway-append known p q a b (turns u ∷ ds) es m n = Midway-append known p q a b ds es m n

pub Mild-same : {old new : Ledger} → new.made ≡ old.made → ((x k : ℕ) → port new x k ≡ port old x k) → Mild old new
Mild-same m s = record { same_made = m; links = λ x k q h. sym (s x k) ∙ h; keeps = λ x k q h. s x k ∙ h; shuts = λ x k h. ap open_count (s x k) ∙ h }

pub Mild-trans : {a b c : Ledger} → Mild a b → Mild b c → Mild a c
Mild-trans m n = record {
  same_made = n.same_made ∙ m.same_made;
  links = λ x k q h. m.links x k q (n.links x k q h);
  keeps = λ x k q h. n.keeps x k q (m.keeps x k q h);
  shuts = λ x k h. n.shuts x k (m.shuts x k h);
}

pub Joined-mild : {old new : Ledger} {p q : Port} {s t w : List ℕ} → Mild old new → JoinedEnds old p q s t w → JoinedEnds new p q s t w
Joined-mild {p = p} {q = q} m (joined a b c d e) = joined (rw m.same_made a) (rw m.same_made b) (m.keeps p.obj.0 p.slot q c) (m.keeps q.obj.0 q.slot p d) e
Joined-mild {p = p} {q = q} m (parted a b c d r e) = parted (rw m.same_made a) (rw m.same_made b) (m.shuts p.obj.0 p.slot c) (m.shuts q.obj.0 q.slot d) r e

-- nothing happens
pub Calms-none : {N L : Type 0} (known : Nature N L) (l : Ledger) → Calms {N = N} {L = L} known l l Still []
Calms-none known l = record {
  same_made = refl;
  links = λ x k q h. h;
  shuts = λ x k h. h;
  peers = λ p a. refl;
  enters = λ q b h. h;
  quiet = λ q b o h. h;
  joins = λ p q a b w v f j. subst (JoinedEnds l p q a.sent b.taken) f j;
  midway = λ p q a b w v f j. λ _. start-joined j;
  apart = λ p q a b n. λ e. absurd (n e);
}

-- an event of which accounts say nothing
pub Calms-plain : {N L : Type 0} (known : Nature N L) (old new : Ledger) (e : GraphEvent) → Mild old new → ((p : Port) (a : Account) → after_note p a e ≡ rests a) → Calms {N = N} {L = L} known old new Still (writes e ∷ [])
Calms-plain known old new e m plain = record {
  same_made = m.same_made;
  links = m.links;
  shuts = m.shuts;
  peers = λ p a. ap (λ z. z.peer) (plain p a);
  enters = λ q b h. ap (λ z. z.entered) (plain q b) ∙ h;
  quiet = λ q b o h. ap (λ z. z.entered) (plain q b) ∙ h;
  joins = λ p q a b w v f j. rw (plain p a, plain q b, sym f) (Joined-mild m j);
  midway = λ p q a b w v f j. (λ _. start-joined j, λ _. rw (plain p a, plain q b) (start-joined j));
  apart = λ p q a b n. (λ e. absurd (n e), λ e. absurd (n (sym (ap (λ z. z.peer) (plain p a)) ∙ e)));
}

-- something turns
pub Calms-turn : {N L : Type 0} (known : Nature N L) (l : Ledger) (u : Turn) → Calms {N = N} {L = L} known l l Still (turns u ∷ [])
Calms-turn known l u = record {
  same_made = refl;
  links = λ x k q h. h;
  shuts = λ x k h. h;
  peers = λ p a. refl;
  enters = λ q b h. h;
  quiet = λ q b o h. h;
  joins = λ p q a b w v f j. subst (JoinedEnds l p q a.sent b.taken) f j;
  midway = λ p q a b w v f j. λ _. start-joined j;
  apart = λ p q a b n. λ e. absurd (n e);
}

-- one call after the other
pub Calms-then : {N L : Type 0} {known : Nature N L} {a b c : Ledger} {f g h : Port → Port → Account → List ℕ → List ℕ → Type 0} {ds es : List (Deed N L)} → Calms known a b f ds → Calms known b c g es → ((p q : Port) (x y : Account) (w v : List ℕ) → h p q y w v → JoinedEnds a p q x.sent y.taken w → (u : List ℕ) × f p q y w u × (JoinedEnds b p q (account known p x ds).sent (account known q y ds).taken u → g p q (account known q y ds) u v)) → Calms known a c h (ds ++ es)
Calms-then {known = known} {c = c} {ds = ds} {es = es} k l split = record {
  same_made = l.same_made ∙ k.same_made;
  links = λ x j q h. k.links x j q (l.links x j q h);
  shuts = λ x j h. l.shuts x j (k.shuts x j h);
  peers = λ p x. ap (λ z. z.peer) (account-append known p x ds es) ∙ l.peers p (account known p x ds) ∙ k.peers p x;
  enters = λ q y h. ap (λ z. z.entered) (account-append known q y ds es) ∙ l.enters q (account known q y ds) (k.enters q y h);
  quiet = λ q y o h. ap (λ z. z.entered) (account-append known q y ds es) ∙ l.quiet q (account known q y ds) o (k.quiet q y o h);
  joins = λ p q x y w v i j.
      let s = split p q x y w v i j in
      let mid = k.joins p q x y w s.0 s.1 j in
      rw (account-append known p x ds es, account-append known q y ds es) (l.joins p q (account known p x ds) (account known q y ds) s.0 v (s.2 mid) mid);
  midway = λ p q x y w v i j.
      let s = split p q x y w v i j in
      let mid = k.joins p q x y w s.0 s.1 j in
      Midway-append known p q x y ds es (k.midway p q x y w s.0 s.1 j) (l.midway p q (account known p x ds) (account known q y ds) s.0 v (s.2 mid) mid);
  apart = λ p q x y n. Midway-append known p q x y ds es (k.apart p q x y n) (l.apart p q (account known p x ds) (account known q y ds) (λ e. n (sym (k.peers p x) ∙ e)));
}

-- what is pending stays, twice
pub Still-both : {N L : Type 0} {known : Nature N L} {a b c : Ledger} {ds es : List (Deed N L)} → Calms known a b Still ds → Calms known b c Still es → Calms known a c Still (ds ++ es)
Still-both k l = Calms-then k l (λ p q x y w v e j. (w, refl, λ _. e))

-- the same where less is asked
pub Calms-weaken : {N L : Type 0} {known : Nature N L} {a b : Ledger} {f g : Port → Port → Account → List ℕ → List ℕ → Type 0} {ds : List (Deed N L)} → Calms known a b f ds → ((p q : Port) (x y : Account) (w v : List ℕ) → g p q y w v → JoinedEnds a p q x.sent y.taken w → f p q y w v) → Calms known a b g ds
Calms-weaken k less = record {
  same_made = k.same_made;
  links = k.links;
  shuts = k.shuts;
  peers = k.peers;
  enters = k.enters;
  quiet = k.quiet;
  joins = λ p q x y w v i j. k.joins p q x y w v (less p q x y w v i j) j;
  midway = λ p q x y w v i j. k.midway p q x y w v (less p q x y w v i j) j;
  apart = k.apart;
}

-- and of equal books
pub Calms-books : {N L : Type 0} {known : Nature N L} {a b c : Ledger} {f : Port → Port → Account → List ℕ → List ℕ → Type 0} {ds : List (Deed N L)} → c ≡ b → Calms known a b f ds → Calms known a c f ds
Calms-books {known = known} {a = a} {f = f} {ds = ds} e k = subst (λ z. Calms known a z f ds) (sym e) k

pub Calms-at : {N L : Type 0} {known : Nature N L} {a b : Ledger} {ds : List (Deed N L)} → b ≡ a → Calms known b b Still ds → Calms known a a Still ds
Calms-at {known = known} {ds = ds} e k = subst (λ z. Calms known z z Still ds) e k

-- what is pending at a shut port doesn't matter
pub Joined-any : {l : Ledger} {p q : Port} {s t w : List ℕ} (v : List ℕ) → open_count (port l p.obj.0 p.slot) ≡ 0 → JoinedEnds l p q s t w → JoinedEnds l p q s t v
Joined-any v z (joined a b c d e) = absurd (let i = sym (ap open_count c) ∙ z in cc)
Joined-any v z (parted a b c d r e) = parted a b c d r e

pub Calms-idle : {N L : Type 0} {known : Nature N L} {a b : Ledger} {f : Port → Port → Account → List ℕ → List ℕ → Type 0} {ds : List (Deed N L)} → Calms known a b Still ds → ((p q : Port) (x y : Account) (w v : List ℕ) → f p q y w v → JoinedEnds a p q x.sent y.taken w → IsShut a p ⊎ (w ≡ v)) → Calms known a b f ds
Calms-idle {a = a} k idle = record {
  same_made = k.same_made;
  links = k.links;
  shuts = k.shuts;
  peers = k.peers;
  enters = k.enters;
  quiet = k.quiet;
  joins = λ p q x y w v i j. elim (idle p q x y w v i j) [
    | inl z ↦ k.joins p q x y v v refl (Joined-any v z j)
    | inr e ↦ k.joins p q x y w v e j
  ];
  midway = λ p q x y w v i j. elim (idle p q x y w v i j) [
    | inl z ↦ k.midway p q x y v v refl (Joined-any v z j)
    | inr e ↦ k.midway p q x y w v e j
  ];
  apart = k.apart;
}
