-- The bytes on the link of an object that is made.
use Rattle.nb_effects.proofs.AccountLemmas.{start-joined}
use Rattle.nb_effects.specs.Trace.{Nature}
use Rattle.std.proofs.Common.{true, false, ◌≡◌, ℕ, ◌+◌, ◌≤◌, inl, inr, List, [], ◌∷◌, Some, refl, ap, sym, ◌∙◌, arith}
use Rattle.std.proofs.lemmas.Bool.{cases_eq, eq-eqb, ne_eqb}
use Rattle.nb_ledger.specs.declared.port.Port.{Port}
use Rattle.nb_ledger.specs.declared.port.PortState.TheVariants.{Open, Linked}
use Rattle.nb_ledger.specs.declared.event.GraphEvent.TheVariants.{Made, Plugged}
use Rattle.nb_ledger.specs.GraphRun.{new_ports, port_but}
use Rattle.nb_ledger.specs.Ledger.{Ledger, object_lives, busy, port, open_count}
use Rattle.nb_ledger.specs.Changes.{Adds, SetsPort}
use Rattle.nb_effects.specs.Deeds.{writes, begins}
use Rattle.nb_effects.specs.Accounts.{Account, JoinedEnds, PlugsBalance, joined, parted, after_note, is_same_port, joins, rests}
use Rattle.nb_effects.specs.Flows.{Making}
use Rattle.nb_effects.specs.Moves.{Livens, always, asked_due}
use Rattle.nb_effects.proofs.LinkLemmas.{port_but-same, port_but-other}
use Rattle.nb_effects.proofs.WholeLemmas.{ports_other, two_ports}
use Rattle.nb_effects.proofs.ShrinkLemmas.{dead-port}
use Rattle.nb_graph.proofs.LivelyLemmas.{dead-busy}
use Rattle.nb_effects.proofs.LivensLemmas.{cases_ports, port-eq}
use Rattle.nb_effects.proofs.DownLemmas.{is-port-same}

pub is-port-other : (p q : Port) → (p ≡ q → ⊥) → is_same_port p q ≡ false
is-port-other p q n = elim (cases_eq p.obj.0 q.obj.0) [
  | inl a ↦ rw (eq-eqb p.obj.0 q.obj.0 a, ne_eqb p.slot q.slot (λ b. n (port-eq p q a b))) refl
  | inr a ↦ rw (ne_eqb p.obj.0 q.obj.0 a) refl
]

plugs-upper : (r p q : Port) (a : Account) → r ≡ p → after_note r a (Plugged p q) ≡ joins q a.asked
plugs-upper r p q a e = rw (is-port-same r p e) refl

plugs-lower : (r p q : Port) (a : Account) → (r ≡ p → ⊥) → r ≡ q → after_note r a (Plugged p q) ≡ joins p []
plugs-lower r p q a n e = rw (is-port-other r p n, is-port-same r q e) refl

plugs-other : (r p q : Port) (a : Account) → (r ≡ p → ⊥) → (r ≡ q → ⊥) → after_note r a (Plugged p q) ≡ rests a
plugs-other r p q a n m = rw (is-port-other r p n, is-port-other r q m) refl

-- an object is made and plugged
pub Livens-make : {N L : Type 0} (known : Nature N L) (b0 b1 m new : Ledger) (p q : Port) (r kind : ℕ) (n : N) → Adds b0 b1 q.obj.0 r → object_lives b0 q.obj.0 ≡ false → q.obj.0 ≡ b0.made + 1 → SetsPort b1 m p (Linked q) → SetsPort m new q (Linked p) → port b0 p.obj.0 p.slot ≡ Open → 1 ≤ p.slot → q.slot ≡ 0 → p.obj.0 ≤ b1.made → (p.obj.0 ≡ q.obj.0 → ⊥) → Livens {N = N} {L = L} known b0 new always (asked_due p.obj.0) (Making b0 p.obj.0) (writes (Made q.obj kind) ∷ begins q.obj.0 n ∷ writes (Plugged p q) ∷ [])
Livens-make known b0 b1 m new p q r kind node a d serial s t op one zero born apart = record {
  quiet = λ u y o i h. elim (cases_ports u p) [
    | inl e ↦ ap (λ z. z.entered) (plugs-upper u p q y e)
    | inr n ↦ elim (cases_ports u q) [
      | inl e ↦ ap (λ z. z.entered) (plugs-lower u p q y n e)
      | inr k ↦ ap (λ z. z.entered) (plugs-other u p q y n k) ∙ h
    ]
  ];
  joins = λ u v x y w z i j.
      let nu = first u v x.sent y.taken w j in
      let nv = other u v x.sent y.taken w j in
      rw (plugs-other u p q x nu.0 nu.1, plugs-other v p q y nv.0 nv.1, sym i.0) (keeps u v x.sent y.taken w nu nv j, λ e. e);
  midway = λ u v x y w z i j.
      let nu = first u v x.sent y.taken w j in
      let nv = other u v x.sent y.taken w j in
      (λ _. start-joined j, (λ _. start-joined j, λ _. rw (plugs-other u p q x nu.0 nu.1, plugs-other v p q y nv.0 nv.1) (start-joined j)));
  newly = λ u v x y k n. (λ e. absurd (n e), (λ e. absurd (n e), λ e. start-joined (fresh u v x y n e).0));
  news = λ u v x y k n e. fresh u v x y n e;
}
  where
    some_port : (g h : Port) → Some g ≡ Some h → g ≡ h
    some_port g h e = cc

    made_new : new.made ≡ q.obj.0
    made_new = t.objects.same_made ∙ s.objects.same_made ∙ a.made_set

    born_p : p.obj.0 ≤ new.made
    born_p = rw (t.objects.same_made ∙ s.objects.same_made) born

    born_q : q.obj.0 ≤ new.made
    born_q = rw made_new (omega arith)

    port_p : port new p.obj.0 p.slot ≡ Linked q
    port_p = two_ports s t p.obj.0 p.slot ∙ port_but-other q (Linked p) (port_but p (Linked q) (port b1)) p.obj.0 p.slot (λ i. apart i.0) ∙ port_but-same p (Linked q) (port b1) p.obj.0 p.slot refl refl

    port_q : port new q.obj.0 q.slot ≡ Linked p
    port_q = two_ports s t q.obj.0 q.slot ∙ port_but-same q (Linked p) (port_but p (Linked q) (port b1)) q.obj.0 q.slot refl refl

    -- an end of another link is none of theirs
    not-both : (u : Port) → (u.obj.0 ≡ q.obj.0 → ⊥) → (port b0 u.obj.0 u.slot ≡ Open → ⊥) → (u ≡ p → ⊥) × (u ≡ q → ⊥)
    not-both u n k = ((λ e. k (ap (λ z. port b0 z.obj.0 z.slot) e ∙ op)), λ e. n (ap (λ z. z.obj.0) e))

    first : (u v : Port) (x y w : List ℕ) → JoinedEnds b0 u v x y w → (u ≡ p → ⊥) × (u ≡ q → ⊥)
    first u v x y w (joined f g h i k) = not-both u (λ e. let z = sym h ∙ ap (λ o. port b0 o u.slot) e ∙ dead-port b0 q.obj.0 d u.slot in absurd (cc)) (λ e. let z = sym h ∙ e in absurd (cc))
    first u v x y w (parted f g h i o k) = not-both u (λ e. absurd (omega (arith, e, f, serial))) (λ e. let z = sym h ∙ ap open_count e in absurd (cc))

    other : (u v : Port) (x y w : List ℕ) → JoinedEnds b0 u v x y w → (v ≡ p → ⊥) × (v ≡ q → ⊥)
    other u v x y w (joined f g h i k) = not-both v (λ e. let z = sym i ∙ ap (λ o. port b0 o v.slot) e ∙ dead-port b0 q.obj.0 d v.slot in absurd (cc)) (λ e. let z = sym i ∙ e in absurd (cc))
    other u v x y w (parted f g h i o k) = not-both v (λ e. absurd (omega (arith, e, g, serial))) (λ e. let z = sym i ∙ ap open_count e in absurd (cc))

    -- elsewhere nothing changes, but at the new object
    same : (u : Port) → (u.obj.0 ≡ q.obj.0 → ⊥) → (u ≡ p → ⊥) → (u ≡ q → ⊥) → port new u.obj.0 u.slot ≡ port b0 u.obj.0 u.slot
    same u n k l = two_ports s t u.obj.0 u.slot ∙ port_but-other q (Linked p) (port_but p (Linked q) (port b1)) u.obj.0 u.slot (λ i. n i.0) ∙ port_but-other p (Linked q) (port b1) u.obj.0 u.slot (λ i. k (port-eq u p i.0 i.1)) ∙ a.port_set u.obj.0 u.slot ∙ ports_other q.obj.0 new_ports (port b0) u.obj.0 u.slot n

    keeps : (u v : Port) (x y w : List ℕ) → (u ≡ p → ⊥) × (u ≡ q → ⊥) → (v ≡ p → ⊥) × (v ≡ q → ⊥) → JoinedEnds b0 u v x y w → JoinedEnds new u v x y w
    keeps u v x y w nu nv (joined f g h i k) = joined (rw made_new (omega (arith, f, serial))) (rw made_new (omega (arith, g, serial))) (same u (λ e. let z = sym h ∙ ap (λ o. port b0 o u.slot) e ∙ dead-port b0 q.obj.0 d u.slot in absurd (cc)) nu.0 nu.1 ∙ h) (same v (λ e. let z = sym i ∙ ap (λ o. port b0 o v.slot) e ∙ dead-port b0 q.obj.0 d v.slot in absurd (cc)) nv.0 nv.1 ∙ i) k
    keeps u v x y w nu nv (parted f g h i o k) = parted (rw made_new (omega (arith, f, serial))) (rw made_new (omega (arith, g, serial))) (ap open_count (same u (λ e. absurd (omega (arith, e, f, serial))) nu.0 nu.1) ∙ h) (ap open_count (same v (λ e. absurd (omega (arith, e, g, serial))) nv.0 nv.1) ∙ i) o k

    fresh : (u v : Port) (x y : Account) → (x.peer ≡ Some v → ⊥) → (after_note u x (Plugged p q)).peer ≡ Some v → JoinedEnds new u v (after_note u x (Plugged p q)).sent (after_note v y (Plugged p q)).taken (asked_due p.obj.0 u x) × (u.slot ≡ 0 → busy b0 u.obj.0 ≡ false) × (1 ≤ v.slot → busy b0 v.obj.0 ≡ true → (after_note v y (Plugged p q)).entered ≡ false)
    fresh u v x y n e = elim (cases_ports u p) [
      | inl g ↦
          let ex = plugs-upper u p q x g in
          let gv : v ≡ q = sym (some_port q v (sym (ap (λ z. z.peer) ex) ∙ e)) in
          let low : v ≡ p → ⊥ = λ i. apart (ap (λ z. z.obj.0) (sym i ∙ gv)) in
          rw (ex, plugs-lower v p q y low gv) (
            rw (eq-eqb u.obj.0 p.obj.0 (ap (λ z. z.obj.0) g)) (joined (rw g born_p) (rw gv born_q) (rw (g, gv) port_p) (rw (g, gv) port_q) refl),
            (λ z. absurd (let i = ap (λ o. o.slot) g in omega arith)),
            λ o i. refl,
          )
      | inr g ↦ elim (cases_ports u q) [
        | inl h ↦
            let ex = plugs-lower u p q x g h in
            let gv : v ≡ p = sym (some_port p v (sym (ap (λ z. z.peer) ex) ∙ e)) in
            rw (ex, plugs-upper v p q y gv) (
              rw (ne_eqb u.obj.0 p.obj.0 (λ i. apart (sym i ∙ ap (λ z. z.obj.0) h))) (joined (rw h born_q) (rw gv born_p) (rw (h, gv) port_q) (rw (h, gv) port_p) refl),
              (λ z. ap (λ o. busy b0 o.obj.0) h ∙ dead-busy b0 q.obj.0 d),
              λ o i. refl,
            )
        | inr h ↦ absurd (n (sym (ap (λ z. z.peer) (plugs-other u p q x g h)) ∙ e))
      ]
    ]

-- an object is made, and nothing is plugged
pub Joined-add : {b0 b1 : Ledger} {x r : ℕ} {p q : Port} {s t w : List ℕ} → Adds b0 b1 x r → object_lives b0 x ≡ false → x ≡ b0.made + 1 → JoinedEnds b0 p q s t w → JoinedEnds b1 p q s t w
Joined-add {b0} {b1} {x} {r} {p} {q} {s} {t} {w} a d serial j = go j
  where
    later : (y : ℕ) → y ≤ b0.made → y ≤ b1.made
    later y h = rw a.made_set (omega (arith, h, serial))

    same : (u : Port) → (u.obj.0 ≡ x → ⊥) → port b1 u.obj.0 u.slot ≡ port b0 u.obj.0 u.slot
    same u n = a.port_set u.obj.0 u.slot ∙ ports_other x new_ports (port b0) u.obj.0 u.slot n

    linked_not : (u v : Port) → port b0 u.obj.0 u.slot ≡ Linked v → u.obj.0 ≡ x → ⊥
    linked_not u v h e = let z = sym h ∙ ap (λ o. port b0 o u.slot) e ∙ dead-port b0 x d u.slot in cc

    go : JoinedEnds b0 p q s t w → JoinedEnds b1 p q s t w
    go (joined f g h i k) = joined (later p.obj.0 f) (later q.obj.0 g) (same p (linked_not p q h) ∙ h) (same q (linked_not q p i) ∙ i) k
    go (parted f g h i o k) = parted (later p.obj.0 f) (later q.obj.0 g) (ap open_count (same p (λ e. absurd (omega (arith, e, f, serial)))) ∙ h) (ap open_count (same q (λ e. absurd (omega (arith, e, g, serial)))) ∙ i) o k

-- two open ports are plugged outside all entries
pub Balanced-plug : {b m new : Ledger} {p q : Port} → SetsPort b m p (Linked q) → SetsPort m new q (Linked p) → port b p.obj.0 p.slot ≡ Open → port b q.obj.0 q.slot ≡ Open → 1 ≤ p.slot → q.slot ≡ 0 → p.obj.0 ≤ b.made → q.obj.0 ≤ b.made → PlugsBalance b new p q
Balanced-plug {b} {m} {new} {p} {q} s t op oq one zero bp bq u v x y bal e = elim (cases_ports u p) [
  | inl g ↦
      let ex = plugs-upper u p q (rests x) g in
      let gv : v ≡ q = sym (some_port q v (sym (ap (λ z. z.peer) ex) ∙ e)) in
      rw (ex, plugs-lower v p q (rests y) (λ i. apart (sym i ∙ gv)) gv) (joined (rw g (born p bp)) (rw gv (born q bq)) (rw (g, gv) port_p) (rw (g, gv) port_q) refl)
  | inr g ↦ elim (cases_ports u q) [
    | inl h ↦
        let ex = plugs-lower u p q (rests x) g h in
        let gv : v ≡ p = sym (some_port p v (sym (ap (λ z. z.peer) ex) ∙ e)) in
        rw (ex, plugs-upper v p q (rests y) gv) (joined (rw h (born q bq)) (rw gv (born p bp)) (rw (h, gv) port_q) (rw (h, gv) port_p) refl)
    | inr h ↦
        let ex = plugs-other u p q (rests x) g h in
        let j = bal (sym (ap (λ z. z.peer) ex) ∙ e) in
        let nv = other j in
        rw (ex, plugs-other v p q (rests y) nv.0 nv.1) (keeps g h nv j)
  ]
]
  where
    some_port : (g h : Port) → Some g ≡ Some h → g ≡ h
    some_port g h e = cc

    apart : p ≡ q → ⊥
    apart e = let z = ap (λ o. o.slot) e in absurd (omega arith)

    born : (w : Port) → w.obj.0 ≤ b.made → w.obj.0 ≤ new.made
    born w h = rw (t.objects.same_made ∙ s.objects.same_made) h

    port_p : port new p.obj.0 p.slot ≡ Linked q
    port_p = two_ports s t p.obj.0 p.slot ∙ port_but-other q (Linked p) (port_but p (Linked q) (port b)) p.obj.0 p.slot (λ i. let z = i.1 in absurd (omega arith)) ∙ port_but-same p (Linked q) (port b) p.obj.0 p.slot refl refl

    port_q : port new q.obj.0 q.slot ≡ Linked p
    port_q = two_ports s t q.obj.0 q.slot ∙ port_but-same q (Linked p) (port_but p (Linked q) (port b)) q.obj.0 q.slot refl refl

    not-open : (w z : Port) → port b z.obj.0 z.slot ≡ Open → w ≡ z → port b w.obj.0 w.slot ≡ Open
    not-open w z h i = ap (λ o. port b o.obj.0 o.slot) i ∙ h

    other : JoinedEnds b u v x.sent y.taken [] → (v ≡ p → ⊥) × (v ≡ q → ⊥)
    other (joined f g h i k) = ((λ z. let o = sym (not-open v p op z) ∙ i in absurd (cc)), λ z. let o = sym (not-open v q oq z) ∙ i in absurd (cc))
    other (parted f g h i r k) = ((λ z. let o = sym (ap open_count (not-open v p op z)) ∙ i in absurd (cc)), λ z. let o = sym (ap open_count (not-open v q oq z)) ∙ i in absurd (cc))

    same : (w : Port) → (w ≡ p → ⊥) → (w ≡ q → ⊥) → port new w.obj.0 w.slot ≡ port b w.obj.0 w.slot
    same w n k = two_ports s t w.obj.0 w.slot ∙ port_but-other q (Linked p) (port_but p (Linked q) (port b)) w.obj.0 w.slot (λ i. k (port-eq w q i.0 i.1)) ∙ port_but-other p (Linked q) (port b) w.obj.0 w.slot (λ i. n (port-eq w p i.0 i.1))

    keeps : (u ≡ p → ⊥) → (u ≡ q → ⊥) → (v ≡ p → ⊥) × (v ≡ q → ⊥) → JoinedEnds b u v x.sent y.taken [] → JoinedEnds new u v x.sent y.taken []
    keeps n k nv (joined f g h i o) = joined (born u f) (born v g) (same u n k ∙ h) (same v nv.0 nv.1 ∙ i) o
    keeps n k nv (parted f g h i r o) = parted (born u f) (born v g) (ap open_count (same u n k) ∙ h) (ap open_count (same v nv.0 nv.1) ∙ i) r o
