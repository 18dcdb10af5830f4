-- What is pending on links, through the parts of a calm call.
use Rattle.nb_effects.specs.Accounts.{Midway}
use Rattle.std.proofs.Common.{◌≡◌, ℕ, ◌≤◌, ◌⊎◌, inl, inr, Bool, true, false, List, [], ◌++◌, Option, Some, None, IfSome, refl, ap, sym, ◌∙◌, subst, append-nil, arith}
use Rattle.std.proofs.lemmas.Bool.{cases_eq, eq-eqb, ne_eqb}
use Rattle.nb_ledger.specs.declared.port.Port.{Port}
use Rattle.nb_ledger.specs.declared.port.PortState.TheVariants.{Open, Linked}
use Rattle.nb_ledger.specs.Ledger.{Ledger, port, rank, open_count}
use Rattle.nb_effects.specs.declared.effects.Emit.{Emit}
use Rattle.nb_effects.specs.declared.effects.Few.{Few}
use Rattle.nb_effects.specs.declared.effects.Fx.{Fx}
use Rattle.nb_effects.specs.Deeds.{Deed}
use Rattle.nb_effects.specs.Effects.{AreDowns, IsDown, MayAskBelow, MayAskDown}
use Rattle.nb_effects.specs.Whole.{IsLinked, port_at}
use Rattle.nb_effects.specs.Accounts.{Account, JoinedEnds, joined, parted, account, emit_bytes, few_bytes, fx_bytes}
use Rattle.nb_effects.specs.Trace.{Nature, carries}
use Rattle.nb_effects.specs.Flows.{Reaches, here, over, IsClear, IsShut, Closing, Failing, Downs, Passing, Emitting, Giving, Following, asked_left, asked_sent, asked_whole, by_no_slot}
use Rattle.nb_effects.specs.Moves.{Calms}
use Rattle.nb_effects.proofs.ForestLemmas.{Reaches-map, apart-without, the-port}
use Rattle.nb_effects.proofs.LivensLemmas.{cases_ports, port-eq}
use Rattle.nb_effects.proofs.AccountLemmas.{Joined-any}

-- fewer links reach less
pub IsClear-fewer : (a b : Ledger) {p : Port} {x : ℕ} {w : List ℕ} → ((y k : ℕ) (q : Port) → port b y k ≡ Linked q → port a y k ≡ Linked q) → IsClear a p x w → IsClear b p x w
IsClear-fewer a b l (inl z) = inl z
IsClear-fewer a b l (inr (inl e)) = inr (inl e)
IsClear-fewer a b {p = p} {x = x} l (inr (inr n)) = inr (inr (λ r. n (Reaches-map (λ y k q h i j. (l y k q h, i, j)) x r)))

-- nothing is pending at its own open ports
pub own-clear : (l : Ledger) {p : Port} {x : ℕ} {w : List ℕ} → p.obj.0 ≡ x → 1 ≤ p.slot → IsClear l p x w → w ≡ []
own-clear l e o (inl z) = absurd (omega (arith, z, o))
own-clear l e o (inr (inl h)) = h
own-clear l {x = x} e o (inr (inr n)) = absurd (n (here x (sym e)))

module _ (a b : Ledger) (links : (y k : ℕ) (q : Port) → port b y k ≡ Linked q → port a y k ≡ Linked q) (shuts : (y k : ℕ) → open_count (port a y k) ≡ 0 → open_count (port b y k) ≡ 0) (x : ℕ) where
  still-clear : {p : Port} {w : List ℕ} → (p.obj.0 ≡ x) ⊎ IsClear a p x w → (p.obj.0 ≡ x) ⊎ IsClear b p x w
  still-clear (inl e) = inl e
  still-clear (inr c) = inr (IsClear-fewer a b links c)

  pub Closing-then : (p q : Port) (y z : Account) (w v : List ℕ) → Closing a x p q y w v → (u : List ℕ) × Closing a x p q y w u × Closing b x p q z u v
  Closing-then p q y z w v (inl i) = (v, inl i, inl (shuts p.obj.0 p.slot i))
  Closing-then p q y z w v (inr i) = (w, inr (refl, i.1), inr (i.0, still-clear i.1))

  pub Downs-closing : (m : ℕ → List ℕ) (p q : Port) (y z : Account) (w v : List ℕ) → Downs a x m p q y w v → (u : List ℕ) × Downs a x m p q y w u × Closing b x p q z u v
  Downs-closing m p q y z w v (inl i) = (v, inl i, inl (shuts p.obj.0 p.slot i))
  Downs-closing m p q y z w v (inr (inl i)) = (v, inr (inl i), inr (refl, inl i.0))
  Downs-closing m p q y z w v (inr (inr i)) = (w, inr (inr (i.0, refl, i.2)), inr (i.1, inr (IsClear-fewer a b links i.2)))

module _ {N L : Type 0} (known : Nature N L) (bytes : List ℕ) where
  pub emit-there : (k : ℕ) (e : Emit L) → k ≡ e.slot → emit_bytes known k bytes (Some e) ≡ carries known bytes e.from e.to e.load
  emit-there k e h = rw (eq-eqb k e.slot h) refl

  pub emit-elsewhere : (k : ℕ) (e : Emit L) → (k ≡ e.slot → ⊥) → emit_bytes known k bytes (Some e) ≡ []
  emit-elsewhere k e h = rw (ne_eqb k e.slot h) refl

  -- one of the downs
  pub Emitting-own : (l : Ledger) (x : ℕ) (o : Option (Emit L)) (p q : Port) (y : Account) (u v : List ℕ) → p.obj.0 ≡ x → 1 ≤ p.slot → IfSome o (λ e. p.slot ≡ e.slot → ⊥) ⊎ (v ≡ v) → u ≡ emit_bytes known p.slot bytes o ++ v → (IfSome o (λ e. (p.slot ≡ e.slot → ⊥) → v ≡ [])) → Emitting l x known bytes o p q y u v
  Emitting-own l x None p q y u v e o i h n = inr h
  Emitting-own l x (Some d) p q y u v e o i h n = elim (cases_eq p.slot d.slot) [
    | inl s ↦ inr (inl (port-eq p (port_at x d.slot) e s, h ∙ ap (λ z. z ++ v) (emit-there p.slot d s)))
    | inr s ↦
        let g : u ≡ v = h ∙ ap (λ z. z ++ v) (emit-elsewhere p.slot d s) in
        inr (inr ((λ z. s (ap (λ t. t.slot) z)), g, inr (inl (g ∙ n s))))
  ]

  pub Emitting-other : (l : Ledger) (x len : ℕ) (o : Option (Emit L)) → IfSome o (IsDown len) → (p q : Port) (y : Account) (w : List ℕ) → (p.obj.0 ≡ x → p.slot ≡ 0) → IsClear l p x w → Emitting l x known bytes o p q y w w
  Emitting-other l x len None d p q y w n c = inr refl
  Emitting-other l x len (Some e) d p q y w n c = inr (inr ((λ z. let i = n (ap (λ t. t.obj.0) z) in let j = ap (λ t. t.slot) z in let k = d.0 in absurd (omega arith)), refl, c))

  Emitting-shut : (l : Ledger) (x : ℕ) (o : Option (Emit L)) (p q : Port) (y : Account) (w v : List ℕ) → IsShut l p → Emitting l x known bytes o p q y w v
  Emitting-shut l x None p q y w v h = inl h
  Emitting-shut l x (Some e) p q y w v h = inl h

  -- of two downs, which leave by one slot, one after the other
  pub Downs-few : (a b : Ledger) (links : (y k : ℕ) (q : Port) → port b y k ≡ Linked q → port a y k ≡ Linked q) (shuts : (y k : ℕ) → open_count (port a y k) ≡ 0 → open_count (port b y k) ≡ 0) (x len : ℕ) (f : Few (Emit L)) → AreDowns len f → (p q : Port) (y z : Account) (w v : List ℕ) → Downs a x (λ k. few_bytes known k bytes f) p q y w v → (u : List ℕ) × Emitting a x known bytes f.first p q y w u × Emitting b x known bytes f.second p q z u v
  Downs-few a b links shuts x len f d p q y z w v (inl i) = (v, Emitting-shut a x f.first p q y w v i, Emitting-shut b x f.second p q z v v (shuts p.obj.0 p.slot i))
  Downs-few a b links shuts x len f d p q y z w v (inr (inr i)) = (w, Emitting-other a x len f.first d.1 p q y w i.0 i.2, subst (Emitting b x known bytes f.second p q z w) i.1 (Emitting-other b x len f.second d.2 p q z w i.0 (IsClear-fewer a b links i.2)))
  Downs-few a b links shuts x len f d p q y z w v (inr (inl i)) = (
    emit_bytes known p.slot bytes f.second,
    Emitting-own a x f.first p q y w (emit_bytes known p.slot bytes f.second) i.0 i.1 (inr refl) i.2 (both f.first f.second d.3),
    Emitting-own b x f.second p q z (emit_bytes known p.slot bytes f.second) v i.0 i.1 (inr refl) (sym (ap (λ t. emit_bytes known p.slot bytes f.second ++ t) i.3 ∙ append-nil (emit_bytes known p.slot bytes f.second))) (last f.second),
  )
    where
      both : (o s : Option (Emit L)) → IfSome o (λ e. IfSome s (λ g. g.slot ≡ e.slot)) → IfSome o (λ e. (p.slot ≡ e.slot → ⊥) → emit_bytes known p.slot bytes s ≡ [])
      both None s h = tt
      both (Some e) None h = λ n. refl
      both (Some e) (Some g) h = λ n. emit-elsewhere p.slot g (λ t. n (t ∙ h))

      last : (o : Option (Emit L)) → IfSome o (λ e. (p.slot ≡ e.slot → ⊥) → v ≡ [])
      last None = tt
      last (Some e) = λ n. i.3

-- a message goes down a link
pub Passing-giving : (l : Ledger) (at peer : Port) (m : List ℕ) → IsLinked (port l) (rank l) → 1 ≤ at.slot → port l at.obj.0 at.slot ≡ Linked peer → (p q : Port) (y : Account) (s t w v : List ℕ) → JoinedEnds l p q s t w → Passing l at m p q y w v → Giving l peer m p q y w v
Passing-giving l at peer m k o h p q y s t w v j (inl i) = inl i
Passing-giving l at peer m k o h p q y s t w v (parted a b c d r e) (inr i) = inl c
Passing-giving l at peer m k o h p q y s t w v (joined a b c d e) (inr (inl i)) =
    inr (inr (inr (λ r. apart-without at.obj.0 at.slot peer k h (subst (λ z. Reaches (port l) z z.obj.0 peer.obj.0) i.0 r))), inl (the-port (port l) at.obj.0 at.slot q peer (subst (λ z. port l z.obj.0 z.slot ≡ Linked q) i.0 c) h, i.1))
Passing-giving l at peer m k o h p q y s t w v (joined a b c d e) (inr (inr i)) =
    inr (clear i.2, inr ((λ z. i.0 (the-port (port l) peer.obj.0 peer.slot p at (subst (λ u. port l u.obj.0 u.slot ≡ Linked p) z d) (k.back at.obj.0 at.slot peer h))), i.1))
  where
    clear : IsClear l p at.obj.0 w → IsClear l p peer.obj.0 w
    clear (inl z) = inl z
    clear (inr (inl z)) = inr (inl z)
    clear (inr (inr n)) = elim (cases_ports peer p) [
      | inl z ↦ inl (ap (λ u. u.slot) (sym z) ∙ k.lower at.obj.0 at.slot peer o h)
      | inr z ↦ inr (inr (λ r. n (over at.obj.0 at.slot peer h (λ u. i.0 (sym u)) z r)))
    ]

-- a message leaves the graph, or is dropped
pub Passing-open : (l : Ledger) (at : Port) (m : List ℕ) → port l at.obj.0 at.slot ≡ Open → (p q : Port) (y : Account) (s t w v : List ℕ) → JoinedEnds l p q s t w → Passing l at m p q y w v → IsShut l p ⊎ (w ≡ v)
Passing-open l at m h p q y s t w v j (inl i) = inl i
Passing-open l at m h p q y s t w v j (inr (inr i)) = inr i.1
Passing-open l at m h p q y s t w v (parted a b c d r e) (inr (inl i)) = inl c
Passing-open l at m h p q y s t w v (joined a b c d e) (inr (inl i)) = absurd (let z = sym h ∙ subst (λ u. port l u.obj.0 u.slot ≡ Linked q) i.0 c in cc)

pub Passing-shut : (l : Ledger) (at : Port) (m : List ℕ) → IsShut l at → (p q : Port) (y : Account) (w v : List ℕ) → Passing l at m p q y w v → IsShut l p ⊎ (w ≡ v)
Passing-shut l at m h p q y w v (inl i) = inl i
Passing-shut l at m h p q y w v (inr (inr i)) = inr i.1
Passing-shut l at m h p q y w v (inr (inl i)) = inl (ap (λ u. open_count (port l u.obj.0 u.slot)) i.0 ∙ h)

-- all ports of an object were closed
pub Calms-fail : {N L : Type 0} {known : Nature N L} {a b : Ledger} {x : ℕ} {ds : List (Deed N L)} → ((k : ℕ) → open_count (port b x k) ≡ 0) → Calms known a b (Closing a x) ds → Calms known a b (Failing a x) ds
Calms-fail {known = known} {a = a} {b = b} {x = x} {ds = ds} shut k = record {
  same_made = k.same_made;
  links = k.links;
  shuts = k.shuts;
  peers = k.peers;
  enters = k.enters;
  quiet = k.quiet;
  joins = go;
  midway = during;
  apart = k.apart;
}
  where
    at_x : (p : Port) → p.obj.0 ≡ x → open_count (port b p.obj.0 p.slot) ≡ 0
    at_x p e = ap (λ z. open_count (port b z p.slot)) e ∙ shut p.slot

    other : (p q : Port) (s t w v : List ℕ) → q.obj.0 ≡ x → JoinedEnds b p q s t w → JoinedEnds b p q s t v
    other p q s t w v e (joined c d f g h) = absurd (let i = sym (ap open_count g) ∙ at_x q e in cc)
    other p q s t w v e (parted c d f g r h) = parted c d f g r h

    during : (p q : Port) (y z : Account) (w v : List ℕ) → Failing a x p q z w v → JoinedEnds a p q y.sent z.taken w → Midway known p q y z ds
    during p q y z w v (inl i) j = k.midway p q y z w v (inl i) j
    during p q y z w v (inr (inl e, c)) j = k.midway p q y z w v (inr (e, c)) j
    during p q y z w v (inr (inr e, c)) j = k.midway p q y z w w (inr (refl, c)) j

    go : (p q : Port) (y z : Account) (w v : List ℕ) → Failing a x p q z w v → JoinedEnds a p q y.sent z.taken w → JoinedEnds b p q (account known p y ds).sent (account known q z ds).taken v
    go p q y z w v (inl i) j = k.joins p q y z w v (inl i) j
    go p q y z w v (inr (inl e, c)) j = k.joins p q y z w v (inr (e, c)) j
    go p q y z w v (inr (inr (inl e), c)) j = Joined-any v (at_x p e) (k.joins p q y z w w (inr (refl, c)) j)
    go p q y z w v (inr (inr (inr e), c)) j = other p q _ _ w v e (k.joins p q y z w w (inr (refl, c)) j)

-- an entry from above asks for nothing that goes up
pub few-zero : {N L : Type 0} (known : Nature N L) (bytes : List ℕ) (len : ℕ) (f : Few (Emit L)) → AreDowns len f → few_bytes known 0 bytes f ≡ []
few-zero known bytes len f d = ap (λ z. z ++ emit_bytes known 0 bytes f.second) (none f.first d.1) ∙ none f.second d.2
  where
    none : (o : Option (Emit _)) → IfSome o (IsDown len) → emit_bytes known 0 bytes o ≡ []
    none None h = refl
    none (Some e) h = emit-elsewhere known bytes 0 e (λ z. let i = h.0 in absurd (omega arith))

pub below-bytes : {N L : Type 0} (known : Nature N L) (bytes : List ℕ) (len : ℕ) (fx : Fx N L) → MayAskBelow len fx → (k : ℕ) → fx_bytes known k bytes fx ≡ few_bytes known k bytes fx.downs
below-bytes known bytes len fx a k = ap (λ z. few_bytes known k bytes fx.downs ++ (emit_bytes known k bytes z ++ emit_bytes known k bytes fx.ups.second)) a.no_up ∙ ap (λ z. few_bytes known k bytes fx.downs ++ emit_bytes known k bytes z) a.no_ups ∙ append-nil (few_bytes known k bytes fx.downs)

pub below-zero : {N L : Type 0} (known : Nature N L) (bytes : List ℕ) (len : ℕ) (fx : Fx N L) → MayAskBelow len fx → fx_bytes known 0 bytes fx ≡ []
below-zero known bytes len fx a = below-bytes known bytes len fx a 0 ∙ few-zero known bytes len fx.downs a.downs

pub asked-zero : {N L : Type 0} (known : Nature N L) (bytes : List ℕ) (len : ℕ) (done : Bool) (fx : Fx N L) → MayAskDown len done fx → asked_sent known bytes done fx 0 ≡ []
asked-zero known bytes len true fx a = below-zero known bytes len fx a
asked-zero known bytes len false fx a = refl

pub closing-idle : {l : Ledger} {x : ℕ} (p q : Port) (y z : Account) (w v : List ℕ) → Closing l x p q z w v → JoinedEnds l p q y.sent z.taken w → IsShut l p ⊎ (w ≡ v)
closing-idle p q y z w v (inl i) j = inl i
closing-idle p q y z w v (inr i) j = inr i.0

-- what an entry from above takes, and leaves
pub whole-only : (bytes : List ℕ) (done : Bool) (k : ℕ) → (k ≡ 0 → ⊥) → asked_whole bytes done k ≡ []
whole-only bytes true k n = rw (ne_eqb k 0 n) refl
whole-only bytes false k n = refl

pub whole-left : (bytes : List ℕ) (done : Bool) → asked_whole bytes done 0 ++ asked_left bytes done ≡ bytes
whole-left bytes true = append-nil bytes
whole-left bytes false = refl

-- and its effects, or its failing
pub following-done : (l : Ledger) (x : ℕ) (sent m : ℕ → List ℕ) → ((k : ℕ) → sent k ≡ m k) → (p q : Port) (y : Account) (w v : List ℕ) → Following l (port_at x 0) [] sent p q y w v → Downs l x m p q y w v
following-done l x sent m same p q y w v (inl i) = inl i
following-done l x sent m same p q y w v (inr (inl i)) = inr (inl (i.0, i.1, i.2 ∙ same p.slot, i.3))
following-done l x sent m same p q y w v (inr (inr (n, c, inl i))) = inr (inr (n, i.1, c))
following-done l x sent m same p q y w v (inr (inr (n, c, inr i))) = inr (inr (n, i.1, c))

pub following-fail : (l : Ledger) (x : ℕ) (m : List ℕ) (p q : Port) (y : Account) (w v : List ℕ) → Following l (port_at x 0) m by_no_slot p q y w v → Failing l x p q y w v
following-fail l x m p q y w v (inl i) = inl i
following-fail l x m p q y w v (inr (inl i)) = inr (inr (inl i.0), inl i.0)
following-fail l x m p q y w v (inr (inr (n, c, inl i))) = inr (inr (inr (ap (λ z. z.obj.0) i.0)), inr c)
following-fail l x m p q y w v (inr (inr (n, c, inr i))) = inr (inl i.1, inr c)
