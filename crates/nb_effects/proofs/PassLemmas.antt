-- What is pending on links, through a whole close of a link and a whole entry from above.
use Rattle.nb_effects.proofs.AccountLemmas.{start-joined}
use Rattle.nb_effects.specs.Trace.{Nature}
use Rattle.std.proofs.Common.{◌≡◌, ℕ, ◌⊎◌, inl, inr, Bool, true, false, List, [], ◌∷◌, ◌++◌, ◌&&◌, eqb, cond, refl, ap, sym, ◌∙◌, subst, append-nil, arith}
use Rattle.std.proofs.lemmas.Bool.{cases_eq, eq-eqb, ne_eqb}
use Rattle.nb_ledger.specs.declared.port.Port.{Port}
use Rattle.nb_ledger.specs.declared.port.PortState.TheVariants.{Linked, Leaving}
use Rattle.nb_ledger.specs.declared.event.GraphEvent.TheVariants.{Entered}
use Rattle.nb_ledger.specs.declared.event.Way.TheVariants.{Down}
use Rattle.nb_ledger.specs.Ledger.{Ledger, port, rank}
use Rattle.nb_effects.specs.Deeds.{Deed, writes}
use Rattle.nb_effects.specs.Whole.{IsLinked, port_at}
use Rattle.nb_effects.specs.Accounts.{Account, JoinedEnds, joined, parted, account, enters, rests, is_same_port}
use Rattle.nb_effects.specs.Flows.{Reaches, over, IsClear, IsShut, Still, Closing, Downs, Asking, own, counted_taken, by_no_slot}
use Rattle.nb_effects.specs.Moves.{Calms}
use Rattle.nb_effects.proofs.ForestLemmas.{Reaches-map, apart-without, the-port}
use Rattle.nb_effects.proofs.AccountLemmas.{Calms-then, Joined-mild}
use Rattle.nb_effects.specs.Moves.{Mild}
use Rattle.nb_effects.proofs.FlowLemmas.{own-clear}

pub own-at : (y : ℕ) (sent : ℕ → List ℕ) (p : Port) → p.obj.0 ≡ y → own y sent p ≡ sent p.slot
own-at y sent p e = rw (eq-eqb p.obj.0 y e) refl

pub own-else : (y : ℕ) (sent : ℕ → List ℕ) (p : Port) → (p.obj.0 ≡ y → ⊥) → own y sent p ≡ []
own-else y sent p n = rw (ne_eqb p.obj.0 y n) refl

pub counted-else : (y : ℕ) (taken : ℕ → List ℕ) (q : Port) (b : Account) → (q.obj.0 ≡ y → taken q.slot ≡ []) → counted_taken y taken q b ≡ []
counted-else y taken q b n = elim (cases_eq q.obj.0 y) [
  | inl e ↦ rw (eq-eqb q.obj.0 y e, n e) (same b.entered)
  | inr e ↦ rw (ne_eqb q.obj.0 y e) refl
]
  where
    same : (c : Bool) → cond c (by_no_slot 0) [] ≡ []
    same true = refl
    same false = refl

pub counted-at : (y : ℕ) (taken : ℕ → List ℕ) (q : Port) (b : Account) → q.obj.0 ≡ y → b.entered ≡ true → counted_taken y taken q b ≡ taken q.slot
counted-at y taken q b e h = rw (eq-eqb q.obj.0 y e, h) refl

-- the object that is entered may be disturbed
abbrev Hearing : Ledger → ℕ → Port → Port → Account → List ℕ → List ℕ → Type 0
Hearing l x p q b w v = IsShut l p ⊎ ((w ≡ v) × IsClear l p x w)

-- the node of x is called, and its downs go
hears : (l : Ledger) (x : ℕ) (sent m : ℕ → List ℕ) → ((k : ℕ) → sent k ≡ m k) → sent 0 ≡ [] → (p q : Port) (y z : Account) (w v : List ℕ) → Hearing l x p q y w v → (u : List ℕ) × Asking l x sent by_no_slot p q y w u × Downs l x m p q z u v
hears l x sent m same none p q y z w v h =
    (w ++ own x sent p, (ap (λ t. t ++ (w ++ own x sent p)) (sym free), λ _. free), goes h)
  where
    free : counted_taken x by_no_slot q y ≡ []
    free = counted-else x by_no_slot q y (λ _. refl)

    goes : Hearing l x p q y w v → Downs l x m p q z (w ++ own x sent p) v
    goes (inl i) = inl i
    goes (inr i) = elim (cases_eq p.obj.0 x) [
      | inr n ↦
          let e = ap (λ t. w ++ t) (own-else x sent p n) ∙ append-nil w in
          inr (inr ((λ o. absurd (n o)), e ∙ i.0, subst (IsClear l p x) (sym e) i.1))
      | inl o ↦ elim (cases_eq p.slot 0) [
        | inl z ↦
            let e = ap (λ t. w ++ t) (own-at x sent p o ∙ ap sent z ∙ none) ∙ append-nil w in
            inr (inr ((λ _. z), e ∙ i.0, subst (IsClear l p x) (sym e) i.1))
        | inr z ↦
            let c = own-clear l o (omega arith) i.1 in
            inr (inl (o, omega arith, ap (λ t. t ++ own x sent p) c ∙ own-at x sent p o ∙ same p.slot, sym i.0 ∙ c))
      ]
    ]

-- a whole close of a link
pub Calms-link : {N L : Type 0} {known : Nature N L} {b0 b3 b4 b5 : Ledger} {bs ds es gs : List (Deed N L)} (at peer : Port) (sent m : ℕ → List ℕ) → IsLinked (port b0) (rank b0) → port b0 at.obj.0 at.slot ≡ Linked peer → port b3 at.obj.0 at.slot ≡ Leaving peer → port b3 peer.obj.0 peer.slot ≡ Leaving at → ((k : ℕ) → sent k ≡ m k) → sent 0 ≡ [] → Calms known b0 b3 Still bs → Calms known b3 b3 (Asking b3 peer.obj.0 sent by_no_slot) ds → Calms known b3 b4 (Downs b3 peer.obj.0 m) es → Calms known b4 b5 Still gs → Calms known b0 b5 (Closing b0 at.obj.0) (bs ++ (ds ++ (es ++ gs)))
Calms-link {known = known} {b0 = b0} {b3 = b3} {bs = bs} at peer sent m l h gone left same none half ask eff last =
    Calms-then half
    (Calms-then {h = Hearing b3 peer.obj.0} ask
    (Calms-then {h = Downs b3 peer.obj.0 m} eff last (λ p q x y w v d j. (v, d, λ _. refl)))
    (λ p q x y w v i j. let s = hears b3 peer.obj.0 sent m same none p q y y w v i in (s.0, s.1, λ _. s.2)))
    (λ p q x y w v i j. (w, refl, λ k. hearing y (account known q y bs) p q _ _ w v i k))
  where
    hearing : (y z : Account) (p q : Port) (s t w v : List ℕ) → Closing b0 at.obj.0 p q y w v → JoinedEnds b3 p q s t w → Hearing b3 peer.obj.0 p q z w v
    hearing y z p q s t w v (inl i) j = inl (half.shuts p.obj.0 p.slot i)
    hearing y z p q s t w v (inr i) (parted a b c d r e) = inl c
    hearing y z p q s t w v (inr i) (joined a b c d e) = inr (i.0, clear i.1)
      where
        not-at : p ≡ at → ⊥
        not-at z = let k = sym gone ∙ subst (λ u. port b3 u.obj.0 u.slot ≡ Linked q) z c in absurd (cc)

        not-peer : p ≡ peer → ⊥
        not-peer z = let k = sym left ∙ subst (λ u. port b3 u.obj.0 u.slot ≡ Linked q) z c in absurd (cc)

        -- without the link, the peer doesn't reach the other end
        outside : Reaches (port b3) p at.obj.0 peer.obj.0 → ⊥
        outside r = apart-without at.obj.0 at.slot peer l h (Reaches-map (λ x k z g n o. (half.links x k z g, (λ u. let i = sym gone ∙ ap (λ t. port b3 t.obj.0 t.slot) (sym u) ∙ g in absurd (cc)), λ u. let i = the-port (port b0) at.obj.0 at.slot (port_at x k) peer (subst (λ t. port b0 t.obj.0 t.slot ≡ Linked (port_at x k)) u (l.back x k z (half.links x k z g))) h in let k = sym left ∙ ap (λ t. port b3 t.obj.0 t.slot) (sym i) ∙ g in absurd (cc))) peer.obj.0 r)

        clear : (p.obj.0 ≡ at.obj.0) ⊎ IsClear b0 p at.obj.0 w → IsClear b3 p peer.obj.0 w
        clear (inl z) = inr (inr (λ r. outside (subst (λ u. Reaches (port b3) p u peer.obj.0) z r)))
        clear (inr (inl z)) = inl z
        clear (inr (inr (inl z))) = inr (inl z)
        clear (inr (inr (inr n))) = inr (inr (λ r. n (over at.obj.0 at.slot peer h (λ u. not-at (sym u)) (λ u. not-peer (sym u)) (Reaches-map (λ x k z g o u. (half.links x k z g, o, u)) peer.obj.0 r))))

enter-peer : (c : Bool) (a : Account) → (cond c (enters Down a) (rests a)).peer ≡ a.peer
enter-peer true a = refl
enter-peer false a = refl

enter-sent : (c : Bool) (a : Account) → (cond c (enters Down a) (rests a)).sent ≡ a.sent
enter-sent true a = refl
enter-sent false a = refl

enter-taken : (c : Bool) (a : Account) → (cond c (enters Down a) (rests a)).taken ≡ a.taken
enter-taken true a = refl
enter-taken false a = refl

enter-stays : (c : Bool) (a : Account) → a.entered ≡ true → (cond c (enters Down a) (rests a)).entered ≡ true
enter-stays true a h = refl
enter-stays false a h = h

-- an entry from above begins
pub Calms-enter : {N L : Type 0} (known : Nature N L) (l b : Ledger) (at : Port) → at.slot ≡ 0 → Mild l b → Calms {N = N} {L = L} known l b Still (writes (Entered at Down) ∷ [])
Calms-enter known l b at z m = record {
  same_made = m.same_made;
  links = m.links;
  shuts = m.shuts;
  peers = λ p a. enter-peer (is_same_port p at) a;
  enters = λ q a h. enter-stays (is_same_port q at) a h;
  quiet = λ q a o h. rw (ne_eqb q.slot at.slot (λ (e : q.slot ≡ at.slot). absurd (omega (arith, e, z, o)))) (other (eqb q.obj.0 at.obj.0) a h);
  joins = λ p q a c w v f j. rw (enter-sent (is_same_port p at) a, enter-taken (is_same_port q at) c, sym f) (Joined-mild m j);
  midway = λ p q a c w v f j. (λ _. start-joined j, λ _. rw (enter-sent (is_same_port p at) a, enter-taken (is_same_port q at) c) (start-joined j));
  apart = λ p q a c n. (λ i. absurd (n i), λ i. absurd (n (sym (enter-peer (is_same_port p at) a) ∙ i)));
}
  where
    other : (c : Bool) (a : Account) → a.entered ≡ false → (cond (c && false) (enters Down a) (rests a)).entered ≡ false
    other true a h = h
    other false a h = h
