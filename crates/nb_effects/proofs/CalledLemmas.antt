-- A link through a call of a node.
use Rattle.std.proofs.Common.{◌≡◌, ℕ, ◌+◌, ◌-◌, ◌≤◌, inl, inr, Bool, true, false, cond, eqb, ltb, List, [], ◌∷◌, ◌++◌, length, take, drop, length-append, take-append-drop, take_all, Option, Some, None, refl, ap, sym, ◌∙◌, subst, append_assoc, append-nil, arith}
use Rattle.std.proofs.lemmas.Bool.{cases_eq, eq-eqb, ne_eqb, ltb-false}
use Rattle.nb_ledger.specs.declared.port.Port.{Port}
use Rattle.nb_ledger.specs.declared.event.Way.{Way}
use Rattle.nb_ledger.specs.declared.event.Way.TheVariants as way
use Rattle.nb_effects.specs.declared.effects.Fx.{Fx}
use Rattle.nb_effects.specs.Whole.{port_at}
use Rattle.nb_effects.specs.Trace.{Nature, Said, NodeEntry, up, down, closed, time, regain, said_behind, left, silence}
use Rattle.nb_effects.specs.Deeds.{calls, Stage, MustHear, Holds, Returns, rest, runs_of}
use Rattle.nb_effects.specs.Scene.{Scene}
use Rattle.nb_effects.specs.Follows.{Becomes, peer_hears, returns, takes, takes_down, takes_time}
use Rattle.nb_effects.specs.Accounts.{Account, account_after_call, rests, sent_by_entry, taken_by, fx_bytes}
use Rattle.nb_effects.specs.Drained.{LinkWatch}
use Rattle.nb_effects.proofs.LinkLemmas.{cases_port}
use Rattle.nb_effects.proofs.DueLemmas.{Is, Bears, Bars, Due, Fit, Order, entered, bump-own, due-none, due-less, due-push, fit-rest, order-runs, entered-append, entered-runs, due-runs, due-fails}
use Rattle.nb_effects.proofs.TiedLemmas.{Tied}
use Rattle.nb_effects.proofs.FairLemmas.{Fair, Seen, popped, fit-other, bears-other}

-- one whose object is called
called-peer : (c : Bool) (a z : Account) → z.peer ≡ a.peer → (cond c z (rests a)).peer ≡ a.peer
called-peer true a z e = e
called-peer false a z e = refl

called-entered : (c : Bool) (a z : Account) → z.entered ≡ a.entered → (cond c z (rests a)).entered ≡ a.entered
called-entered true a z e = e
called-entered false a z e = refl

called-grows : (c : Bool) (a z : Account) (more : List ℕ) → z.taken ≡ a.taken ++ more → length a.taken ≤ length (cond c z (rests a)).taken
called-grows true a z more e = let l : length z.taken ≡ length (a.taken ++ more) = ap length e in let m = length-append a.taken more in omega (arith, l, m)
called-grows false a z more e = omega arith

-- what its object sends and takes counts
regain-sent : {N L : Type 0} (known : Nature N L) (c : Bool) (p : Port) (a : Account) (load : L) → length (cond c (account_after_call known p a (regain load)) (rests a)).sent ≡ length a.sent
regain-sent known true p a load = ap length (append-nil a.sent)
regain-sent known false p a load = refl

taken-more : {N L : Type 0} (known : Nature N L) (q : Port) (b : Account) (x : ℕ) (e : NodeEntry N L) (bytes : List ℕ) → q.obj.0 ≡ x → b.entered ≡ true → taken_by q.slot e ≡ bytes → length (cond (eqb q.obj.0 x) (account_after_call known q b e) (rests b)).taken ≡ length b.taken + length bytes
taken-more known q b x e bytes i counts is = rw (eq-eqb q.obj.0 x i, counts, is) (length-append b.taken bytes)

bump-zero : (x y h : ℕ) → x ≡ y → cond (eqb x y) (h + 1) h ≤ 1 → h ≡ 0
bump-zero x y h e le = let l = rw (eq-eqb x y e) at le in omega (arith, l)

-- the parts of a message
parts : (k : ℕ) (xs : List ℕ) → length xs ≡ length (take k xs) + length (drop k xs)
parts k xs = ap length (sym (take-append-drop k xs)) ∙ length-append (take k xs) (drop k xs)

module _ {N L : Type 0} (known : Nature N L) (p q : Port) where
  module _ (now : ℕ) (apart : p.obj.0 ≡ q.obj.0 → ⊥) (slots : q.slot ≤ 3) where
    -- the node of p's object is called
    called-own : (s : Scene) (n : ℕ) (a b : Account) (x slot : ℕ) (by : Way) (o : Option Said) (m : Said) (done : Bool) (fx : Fx N L) (e : NodeEntry N L) (gs : List (Stage N L)) (k : ℕ)
        → x ≡ p.obj.0 → sent_by_entry known p.slot e ≡ cond done (fx_bytes known p.slot m.bytes fx) []
        → Tied p q s → a.peer ≡ Some q → entered {N = N} {L = L} p.obj.0 (Holds (port_at x slot) by o ∷ gs) ≤ n → Order p q b.entered gs → Due p q k gs → length a.sent ≤ length b.taken + k
        → Fair p q s n (cond (eqb p.obj.0 x) (account_after_call known p a e) (rests a)) (cond (eqb q.obj.0 x) (account_after_call known q b e) (rests b)) ((runs_of known x m done fx ++ Holds (port_at x slot) by o ∷ []) ++ gs)
    called-own s n a b x slot by o m done fx e gs k own sends tied peer runs order due short =
        let hold : Stage N L = Holds (port_at x slot) by o in
        let far : x ≡ q.obj.0 → ⊥ = λ z. apart (sym own ∙ z) in
        let bytes = cond done (fx_bytes known p.slot m.bytes fx) [] in
        let run : List (Stage N L) = runs_of known x m done fx in
        rw (eq-eqb p.obj.0 x (sym own), ne_eqb q.obj.0 x (λ z. far (sym z)), append_assoc run (hold ∷ []) gs) (record {
          tied = tied;
          peer = peer;
          runs = rw (entered-runs known p q x m done fx (hold ∷ gs)) runs;
          order = order-runs known p q b.entered x m done fx (hold ∷ gs) apart
              (λ _. bump-own p.obj.0 x (entered p.obj.0 gs) (sym own))
              (λ _ le j d. due-none known p q b.entered gs j order (bump-zero p.obj.0 x (entered p.obj.0 gs) (sym own) le) (popped known p q hold gs j (λ i y. bears-other known p q (port_at x slot) by o i (λ t. far t.0) y) (λ y. y) d))
              (fit-other known p q b.entered (port_at x slot) by o gs (λ t. far t.0), order);
          missing = k + length bytes;
          due = subst (λ y. Due p q (k + length bytes) (runs_of known y m done fx ++ hold ∷ gs)) (sym own) (due-runs known p q m done fx (hold ∷ gs) k (inr (inr due)));
          short = let l = length-append a.sent (sent_by_entry known p.slot e) in let i = ap length sends in omega (arith, l, i, short);
        })

    -- the node of another object is called
    called-other : (s : Scene) (n : ℕ) (a b : Account) (x slot : ℕ) (by : Way) (o : Option Said) (m : Said) (done : Bool) (fx : Fx N L) (e : NodeEntry N L) (gs : List (Stage N L)) (k : ℕ)
        → (x ≡ p.obj.0 → ⊥) → Tied p q s → a.peer ≡ Some q → entered {N = N} {L = L} p.obj.0 (Holds (port_at x slot) by o ∷ gs) ≤ n → Order p q b.entered (Holds (port_at x slot) by o ∷ gs)
        → Due p q k (runs_of known x m done fx ++ Holds (port_at x slot) by o ∷ gs) → length a.sent ≤ length (cond (eqb q.obj.0 x) (account_after_call known q b e) (rests b)).taken + k
        → Fair p q s n (cond (eqb p.obj.0 x) (account_after_call known p a e) (rests a)) (cond (eqb q.obj.0 x) (account_after_call known q b e) (rests b)) ((runs_of known x m done fx ++ Holds (port_at x slot) by o ∷ []) ++ gs)
    called-other s n a b x slot by o m done fx e gs k far tied peer runs order due short =
        let hold : Stage N L = Holds (port_at x slot) by o in
        let run : List (Stage N L) = runs_of known x m done fx in
        let b2 = cond (eqb q.obj.0 x) (account_after_call known q b e) (rests b) in
        subst (Fair p q s n (cond (eqb p.obj.0 x) (account_after_call known p a e) (rests a)) b2) (sym (append_assoc run (hold ∷ []) gs)) (rw (ne_eqb p.obj.0 x (λ z. far (sym z))) (record {
          tied = tied;
          peer = peer;
          runs = rw (entered-runs known p q x m done fx (hold ∷ gs)) runs;
          order = subst (λ z. Order p q z (run ++ hold ∷ gs)) (sym (called-entered (eqb q.obj.0 x) b (account_after_call known q b e) refl))
              (order-runs known p q b.entered x m done fx (hold ∷ gs) apart (λ i. absurd (far i)) (λ i. absurd (far i)) order);
          missing = k;
          due = due;
          short = short;
        }))

    -- one that isn't entered by q just then
    called-aside : (s : Scene) (n : ℕ) (a b : Account) (x slot : ℕ) (by : Way) (o : Option Said) (m : Said) (done : Bool) (fx : Fx N L) (e : NodeEntry N L) (g : Stage N L) (gs : List (Stage N L))
        → (x ≡ p.obj.0 → ⊥) → ((k : ℕ) → Bears p q g k → ⊥) → (Bars q g → ⊥) → entered {N = N} {L = L} p.obj.0 (Holds (port_at x slot) by o ∷ gs) ≤ n → Fit p q b.entered (Holds (port_at x slot) by o) gs → Fair p q s n a b (g ∷ gs)
        → Fair p q s n (cond (eqb p.obj.0 x) (account_after_call known p a e) (rests a)) (cond (eqb q.obj.0 x) (account_after_call known q b e) (rests b)) ((runs_of known x m done fx ++ Holds (port_at x slot) by o ∷ []) ++ gs)
    called-aside s n a b x slot by o m done fx e g gs far none nor runs fit f =
        let grows = called-grows (eqb q.obj.0 x) b (account_after_call known q b e) (cond b.entered (taken_by q.slot e) []) refl in
        let short = f.short in
        called-other s n a b x slot by o m done fx e gs f.missing far f.tied f.peer runs (fit, f.order.1)
        (due-push known p q (runs_of known x m done fx) (Holds (port_at x slot) by o ∷ gs) f.missing (inr (inr (popped known p q g gs f.missing none nor f.due))))
        (omega (arith, grows, short))

    -- q's object runs out of memory: it closes q next
    called-fails : (s : Scene) (n : ℕ) (a b : Account) (x slot : ℕ) (by : Way) (m : Said) (fx : Fx N L) (e : NodeEntry N L) (gs : List (Stage N L))
        → (x ≡ p.obj.0 → ⊥) → Is q (port_at x slot) → Fair p q s n a b (Holds (port_at x slot) by (Some m) ∷ gs)
        → Fair p q s n (cond (eqb p.obj.0 x) (account_after_call known p a e) (rests a)) (cond (eqb q.obj.0 x) (account_after_call known q b e) (rests b)) ((runs_of known x m false fx ++ Holds (port_at x slot) by None ∷ []) ++ gs)
    called-fails s n a b x slot by m fx e gs far here f =
        let hold : Stage N L = Holds (port_at x slot) by None in
        let grows = called-grows (eqb q.obj.0 x) b (account_after_call known q b e) (cond b.entered (taken_by q.slot e) []) refl in
        let short = f.short in
        let inside = (f.order.0 here).1 in
        let more = entered-append known p q p.obj.0 (hold ∷ []) gs in
        called-other s n a b x slot by None m false fx e gs f.missing far f.tied f.peer f.runs (tt, f.order.1)
        (elim f.due [
          | inl d ↦ due-fails known p q x f.missing m fx (hold ∷ gs) here.0 slots (omega (arith, inside, more))
          | inr r ↦ elim r [
            | inl d ↦ absurd d.0
            | inr d ↦ due-push known p q (runs_of known x m false fx) (hold ∷ gs) f.missing (inr (inr d))
          ]
        ])
        (omega (arith, grows, short))

    -- what is left of a message of which q took some is still known p q to be brought
    due-left : (r : Port) (by : Way) (m : Said) (took n : ℕ) (gs : List (Stage N L)) → Is q r → Due p q n (Holds r by (Some m) ∷ gs) → Due p q (n - length (take took m.bytes)) (Holds r by (left took m) ∷ gs)
    due-left r by m took n gs i d = go (ltb took (length m.bytes)) refl
      where
        go : (c : Bool) → ltb took (length m.bytes) ≡ c → Due p q (n - length (take took m.bytes)) (Holds r by (cond c (Some (said_behind took m)) None) ∷ gs)
        go true e = elim d [
          | inl b ↦ inl (length (drop took m.bytes), (i, refl), due-less known p q gs (n - b.0) (n - length (take took m.bytes) - length (drop took m.bytes)) (let u = b.1.1 in let v = parts took m.bytes in omega (arith, u, v)) b.2)
          | inr x ↦ elim x [
            | inl b ↦ absurd b.0
            | inr f ↦ inr (inr (due-less known p q gs n (n - length (take took m.bytes)) (omega arith) f))
          ]
        ]
        go false e =
            let all : length (take took m.bytes) ≡ length m.bytes = ap length (take_all took m.bytes (ltb-false took (length m.bytes) e)) in
            elim d [
              | inl b ↦ inr (inr (due-less known p q gs (n - b.0) (n - length (take took m.bytes)) (let u = b.1.1 in omega (arith, u, all)) b.2))
              | inr x ↦ elim x [
                | inl b ↦ absurd b.0
                | inr f ↦ inr (inr (due-less known p q gs n (n - length (take took m.bytes)) (omega arith) f))
              ]
            ]

    -- a message from below enters q's object by q
    takes-up : (s : Scene) (n : ℕ) (a b : Account) (x slot : ℕ) (m : Said) (done : Bool) (fx : Fx N L) (gs : List (Stage N L))
        → (x ≡ p.obj.0 → ⊥) → Is q (port_at x slot) → Fair p q s n a b (Holds (port_at x slot) way.Up (Some m) ∷ gs)
        → Fair p q s n (cond (eqb p.obj.0 x) (account_after_call known p a (up slot m now done fx)) (rests a)) (cond (eqb q.obj.0 x) (account_after_call known q b (up slot m now done fx)) (rests b)) ((runs_of known x m done fx ++ Holds (port_at x slot) way.Up (rest m done fx) ∷ []) ++ gs)
    takes-up s n a b x slot m true fx gs far here f =
        let bytes = take fx.took m.bytes in
        let k = f.missing - length bytes in
        let short = f.short in
        let grows = taken-more known q b x (up slot m now true fx) bytes (sym here.0) (f.order.0 here).0 (rw (eq-eqb q.slot slot (sym here.1)) refl) in
        called-other s n a b x slot way.Up (left fx.took m) m true fx (up slot m now true fx) gs k far f.tied f.peer f.runs
        (fit-rest known p q b.entered (port_at x slot) way.Up m (left fx.took m) gs f.order.0, f.order.1)
        (due-push known p q (runs_of known x m true fx) (Holds (port_at x slot) way.Up (left fx.took m) ∷ gs) k (due-left (port_at x slot) way.Up m fx.took f.missing gs here f.due))
        (omega (arith, grows, short))
    takes-up s n a b x slot m false fx gs far here f = called-fails s n a b x slot way.Up m fx (up slot m now false fx) gs far here f

    -- and one from above
    takes-below : (s : Scene) (n : ℕ) (a b : Account) (x : ℕ) (m : Said) (done : Bool) (fx : Fx N L) (gs : List (Stage N L))
        → (x ≡ p.obj.0 → ⊥) → Is q (port_at x 0) → Fair p q s n a b (Holds (port_at x 0) way.Down (Some m) ∷ gs)
        → Fair p q s n (cond (eqb p.obj.0 x) (account_after_call known p a (down m now done fx)) (rests a)) (cond (eqb q.obj.0 x) (account_after_call known q b (down m now done fx)) (rests b)) ((runs_of known x m done fx ++ Holds (port_at x 0) way.Down None ∷ []) ++ gs)
    takes-below s n a b x m true fx gs far here f =
        let k = f.missing - length m.bytes in
        let short = f.short in
        let grows = taken-more known q b x (down m now true fx) m.bytes (sym here.0) (f.order.0 here).0 (rw (eq-eqb q.slot 0 (sym here.1)) refl) in
        called-other s n a b x 0 way.Down None m true fx (down m now true fx) gs k far f.tied f.peer f.runs (tt, f.order.1)
        (due-push known p q (runs_of known x m true fx) (Holds (port_at x 0) way.Down None ∷ gs) k (inr (inr (elim f.due [
          | inl d ↦ due-less known p q gs (f.missing - d.0) k (let u = d.1.1 in omega (arith, u)) d.2
          | inr r ↦ elim r [
            | inl d ↦ absurd d.0
            | inr d ↦ due-less known p q gs f.missing k (omega arith) d
          ]
        ]))))
        (omega (arith, grows, short))
    takes-below s n a b x m false fx gs far here f = called-fails s n a b x 0 way.Down m fx (down m now false fx) gs far here f

    -- a node is called, or has a load back
    pub called : (s : Scene) (w : LinkWatch) (a b : Account) (gs : List (Stage N L)) {g : Stage N L} {x : ℕ} {e : NodeEntry N L} {more : List (Stage N L)} → Becomes known now s g (calls x e) more → Seen p q w s a b (g ∷ gs)
        → Seen p q w s (cond (eqb p.obj.0 x) (account_after_call known p a e) (rests a)) (cond (eqb q.obj.0 x) (account_after_call known q b e) (rests b)) (more ++ gs)
    called s w a b gs (peer_hears x slot c fx) seen z =
        let f = seen z in
        elim (cases_eq x p.obj.0) [
          | inl i ↦ called-own s w.running a b x slot way.Close None silence true fx (closed slot c now fx) gs f.missing i refl f.tied f.peer f.runs f.order.1 (popped known p q (MustHear (port_at x slot) c) gs f.missing (λ k y. y) (λ y. y) f.due) f.short
          | inr n ↦ called-aside s w.running a b x slot way.Close None silence true fx (closed slot c now fx) (MustHear (port_at x slot) c) gs n (λ k y. y) (λ y. y) f.runs tt f
        ]
    called s w a b gs (returns x l) seen z =
        let f = seen z in
        let sent = regain-sent known (eqb p.obj.0 x) p a l in
        let grows = called-grows (eqb q.obj.0 x) b (account_after_call known q b (regain l)) (cond b.entered [] []) refl in
        let short = f.short in
        record {
          tied = f.tied;
          peer = called-peer (eqb p.obj.0 x) a (account_after_call known p a (regain l)) refl ∙ f.peer;
          runs = f.runs;
          order = subst (λ y. Order p q y gs) (sym (called-entered (eqb q.obj.0 x) b (account_after_call known q b (regain l)) refl)) f.order.1;
          missing = f.missing;
          due = popped known p q (Returns x l) gs f.missing (λ k y. y) (λ y. y) f.due;
          short = omega (arith, sent, grows, short);
        }
    called s w a b gs (takes x slot m done fx o) seen z =
        let f = seen z in
        elim (cases_eq x p.obj.0) [
          | inl i ↦ called-own s w.running a b x slot way.Up (rest m done fx) m done fx (up slot m now done fx) gs f.missing i refl f.tied f.peer f.runs f.order.1
              (popped known p q (Holds (port_at x slot) way.Up (Some m)) gs f.missing (λ k y. apart (sym i ∙ y.0.0)) (λ y. y) f.due) f.short
          | inr n ↦ elim (cases_port x slot q) [
            | inl here ↦ takes-up s w.running a b x slot m done fx gs n here f
            | inr there ↦ called-aside s w.running a b x slot way.Up (rest m done fx) m done fx (up slot m now done fx) (Holds (port_at x slot) way.Up (Some m)) gs n (λ k y. there y.0) (λ y. y) f.runs
                (fit-rest known p q b.entered (port_at x slot) way.Up m (rest m done fx) gs f.order.0) f
          ]
        ]
    called s w a b gs (takes_down x m done fx) seen z =
        let f = seen z in
        elim (cases_eq x p.obj.0) [
          | inl i ↦ called-own s w.running a b x 0 way.Down None m done fx (down m now done fx) gs f.missing i refl f.tied f.peer f.runs f.order.1
              (popped known p q (Holds (port_at x 0) way.Down (Some m)) gs f.missing (λ k y. apart (sym i ∙ y.0.0)) (λ y. y) f.due) f.short
          | inr n ↦ elim (cases_port x 0 q) [
            | inl here ↦ takes-below s w.running a b x m done fx gs n here f
            | inr there ↦ called-aside s w.running a b x 0 way.Down None m done fx (down m now done fx) (Holds (port_at x 0) way.Down (Some m)) gs n (λ k y. there y.0) (λ y. y) f.runs tt f
          ]
        ]
    called s w a b gs (takes_time x done fx) seen z =
        let f = seen z in
        let there : Is q (port_at x 4) → ⊥ = λ i. absurd (omega (arith, i.1, slots)) in
        elim (cases_eq x p.obj.0) [
          | inl i ↦ called-own s w.running a b x 4 way.Time None silence done fx (time now done fx) gs f.missing i refl f.tied f.peer f.runs f.order.1
              (popped known p q (Holds (port_at x 4) way.Time (Some silence)) gs f.missing (λ k y. there y.0) (λ y. y) f.due) f.short
          | inr n ↦ called-aside s w.running a b x 4 way.Time None silence done fx (time now done fx) (Holds (port_at x 4) way.Time (Some silence)) gs n (λ k y. there y.0) (λ y. y) f.runs tt f
        ]
