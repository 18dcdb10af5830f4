-- Whole entries, with what objects stand for.
use Rattle.nb_ledger.specs.Flat.{Given, flat, event}
use Rattle.std.proofs.Common.{◌≡◌, ◌≢◌, ℕ, Bool, false, List, [], ◌∷◌, ◌++◌, refl, ap}
use Rattle.nb_ledger.specs.declared.event.GraphEvent.{GraphEvent}
use Rattle.nb_effects.specs.Trace.{Nature, NodeEntry}
use Rattle.nb_effects.specs.declared.effects.Fx.{Fx}
use Rattle.nb_effects.specs.Deeds.{Deed, writes, Stage, Calls, Hands}
use Rattle.nb_effects.specs.Follows.{UsesStack}
use Rattle.nb_effects.specs.Scene.{Scene, after_noted}
use Rattle.nb_graph.specs.Lives.{Seats, StaysTraced, Loses, Same, Back, AllBack, Lends, LendsFirst, Stays, here}
use Rattle.nb_graph.proofs.LivesLemmas.{Lives-both, Lives-say, Lives-then, Lives-above, Lives-note}
use Rattle.nb_graph.proofs.OwingLemmas.{Same-lends, Same-first, AllBack-first}

-- an entry from above
pub Lives-entry : {N L : Type 0} {known : Nature N L} {stands : N → List (NodeEntry N L) → Type 0} {now : ℕ} {f0 f1 f2 f3 f4 : Seats N} {m0 m1 : List (Stage N L) → List (Stage N L)} {i j z r : List (Deed N L) → Type 0} {xs ys : List GraphEvent} (b c : ℕ → Bool) (y : ℕ) (ls : List L) (rs : List (Stage N L) → List (Stage N L)) (s : List (Stage N L) → List (Stage N L)) (e : GraphEvent) (entry : Bool → Fx N L → NodeEntry N L) → ((x : ℕ) → x ≢ y → c x ≡ b x) → Loses f0.node f1.node → f1.scene ≡ after_noted e f0.scene → Given f0.told f1.told (event (flat e) ∷ []) → ((st : List (Stage N L)) (ds : List (Deed N L)) (z : Scene) → UsesStack known now (after_noted e f0.scene) (m0 st) ds z → UsesStack known now f0.scene (s st) (writes e ∷ ds) z) → ((k : StaysTraced stands known now f1 f2 (Lends y ls) m0 (λ st. rs (m1 st)) i []) × Calls y entry k.deeds) → StaysTraced stands known now f2 f3 (Back c y ls) rs here j xs → StaysTraced stands known now f3 f4 Stays m1 here z ys → ((ds es gs : List (Deed N L)) → i ds → j es → z gs → r (writes e ∷ (ds ++ (es ++ gs)))) → (v : StaysTraced stands known now f0 f4 (Same b) s here r (e ∷ (xs ++ ys))) × Hands e y entry v.deeds
unfolding Lives-both Lives-then Lives-say Lives-above Lives-note
Lives-entry {stands = stands} {now = now} {f0 = f0} {f1 = f1} {m0 = m0} {m1 = m1} b c y ls rs s e entry same loses ports given notes a k l join =
    let body = Lives-both (Lives-above m1 k) l (λ x w v i. (v, i, refl)) in
    let called = Lives-both a.0 body (Same-lends b c y ls same) in
    let whole = Lives-both (Lives-note stands now f0 f1 s m0 e loses ports given notes {i = λ _. Unit {0}} tt) called (λ x w v i. (w, refl, i)) in
    (Lives-say whole (join a.0.deeds k.deeds l.deeds a.0.moved k.moved l.moved), (a.1.0, a.1.1, a.1.2 ++ body.deeds, ap (λ z. writes e ∷ (z ++ body.deeds)) a.1.3))

-- an entry from below
pub Lives-entry_up : {N L : Type 0} {known : Nature N L} {stands : N → List (NodeEntry N L) → Type 0} {now : ℕ} {f0 f1 f3 f4 : Seats N} {m0 m1 : List (Stage N L) → List (Stage N L)} {i j r : List (Deed N L) → Type 0} {xs ys : List GraphEvent} (b c : ℕ → Bool) (y : ℕ) (s : List (Stage N L) → List (Stage N L)) (e : GraphEvent) (entry : Bool → Fx N L → NodeEntry N L) → ((x : ℕ) → x ≢ y → c x ≡ b x) → b y ≡ false → Loses f0.node f1.node → f1.scene ≡ after_noted e f0.scene → Given f0.told f1.told (event (flat e) ∷ []) → ((st : List (Stage N L)) (ds : List (Deed N L)) (z : Scene) → UsesStack known now (after_noted e f0.scene) (m0 st) ds z → UsesStack known now f0.scene (s st) (writes e ∷ ds) z) → ((k : StaysTraced stands known now f1 f3 (AllBack c y []) m0 m1 i xs) × Calls y entry k.deeds) → StaysTraced stands known now f3 f4 Stays m1 here j ys → ((ds es : List (Deed N L)) → i ds → j es → r (writes e ∷ (ds ++ es))) → (v : StaysTraced stands known now f0 f4 (Same b) s here r (e ∷ (xs ++ ys))) × Hands e y entry v.deeds
unfolding Lives-both Lives-then Lives-say Lives-note
Lives-entry_up {stands = stands} {now = now} {f0 = f0} {f1 = f1} {m0 = m0} b c y s e entry same idle loses ports given notes a l join =
    let called = Lives-both a.0 l (λ x w v i. (v, Same-first b c y same idle x w v i, refl)) in
    let whole = Lives-both (Lives-note stands now f0 f1 s m0 e loses ports given notes {i = λ _. Unit {0}} tt) called (λ x w v i. (w, refl, i)) in
    (Lives-say whole (join a.0.deeds l.deeds a.0.moved l.moved), (a.1.0, a.1.1, a.1.2 ++ l.deeds, ap (λ z. writes e ∷ (z ++ l.deeds)) a.1.3))

-- a call from below and what it leads to
pub Calls-then : {N L : Type 0} {known : Nature N L} {stands : N → List (NodeEntry N L) → Type 0} {now : ℕ} {f1 f2 f3 : Seats N} {m0 m1 m2 : List (Stage N L) → List (Stage N L)} {i j z : List (Deed N L) → Type 0} {xs : List GraphEvent} (b c : ℕ → Bool) (y : ℕ) (ls : List L) (entry : Bool → Fx N L → NodeEntry N L) → ((x : ℕ) → c x ≡ b x) → ((k : StaysTraced stands known now f1 f2 (LendsFirst y ls) m0 m1 i []) × Calls y entry k.deeds) → StaysTraced stands known now f2 f3 (AllBack c y ls) m1 m2 j xs → ((ds es : List (Deed N L)) → i ds → j es → z (ds ++ es)) → (r : StaysTraced stands known now f1 f3 (AllBack b y []) m0 m2 z xs) × Calls y entry r.deeds
unfolding Lives-then
Calls-then b c y ls entry same a k join =
    (Lives-then a.0 k (AllBack-first b c y ls same) join, (a.1.0, a.1.1, a.1.2 ++ k.deeds, ap (λ z. z ++ k.deeds) a.1.3))

-- the peer of a port that is closed hears of it
pub Lives-closed : {N L : Type 0} {known : Nature N L} {stands : N → List (NodeEntry N L) → Type 0} {now : ℕ} {f0 f1 f2 f3 f4 : Seats N} {m0 m1 : List (Stage N L) → List (Stage N L)} {h i j z r : List (Deed N L) → Type 0} {es xs ys : List GraphEvent} (b c : ℕ → Bool) (y : ℕ) (ls : List L) (rs s : List (Stage N L) → List (Stage N L)) → ((x : ℕ) → x ≢ y → c x ≡ b x) → StaysTraced stands known now f0 f1 Stays s m0 h es → StaysTraced stands known now f1 f2 (Lends y ls) m0 (λ st. rs (m1 st)) i [] → StaysTraced stands known now f2 f3 (Back c y ls) rs here j xs → StaysTraced stands known now f3 f4 Stays m1 here z ys → ((bs ds es gs : List (Deed N L)) → h bs → i ds → j es → z gs → r (bs ++ (ds ++ (es ++ gs)))) → StaysTraced stands known now f0 f4 (Same b) s here r (es ++ (xs ++ ys))
unfolding Lives-both Lives-then Lives-above
Lives-closed {m1 = m1} b c y ls rs s same n a k l join =
    let body = Lives-both (Lives-above m1 k) l (λ x w v i. (v, i, refl)) in
    let called = Lives-both a body (Same-lends b c y ls same) in
    let whole = Lives-both n called (λ x w v i. (w, refl, i)) in
    Lives-say whole (join n.deeds a.deeds k.deeds l.deeds n.moved a.moved k.moved l.moved)
