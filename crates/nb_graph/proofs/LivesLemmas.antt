-- What happens, one after another.
use Rattle.std.proofs.Common.{Option, ◌≡◌, ◌≢◌, ℕ, ◌+◌, inl, inr, Bool, false, cond, eqb, List, [], ◌∷◌, ◌++◌, Some, append_assoc, refl, ap, sym, ◌∙◌, subst, append-nil}
use Rattle.std.proofs.lemmas.Bool.{cases_eq, eq-eqb, ne_eqb}
use Rattle.nb_ledger.specs.declared.port.ObjId.{ObjId}
use Rattle.nb_ledger.specs.declared.port.Port.{Port}
use Rattle.nb_ledger.specs.declared.event.GraphEvent.{GraphEvent}
use Rattle.nb_ledger.specs.declared.event.GraphEvent.TheVariants.{Made, Plugged}
use Rattle.nb_ledger.specs.Flat.{Heard, Given, flat, event}
use Rattle.nb_ledger.proofs.RunLemmas.{Given-append, Given-none}
use Rattle.nb_effects.specs.Deeds.{notice_of, told_of}
use Rattle.nb_ledger.specs.declared.event.Way.{Way}
use Rattle.nb_ledger.specs.declared.event.Way.TheVariants as way
use Rattle.nb_effects.specs.Deeds.{Settles as Frees, settles_by}
use Rattle.nb_effects.specs.Trace.{Nature, NodeEntry, Owes, Owes1}
use Rattle.nb_effects.specs.Deeds.{Deed, writes, begins, calls, turns, Turn, Stage, Returns, returns_of, Makes, MustBegin, MustPlug, events_of, trace_after}
use Rattle.nb_effects.specs.Whole.{port_at}
use Rattle.nb_ledger.specs.declared.port.PortState.TheVariants as port
use Rattle.nb_effects.specs.Scene.{Scene, IsGraphFull, state_at, after_noted}
use Rattle.nb_effects.specs.Follows.{UsesStack, makes, has_begun, plugs}
use Rattle.nb_effects.specs.Hosts.{Performs, Suits}
use Rattle.nb_effects.proofs.HostLemmas.{hosts-append, suited-append}
use Rattle.nb_graph.specs.Lives.{Seats, Loses, StaysTraced, Same, Stays, here, NodeFits}

-- what is owed after a trace and one more
pub Owes-append : {N L : Type 0} (w v u : List L) (s t : List (NodeEntry N L)) → Owes w s v → Owes v t u → Owes w (s ++ t) u
Owes-append w v u [] t p q = subst (λ z. Owes z t u) (sym p) q
Owes-append w v u (e ∷ s) t p q = (p.0, p.1, Owes-append p.0 v u s t p.2 q)

pub trace-append : {N L : Type 0} (x : ℕ) (t : List (NodeEntry N L)) (ds es : List (Deed N L)) → trace_after x t (ds ++ es) ≡ trace_after x (trace_after x t ds) es
trace-append x t [] es = refl
trace-append x t (writes e ∷ ds) es = trace-append x t ds es
trace-append x t (begins y n ∷ ds) es = trace-append x (cond (eqb x y) [] t) ds es
trace-append x t (calls y i ∷ ds) es = trace-append x (cond (eqb x y) (t ++ i ∷ []) t) ds es
trace-append x t (turns u ∷ ds) es = trace-append x t ds es

pub events-append : {N L : Type 0} (ds es : List (Deed N L)) → events_of (ds ++ es) ≡ events_of ds ++ events_of es
events-append [] es = refl
events-append (writes e ∷ ds) es = ap (λ z. e ∷ z) (events-append ds es)
events-append (calls y i ∷ ds) es = events-append ds es
events-append (begins y n ∷ ds) es = events-append ds es
events-append (turns u ∷ ds) es = events-append ds es

pub told-append : {N L : Type 0} (ds es : List (Deed N L)) → told_of (ds ++ es) ≡ told_of ds ++ told_of es
told-append [] es = refl
told-append (writes e ∷ ds) es = ap (λ z. event (flat e) ∷ z) (told-append ds es)
told-append (begins y n ∷ ds) es = told-append ds es
told-append (calls y i ∷ ds) es = told-append ds es
told-append (turns u ∷ ds) es = ap (λ z. notice_of u ++ z) (told-append ds es) ∙ sym (append_assoc (notice_of u) (told_of ds) (told_of es))

-- what a call becomes stands above what stood below it
pub Follows-called : {N L : Type 0} (known : Nature N L) (now : ℕ) (s t : Scene) (rs gs : List (Stage N L)) (g : Stage N L) (ds : List (Deed N L)) → UsesStack known now s (rs ++ g ∷ gs) ds t → UsesStack known now s ((rs ++ g ∷ []) ++ gs) ds t
Follows-called known now s t rs gs g ds h = subst (λ z. UsesStack known now s z ds t) (sym (append_assoc rs (g ∷ []) gs)) h

-- one after the other, with what is owed between
unfoldable pub Lives-then : {N L : Type 0} {known : Nature N L} {stands : N → List (NodeEntry N L) → Type 0} {now : ℕ} {f g h : Seats N} {p q r : ℕ → List L → List L → Type 0} {o m n : List (Stage N L) → List (Stage N L)} {i j k : List (Deed N L) → Type 0} {xs ys : List GraphEvent} → StaysTraced stands known now f g p o m i xs → StaysTraced stands known now g h q m n j ys → ((x : ℕ) (w v : List L) → r x w v → (u : List L) × p x w u × q x u v) → ((ds es : List (Deed N L)) → i ds → j es → k (ds ++ es)) → StaysTraced stands known now f h r o n k (xs ++ ys)
Lives-then {known = known} {stands = stands} {now = now} {f = f} {g = g} {h = h} {o = o} {m = m} {n = n} {xs = xs} {ys = ys} a b split join = record {
  deeds = a.deeds ++ b.deeds;
  events = events-append a.deeds b.deeds ∙ ap (λ z. z ++ events_of b.deeds) a.events ∙ ap (λ z. xs ++ z) b.events;
  tells = subst (Given f.told h.told) (sym (told-append a.deeds b.deeds)) (Given-append f.told g.told h.told (told_of a.deeds) (told_of b.deeds) a.tells b.tells);
  follows = λ st ds s k. subst (λ z. UsesStack known now f.scene (o st) z s) (sym (append_assoc a.deeds b.deeds ds)) (a.follows st (b.deeds ++ ds) s (b.follows st ds s k));
  keeps = λ x t w v k fit.
      let u = split x w v k in
      subst (λ z. NodeFits stands h x z v) (sym (trace-append x t a.deeds b.deeds)) (b.keeps x (trace_after x t a.deeds) u.0 v u.2 (a.keeps x t w u.0 u.1 fit));
  hosts = hosts-append known stands f.node g.node h.node a.deeds b.deeds a.hosts b.hosts;
  suits = λ x t w v k fit.
      let u = split x w v k in
      suited-append x t a.deeds b.deeds (a.suits x t w u.0 u.1 fit) (b.suits x (trace_after x t a.deeds) u.0 v u.2 (a.keeps x t w u.0 u.1 fit));
  moved = join a.deeds b.deeds a.moved b.moved;
}

-- of which nothing is said of bytes
unfoldable pub Lives-both : {N L : Type 0} {known : Nature N L} {stands : N → List (NodeEntry N L) → Type 0} {now : ℕ} {f g h : Seats N} {p q r : ℕ → List L → List L → Type 0} {o m n : List (Stage N L) → List (Stage N L)} {i j : List (Deed N L) → Type 0} {xs ys : List GraphEvent} → StaysTraced stands known now f g p o m i xs → StaysTraced stands known now g h q m n j ys → ((x : ℕ) (w v : List L) → r x w v → (u : List L) × p x w u × q x u v) → StaysTraced stands known now f h r o n (λ _. Unit {0}) (xs ++ ys)
unfolding Lives-then
Lives-both a b split = Lives-then a b split (λ ds es k l. tt)

-- something of which no event is written after it
unfoldable pub Lives-after : {N L : Type 0} {known : Nature N L} {stands : N → List (NodeEntry N L) → Type 0} {now : ℕ} {f g h : Seats N} {p q r : ℕ → List L → List L → Type 0} {o m n : List (Stage N L) → List (Stage N L)} {i j k : List (Deed N L) → Type 0} {xs : List GraphEvent} → StaysTraced stands known now f g p o m i xs → StaysTraced stands known now g h q m n j [] → ((x : ℕ) (w v : List L) → r x w v → (u : List L) × p x w u × q x u v) → ((ds es : List (Deed N L)) → i ds → j es → k (ds ++ es)) → StaysTraced stands known now f h r o n k xs
unfolding Lives-then
Lives-after {k = k} {xs = xs} a b split join =
    let v = Lives-then {k = k} a b split join in
    record { deeds = v.deeds; events = v.events ∙ append-nil xs; tells = v.tells; follows = v.follows; keeps = v.keeps; hosts = v.hosts; suits = v.suits; moved = v.moved }

-- the same within other stages
unfoldable pub Lives-under : {N L : Type 0} {known : Nature N L} {stands : N → List (NodeEntry N L) → Type 0} {now : ℕ} {f g : Seats N} {p : ℕ → List L → List L → Type 0} {i : List (Deed N L) → Type 0} {xs : List GraphEvent} (m : List (Stage N L) → List (Stage N L)) → StaysTraced stands known now f g p here here i xs → StaysTraced stands known now f g p m m i xs
Lives-under m k = record { deeds = k.deeds; events = k.events; tells = k.tells; follows = λ st. k.follows (m st); keeps = k.keeps; hosts = k.hosts; suits = k.suits; moved = k.moved }

-- the same above other stages
unfoldable pub Lives-above : {N L : Type 0} {known : Nature N L} {stands : N → List (NodeEntry N L) → Type 0} {now : ℕ} {f g : Seats N} {p : ℕ → List L → List L → Type 0} {o n : List (Stage N L) → List (Stage N L)} {i : List (Deed N L) → Type 0} {xs : List GraphEvent} (m : List (Stage N L) → List (Stage N L)) → StaysTraced stands known now f g p o n i xs → StaysTraced stands known now f g p (λ st. o (m st)) (λ st. n (m st)) i xs
Lives-above m k = record { deeds = k.deeds; events = k.events; tells = k.tells; follows = λ st. k.follows (m st); keeps = k.keeps; hosts = k.hosts; suits = k.suits; moved = k.moved }

-- the same of stages in another form
unfoldable pub Lives-opened : {N L : Type 0} {stands : N → List (NodeEntry N L) → Type 0} {known : Nature N L} {now : ℕ} {f g : Seats N} {p : ℕ → List L → List L → Type 0} {o m n : List (Stage N L) → List (Stage N L)} {i : List (Deed N L) → Type 0} {xs : List GraphEvent} → ((st : List (Stage N L)) → m st ≡ o st) → StaysTraced stands known now f g p o n i xs → StaysTraced stands known now f g p m n i xs
Lives-opened {known = known} {now = now} {f = f} same k = record { deeds = k.deeds; events = k.events; tells = k.tells; follows = λ st ds s w. subst (λ z. UsesStack known now f.scene z (k.deeds ++ ds) s) (sym (same st)) (k.follows st ds s w); keeps = k.keeps; hosts = k.hosts; suits = k.suits; moved = k.moved }

-- loads that come back, and others
pub returns-append : {N L : Type 0} (x : ℕ) (ls ms : List L) → returns_of {N = N} x (ls ++ ms) ≡ returns_of x ls ++ returns_of x ms
returns-append x [] ms = refl
returns-append x (l ∷ ls) ms = ap (λ z. Returns x l ∷ z) (returns-append x ls ms)

pub returns-both : {N L : Type 0} (x : ℕ) (ls ms : List L) (st : List (Stage N L)) → returns_of x (ls ++ ms) ++ st ≡ returns_of x ls ++ (returns_of x ms ++ st)
returns-both x ls ms st = ap (λ z. z ++ st) (returns-append x ls ms) ∙ append_assoc (returns_of x ls) (returns_of x ms) st

-- the same where less is asked
unfoldable pub Lives-weaken : {N L : Type 0} {known : Nature N L} {stands : N → List (NodeEntry N L) → Type 0} {now : ℕ} {f g : Seats N} {p q : ℕ → List L → List L → Type 0} {o n : List (Stage N L) → List (Stage N L)} {i j : List (Deed N L) → Type 0} {xs : List GraphEvent} → ((x : ℕ) (w v : List L) → q x w v → p x w v) → ((ds : List (Deed N L)) → i ds → j ds) → StaysTraced stands known now f g p o n i xs → StaysTraced stands known now f g q o n j xs
Lives-weaken less change k = record { deeds = k.deeds; events = k.events; tells = k.tells; follows = k.follows; keeps = λ x t w v i. k.keeps x t w v (less x w v i); hosts = k.hosts; suits = λ x t w v i. k.suits x t w v (less x w v i); moved = change k.deeds k.moved }

-- of which this is said of bytes
unfoldable pub Lives-say : {N L : Type 0} {known : Nature N L} {stands : N → List (NodeEntry N L) → Type 0} {now : ℕ} {f g : Seats N} {p : ℕ → List L → List L → Type 0} {o n : List (Stage N L) → List (Stage N L)} {i j : List (Deed N L) → Type 0} {xs : List GraphEvent} → (k : StaysTraced stands known now f g p o n i xs) → j k.deeds → StaysTraced stands known now f g p o n j xs
Lives-say k m = record { deeds = k.deeds; events = k.events; tells = k.tells; follows = k.follows; keeps = k.keeps; hosts = k.hosts; suits = k.suits; moved = m }

-- nothing happens
unfoldable pub Lives-none : {N L : Type 0} {known : Nature N L} (stands : N → List (NodeEntry N L) → Type 0) (now : ℕ) (f : Seats N) {i : List (Deed N L) → Type 0} → i [] → StaysTraced stands known now f f Stays here here i []
Lives-none stands now f m = record { deeds = []; events = refl; tells = Given-none f.told; follows = λ st ds s k. k; keeps = λ x t w v e fit. subst (NodeFits stands f x t) e fit; hosts = λ x n h. h; suits = λ x t w v e fit. tt; moved = m }

-- something turns
unfoldable pub Lives-turn : {N L : Type 0} {known : Nature N L} (stands : N → List (NodeEntry N L) → Type 0) (now : ℕ) (f : Seats N) (t : Heard) (o n : List (Stage N L) → List (Stage N L)) (u : Turn) → Given f.told t (notice_of u) → ((st : List (Stage N L)) (ds : List (Deed N L)) (s : Scene) → UsesStack known now f.scene (n st) ds s → UsesStack known now f.scene (o st) (turns u ∷ ds) s) → {i : List (Deed N L) → Type 0} → i (turns u ∷ []) → StaysTraced stands known now f (record f { told = t }) Stays o n i []
Lives-turn stands now f t o n u given fits m = record { deeds = turns u ∷ []; events = refl; tells = subst (Given f.told t) (sym (append-nil (notice_of u))) given; follows = fits; keeps = λ x t w v e fit. subst (NodeFits stands f x t) e fit; hosts = λ x n h. h; suits = λ x t w v e fit. tt; moved = m }

-- an event by which no object is made
unfoldable pub Lives-note : {N L : Type 0} {known : Nature N L} (stands : N → List (NodeEntry N L) → Type 0) (now : ℕ) (f g : Seats N) (o n : List (Stage N L) → List (Stage N L)) (e : GraphEvent) → Loses f.node g.node → g.scene ≡ after_noted e f.scene → Given f.told g.told (event (flat e) ∷ []) → ((st : List (Stage N L)) (ds : List (Deed N L)) (s : Scene) → UsesStack known now (after_noted e f.scene) (n st) ds s → UsesStack known now f.scene (o st) (writes e ∷ ds) s) → {i : List (Deed N L) → Type 0} → i (writes e ∷ []) → StaysTraced stands known now f g Stays o n i (e ∷ [])
Lives-note {known = known} stands now f g o n e loses scene given notes moves = record {
  deeds = writes e ∷ [];
  events = refl;
  tells = given;
  follows = λ st ds s k. notes st ds s (subst (λ z. UsesStack known now z (n st) ds s) scene k);
  keeps = λ x t w v eq fit. λ m h. subst (NodeFits stands f x t) eq fit m (loses.back x m h);
  hosts = λ x m h. loses.back x m h;
  suits = λ x t w v eq fit. tt;
  moved = moves;
}

-- a call of a node, or a load that comes back to it
unfoldable pub Lives-call : {N L : Type 0} {known : Nature N L} (stands : N → List (NodeEntry N L) → Type 0) (now : ℕ) (f g : Seats N) (owing : ℕ → List L → List L → Type 0) (o n : List (Stage N L) → List (Stage N L)) (y : ℕ) (i : NodeEntry N L) (d c : N) → f.scene ≡ g.scene → Given f.told g.told [] → f.node y ≡ Some d → ((m : N) → g.node y ≡ Some m → m ≡ c) → ((x : ℕ) (m : N) → x ≢ y → g.node x ≡ Some m → f.node x ≡ Some m) → ((w v : List L) → owing y w v → Owes1 w i v) → ((x : ℕ) (w v : List L) → x ≢ y → owing x w v → w ≡ v) → Performs known stands d i c → ((t : List (NodeEntry N L)) (w v : List L) → owing y w v → Owes [] t w → Suits t i) → ((st : List (Stage N L)) (ds : List (Deed N L)) (s : Scene) → UsesStack known now f.scene (n st) ds s → UsesStack known now f.scene (o st) (calls y i ∷ ds) s) → {z : List (Deed N L) → Type 0} → z (calls y i ∷ []) → StaysTraced stands known now f g owing o n z []
Lives-call {N} {L} {known = known} stands now f g owing o n y i d c scene given is there others owes stay performs suit hears moves = record {
  deeds = calls y i ∷ [];
  events = refl;
  tells = given;
  follows = λ st ds s k. hears st ds s (subst (λ z. UsesStack known now z (n st) ds s) (sym scene) k);
  keeps = λ x t w v k fit. λ m h. elim (cases_eq x y) [
    | inl e ↦ rw (eq-eqb x y e) (called x t w v k fit m h e)
    | inr e ↦ rw (ne_eqb x y e) (subst (NodeFits stands f x t) (stay x w v e k) fit m (others x m e h))
  ];
  hosts = (
    d,
    c,
    is,
    performs,
    λ x m h. elim (cases_eq x y) [
      | inl e ↦ rw (eq-eqb x y e) (ap Some (sym (there m (sym (ap g.node e) ∙ h))))
      | inr e ↦ rw (ne_eqb x y e) (others x m e h)
    ],
  );
  suits = λ x t w v k fit. ((λ e. suit t w v (subst (λ z. owing z w v) e k) (fit d (ap f.node e ∙ is)).1), tt);
  moved = moves;
}
  where
    called : (x : ℕ) (t : List (NodeEntry N L)) (w v : List L) → owing x w v → NodeFits stands f x t w → (m : N) → g.node x ≡ Some m → x ≡ y → stands m (t ++ i ∷ []) × Owes [] (t ++ i ∷ []) v
    called x t w v k fit m h e =
        let ky : owing y w v = subst (λ z. owing z w v) e k in
        let was = fit d (ap f.node e ∙ is) in (
          subst (λ z. stands z (t ++ i ∷ [])) (sym (there m (sym (ap g.node e) ∙ h))) (performs.1 t was.0 (suit t w v ky was.1)),
          Owes-append [] w v t (i ∷ []) was.1 (v, owes w v ky, refl),
        )

-- an object is made and plugged; it starts from the empty trace
pub Lives-make : {N L : Type 0} {known : Nature N L} (stands : N → List (NodeEntry N L) → Type 0) (now : ℕ) (b : ℕ → Bool) (f g : Seats N) (y : ObjId) (p q : Port) (node : N) → stands node [] → b y.0 ≡ false → state_at f.scene p ≡ port.Open → (IsGraphFull f.scene → ⊥) → y.0 ≡ f.scene.made + 1 → state_at (after_noted (Made y (known.kind node)) f.scene) p ≡ port.Open → state_at (after_noted (Made y (known.kind node)) f.scene) q ≡ port.Open → g.scene ≡ after_noted (Plugged p q) (after_noted (Made y (known.kind node)) f.scene) → Given f.told g.told (event (flat (Made y (known.kind node))) ∷ event (flat (Plugged p q)) ∷ []) → ((n : N) → g.node y.0 ≡ Some n → n ≡ node) → ((x : ℕ) (n : N) → x ≢ y.0 → g.node x ≡ Some n → f.node x ≡ Some n) → {i : List (Deed N L) → Type 0} → i (writes (Made y (known.kind node)) ∷ begins y.0 node ∷ writes (Plugged p q) ∷ []) → q ≡ port_at y.0 0 → StaysTraced stands known now f g (Same b) (λ st. Makes p node ∷ st) here i (Made y (known.kind node) ∷ Plugged p q ∷ [])
Lives-make {N} {L} {known = known} stands now b f g y p q node start dead free roomy serial upper lower scene given there others moves zero = record {
  deeds = writes (Made y (known.kind node)) ∷ begins y.0 node ∷ writes (Plugged p q) ∷ [];
  events = refl;
  tells = given;
  follows = λ st ds s k. (MustBegin y.0 node ∷ MustPlug p (port_at y.0 0) ∷ [], makes p node y free roomy serial, ([], has_begun y.0 node, subst (λ z. UsesStack known now (after_noted (Made y (known.kind node)) f.scene) (MustPlug p z ∷ st) (writes (Plugged p q) ∷ ds) s) zero ([], plugs p q upper lower, subst (λ z. UsesStack known now z st ds s) scene k)));
  keeps = λ x t w v k fit. λ n h. elim (cases_eq x y.0) [
    | inl e ↦ rw (eq-eqb x y.0 e) (subst (λ z. stands z []) (sym (there n (sym (ap g.node e) ∙ h))) start, sym (k.0 (ap b e ∙ dead)) ∙ k.1)
    | inr e ↦ rw (ne_eqb x y.0 e) (subst (NodeFits stands f x t) k.1 fit n (others x n e h))
  ];
  hosts = (
    start,
    λ x n h. elim (cases_eq x y.0) [
      | inl e ↦ rw (eq-eqb x y.0 e) (ap Some (sym (there n (sym (ap g.node e) ∙ h))))
      | inr e ↦ rw (ne_eqb x y.0 e) (others x n e h)
    ],
  );
  suits = λ x t w v k fit. tt;
  moved = moves;
}

-- an entry that isn't by a close ends
pub settles-own : {N L : Type 0} (by : Way) (x : ℕ) → (by ≡ way.Close → ⊥) → settles_by {N = N} {L = L} by x ≡ Frees x ∷ []
settles-own way.Up x n = refl
settles-own way.Down x n = refl
settles-own way.Time x n = refl
settles-own way.Close x n = absurd (n refl)
