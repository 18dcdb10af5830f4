-- The public calls, with what objects stand for.
use Rattle.nb_ledger.specs.Flat.{Heard, Given, flat, event}
use Rattle.nb_ledger.proofs.RunLemmas.{Given-append, Given-none}
use Rattle.nb_ledger.specs.Flat.{Notice}
use Rattle.std.proofs.Common.{true, false, ◌≡◌, ◌≢◌, ◌+◌, ◌<◌, ◌≤◌, ◌^◌, length, ℕ, Bool, List, [], ◌∷◌, ◌++◌, Option, Some, inl, inr, refl, ap, sym, ◌∙◌, subst, append-nil}
use Rattle.std.proofs.lemmas.Bool.{cases_eq, eq-eqb, ne_eqb, false≢true}
use Rattle.nb_ledger.specs.declared.port.Port.{Port}
use Rattle.nb_ledger.specs.declared.port.PortState.TheVariants as state
use Rattle.nb_ledger.specs.declared.event.GraphEvent.{GraphEvent}
use Rattle.nb_ledger.specs.declared.event.GraphEvent.TheVariants.{Made, Held, Plugged, Dropped}
use Rattle.nb_ledger.specs.Flat.{Tells}
use Rattle.nb_ledger.specs.Ledger.{object_lives, Ledger, busy, open_count, port, run_state}
use Rattle.nb_effects.specs.declared.effects.Fx.{Fx}
use Rattle.nb_effects.specs.Trace.{Nature, Said, NodeEntry}
use Rattle.nb_effects.specs.Deeds.{writes, turns, is_dead, Offers, Ticks, Hands, Stage}
use Rattle.nb_effects.specs.Deeds.{Deed, Gives, MustBegin, MustMake, MustPlug, Wants, begins}
use Rattle.nb_effects.specs.Follows.{UsesStack, refused, ticks_none, enters_up, enters_down, offered_up, offered_down, plugs, held, has_begun, made_outside}
use Rattle.nb_effects.specs.Scene.{Scene, scene_of, state_at}
use Rattle.nb_effects.proofs.AgesLemmas.{Ages-refl, Ages-adds, Ages-same, Ages-shrinks, Ages-trans}
use Rattle.nb_effects.proofs.SceneLemmas.{roomy-below, scene-adds, scene-holds, scene-ports}
use Rattle.nb_graph.proofs.SeatLemmas.{Loses-same, Loses-trans}
use Rattle.nb_graph.proofs.MakeLemmas.{Balanced-plug, Joined-add}
use Rattle.nb_effects.proofs.AccountLemmas.{Joined-mild, start-joined}
use Rattle.nb_graph.proofs.MildLemmas.{Mild-holds}
use Rattle.nb_effects.proofs.WholeLemmas.{but_same}
use Rattle.nb_ledger.specs.Changes.{Adds, SetsHolds, SetsPort}
use Rattle.nb_ledger.specs.GraphRun.{OnStack, IsIdle, Step}
use Rattle.nb_ledger.specs.declared.port.ObjId.{ObjId}
use Rattle.nb_effects.specs.Whole.{Ages, Objects, IsQuiet}
use Rattle.nb_graph.specs.Lives.{here, seat, CalmFor, LivelyFor, RunFor, Loses, Same, IsUnder}
use Rattle.nb_effects.specs.Lived.{KeepsTraces, Lived}
use Rattle.nb_effects.specs.Accounts.{Account, JoinedEnds, joined, parted, rests}
use Rattle.nb_effects.specs.Flows.{Empty, Closing, Giving, Keeping, Rising}
use Rattle.nb_effects.specs.Moves.{Calms, none_due}
use Rattle.nb_effects.proofs.AccountLemmas.{Calms-then}
use Rattle.nb_effects.proofs.LivensLemmas.{cases_peer}
use Rattle.nb_effects.proofs.RunsLemmas.{Agrees-quiet, Runs-drop, Runs-one, Runs-two, IsRun-none, IsRun-trans}
use Rattle.nb_graph.proofs.LivesLemmas.{Lives-above, Lives-then}

-- a book and its nodes
abbrev pub objects_of : {N : Type 0} → Ledger → List N → Objects N
objects_of l nodes = record { book = l; nodes = nodes }

-- where no node comes, each object stands for what it stood for
pub Keeps-loses : {N L : Type 0} (stands : N → List (NodeEntry N L) → Type 0) (old new : Ledger) (nodes more : List N) → Loses (seat old nodes) (seat new more) → KeepsTraces stands (objects_of old nodes) (objects_of new more)
Keeps-loses stands old new nodes more l x t fit n h = fit n (l.back x n h)

module _ {N L : Type 0} {stands : N → List (NodeEntry N L) → Type 0} {known : Nature N L} {now : ℕ} {s : List (Stage N L) → List (Stage N L)} {old new : Ledger} {nodes more : List N} {before after : Heard} {f : Port → Port → Account → List ℕ → List ℕ → Type 0} (q : IsQuiet old) (idle : (p q : Port) (y : Account) (s t : List ℕ) → JoinedEnds old p q s t [] → f p q y [] []) where
  pub Lived-calm : CalmFor stands known now old new nodes more (Same (busy old)) f s before after → Lived stands known now (s []) (objects_of old nodes) (objects_of new more) before after
  Lived-calm k = record {
    added = k.calm.added;
    ages = Ages-shrinks k.calm.shrinks;
    runs = record { told = k.calm.told; run = k.calm.run [] tt (Agrees-quiet old q) };
    deeds = k.lives.deeds;
    events = k.lives.events;
    tells = k.lives.tells;
    follows = subst (λ z. UsesStack known now (scene_of old) (s []) z (scene_of new)) (append-nil k.lives.deeds) (k.lives.follows [] [] (scene_of new) refl);
    keeps = λ x t fit. k.lives.keeps x t [] [] ((λ _. refl), refl) fit;
    hosts = k.lives.hosts;
    suits = λ x t fit. k.lives.suits x t [] [] ((λ _. refl), refl) fit;
    midway = λ p r a b bal. elim (cases_peer a.peer r) [
      | inl g ↦ k.lives.moved.midway p r (rests a) (rests b) [] [] (idle p r (rests b) a.sent b.taken (bal g)) (bal g)
      | inr n ↦ k.lives.moved.apart p r (rests a) (rests b) n
    ];
    balances = λ p r a b bal e. k.lives.moved.joins p r (rests a) (rests b) [] [] (idle p r (rests b) a.sent b.taken (bal (sym (k.lives.moved.peers p (rests a)) ∙ e))) (bal (sym (k.lives.moved.peers p (rests a)) ∙ e));
  }

  pub Lived-lively : LivelyFor stands known now old new nodes more (Same (busy old)) none_due f s before after → Lived stands known now (s []) (objects_of old nodes) (objects_of new more) before after
  Lived-lively k = record {
    added = k.lively.added;
    ages = k.lively.grows.ages;
    runs = record { told = k.lively.told; run = k.lively.run [] tt (Agrees-quiet old q) };
    deeds = k.lives.deeds;
    events = k.lives.events;
    tells = k.lives.tells;
    follows = subst (λ z. UsesStack known now (scene_of old) (s []) z (scene_of new)) (append-nil k.lives.deeds) (k.lives.follows [] [] (scene_of new) refl);
    keeps = λ x t fit. k.lives.keeps x t [] [] ((λ _. refl), refl) fit;
    hosts = k.lives.hosts;
    suits = λ x t fit. k.lives.suits x t [] [] ((λ _. refl), refl) fit;
    midway = λ p r a b bal. elim (cases_peer a.peer r) [
      | inl g ↦ k.lives.moved.midway p r (rests a) (rests b) [] [] (idle p r (rests b) a.sent b.taken (bal g)) (bal g)
      | inr n ↦ k.lives.moved.newly p r (rests a) (rests b) tt n
    ];
    balances = λ p r a b bal e. elim (cases_peer a.peer r) [
      | inl g ↦ (k.lives.moved.joins p r (rests a) (rests b) [] [] (idle p r (rests b) a.sent b.taken (bal g)) (bal g)).0
      | inr n ↦ (k.lives.moved.news p r (rests a) (rests b) tt n e).0
    ];
  }

  -- and its first call
  pub Hands-calm : (e : GraphEvent) (x : ℕ) (entry : Bool → Fx N L → NodeEntry N L) → ((k : CalmFor stands known now old new nodes more (Same (busy old)) f s before after) × Hands e x entry k.lives.deeds) → (k : Lived stands known now (s []) (objects_of old nodes) (objects_of new more) before after) × Hands e x entry k.deeds
  unfolding Lived-calm
  Hands-calm e x entry k = (Lived-calm k.0, k.1)

  pub Hands-lively : (e : GraphEvent) (x : ℕ) (entry : Bool → Fx N L → NodeEntry N L) → ((k : LivelyFor stands known now old new nodes more (Same (busy old)) none_due f s before after) × Hands e x entry k.lives.deeds) → (k : Lived stands known now (s []) (objects_of old nodes) (objects_of new more) before after) × Hands e x entry k.deeds
  unfolding Lived-lively
  Hands-lively e x entry k = (Lived-lively k.0, k.1)

-- a message is dropped
pub Lived-drop : {N L : Type 0} (stands : N → List (NodeEntry N L) → Type 0) (known : Nature N L) (now : ℕ) (l : Ledger) (nodes : List N) (before after : Heard) (p : Port) (msg : Said) → (port l p.obj.0 p.slot ≡ state.Open → ⊥) → Tells before after (Dropped p ∷ []) → Given before after (event (flat (Dropped p)) ∷ []) → Lived stands known now (Offers p msg ∷ []) (objects_of l nodes) (objects_of l nodes) before after
Lived-drop stands known now l nodes before after p msg n told given = record {
  added = Dropped p ∷ [];
  runs = Runs-drop l before after p n told;
  deeds = writes (Dropped p) ∷ [];
  events = refl;
  ages = Ages-refl l;
  tells = given;
  follows = ([], refused p msg n, refl);
  keeps = λ x t fit. fit;
  hosts = λ x n h. h;
  suits = λ x t fit. tt;
  midway = λ p q a b bal. (λ e. start-joined (bal e), λ e. start-joined (bal e));
  balances = λ p q a b bal e. bal e;
}

-- time comes to a dead object
pub Lived-dead : {N L : Type 0} (stands : N → List (NodeEntry N L) → Type 0) (known : Nature N L) (now : ℕ) (l : Ledger) (nodes : List N) (before : Heard) (x : ℕ) → object_lives l x ≡ false → Lived stands known now (Ticks x ∷ []) (objects_of l nodes) (objects_of l nodes) before before
unfolding IsRun-none
Lived-dead stands known now l nodes before x dead = record { added = []; runs = (IsRun-none l before).1; deeds = turns (is_dead x) ∷ []; events = refl; ages = Ages-refl l; tells = Given-none before; follows = ([], ticks_none x dead, refl); keeps = λ x t fit. fit; hosts = λ x n h. h; suits = λ x t fit. tt; midway = λ p q a b bal. λ e. start-joined (bal e); balances = λ p q a b bal e. bal e }

-- ports are closed, and then holds let go
pub Lived-end : {N L : Type 0} {s r : List (Stage N L) → List (Stage N L)} {stands : N → List (NodeEntry N L) → Type 0} {known : Nature N L} {now : ℕ} {a b c : Ledger} {na nb nc : List N} {m n o : Heard} → IsQuiet a → CalmFor stands known now a b na nb (Same (busy a)) Empty s m n → RunFor stands known b c nb nc r here n o → Ages b c → Lived stands known now (s (r [])) (objects_of a na) (objects_of c nc) m o
unfolding IsRun-trans
Lived-end {s = s} {r = r} {known = known} {now = now} {a = a} {b = b} {c = c} {m = m} {n = n} {o = o} q k l ages =
    let both = Lives-then {k = Calms known a c Empty} (Lives-above r k.lives) (l.lives now) (λ x w v i. (v, i, refl)) (λ ds es x y. Calms-then x y (λ p r i j w v e t. (v, e, λ _. refl))) in
    record {
      added = k.calm.added ++ l.added;
      runs = (IsRun-trans a b c m n o (k.calm.added, record { told = k.calm.told; run = k.calm.run [] tt (Agrees-quiet a q) }) (l.added, l.runs)).1;
      deeds = both.deeds;
      events = both.events;
      ages = Ages-trans (Ages-shrinks k.calm.shrinks) ages;
      tells = both.tells;
      follows = subst (λ z. UsesStack known now (scene_of a) (s (r [])) z (scene_of c)) (append-nil both.deeds) (both.follows [] [] (scene_of c) refl);
      keeps = λ x t fit. both.keeps x t [] [] ((λ _. refl), refl) fit;
      hosts = both.hosts;
      suits = λ x t fit. both.suits x t [] [] ((λ _. refl), refl) fit;
      midway = λ p r x y bal. elim (cases_peer x.peer r) [
        | inl g ↦ both.moved.midway p r (rests x) (rests y) [] [] (refl, refl) (bal g)
        | inr i ↦ both.moved.apart p r (rests x) (rests y) i
      ];
      balances = λ p r x y bal e. both.moved.joins p r (rests x) (rests y) [] [] (refl, refl) (bal (sym (both.moved.peers p (rests x)) ∙ e));
    }

-- holds are let go
pub Lived-run : {N L : Type 0} {s : List (Stage N L) → List (Stage N L)} {stands : N → List (NodeEntry N L) → Type 0} {known : Nature N L} {now : ℕ} {old new : Ledger} {nodes more : List N} {before after : Heard} → RunFor stands known old new nodes more s here before after → Ages old new → Lived stands known now (s []) (objects_of old nodes) (objects_of new more) before after
Lived-run {s = s} {known = known} {now = now} {old = old} {new = new} k ages =
    let l = k.lives now in
    record {
      added = k.added;
      runs = k.runs;
      ages = ages;
      deeds = l.deeds;
      events = l.events;
      tells = l.tells;
      follows = subst (λ z. UsesStack known now (scene_of old) (s []) z (scene_of new)) (append-nil l.deeds) (l.follows [] [] (scene_of new) refl);
      keeps = λ x t fit. l.keeps x t [] [] refl fit;
      hosts = l.hosts;
      suits = λ x t fit. l.suits x t [] [] refl fit;
      midway = λ p r x y bal. elim (cases_peer x.peer r) [
        | inl g ↦ l.moved.midway p r (rests x) (rests y) [] [] refl (bal g)
        | inr i ↦ l.moved.apart p r (rests x) (rests y) i
      ];
      balances = λ p r x y bal e. l.moved.joins p r (rests x) (rests y) [] [] refl (bal (sym (l.moved.peers p (rests x)) ∙ e));
    }

-- a message that is given from outside enters by an open port without a link
offered : {N L : Type 0} (known : Nature N L) (now : ℕ) (s t : Scene) (p : Port) (m : Said) (ds : List (Deed N L)) → state_at s p ≡ state.Open → UsesStack known now s (Gives p m ∷ []) ds t → UsesStack known now s (Offers p m ∷ []) ds t
offered known now s t p m [] o h = absurd h
offered known now s t p m (_ ∷ ds) o (more, enters_up _ _ i j, h) = (more, offered_up p m i o, h)
offered known now s t p m (_ ∷ ds) o (more, enters_down _ _ i j, h) = (more, offered_down p m i o, h)

pub Lived-offered : {N L : Type 0} {stands : N → List (NodeEntry N L) → Type 0} {known : Nature N L} {now : ℕ} {old new : Objects N} {before after : Heard} {p : Port} {m : Said} → state_at (scene_of old.book) p ≡ state.Open → Lived stands known now (Gives p m ∷ []) old new before after → Lived stands known now (Offers p m ∷ []) old new before after
Lived-offered {known = known} {now = now} {old = old} {new = new} {p = p} {m = m} o k = record {
  added = k.added;
  runs = k.runs;
  ages = k.ages;
  deeds = k.deeds;
  events = k.events;
  tells = k.tells;
  follows = offered known now (scene_of old.book) (scene_of new.book) p m k.deeds o k.follows;
  keeps = k.keeps;
  hosts = k.hosts;
  suits = k.suits;
  midway = k.midway;
  balances = k.balances;
}

-- two ports are joined
pub Lived-plug : {N L : Type 0} (stands : N → List (NodeEntry N L) → Type 0) (known : Nature N L) (now : ℕ) {old mid new : Ledger} (nodes : List N) (before after : Heard) {p q : Port} → SetsPort old mid p (state.Linked q) → SetsPort mid new q (state.Linked p) → port old p.obj.0 p.slot ≡ state.Open → port old q.obj.0 q.slot ≡ state.Open → 1 ≤ p.slot → q.slot ≡ 0 → p.obj.0 ≤ old.made → q.obj.0 ≤ old.made → Tells before after (Plugged p q ∷ []) → ((st : List OnStack) → IsIdle st → Step (run_state old st) (Plugged p q) (run_state new st)) → Given before after (event (flat (Plugged p q)) ∷ []) → Lived stands known now (MustPlug p q ∷ []) (objects_of old nodes) (objects_of new nodes) before after
Lived-plug stands known now {old = old} {mid = mid} {new = new} nodes before after {p = p} {q = q} a b op oq up low pm qm told step given = record {
  added = Plugged p q ∷ [];
  runs = Runs-one old new before after (Plugged p q) told step;
  ages = Ages-trans (Ages-same a.objects) (Ages-same b.objects);
  deeds = writes (Plugged p q) ∷ [];
  events = refl;
  tells = given;
  follows = ([], plugs p q op oq, sym (scene-ports a b));
  keeps = Keeps-loses stands old new nodes nodes (Loses-trans (Loses-same nodes a.objects) (Loses-same nodes b.objects));
  hosts = λ x n h. (Loses-trans (Loses-same nodes a.objects) (Loses-same nodes b.objects)).back x n h;
  suits = λ x t fit. tt;
  midway = λ r u x y bal. (λ e. start-joined (bal e), λ e. start-joined (Balanced-plug a b op oq up low pm qm r u x y bal e));
  balances = Balanced-plug a b op oq up low pm qm;
}

-- a hold is added
pub Lived-hold : {N L : Type 0} (stands : N → List (NodeEntry N L) → Type 0) (known : Nature N L) (now : ℕ) {old new : Ledger} {n : ℕ} (nodes : List N) (before after : Heard) (x : ObjId) → object_lives old x.0 ≡ true → SetsHolds old new x.0 n → Tells before after (Held x ∷ []) → ((st : List OnStack) → IsIdle st → Step (run_state old st) (Held x) (run_state new st)) → Given before after (event (flat (Held x)) ∷ []) → Lived stands known now (Wants (Held x) ∷ []) (objects_of old nodes) (objects_of new nodes) before after
Lived-hold stands known now {old = old} {new = new} nodes before after x lives s told step given = record {
  added = Held x ∷ [];
  runs = Runs-one old new before after (Held x) told step;
  ages = Ages-same s.objects;
  deeds = writes (Held x) ∷ [];
  events = refl;
  tells = given;
  follows = ([], held x lives, sym (scene-holds s));
  keeps = Keeps-loses stands old new nodes nodes (Loses-same nodes s.objects);
  hosts = λ x n h. (Loses-same nodes s.objects).back x n h;
  suits = λ x t fit. tt;
  midway = λ p q a b bal. (λ e. start-joined (bal e), λ e. start-joined (bal e));
  balances = λ p q a b bal e. Joined-mild (Mild-holds s) (bal e);
}

-- an object is made, with a hold
pub Lived-make : {N L : Type 0} (stands : N → List (NodeEntry N L) → Type 0) (known : Nature N L) (now : ℕ) {old mid new : Ledger} {r n : ℕ} (nodes more : List N) (before between after : Heard) (x : ObjId) (node : N) → stands node [] → length old.objects < old.room → old.made + 1 < 2 ^ 64 → x.0 ≡ old.made + 1 → object_lives old x.0 ≡ false → length mid.objects ≡ length old.objects + 1 → Adds old mid x.0 r → SetsHolds mid new x.0 n → Tells before between (Made x (known.kind node) ∷ []) → Tells between after (Held x ∷ []) → ((st : List OnStack) → IsIdle st → Step (run_state old st) (Made x (known.kind node)) (run_state mid st)) → ((st : List OnStack) → IsIdle st → Step (run_state mid st) (Held x) (run_state new st)) → Given before between (event (flat (Made x (known.kind node))) ∷ []) → Given between after (event (flat (Held x)) ∷ []) → ((n : N) → seat new more x.0 ≡ Some n → n ≡ node) → ((y : ℕ) (n : N) → y ≢ x.0 → seat new more y ≡ Some n → seat old nodes y ≡ Some n) → Lived stands known now (MustMake x node ∷ Wants (Held x) ∷ []) (objects_of old nodes) (objects_of new more) before after
Lived-make {N} {L} stands known now {old = old} {mid = mid} {new = new} nodes more before between after x node start room small serial fresh one a s told then step next given also there others = record {
  added = Made x (known.kind node) ∷ Held x ∷ [];
  runs = Runs-two old mid new before between after (Made x (known.kind node)) (Held x) told then step next;
  ages = Ages-trans (Ages-adds serial a) (Ages-same s.objects);
  deeds = writes (Made x (known.kind node)) ∷ begins x.0 node ∷ writes (Held x) ∷ [];
  events = refl;
  tells = Given-append before between after _ _ given also;
  follows = (MustBegin x.0 node ∷ [], made_outside x node (roomy-below old room small) serial, ([], has_begun x.0 node, ([], held x (but_same x.0 true (object_lives old) x.0 refl), sym (scene-holds s ∙ scene-adds x (known.kind node) a one))));
  keeps = λ y t fit. λ n h. elim (cases_eq y x.0) [
    | inl e ↦ rw (eq-eqb y x.0 e) (subst (λ z. stands z []) (sym (there n (sym (ap (seat new more) e) ∙ h))) start, refl)
    | inr e ↦ rw (ne_eqb y x.0 e) (fit n (others y n e h))
  ];
  hosts = (
    start,
    λ y n h. elim (cases_eq y x.0) [
      | inl e ↦ rw (eq-eqb y x.0 e) (ap Some (sym (there n (sym (ap (seat new more) e) ∙ h))))
      | inr e ↦ rw (ne_eqb y x.0 e) (others y n e h)
    ],
  );
  suits = λ y t fit. tt;
  midway = λ p q b d bal. (λ e. start-joined (bal e), (λ e. start-joined (bal e), λ e. start-joined (bal e)));
  balances = λ p q b d bal e. Joined-mild (Mild-holds s) (Joined-add a fresh serial (bal e));
}

-- where nothing runs, nothing runs above
pub under-quiet : (l : Ledger) (r : ℕ) → IsQuiet l → IsUnder r l
under-quiet l r q x h = absurd (false≢true (sym (q.idle x) ∙ h))

-- nothing is pending outside all calls
pub closing-empty : {l : Ledger} {x : ℕ} (p q : Port) (y : Account) (s t : List ℕ) → JoinedEnds l p q s t [] → Closing l x p q y [] []
closing-empty p q y s t j = inr (refl, inr (inr (inl refl)))

-- an end that has no link is no link's
not-end : (l : Ledger) (at p q : Port) (s t w : List ℕ) → port l at.obj.0 at.slot ≡ state.Open → JoinedEnds l p q s t w → q ≡ at → ⊥
not-end l at p q s t w h (joined a b c d e) i = let z = sym h ∙ ap (λ u. port l u.obj.0 u.slot) (sym i) ∙ d in absurd (cc)
not-end l at p q s t w h (parted a b c d r e) i = let z = sym d ∙ ap (λ u. open_count (port l u.obj.0 u.slot)) i ∙ ap open_count h in absurd (cc)

pub giving-empty : (l : Ledger) (at : Port) (m : List ℕ) → port l at.obj.0 at.slot ≡ state.Open → (p q : Port) (y : Account) (s t : List ℕ) → JoinedEnds l p q s t [] → Giving l at m p q y [] []
giving-empty l at m h p q y s t j = inr (inr (inl refl), inr (not-end l at p q s t [] h j, refl))

pub rising-empty : (l : Ledger) (at : Port) (m : List ℕ) → port l at.obj.0 at.slot ≡ state.Open → (p q : Port) (y : Account) (s t : List ℕ) → JoinedEnds l p q s t [] → Rising l at m p q y [] []
rising-empty l at m h p q y s t j = (((λ z i. refl), λ z. refl), inr (not-end l at p q s t [] h j, refl))

pub keeping-empty : (l : Ledger) (p q : Port) (y : Account) (s t : List ℕ) → JoinedEnds l p q s t [] → Keeping l p q y [] []
keeping-empty l p q y s t j = (((λ z i. refl), λ z. refl), refl)
