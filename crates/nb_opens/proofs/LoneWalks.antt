-- How a call on the one object of an open goes on, deed by deed.
use Rattle.std.proofs.Common.{inl, inr, ◌≡◌, ℕ, List, [], ◌∷◌, ◌++◌, map, Option, Some, None, refl, sym, ap, ◌∙◌, subst, append_assoc}
use Rattle.std.specs.List.{AllByRecursion}
use Rattle.std.proofs.lemmas.Bool.{eq-eqb, false≢true}
use Rattle.std.proofs.lemmas.List.{append-nil}
use Rattle.nb_terms.specs.declared.cause.Cause.{Cause}
use Rattle.nb_ledger.specs.declared.port.PortState.TheVariants as port
use Rattle.nb_ledger.specs.declared.event.Way.{Way}
use Rattle.nb_ledger.specs.declared.event.GraphEvent.{GraphEvent}
use Rattle.nb_ledger.specs.declared.event.GraphEvent.TheVariants.{Made, Held, LetGo, Plugged, Entered, Left, Dropped, Closed, Unplugged, Freed}
use Rattle.nb_ledger.specs.Flat.{Notice}
use Rattle.nb_effects.specs.declared.effects.Emit.{Emit}
use Rattle.nb_effects.specs.declared.effects.Few.{Few}
use Rattle.nb_graph.specs.Whole.{port_at}
use Rattle.nb_graph.specs.Trace.{NodeEntry, Said, in_list, regain}
use Rattle.nb_graph.specs.Deeds.{Deed, writes, calls, turns, Turn, goes_out, stays, notice_of, Stage, Holds, Closes, Sends, Settles, events_of, told_of, returns_of, emit_of, few_of, said_of, settles_by}
use Rattle.nb_graph.specs.Scene.{Scene, after_noted}
use Rattle.nb_graph.specs.Follows.{UsesStack}
use Rattle.nb_graph.specs.Laws.{FirstThen}
use Rattle.nb_graph.proofs.Laws.{close_open, send_open, returned, entry_ends, settled, nothing}
use Rattle.nb_nodes.specs.declared.load.Load.{Load}
use Rattle.nb_nodes.specs.declared.obj.Obj.{Obj}
use Rattle.nb_nodes.specs.Objects.{obj_nature}
use Rattle.nb_nodes.specs.Carried.{emits, said_all}
use Rattle.nb_nodes.specs.Exchanges.{Service, AskerState, AskerTakes, is_ended, stays_idle, AskerLeadsTo}
use Rattle.nb_opens.specs.Entries.{entries_of}
use Rattle.nb_opens.specs.Notices.{tells, serial, sent_from}
use Rattle.nb_opens.proofs.HoldLemmas.{NotFreed}

-- Of what happened in a call so much was told, and from here on the graph is seen so, this stands on the stack, and the
-- object's exchange goes on from v to its last.
pub record Walk {S B C : Type 0} (svc : Service S B C) (now x : ℕ) (end : Scene) (last : AskerState B C) (s : Scene) (gs : List (Stage Obj Load)) (v : AskerState B C) (ns : List Notice) (ds : List (Deed Obj Load)) : Type 0 where
  pub left : List (Deed Obj Load)
  pub told : told_of ds ≡ ns ++ told_of left
  pub uses : UsesStack obj_nature now s gs left end
  pub runs : AskerLeadsTo svc v (entries_of x left) last
  pub stays : NotFreed x (events_of left)

rest_free : (x : ℕ) (e : GraphEvent) (es : List GraphEvent) → NotFreed x (e ∷ es) → NotFreed x es
rest_free x (Made y k) es h = h
rest_free x (Held y) es h = h
rest_free x (LetGo y) es h = h
rest_free x (Plugged p q) es h = h
rest_free x (Entered p by) es h = h
rest_free x (Left p) es h = h
rest_free x (Dropped p) es h = h
rest_free x (Closed p c) es h = h
rest_free x (Unplugged p q) es h = h
rest_free x (Freed y) es h = h.1

-- a load that comes back changes no exchange
regained : {S B C : Type 0} (svc : Service S B C) (v w : AskerState B C) (l : Load) → AskerTakes svc v (regain l) w → w ≡ v
regained svc v w l (is_ended _ _ e p) = absurd (false≢true e)
regained svc v w l (stays_idle _ _ e p) = refl

-- and so an exchange that goes on after it goes on before it
led : {S B C : Type 0} (svc : Service S B C) (v last : AskerState B C) (l : Load) (t : List (NodeEntry Obj Load)) → AskerLeadsTo svc v (regain l ∷ t) last → AskerLeadsTo svc v t last
led {S} {B} {C} svc v last l t (u, goes, run) = subst (λ (z : AskerState B C). AskerLeadsTo svc z t last) (regained svc v u l goes) run

-- an emit by one slot
abbrev pub LeavesBy : ℕ → Emit Load → Type 0
LeavesBy k e = e.slot ≡ k

module _ {S B C : Type 0} (svc : Service S B C) (now x : ℕ) (end : Scene) (last : AskerState B C) (ds : List (Deed Obj Load)) where
  abbrev pub W : Scene → List (Stage Obj Load) → AskerState B C → List Notice → Type 0
  W s gs v ns = Walk svc now x end last s gs v ns ds

  -- an event was first
  pub past_event : (e : GraphEvent) (s t : Scene) (gs hs : List (Stage Obj Load)) (v : AskerState B C) (ns : List Notice) (k : W s gs v ns) → FirstThen obj_nature now t (writes e ∷ []) hs k.left end → W t hs v (ns ++ tells e ∷ [])
  past_event e s t gs hs v ns k f = record {
    left = f.0;
    told = k.told ∙ (ap (λ z. ns ++ told_of z) f.1 ∙ sym (append_assoc ns (tells e ∷ []) (told_of f.0)));
    uses = f.2;
    runs = subst (λ z. AskerLeadsTo svc v (entries_of x z) last) f.1 k.runs;
    stays = rest_free x e (events_of f.0) (subst (λ z. NotFreed x (events_of z)) f.1 k.stays);
  }

  -- a turn was
  pub past_turn : (u : Turn) (s t : Scene) (gs hs : List (Stage Obj Load)) (v : AskerState B C) (ns : List Notice) (k : W s gs v ns) → FirstThen obj_nature now t (turns u ∷ []) hs k.left end → W t hs v (ns ++ notice_of u)
  past_turn u s t gs hs v ns k f = record {
    left = f.0;
    told = k.told ∙ (ap (λ z. ns ++ told_of z) f.1 ∙ sym (append_assoc ns (notice_of u) (told_of f.0)));
    uses = f.2;
    runs = subst (λ z. AskerLeadsTo svc v (entries_of x z) last) f.1 k.runs;
    stays = subst (λ z. NotFreed x (events_of z)) f.1 k.stays;
  }

  pub as_stages : (s : Scene) (gs hs : List (Stage Obj Load)) (v : AskerState B C) (ns : List Notice) → gs ≡ hs → W s gs v ns → W s hs v ns
  as_stages s gs hs v ns e k = subst (λ z. W s z v ns) e k

  pub as_told : (s : Scene) (gs : List (Stage Obj Load)) (v : AskerState B C) (ns ms : List Notice) → ns ≡ ms → W s gs v ns → W s gs v ms
  as_told s gs v ns ms e k = subst (λ z. W s gs v z) e k

  -- loads come back
  past_load : (s : Scene) (gs : List (Stage Obj Load)) (v : AskerState B C) (ns : List Notice) (l : Load) → W s (returns_of x (l ∷ []) ++ gs) v ns → W s gs v ns
  past_load s gs v ns l k =
      let f = returned obj_nature now s end x l gs k.left k.uses in
      let own : entries_of x (calls x (regain l) ∷ f.0) ≡ regain l ∷ entries_of x f.0 = rw (eq-eqb x x refl) refl in
      let run : AskerLeadsTo svc v (regain l ∷ entries_of x f.0) last = subst (λ z. AskerLeadsTo svc v z last) (ap (entries_of x) f.1 ∙ own) k.runs in
      record {
        left = f.0;
        told = k.told ∙ ap (λ z. ns ++ told_of z) f.1;
        uses = f.2;
        runs = led svc v last l (entries_of x f.0) run;
        stays = subst (λ z. NotFreed x (events_of z)) f.1 k.stays;
      }

  past_loads : (s : Scene) (gs : List (Stage Obj Load)) (v : AskerState B C) (ns : List Notice) (ls : List Load) → W s (returns_of x ls ++ gs) v ns → W s gs v ns
  past_loads s gs v ns [] k = k
  past_loads s gs v ns (l ∷ ls) k = past_loads s gs v ns ls (past_load s (returns_of x ls ++ gs) v ns l k)

  -- what an entry asks to send by a slot that is open and without a link leaves by it
  past_emit : (s : Scene) (gs : List (Stage Obj Load)) (v : AskerState B C) (ns : List Notice) (j : ℕ) (m : Said) (e : Option (Emit Load)) → s.port x j ≡ port.Open → AllByRecursion (LeavesBy j) (in_list e)
      → W s (emit_of obj_nature x m e ++ gs) v ns → W s gs v (ns ++ map (sent_from (port_at x j)) (map (said_of obj_nature m) (in_list e)))
  past_emit s gs v ns j m None o by k = as_told s gs v ns (ns ++ []) (sym (append-nil ns)) k
  past_emit s gs v ns j m (Some e) o by k =
      let others : List (Stage Obj Load) = returns_of x (in_list e.load) ++ gs in
      let q = port_at x j in
      let to = as_stages s (Sends (port_at x e.slot) (said_of obj_nature m e) ∷ others) (Sends q (said_of obj_nature m e) ∷ others) v ns (ap (λ z. Sends (port_at x z) (said_of obj_nature m e) ∷ others) by.0) k in
      let f = send_open obj_nature now s end q (said_of obj_nature m e) others to.left o to.uses in
      past_loads s gs v (ns ++ sent_from q (said_of obj_nature m e) ∷ []) (in_list e.load) (past_turn (goes_out q (said_of obj_nature m e)) s s (Sends q (said_of obj_nature m e) ∷ others) others v ns to f)

  past_two : (s : Scene) (gs : List (Stage Obj Load)) (v : AskerState B C) (ns : List Notice) (j : ℕ) (m : Said) (d e : Option (Emit Load)) → s.port x j ≡ port.Open → AllByRecursion (LeavesBy j) (in_list d ++ in_list e)
      → W s (emit_of obj_nature x m d ++ (emit_of obj_nature x m e ++ gs)) v ns → W s gs v (ns ++ map (sent_from (port_at x j)) (map (said_of obj_nature m) (in_list d ++ in_list e)))
  past_two s gs v ns j m None e o by k = past_emit s gs v ns j m e o by k
  past_two s gs v ns j m (Some d) e o by k =
      let q = sent_from (port_at x j) in
      let one = past_emit s (emit_of obj_nature x m e ++ gs) v ns j m (Some d) o (by.0, tt) k in
      as_told s gs v _ _ (append_assoc ns (q (said_of obj_nature m d) ∷ []) (map q (map (said_of obj_nature m) (in_list e))))
      (past_emit s gs v (ns ++ q (said_of obj_nature m d) ∷ []) j m e o by.1 one)

  pub past_few : (s : Scene) (gs : List (Stage Obj Load)) (v : AskerState B C) (ns : List Notice) (j : ℕ) (m : Said) (f : Few (Emit Load)) → s.port x j ≡ port.Open → AllByRecursion (LeavesBy j) (emits f)
      → W s (few_of obj_nature x m f ++ gs) v ns → W s gs v (ns ++ map (sent_from (port_at x j)) (said_all m f))
  past_few s gs v ns j m f o by k =
      past_two s gs v ns j m f.first f.second o by
      (as_stages s _ _ v ns (append_assoc (emit_of obj_nature x m f.first) (emit_of obj_nature x m f.second) gs) k)

  -- a port without a link is closed
  pub past_close : (s : Scene) (gs : List (Stage Obj Load)) (v : AskerState B C) (ns : List Notice) (j : ℕ) (c : Cause) → s.port x j ≡ port.Open → W s (Closes (port_at x j) c ∷ gs) v ns
      → W (after_noted (Closed (port_at x j) c) s) gs v (ns ++ tells (Closed (port_at x j) c) ∷ [])
  past_close s gs v ns j c o k =
      past_event (Closed (port_at x j) c) s (after_noted (Closed (port_at x j) c) s) (Closes (port_at x j) c ∷ gs) gs v ns k (close_open obj_nature now s end (port_at x j) c gs k.left o k.uses)

  -- the entry ends, and the object stays
  pub past_end : (s : Scene) (v : AskerState B C) (ns : List Notice) (j : ℕ) (by : Way) → settles_by {N = Obj} {L = Load} by x ≡ Settles x ∷ [] → W s (Holds (port_at x j) by None ∷ []) v ns
      → W s [] v (ns ++ tells (Left (port_at x j)) ∷ [])
  past_end s v ns j by e k =
      let ms = ns ++ tells (Left (port_at x j)) ∷ [] in
      let one = past_event (Left (port_at x j)) s s (Holds (port_at x j) by None ∷ []) (settles_by by x ++ []) v ns k (entry_ends obj_nature now s end (port_at x j) by [] k.left k.uses) in
      let two = as_stages s (settles_by by x ++ []) (Settles x ∷ []) v ms (ap (λ (z : List (Stage Obj Load)). z ++ []) e) one in
      elim (settled obj_nature now s end (serial x) [] two.left two.uses) [
        | inl f ↦ absurd ((subst (λ z. NotFreed x (events_of z)) f.1 two.stays).0 refl)
        | inr f ↦ as_told s [] v (ms ++ []) ms (append-nil ms) (past_turn (stays x) s s (Settles x ∷ []) [] v ms two f)
      ]

  -- nothing is left
  pub at_rest : (s : Scene) (v : AskerState B C) (ns : List Notice) → W s [] v ns → (told_of ds ≡ ns) × (s ≡ end) × (v ≡ last)
  at_rest s v ns k =
      let z = nothing obj_nature now s end k.left k.uses in
      (k.told ∙ (ap (λ w. ns ++ told_of w) z.0 ∙ append-nil ns), z.1, subst (λ w. AskerLeadsTo svc v (entries_of x w) last) z.0 k.runs)
