-- How far a call has come, and how it goes on: a walk through what it asks for.
use Rattle.std.proofs.Common.{◌≡◌, inl, inr, ℕ, true, List, [], ◌∷◌, ◌++◌, map, Option, Some, None, refl, sym, ap, ◌∙◌, subst, append_assoc, min, max}
use Rattle.std.specs.List.{AllByRecursion}
use Rattle.std.proofs.lemmas.List.{append-nil}
use Rattle.nb_terms.specs.declared.acts.Acts.{Acts}
use Rattle.nb_terms.specs.declared.cause.Cause.{Cause}
use Rattle.nb_ledger.specs.declared.port.Port.{Port}
use Rattle.nb_ledger.specs.declared.port.PortState.TheVariants as port
use Rattle.nb_ledger.specs.declared.event.Way.{Way}
use Rattle.nb_ledger.specs.declared.event.Way.TheVariants as way
use Rattle.nb_ledger.specs.declared.event.GraphEvent.TheVariants.{Left, Dropped, Closed, Unplugged}
use Rattle.nb_ledger.specs.Flat.{Notice}
use Rattle.nb_ledger.specs.Ledger.{open_count}
use Rattle.nb_effects.specs.declared.effects.Emit.{Emit}
use Rattle.nb_effects.specs.declared.effects.Few.{Few}
use Rattle.nb_effects.specs.declared.effects.Fx.{Fx}
use Rattle.nb_graph.specs.Whole.{port_at}
use Rattle.nb_graph.specs.Trace.{NodeEntry, Said, in_list, regain}
use Rattle.nb_graph.specs.Deeds.{Deed, Stage, Holds, Closes, Sends, MustUnplug, Settles, told_of, returns_of, closes_of, emit_of, few_of, said_of, runs_of, settles_by}
use Rattle.nb_graph.specs.Scene.{Scene, state_at, after_noted}
use Rattle.nb_nodes.specs.declared.load.Load.{Load}
use Rattle.nb_nodes.specs.declared.obj.Obj.{Obj}
use Rattle.nb_nodes.specs.Objects.{obj_nature}
use Rattle.nb_nodes.specs.Carried.{LeavesByOne, CarriesNothing, EffectsOf, emits, said_all, up_emit, end_closes}
use Rattle.nb_nodes.specs.Conversations.{Conversation}
use Rattle.nb_opens.specs.Notices.{tells, sent_from}
use Rattle.nb_opens.proofs.Going.{Case, Goes, Then, closes-open, closes-shut, sends-out, drops-rest, leaves-entry, unplugs-link, stays-held, comes-back, comes-back-above}

-- Of what happened so much was told, and from here on it goes so. The trace of the Tftp is left out.
pub record At (c : Case) (s : Scene) (gs : List (Stage Obj Load)) (a : List (NodeEntry Obj Load)) (v : Conversation) (ns : List Notice) (ds : List (Deed Obj Load)) : Type 0 where
  pub below : List (NodeEntry Obj Load)
  pub left : List (Deed Obj Load)
  pub told : told_of ds ≡ ns ++ told_of left
  pub goes : Goes c s gs a below v left

module _ {c : Case} {s : Scene} {gs : List (Stage Obj Load)} {a : List (NodeEntry Obj Load)} {v : Conversation} {ns : List Notice} {ds : List (Deed Obj Load)} where
  -- where more is told
  pub then_at : (t : Scene) (hs : List (Stage Obj Load)) (d e : List (NodeEntry Obj Load)) (w : Conversation) (front : List Notice) (k : At c s gs a v ns ds)
      → Then c t hs d e w front k.left → At c t hs d w (ns ++ front) ds
  then_at t hs d e w front k l = record {
    below = e;
    left = l.0;
    told = k.told ∙ (ap (λ z. ns ++ z) l.1 ∙ sym (append_assoc ns front (told_of l.0)));
    goes = l.2;
  }

  -- where nothing is
  pub quietly_at : (t : Scene) (hs : List (Stage Obj Load)) (d e : List (NodeEntry Obj Load)) (w : Conversation) (k : At c s gs a v ns ds)
      → Then c t hs d e w [] k.left → At c t hs d w ns ds
  quietly_at t hs d e w k l = record {
    below = e;
    left = l.0;
    told = k.told ∙ ap (λ z. ns ++ z) l.1;
    goes = l.2;
  }

  -- what is asked for, in another form
  pub as_stages : (hs : List (Stage Obj Load)) → gs ≡ hs → At c s gs a v ns ds → At c s hs a v ns ds
  as_stages hs e k = subst (λ z. At c s z a v ns ds) e k

module _ {c : Case} {s : Scene} {a : List (NodeEntry Obj Load)} {v : Conversation} {ns : List Notice} {ds : List (Deed Obj Load)} (gs : List (Stage Obj Load)) where
  pub past_close : (p : Port) (z : Cause) → state_at s p ≡ port.Open → At c s (Closes p z ∷ gs) a v ns ds → At c (after_noted (Closed p z) s) gs a v (ns ++ tells (Closed p z) ∷ []) ds
  past_close p z o k = then_at (after_noted (Closed p z) s) gs a k.below v (tells (Closed p z) ∷ []) k (closes-open c s gs a k.below v k.left p z o k.goes)

  pub past_shut : (p : Port) (z : Cause) → open_count (state_at s p) ≡ 0 → At c s (Closes p z ∷ gs) a v ns ds → At c s gs a v ns ds
  past_shut p z o k = quietly_at s gs a k.below v k (closes-shut c s gs a k.below v k.left p z o k.goes)

  pub past_message : (p : Port) (m : Said) → state_at s p ≡ port.Open → At c s (Sends p m ∷ gs) a v ns ds → At c s gs a v (ns ++ sent_from p m ∷ []) ds
  past_message p m o k = then_at s gs a k.below v (sent_from p m ∷ []) k (sends-out c s gs a k.below v k.left p m o k.goes)

  pub past_rest : (p : Port) (m : Said) → open_count (state_at s p) ≡ 0 → At c s (Holds p way.Up (Some m) ∷ gs) a v ns ds → At c s (Holds p way.Up None ∷ gs) a v (ns ++ tells (Dropped p) ∷ []) ds
  past_rest p m o k = then_at s (Holds p way.Up None ∷ gs) a k.below v (tells (Dropped p) ∷ []) k (drops-rest c s gs a k.below v k.left p m o k.goes)

  pub past_end : (p : Port) (by : Way) → At c s (Holds p by None ∷ gs) a v ns ds → At c s (settles_by by p.obj.0 ++ gs) a v (ns ++ tells (Left p) ∷ []) ds
  past_end p by k = then_at s (settles_by by p.obj.0 ++ gs) a k.below v (tells (Left p) ∷ []) k (leaves-entry c s gs a k.below v k.left p by k.goes)

  pub past_tftp : At c s (Settles c.tftp ∷ gs) a v ns ds → At c s gs a v ns ds
  past_tftp k = quietly_at s gs a k.below v k (stays-held c s gs a k.below v k.left c.tftp (inr refl) k.goes)

  -- an entry by a link ends that isn't one by a close
  pub past_fetch_end : (j : ℕ) → At c s (Holds (port_at c.fetch j) way.Up None ∷ gs) a v ns ds → At c s gs a v (ns ++ tells (Left (port_at c.fetch j)) ∷ []) ds
  past_fetch_end j k =
      let l = then_at s (Settles c.fetch ∷ gs) a k.below v (tells (Left (port_at c.fetch j)) ∷ []) k (leaves-entry c s gs a k.below v k.left (port_at c.fetch j) way.Up k.goes) in
      quietly_at s gs a l.below v l (stays-held c s gs a l.below v l.left c.fetch (inl refl) l.goes)

  -- the link is unplugged, and both objects stay
  pub past_unplug : (p q : Port) → min p.obj.0 q.obj.0 ≡ c.fetch → max p.obj.0 q.obj.0 ≡ c.tftp → At c s (MustUnplug p q ∷ gs) a v ns ds
      → At c (after_noted (Unplugged p q) s) gs a v (ns ++ tells (Unplugged p q) ∷ []) ds
  past_unplug p q low high k =
      let s' = after_noted (Unplugged p q) s in
      let one = then_at s' (Settles (min p.obj.0 q.obj.0) ∷ Settles (max p.obj.0 q.obj.0) ∷ gs) a k.below v (tells (Unplugged p q) ∷ []) k (unplugs-link c s gs a k.below v k.left p q k.goes) in
      let two = quietly_at s' (Settles (max p.obj.0 q.obj.0) ∷ gs) a one.below v one (stays-held c s' (Settles (max p.obj.0 q.obj.0) ∷ gs) a one.below v one.left (min p.obj.0 q.obj.0) (inl low) one.goes) in
      quietly_at s' gs a two.below v two (stays-held c s' gs a two.below v two.left (max p.obj.0 q.obj.0) (inr high) two.goes)

  -- loads come back to the Tftp
  pub past_returns : (ls : List Load) → At c s (returns_of c.tftp ls ++ gs) a v ns ds → At c s gs a v ns ds
  past_returns [] k = k
  past_returns (l ∷ ls) k =
      past_returns ls (quietly_at s (returns_of c.tftp ls ++ gs) a (k.below ++ regain l ∷ []) v k (comes-back c s (returns_of c.tftp ls ++ gs) a k.below v k.left l k.goes))

-- or to the Fetch
pub past_returns_above : (c : Case) (s : Scene) (gs : List (Stage Obj Load)) (a : List (NodeEntry Obj Load)) (v : Conversation) (ns : List Notice) (ds : List (Deed Obj Load)) (ls : List Load)
    → At c s (returns_of c.fetch ls ++ gs) a v ns ds → (d : List (NodeEntry Obj Load)) × At c s gs d v ns ds
past_returns_above c s gs a v ns ds [] k = (a, k)
past_returns_above c s gs a v ns ds (l ∷ ls) k =
    past_returns_above c s gs (a ++ regain l ∷ []) v ns ds ls
    (quietly_at s (returns_of c.fetch ls ++ gs) (a ++ regain l ∷ []) k.below v k (comes-back-above c s (returns_of c.fetch ls ++ gs) a k.below v k.left l k.goes))

-- what an entry of the Tftp asks to send down leaves by its slot 1, which is open and without a link
module _ {c : Case} {s : Scene} {a : List (NodeEntry Obj Load)} {v : Conversation} {ns : List Notice} {ds : List (Deed Obj Load)} (gs : List (Stage Obj Load)) (m : Said) (open_below : state_at s (port_at c.tftp 1) ≡ port.Open) where
  sends_one : (e : Option (Emit Load)) → AllByRecursion LeavesByOne (in_list e) → At c s (emit_of obj_nature c.tftp m e ++ gs) a v ns ds
      → At c s gs a v (ns ++ map (sent_from (port_at c.tftp 1)) (map (said_of obj_nature m) (in_list e))) ds
  sends_one None one k = subst (λ z. At c s gs a v z ds) (sym (append-nil ns)) k
  sends_one (Some e) one k =
      let q = port_at c.tftp 1 in
      let to = as_stages (Sends q (said_of obj_nature m e) ∷ (returns_of c.tftp (in_list e.load) ++ gs)) (ap (λ z. Sends (port_at c.tftp z) (said_of obj_nature m e) ∷ (returns_of c.tftp (in_list e.load) ++ gs)) one.0) k in
      past_returns gs (in_list e.load) (past_message (returns_of c.tftp (in_list e.load) ++ gs) q (said_of obj_nature m e) open_below to)

sends_two : (c : Case) (s : Scene) (gs : List (Stage Obj Load)) (a : List (NodeEntry Obj Load)) (v : Conversation) (ns : List Notice) (ds : List (Deed Obj Load)) (m : Said)
    → state_at s (port_at c.tftp 1) ≡ port.Open → (x y : Option (Emit Load)) → AllByRecursion LeavesByOne (in_list x ++ in_list y)
    → At c s (emit_of obj_nature c.tftp m x ++ (emit_of obj_nature c.tftp m y ++ gs)) a v ns ds
    → At c s gs a v (ns ++ map (sent_from (port_at c.tftp 1)) (map (said_of obj_nature m) (in_list x ++ in_list y))) ds
sends_two c s gs a v ns ds m o None y one k = sends_one gs m o y one k
sends_two c s gs a v ns ds m o (Some x) y one k =
    let q = sent_from (port_at c.tftp 1) in
    let l = sends_one (emit_of obj_nature c.tftp m y ++ gs) m o (Some x) (one.0, tt) k in
    subst (λ z. At c s gs a v z ds) (append_assoc ns (q (said_of obj_nature m x) ∷ []) (map q (map (said_of obj_nature m) (in_list y)))) (sends_one gs m o y one.1 l)

pub sends_few : (c : Case) (s : Scene) (gs : List (Stage Obj Load)) (a : List (NodeEntry Obj Load)) (v : Conversation) (ns : List Notice) (ds : List (Deed Obj Load)) (m : Said) (f : Few (Emit Load))
    → state_at s (port_at c.tftp 1) ≡ port.Open → AllByRecursion LeavesByOne (emits f) → At c s (few_of obj_nature c.tftp m f ++ gs) a v ns ds
    → At c s gs a v (ns ++ map (sent_from (port_at c.tftp 1)) (said_all m f)) ds
sends_few c s gs a v ns ds m f o one k =
    sends_two c s gs a v ns ds m o f.first f.second one
    (as_stages (emit_of obj_nature c.tftp m f.first ++ (emit_of obj_nature c.tftp m f.second ++ gs)) (append_assoc (emit_of obj_nature c.tftp m f.first) (emit_of obj_nature c.tftp m f.second) gs) k)

-- what is to run of an entry that sends nothing and makes nothing
pub runs_closes : (x : ℕ) (m : Said) (fx : Fx Obj Load) (xs : List (ℕ × Cause)) → CarriesNothing fx → fx.closes.items ≡ xs → runs_of obj_nature x m true fx ≡ closes_of x xs
runs_closes x m fx xs h e = rw (h.no_make, h.no_down, h.no_downs, h.no_up, h.no_ups, e) refl

-- and of one that asks for what a transfer's call asks for
pub runs_effects : (x : ℕ) (m : Said) (acts : Acts) (fx : Fx Obj Load) → EffectsOf m acts fx
    → runs_of obj_nature x m true fx ≡ few_of obj_nature x m fx.downs ++ (few_of obj_nature x m (record { first = up_emit acts.give; second = None }) ++ closes_of x (end_closes acts.over))
runs_effects x m acts fx h = rw (h.no_make, h.ups, h.closes) refl
