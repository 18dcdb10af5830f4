-- A body has grown too large: the Fetch closes both its ports, and the Tftp hears of it.
use Rattle.std.proofs.Common.{◌≡◌, ℕ, true, List, [], ◌∷◌, ◌++◌, Option, Some, None, refl, ap, subst, append_assoc, if◌then◌else◌, arith}
use Rattle.std.specs.Option.{is_some}
use Rattle.nb_terms.specs.declared.cause.Cause.{Cause}
use Rattle.nb_ledger.specs.declared.port.Port.{Port}
use Rattle.nb_ledger.specs.declared.port.PortState.{PortState}
use Rattle.nb_ledger.specs.declared.port.PortState.TheVariants.{Open, Linked, Closed as Shut}
use Rattle.nb_ledger.specs.declared.event.Way.{Way}
use Rattle.nb_ledger.specs.declared.event.Way.TheVariants as way
use Rattle.nb_ledger.specs.declared.event.GraphEvent.TheVariants.{Entered, Left, Dropped, Closed, Unplugged}
use Rattle.nb_ledger.specs.Flat.{Notice}
use Rattle.nb_ledger.specs.Ledger.{open_count}
use Rattle.nb_effects.specs.declared.effects.Fx.{Fx}
use Rattle.nb_graph.specs.Whole.{port_at}
use Rattle.nb_graph.specs.Trace.{NodeEntry, Said, closed, silence}
use Rattle.nb_graph.specs.Deeds.{Deed, Stage, Holds, Closes, MustUnplug, Settles, closes_of, settles_by, runs_of}
use Rattle.nb_graph.specs.Scene.{Scene, after_noted}
use Rattle.nb_tftp.specs.Asks.{Begun}
use Rattle.nb_tftp.specs.History.{Entry as Step}
use Rattle.nb_nodes.specs.declared.load.Load.{Load}
use Rattle.nb_nodes.specs.declared.obj.Obj.{Obj}
use Rattle.nb_nodes.specs.Objects.{obj_nature}
use Rattle.nb_nodes.specs.Carried.{CarriesNothing, both_closes, end_closes}
use Rattle.nb_nodes.specs.Conversations.{Conversation, under_way, over, Continues, ends, rests}
use Rattle.nb_nodes.specs.Fetches.{body_too_large}
use Rattle.nb_opens.specs.Notices.{tells, passed_on, closed_late}
use Rattle.nb_opens.proofs.Going.{Case, closes-down}
use Rattle.nb_opens.proofs.Scenes.{Sees, user_closed, link_closed, back_closed, below_closed, down_unplugged}
use Rattle.nb_opens.proofs.Effects.{At, then_at, as_stages, past_close, past_shut, past_rest, past_end, past_fetch_end, past_unplug, runs_closes}
use Rattle.nb_opens.proofs.Ending.{leaves_tftp}

-- the close goes on downwards where the transfer isn't over
abbrev on_close : Option Cause → Cause → List (ℕ × Cause)
on_close None z = (1, z) ∷ []
on_close (Some c) z = []

-- what the Tftp makes of the close above it
record HearsClose (o : Option Cause) (z : Cause) (end : Conversation) (w : Conversation) (fx : Fx Obj Load) : Type 0 where
  next : w ≡ end
  sends : CarriesNothing fx
  closes : fx.closes.items ≡ on_close o z

hears_close : (b : Begun) (start : ℕ) (calls : List Step) (o : Option Cause) (z : Cause) (now : ℕ) (fx : Fx Obj Load) (w : Conversation)
    → Continues (if is_some o then over b start calls else under_way b start calls) (closed 0 z now fx) w → HearsClose o z (over b start calls) w fx
hears_close b start calls None z now fx _ (ends _ _ fatal passes) = record { next = refl; sends = passes.0; closes = passes.1 }
hears_close b start calls None z now fx _ (rests _ _ idle asks) = absurd (let k = idle in cc)
hears_close b start calls (Some c) z now fx _ (ends _ _ fatal passes) = absurd (let k = fatal in cc)
hears_close b start calls (Some c) z now fx _ (rests _ _ idle asks) = record { next = refl; sends = asks.0; closes = asks.1 }

module _ (c : Case) where
  abbrev upper : Port
  upper = port_at c.fetch 1

  abbrev lower : Port
  lower = port_at c.tftp 0

  -- The Tftp's entry by the close is left, the link is unplugged, what is left of the message is dropped, and the
  -- Fetch's entry is left.
  abbrev parting : List Notice
  parting = tells (Left lower) ∷ tells (Unplugged upper lower) ∷ tells (Dropped upper) ∷ tells (Left upper) ∷ []

  parts : (s : Scene) (a : List (NodeEntry Obj Load)) (v : Conversation) (ns : List Notice) (ds : List (Deed Obj Load)) (others : List (Stage Obj Load)) (m : Said) (user link back below : PortState)
      → Sees s c.fetch c.tftp user link back below
      → At c s (Holds lower way.Close None ∷ MustUnplug upper lower ∷ Holds upper way.Up (Some m) ∷ others) a v ns ds
      → At c (after_noted (Unplugged upper lower) s) others a v (ns ++ parting) ds
  parts s a v ns ds others m user link back below h k =
      let s' = after_noted (Unplugged upper lower) s in
      let h' = down_unplugged s c.fetch c.tftp user link back below h in
      let k1 = past_end (MustUnplug upper lower ∷ Holds upper way.Up (Some m) ∷ others) lower way.Close k in
      let k2 = past_unplug (Holds upper way.Up (Some m) ∷ others) upper lower (omega (arith, h.older)) (omega (arith, h.older)) k1 in
      let k3 = past_rest others upper m (ap open_count h'.fetch_1) k2 in
      let k4 = past_fetch_end others 1 k3 in
      subst (λ z. At c s' others a v z ds) (simp append_assoc) k4

  -- then the Tftp's own entry is left, whose transfer goes on to close its port below late where it is over
  pub record ShutAt (a : List (NodeEntry Obj Load)) (v : Conversation) (ns : List Notice) (ds : List (Deed Obj Load)) : Type 0 where
    pub scene : Scene
    pub seen : Sees scene c.fetch c.tftp Shut Shut Shut Shut
    pub at : At c scene [] a v ns ds

  abbrev first_part : List Notice
  first_part = tells (Closed upper body_too_large) ∷ tells (Closed lower body_too_large) ∷ tells (Entered lower way.Close) ∷ []

  after_large : (s : Scene) (a : List (NodeEntry Obj Load)) (v : Conversation) (ns : List Notice) (ds : List (Deed Obj Load)) (p : Port) (by : Way) (m : Said) (o : Option Cause) (fx : Fx Obj Load) (link back : PortState)
      → settles_by {N = Obj} {L = Load} by p.obj.0 ≡ Settles c.tftp ∷ [] → CarriesNothing fx → fx.closes.items ≡ on_close o body_too_large → Sees s c.fetch c.tftp Shut link back Open
      → At c s (runs_of obj_nature c.tftp silence true fx ++ Holds lower way.Close None ∷ MustUnplug upper lower ∷ Holds upper way.Up (Some m) ∷ (closes_of c.tftp (end_closes o) ++ Holds p by None ∷ [])) a v ns ds
      → ShutAt a v (ns ++ (passed_on c.tftp o ++ (parting ++ (closed_late c.tftp o ++ tells (Left p) ∷ [])))) ds
  after_large s a v ns ds p by m None fx link back e sends closes h k =
      let others : List (Stage Obj Load) = Holds p by None ∷ [] in
      let next : List (Stage Obj Load) = Holds lower way.Close None ∷ MustUnplug upper lower ∷ Holds upper way.Up (Some m) ∷ others in
      let k1 = as_stages (Closes (port_at c.tftp 1) body_too_large ∷ next) (ap (λ w. w ++ next) (runs_closes c.tftp silence fx ((1, body_too_large) ∷ []) sends closes)) k in
      let k2 = past_close next (port_at c.tftp 1) body_too_large h.tftp_1 k1 in
      let s2 = after_noted (Closed (port_at c.tftp 1) body_too_large) s in
      let h2 = below_closed s c.fetch c.tftp _ _ _ _ h body_too_large in
      let k3 = parts s2 a v _ ds others m _ _ _ _ h2 k2 in
      let s3 = after_noted (Unplugged upper lower) s2 in
      let k4 = leaves_tftp c s3 a v _ ds p by e k3 in
      record { scene = s3; seen = down_unplugged s2 c.fetch c.tftp _ _ _ _ h2; at = subst (λ z. At c s3 [] a v z ds) (simp append_assoc) k4 }
  after_large s a v ns ds p by m (Some c') fx link back e sends closes h k =
      let last : List (Stage Obj Load) = Holds p by None ∷ [] in
      let others : List (Stage Obj Load) = Closes lower c' ∷ Closes (port_at c.tftp 1) c' ∷ last in
      let next : List (Stage Obj Load) = Holds lower way.Close None ∷ MustUnplug upper lower ∷ Holds upper way.Up (Some m) ∷ others in
      let k1 = as_stages next (ap (λ w. w ++ next) (runs_closes c.tftp silence fx [] sends closes)) k in
      let k2 = parts s a v ns ds others m _ _ _ _ h k1 in
      let s2 = after_noted (Unplugged upper lower) s in
      let h2 = down_unplugged s c.fetch c.tftp _ _ _ _ h in
      let k3 = past_shut (Closes (port_at c.tftp 1) c' ∷ last) lower c' (ap open_count h2.tftp_0) k2 in
      let k4 = past_close last (port_at c.tftp 1) c' h2.tftp_1 k3 in
      let s3 = after_noted (Closed (port_at c.tftp 1) c') s2 in
      let k5 = leaves_tftp c s3 a v _ ds p by e k4 in
      record { scene = s3; seen = below_closed s2 c.fetch c.tftp _ _ _ _ h2 c'; at = subst (λ z. At c s3 [] a v z ds) (simp append_assoc) k5 }

  -- all of it, from the Fetch's closes on
  pub grows_large : (s : Scene) (a : List (NodeEntry Obj Load)) (b : Begun) (start : ℕ) (calls : List Step) (ns : List Notice) (ds : List (Deed Obj Load)) (p : Port) (by : Way) (m : Said) (o : Option Cause)
      → settles_by {N = Obj} {L = Load} by p.obj.0 ≡ Settles c.tftp ∷ [] → Sees s c.fetch c.tftp Open (Linked lower) (Linked upper) Open
      → At c s (closes_of c.fetch (both_closes body_too_large) ++ Holds upper way.Up (Some m) ∷ (closes_of c.tftp (end_closes o) ++ Holds p by None ∷ [])) a (if is_some o then over b start calls else under_way b start calls) ns ds
      → ShutAt a (over b start calls) (ns ++ (tells (Closed (port_at c.fetch 0) body_too_large) ∷ (first_part ++ (passed_on c.tftp o ++ (parting ++ (closed_late c.tftp o ++ tells (Left p) ∷ [])))))) ds
  grows_large s a b start calls ns ds p by m o e h k =
      let z = body_too_large in
      let v : Conversation = if is_some o then over b start calls else under_way b start calls in
      let others : List (Stage Obj Load) = Holds upper way.Up (Some m) ∷ (closes_of c.tftp (end_closes o) ++ Holds p by None ∷ []) in
      let k1 = past_close (Closes upper z ∷ others) (port_at c.fetch 0) z h.fetch_0 k in
      let s1 = after_noted (Closed (port_at c.fetch 0) z) s in
      let h1 = user_closed s c.fetch c.tftp _ _ _ _ h z in
      let x = closes-down c s1 others a k1.below v k1.left 1 0 z h1.fetch_1 k1.goes in
      let s2 = after_noted (Closed upper z) s1 in
      let h2 = link_closed s1 c.fetch c.tftp _ _ _ _ h1 z in
      let s3 = after_noted (Closed lower z) s2 in
      let h3 = back_closed s2 c.fetch c.tftp _ _ _ _ h2 z in
      let heard = hears_close b start calls o z c.now x.0 x.1 x.2 in
      let next : List (Stage Obj Load) = runs_of obj_nature c.tftp silence true x.0 ++ Holds lower way.Close None ∷ MustUnplug upper lower ∷ others in
      let k2 = then_at s3 next a (k1.below ++ closed 0 z c.now x.0 ∷ []) x.1 first_part k1 x.3 in
      let k3 : At c s3 next a (over b start calls) ((ns ++ tells (Closed (port_at c.fetch 0) z) ∷ []) ++ first_part) ds = subst (λ w. At c s3 next a w ((ns ++ tells (Closed (port_at c.fetch 0) z) ∷ []) ++ first_part) ds) heard.next k2 in
      let l = after_large s3 a (over b start calls) _ ds p by m o x.0 _ _ e heard.sends heard.closes h3 k3 in
      record { scene = l.scene; seen = l.seen; at = subst (λ w. At c l.scene [] a (over b start calls) w ds) (simp append_assoc) l.at }
