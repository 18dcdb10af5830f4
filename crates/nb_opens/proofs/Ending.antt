-- How a call of the Tftp ends: its transfer closes both ports where it is over, and then its entry is left.
use Rattle.std.proofs.Common.{◌≡◌, ℕ, ◌==◌, true, List, [], ◌∷◌, ◌++◌, Option, Some, None, refl, ap, ◌∙◌, subst, append_assoc, arith}
use Rattle.std.proofs.lemmas.List.{append-nil}
use Rattle.nb_terms.specs.declared.cause.Cause.{Cause}
use Rattle.nb_ledger.specs.declared.port.Port.{Port}
use Rattle.nb_ledger.specs.declared.port.PortState.TheVariants.{Open, Linked, Closed as Shut}
use Rattle.nb_ledger.specs.declared.event.Way.{Way}
use Rattle.nb_ledger.specs.declared.event.Way.TheVariants as way
use Rattle.nb_ledger.specs.declared.event.GraphEvent.TheVariants.{Entered, Left, Closed, Unplugged}
use Rattle.nb_ledger.specs.Flat.{Notice}
use Rattle.nb_effects.specs.declared.effects.Fx.{Fx}
use Rattle.nb_graph.specs.Whole.{port_at}
use Rattle.nb_graph.specs.Trace.{NodeEntry, closed, silence}
use Rattle.nb_graph.specs.Deeds.{Deed, Stage, Holds, Closes, MustUnplug, Settles, told_of, closes_of, settles_by, runs_of}
use Rattle.nb_graph.specs.Scene.{Scene, after_noted}
use Rattle.nb_nodes.specs.declared.load.Load.{Load}
use Rattle.nb_nodes.specs.declared.obj.Obj.{Obj}
use Rattle.nb_nodes.specs.Objects.{obj_nature}
use Rattle.nb_nodes.specs.Conversations.{Conversation}
use Rattle.nb_nodes.specs.Carried.{end_closes}
use Rattle.nb_nodes.specs.Fetches.{gathers, closed_well, taken_below}
use Rattle.nb_opens.specs.Notices.{tells, end_notices}
use Rattle.nb_opens.proofs.Going.{Case, closes-up, is-over}
use Rattle.nb_opens.proofs.Scenes.{Sees, user_closed, link_closed, back_closed, below_closed, up_unplugged}
use Rattle.nb_opens.proofs.Effects.{At, then_at, as_stages, past_close, past_end, past_unplug, past_tftp, runs_closes}
use Rattle.nb_opens.proofs.Bodies.{passes_close, after_close, taken_close}

-- nothing is left of it
pub all_told : (c : Case) (s : Scene) (a : List (NodeEntry Obj Load)) (v : Conversation) (ns : List Notice) (ds : List (Deed Obj Load)) → At c s [] a v ns ds
    → (told_of ds ≡ ns) × (s ≡ c.end) × (a ≡ c.above) × (v ≡ c.talk)
all_told c s a v ns ds k =
    let z = is-over c s [] a k.below v k.left k.goes in
    (k.told ∙ (ap (λ w. ns ++ told_of w) z.0 ∙ append-nil ns), z.1, z.2, z.4)

-- the entry of the Tftp is left
pub leaves_tftp : (c : Case) (s : Scene) (a : List (NodeEntry Obj Load)) (v : Conversation) (ns : List Notice) (ds : List (Deed Obj Load)) (p : Port) (by : Way)
    → settles_by {N = Obj} {L = Load} by p.obj.0 ≡ Settles c.tftp ∷ [] → At c s (Holds p by None ∷ []) a v ns ds → At c s [] a v (ns ++ tells (Left p) ∷ []) ds
leaves_tftp c s a v ns ds p by e k = past_tftp [] (as_stages (Settles c.tftp ∷ []) (ap (λ z. z ++ []) e) (past_end [] p by k))

-- the four ports are closed, and the Fetch was called for it
pub record EndsAt (c : Case) (a : List (NodeEntry Obj Load)) (v : Conversation) (z : Cause) (ns : List Notice) (ds : List (Deed Obj Load)) : Type 0 where
  pub scene : Scene
  pub seen : Sees scene c.fetch c.tftp Shut Shut Shut Shut
  pub heard : Fx Obj Load
  pub at : At c scene [] (a ++ closed 1 z c.now heard ∷ []) v ns ds

pub ends_linked : (c : Case) (s : Scene) (a : List (NodeEntry Obj Load)) (v : Conversation) (ns : List Notice) (ds : List (Deed Obj Load)) (p : Port) (by : Way) (z : Cause)
    → settles_by {N = Obj} {L = Load} by p.obj.0 ≡ Settles c.tftp ∷ [] → Sees s c.fetch c.tftp Open (Linked (port_at c.tftp 0)) (Linked (port_at c.fetch 1)) Open → gathers a ≡ true
    → At c s (Closes (port_at c.tftp 0) z ∷ Closes (port_at c.tftp 1) z ∷ Holds p by None ∷ []) a v ns ds
    → EndsAt c a v z (ns ++ (end_notices c.fetch c.tftp (Some z) ++ tells (Left p) ∷ [])) ds
ends_linked c s a v ns ds p by z e h going k =
    let f = c.fetch in
    let t = c.tftp in
    let others : List (Stage Obj Load) = Closes (port_at t 1) z ∷ Holds p by None ∷ [] in
    let x = closes-up c s others a k.below v k.left 0 1 z h.tftp_0 k.goes in
    let b : List (NodeEntry Obj Load) = a ++ closed 1 z c.now x.0 ∷ [] in
    let s1 = after_noted (Closed (port_at t 0) z) s in
    let s2 = after_noted (Closed (port_at f 1) z) s1 in
    let s3 = after_noted (Closed (port_at f 0) z) s2 in
    let s4 = after_noted (Unplugged (port_at t 0) (port_at f 1)) s3 in
    let s5 = after_noted (Closed (port_at t 1) z) s4 in
    let h1 = back_closed s f t _ _ _ _ h z in
    let h2 = link_closed s1 f t _ _ _ _ h1 z in
    let h3 = user_closed s2 f t _ _ _ _ h2 z in
    let h4 = up_unplugged s3 f t _ _ _ _ h3 in
    let h5 = below_closed s4 f t _ _ _ _ h4 z in
    let heard = passes_close a z c.now x.0 going x.1 in
    let above : List (Stage Obj Load) = Holds (port_at f 1) way.Close None ∷ MustUnplug (port_at t 0) (port_at f 1) ∷ others in
    let k1 = then_at s2 (runs_of obj_nature f silence true x.0 ++ above) b k.below v (tells (Closed (port_at t 0) z) ∷ tells (Closed (port_at f 1) z) ∷ tells (Entered (port_at f 1) way.Close) ∷ []) k x.2 in
    let k2 = as_stages (Closes (port_at f 0) z ∷ above) (ap (λ w. w ++ above) (runs_closes f silence x.0 ((0, z) ∷ []) heard.0 heard.1)) k1 in
    let k3 = past_close above (port_at f 0) z h2.fetch_0 k2 in
    let k4 = past_end (MustUnplug (port_at t 0) (port_at f 1) ∷ others) (port_at f 1) way.Close k3 in
    let k5 = past_unplug others (port_at t 0) (port_at f 1) (omega (arith, h.older)) (omega (arith, h.older)) k4 in
    let k6 = past_close (Holds p by None ∷ []) (port_at t 1) z h4.tftp_1 k5 in
    let k7 = leaves_tftp c s5 b v _ ds p by e k6 in
    record { scene = s5; seen = h5; heard = x.0; at = subst (λ w. At c s5 [] b v w ds) (simp append_assoc) k7 }

-- whether the transfer goes on or is over, what is left of the two
pub data Finishes (c : Case) (o : Option Cause) (v : Conversation) (body : List ℕ) : Type 0 where
  goes : o ≡ None → Sees c.end c.fetch c.tftp Open (Linked (port_at c.tftp 0)) (Linked (port_at c.fetch 1)) Open → gathers c.above ≡ true → taken_below c.above ≡ body → v ≡ c.talk → Finishes c o v body
  stops : (z : Cause) → o ≡ Some z → Sees c.end c.fetch c.tftp Shut Shut Shut Shut → closed_well c.above ≡ (z.code == 0) → taken_below c.above ≡ body → v ≡ c.talk → Finishes c o v body

pub finishes : (c : Case) (s : Scene) (a : List (NodeEntry Obj Load)) (v : Conversation) (ns : List Notice) (ds : List (Deed Obj Load)) (p : Port) (by : Way) (body : List ℕ) (o : Option Cause)
    → settles_by {N = Obj} {L = Load} by p.obj.0 ≡ Settles c.tftp ∷ [] → Sees s c.fetch c.tftp Open (Linked (port_at c.tftp 0)) (Linked (port_at c.fetch 1)) Open → gathers a ≡ true → taken_below a ≡ body
    → At c s (closes_of c.tftp (end_closes o) ++ Holds p by None ∷ []) a v ns ds
    → (told_of ds ≡ ns ++ (end_notices c.fetch c.tftp o ++ tells (Left p) ∷ [])) × Finishes c o v body
finishes c s a v ns ds p by body None e h going taken k =
    let z = all_told c s a v (ns ++ tells (Left p) ∷ []) ds (leaves_tftp c s a v ns ds p by e k) in
    (z.0, goes refl (subst (λ w. Sees w c.fetch c.tftp Open (Linked (port_at c.tftp 0)) (Linked (port_at c.fetch 1)) Open) z.1 h) (subst (λ w. gathers w ≡ true) z.2 going) (subst (λ w. taken_below w ≡ body) z.2 taken) z.3)
finishes c s a v ns ds p by body (Some over) e h going taken k =
    let l = ends_linked c s a v ns ds p by over e h going k in
    let b : List (NodeEntry Obj Load) = a ++ closed 1 over c.now l.heard ∷ [] in
    let z = all_told c l.scene b v (ns ++ (end_notices c.fetch c.tftp (Some over) ++ tells (Left p) ∷ [])) ds l.at in (
      z.0,
      stops over refl (subst (λ w. Sees w c.fetch c.tftp Shut Shut Shut Shut) z.1 l.seen)
          (subst (λ w. closed_well w ≡ (over.code == 0)) z.2 (after_close a over c.now l.heard going))
          (subst (λ w. taken_below w ≡ body) z.2 (taken_close a over c.now l.heard ∙ taken)) z.3,
    )
