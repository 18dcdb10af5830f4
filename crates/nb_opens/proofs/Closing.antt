-- The user closes both ports of the Fetch, one after the other.
use Rattle.std.proofs.Common.{◌≡◌, inl, inr, ℕ, ◌&&◌, true, false, not, List, [], ◌∷◌, ◌++◌, nat_lt, Option, Some, None, refl, sym, ap, ◌∙◌, subst, append_assoc, min, max, arith}
use Rattle.std.specs.Option.{is_none, option_map_or}
use Rattle.nb_terms.specs.declared.cause.Cause.{Cause}
use Rattle.nb_ledger.specs.declared.port.PortState.TheVariants.{Open, Linked, Closed as Shut}
use Rattle.nb_ledger.specs.declared.event.Way.TheVariants as way
use Rattle.nb_ledger.specs.declared.event.GraphEvent.TheVariants.{Closed, Entered, Left, Unplugged}
use Rattle.nb_ledger.specs.Flat.{Heard, Notice, Given}
use Rattle.nb_ledger.proofs.RunLemmas.{Given-append}
use Rattle.nb_effects.specs.declared.effects.Fx.{Fx}
use Rattle.nb_graph.specs.Trace.{NodeEntry, closed, silence}
use Rattle.nb_graph.specs.Deeds.{Deed, Stage, Holds, Closes, MustUnplug, runs_of}
use Rattle.nb_graph.specs.Scene.{Scene, scene_of, after_noted}
use Rattle.nb_graph.specs.Lived.{ObjectStands}
use Rattle.nb_graph.specs.Noded.{AreNoded}
use Rattle.nb_graph.specs.Went.{WentOne}
use Rattle.nb_graph.specs.Whole.{Objects, port_at}
use Rattle.nb_nodes.specs.declared.load.Load.{Load}
use Rattle.nb_nodes.specs.declared.obj.Obj.{Obj}
use Rattle.nb_nodes.specs.Objects.{obj_nature, rank_of_obj}
use Rattle.nb_nodes.specs.Carried.{CarriesNothing}
use Rattle.nb_nodes.specs.Conversations.{Conversation, Continues, RunsTo, unbegun, under_way, talk_has_ended, ends, rests}
use Rattle.nb_nodes.specs.Fetches.{gathers, closed_well, first_end, is_ok_close}
use Rattle.nb_nodes.specs.Standing.{ObjStands}
use Rattle.nb_opens.specs.Notices.{tells, closed_notices}
use Rattle.nb_opens.specs.Pairs.{AreTwo, ArePlugged, AreGoing, HasHandedOut, AreUnharvested}
use Rattle.nb_opens.proofs.TalkLemmas.{TalkMeets}
use Rattle.nb_opens.proofs.Going.{Case, closes-down}
use Rattle.nb_opens.proofs.Starting.{started, case_of}
use Rattle.nb_opens.proofs.Scenes.{Sees, sees_joined, user_closed, link_closed, back_closed, below_closed, down_unplugged, shut_seen, two_seen}
use Rattle.nb_opens.proofs.Effects.{At, then_at, as_stages, past_close, past_end, past_unplug, runs_closes}
use Rattle.nb_opens.proofs.Ending.{all_told}

-- Two that are going, with their traces: the Fetch gathers, and the transfer hasn't ended.
pub record Goings (g : Objects Obj) (f t : ℕ) : Type 0 where
  pub joined : ArePlugged g f t
  pub above : List (NodeEntry Obj Load)
  pub below : List (NodeEntry Obj Load)
  pub talk : Conversation
  pub fetch : ObjectStands ObjStands g f above
  pub tftp : ObjectStands ObjStands g t below
  pub gathering : gathers above ≡ true
  pub runs : RunsTo unbegun below talk
  pub meets : TalkMeets talk
  pub ongoing : talk_has_ended talk ≡ false
  pub unharvested : AreUnharvested g f t

pub goings : (g : Objects Obj) (f t : ℕ) → AreGoing g f t → Goings g f t
goings g f t (inl m) = record { joined = m.joined; above = []; below = []; talk = unbegun; fetch = m.fetch; tftp = m.tftp; gathering = refl; runs = refl; meets = tt; ongoing = refl; unharvested = m.unharvested }
goings g f t (inr (b, start, calls, body, d)) = record {
  joined = d.joined;
  above = d.above;
  below = d.below;
  talk = under_way b start calls;
  fetch = d.fetch;
  tftp = d.tftp;
  gathering = d.gathering;
  runs = d.talk;
  meets = d.meets;
  ongoing = refl;
  unharvested = d.unharvested;
}

no_end : (o : Option (NodeEntry Obj Load)) → is_none o ≡ true → option_map_or is_ok_close o false ≡ false
no_end None h = refl
no_end (Some e) h = absurd (let z = h in cc)

-- what still gathers hasn't ended well
pub not_well : (a : List (NodeEntry Obj Load)) → gathers a ≡ true → closed_well a ≡ false
not_well a h = no_end (first_end a) h

-- a Tftp that hasn't ended passes the close on
pub passes_on : (v w : Conversation) (z : Cause) (now : ℕ) (fx : Fx Obj Load) → talk_has_ended v ≡ false → Continues v (closed 0 z now fx) w → CarriesNothing fx × (fx.closes.items ≡ (1, z) ∷ [])
passes_on v _ z now fx e (ends _ _ fatal passes) = passes
passes_on v _ z now fx e (rests _ _ idle asks) = absurd (let i = sym (ap (λ q. not (not q && nat_lt 0 2)) e) ∙ idle in cc)

-- the user's port is closed
pub record UserShut (g a : Objects Obj) (m n : Heard) (f t : ℕ) (z : Cause) (w : Goings g f t) : Type 0 where
  pub two : AreTwo a f t
  pub seen : Sees (scene_of a.book) f t Shut (Linked (port_at t 0)) (Linked (port_at f 1)) Open
  pub below : List (NodeEntry Obj Load)
  pub fetch : ObjectStands ObjStands a f w.above
  pub tftp : ObjectStands ObjStands a t below
  pub runs : RunsTo unbegun below w.talk
  pub unharvested : AreUnharvested a f t
  pub told : Given m n (tells (Closed (port_at f 0) z) ∷ [])

module _ (g a : Objects Obj) (m n : Heard) (now f t : ℕ) (z : Cause) where
  pub user_shut : (w : Goings g f t) → AreNoded rank_of_obj a → WentOne ObjStands obj_nature now (Closes (port_at f 0) z ∷ []) g a m n → UserShut g a m n f t z w
  user_shut w noded k =
      let asks : List (Stage Obj Load) = Closes (port_at f 0) z ∷ [] in
      let st = started g a m n now f t asks w.above w.below w.talk w.joined.two w.fetch w.tftp w.runs w.meets w.unharvested noded (tt, tt) k in
      let c = case_of now f t st.apart a st.top st.bottom st.talk in
      let s = scene_of g.book in
      let at : At c s asks w.above w.talk [] st.deeds = record { below = w.below; left = st.deeds; told = refl; goes = record { uses = st.uses; tail = st.tail } } in
      let end = all_told c (after_noted (Closed (port_at f 0) z) s) w.above w.talk (tells (Closed (port_at f 0) z) ∷ []) st.deeds (past_close [] (port_at f 0) z w.joined.user at) in
      let seen : Sees (scene_of a.book) f t Shut (Linked (port_at t 0)) (Linked (port_at f 1)) Open =
      subst (λ y. Sees y f t Shut (Linked (port_at t 0)) (Linked (port_at f 1)) Open) end.1 (user_closed s f t Open (Linked (port_at t 0)) (Linked (port_at f 1)) Open (sees_joined g f t w.joined) z) in
      record {
        two = two_seen a f t Shut (Linked (port_at t 0)) (Linked (port_at f 1)) Open seen st.fetch_held st.tftp_held st.fetch_rank st.tftp_rank;
        seen = seen;
        below = st.bottom;
        fetch = subst (ObjectStands ObjStands a f) (sym end.2) st.fetch;
        tftp = st.tftp;
        runs = subst (λ y. RunsTo unbegun st.bottom y) (sym end.3) st.runs;
        unharvested = st.unharvested w.unharvested;
        told = subst (Given m n) end.0 st.told;
      }

-- what is told from the close of the link on
abbrev link_notices : ℕ → ℕ → Cause → List Notice
link_notices f t z =
    tells (Closed (port_at f 1) z) ∷ tells (Closed (port_at t 0) z) ∷ tells (Entered (port_at t 0) way.Close) ∷ tells (Closed (port_at t 1) z)
    ∷ tells (Left (port_at t 0)) ∷ tells (Unplugged (port_at f 1) (port_at t 0)) ∷ []

-- where both ports of the Fetch are closed nothing is left open between the user and what is below
module _ (c : Case) (s : Scene) (a : List (NodeEntry Obj Load)) (v : Conversation) (ns : List Notice) (ds : List (Deed Obj Load)) (z : Cause) (gs : List (Stage Obj Load)) where
  -- all closed, and so much was told
  pub record LinkShut : Type 0 where
    pub scene : Scene
    pub talk : Conversation
    pub seen : Sees scene c.fetch c.tftp Shut Shut Shut Shut
    pub at : At c scene gs a talk (ns ++ link_notices c.fetch c.tftp z) ds

  pub link_shut : Sees s c.fetch c.tftp Shut (Linked (port_at c.tftp 0)) (Linked (port_at c.fetch 1)) Open → talk_has_ended v ≡ false → At c s (Closes (port_at c.fetch 1) z ∷ gs) a v ns ds → LinkShut
  link_shut h ongoing k =
      let f = c.fetch in
      let t = c.tftp in
      let x = closes-down c s gs a k.below v k.left 1 0 z h.fetch_1 k.goes in
      let passed = passes_on v x.1 z c.now x.0 ongoing x.2 in
      let s1 = after_noted (Closed (port_at f 1) z) s in
      let s2 = after_noted (Closed (port_at t 0) z) s1 in
      let s3 = after_noted (Closed (port_at t 1) z) s2 in
      let h1 = link_closed s f t Shut (Linked (port_at t 0)) (Linked (port_at f 1)) Open h z in
      let h2 = back_closed s1 f t Shut _ (Linked (port_at f 1)) Open h1 z in
      let h3 = below_closed s2 f t Shut _ _ Open h2 z in
      let others : List (Stage Obj Load) = Holds (port_at t 0) way.Close None ∷ MustUnplug (port_at f 1) (port_at t 0) ∷ gs in
      let one = then_at s2 (runs_of obj_nature t silence true x.0 ++ others) a (k.below ++ closed 0 z c.now x.0 ∷ []) x.1 (tells (Closed (port_at f 1) z) ∷ tells (Closed (port_at t 0) z) ∷ tells (Entered (port_at t 0) way.Close) ∷ []) k x.3 in
      let two = as_stages (Closes (port_at t 1) z ∷ others) (ap (λ y. y ++ others) (runs_closes t silence x.0 ((1, z) ∷ []) passed.0 passed.1)) one in
      let three = past_close others (port_at t 1) z h2.tftp_1 two in
      let four = past_end (MustUnplug (port_at f 1) (port_at t 0) ∷ gs) (port_at t 0) way.Close three in
      let low : min f t ≡ f = omega (arith, h.older) in
      let high : max f t ≡ t = omega (arith, h.older) in
      let five = past_unplug gs (port_at f 1) (port_at t 0) low high four in
      record {
        scene = after_noted (Unplugged (port_at f 1) (port_at t 0)) s3;
        talk = x.1;
        seen = down_unplugged s3 f t Shut _ _ _ h3;
        at = subst (λ y. At c (after_noted (Unplugged (port_at f 1) (port_at t 0)) s3) gs a x.1 y ds) (simp append_assoc) five;
      }

module _ (g a h : Objects Obj) (m n o : Heard) (now f t : ℕ) (z : Cause) where
  pub both_shut : (w : Goings g f t) → UserShut g a m n f t z w → AreNoded rank_of_obj h → WentOne ObjStands obj_nature now (Closes (port_at f 1) z ∷ []) a h n o
      → HasHandedOut h f t None × Given m o (closed_notices f t z)
  both_shut w u noded k =
      let asks : List (Stage Obj Load) = Closes (port_at f 1) z ∷ [] in
      let st = started a h n o now f t asks w.above u.below w.talk u.two u.fetch u.tftp u.runs w.meets u.unharvested noded (tt, tt) k in
      let c = case_of now f t st.apart h st.top st.bottom st.talk in
      let s = scene_of a.book in
      let at : At c s asks w.above w.talk [] st.deeds = record { below = u.below; left = st.deeds; told = refl; goes = record { uses = st.uses; tail = st.tail } } in
      let l = link_shut c s w.above w.talk [] st.deeds z [] u.seen w.ongoing at in
      let end = all_told c l.scene w.above l.talk (link_notices f t z) st.deeds l.at in (
        record {
          shut = shut_seen h f t (subst (λ y. Sees y f t Shut Shut Shut Shut) end.1 l.seen) st.fetch_held st.tftp_held st.fetch_rank st.tftp_rank;
          above = st.top;
          fetch = st.fetch;
          well = ap closed_well (sym end.2) ∙ not_well w.above w.gathering;
          taken = tt;
          unharvested = st.unharvested u.unharvested;
        },
        Given-append m n o (tells (Closed (port_at f 0) z) ∷ []) (link_notices f t z) u.told (subst (Given n o) end.0 st.told),
      )

  pub close_does : AreGoing g f t → AreNoded rank_of_obj a → AreNoded rank_of_obj h → WentOne ObjStands obj_nature now (Closes (port_at f 0) z ∷ []) g a m n
      → WentOne ObjStands obj_nature now (Closes (port_at f 1) z ∷ []) a h n o → HasHandedOut h f t None × Given m o (closed_notices f t z)
  close_does going i j k l = let w = goings g f t going in both_shut w (user_shut g a m n now f t z w i k) j l
