-- The user begins the open: the request leaves, or memory runs out.
use Rattle.std.proofs.Common.{◌≡◌, ◌⊎◌, ℕ, not, ◌-◌, ◌<◌, ◌^◌, ◌&&◌, Bool, true, false, inl, inr, List, [], ◌∷◌, ◌++◌, length, take, map, Option, Some, None, is_some, refl, sym, ap, ◌∙◌, subst, append_assoc, arith}
use Rattle.std.proofs.lemmas.Bool.{lt-ltb, eq-eqb}
use Rattle.std.proofs.Math.Seq.{take-length}
use Rattle.nb_ledger.specs.declared.event.Way.TheVariants as way
use Rattle.nb_ledger.specs.declared.port.PortState.TheVariants.{Open, Linked}
use Rattle.nb_ledger.specs.declared.event.GraphEvent.TheVariants.{Entered, Left}
use Rattle.nb_ledger.specs.Flat.{Given, Heard, Notice, event, flat}
use Rattle.nb_ledger.specs.Ledger.{open_count}
use Rattle.nb_effects.specs.declared.effects.Fx.{Fx}
use Rattle.nb_graph.specs.Trace.{NodeEntry, Said, down, bytes_between}
use Rattle.nb_graph.specs.Deeds.{Deed, Stage, Holds, Offers, Sends, told_of, few_of, runs_of, said_of}
use Rattle.nb_graph.specs.Scene.{Scene, scene_of}
use Rattle.nb_graph.specs.Follows.{UsesStack}
use Rattle.nb_graph.specs.Laws.{IsOnlyDown}
use Rattle.nb_graph.specs.Noded.{AreNoded}
use Rattle.nb_graph.specs.Went.{WentOne}
use Rattle.nb_graph.specs.Whole.{Objects, port_at}
use Rattle.nb_graph.proofs.Laws.{runs_down}
use Rattle.nb_tftp.specs.Asks.{Begun}
use Rattle.nb_nodes.specs.declared.load.Load.{Load}
use Rattle.nb_nodes.specs.declared.obj.Obj.{Obj}
use Rattle.nb_nodes.specs.Asking.{AskValue, ask_in, begun_with}
use Rattle.nb_nodes.specs.Carried.{EffectsOf}
use Rattle.nb_nodes.specs.Conversations.{Conversation, Continues, RunsTo, unbegun, under_way, first_acts, is_begin, begins, ends, rests}
use Rattle.nb_nodes.specs.Fetches.{AsksHandDown, AsksOfFetch, gathers, taken_below, same_down, handed_down}
use Rattle.nb_nodes.specs.Objects.{obj_nature, rank_of_obj}
use Rattle.nb_nodes.specs.Standing.{ObjStands}
use Rattle.nb_opens.specs.Notices.{down_notices, sent_from, first_close}
use Rattle.nb_opens.specs.Pairs.{AreMade, BeginDoes, begins as it_begins, fails_at_once}
use Rattle.nb_opens.proofs.Going.{Case, Goes, leaves-entry, stays-held, is-over}
use Rattle.nb_opens.proofs.GoingMore.{fails-told, offered-fetch, passes-down}
use Rattle.nb_opens.proofs.Scenes.{Sees, joined_seen, sees_joined}
use Rattle.nb_opens.proofs.Effects.{At, sends_few}
use Rattle.nb_opens.proofs.Starting.{Started, started, case_of}
use Rattle.nb_opens.proofs.TalkLemmas.{TalkMeets}

-- the message that begins an open
abbrev begin_message : ℕ → List ℕ → Said
begin_message rec bytes = record { tag = 1; rec = rec; a = 0; b = 0; bytes = bytes }

whole_bytes : (bytes : List ℕ) → bytes_between bytes 0 (length bytes) ≡ bytes
whole_bytes bytes = ap (λ k. take k bytes) (let z : length bytes - 0 ≡ length bytes = omega arith in z) ∙ take-length bytes

-- it is handed down as it is
same_message : (rec : ℕ) (bytes : List ℕ) → said_of obj_nature (begin_message rec bytes) (same_down (begin_message rec bytes)) ≡ begin_message rec bytes
same_message rec bytes = ap (begin_message rec) (whole_bytes bytes)

handed : (rec : ℕ) (bytes : List ℕ) → length bytes < 2 ^ 32 → handed_down true (begin_message rec bytes) ≡ Some (same_down (begin_message rec bytes))
handed rec bytes short = rw (lt-ltb (length bytes) (2 ^ 32) short) refl

only_down : (rec : ℕ) (bytes : List ℕ) (fx : Fx Obj Load) → length bytes < 2 ^ 32 → AsksHandDown true (begin_message rec bytes) fx → IsOnlyDown fx (same_down (begin_message rec bytes))
only_down rec bytes fx short asks = (asks.no_make, (asks.down ∙ handed rec bytes short, asks.one), (asks.no_up, asks.no_ups), asks.no_close, refl)

-- what the Tftp asks for then: its downs alone
only_downs : (x : ℕ) (m : Said) (b : Begun) (fx : Fx Obj Load) → EffectsOf m (first_acts b) fx → runs_of obj_nature x m true fx ≡ few_of obj_nature x m fx.downs ++ []
only_downs x m b fx e = rw (e.no_make, e.ups, e.closes) refl

not_true : (b : Bool) → not b ≡ true → b ≡ false
not_true true h = absurd (let z = h in cc)
not_true false h = refl

and_false : (b : Bool) → (b && false) ≡ true → ⊥
and_false true h = let z = h in cc
and_false false h = let z = h in cc

is_a_begin : (a : AskValue) (m : Said) → m.tag ≡ 1 → ask_in m.bytes ≡ Some a → is_begin m ≡ true
is_a_begin a m tag ask = ap (λ z. z && is_some (ask_in m.bytes)) (eq-eqb m.tag 1 tag) ∙ ap (λ (o : Option AskValue). is_some o) ask

-- the Tftp begins, or runs out of memory
began : (done : Bool) (fx : Fx Obj Load) (w : Conversation) (m : Said) (now : ℕ) (a : AskValue) → m.tag ≡ 1 → ask_in m.bytes ≡ Some a → Continues unbegun (down m now done fx) w
    → (done ≡ false) ⊎ ((done ≡ true) × EffectsOf m (first_acts (begun_with a)) fx × (w ≡ under_way (begun_with a) now []))
began _ fx _ m now a i j (begins v _ _ _ tag ask effects) =
    let z = sym ask ∙ j in
    let same : v ≡ a = cc in
    inr (refl, subst (λ z. EffectsOf m (first_acts (begun_with z)) fx) same effects, ap (λ z. under_way (begun_with z) now []) same)
began done fx _ m now a i j (ends _ _ fatal passes) = inl (not_true done fatal)
began done fx _ m now a i j (rests _ _ idle asks) = absurd (and_false done (sym (ap (λ z. done && not z) (is_a_begin a m i j)) ∙ idle))

-- both entries end
begin_ends : (c : Case) (s : Scene) (a b : List (NodeEntry Obj Load)) (v : Conversation) (ds : List (Deed Obj Load)) → Goes c s (Holds (port_at c.tftp 0) way.Down None ∷ Holds (port_at c.fetch 0) way.Down None ∷ []) a b v ds
    → (told_of ds ≡ event (flat (Left (port_at c.tftp 0))) ∷ event (flat (Left (port_at c.fetch 0))) ∷ []) × (s ≡ c.end) × (a ≡ c.above) × (b ≡ c.below) × (v ≡ c.talk)
begin_ends c s a b v ds g =
    let gs : List (Stage Obj Load) = Holds (port_at c.fetch 0) way.Down None ∷ [] in
    let one = leaves-entry c s gs a b v ds (port_at c.tftp 0) way.Down g in
    let two = stays-held c s gs a b v one.0 c.tftp (inr refl) one.2 in
    let three = leaves-entry c s [] a b v two.0 (port_at c.fetch 0) way.Down two.2 in
    let four = stays-held c s [] a b v three.0 c.fetch (inl refl) three.2 in
    let end = is-over c s [] a b v four.0 four.2 in (
      one.1 ∙ ap (λ z. event (flat (Left (port_at c.tftp 0))) ∷ z) (two.1 ∙ three.1 ∙ ap (λ z. event (flat (Left (port_at c.fetch 0))) ∷ z) (four.1 ∙ ap told_of end.0)),
      end.1,
      end.2,
      end.3,
      end.4,
    )

module _ (g h : Objects Obj) (m n : Heard) (now f t rec : ℕ) (a : AskValue) (bytes : List ℕ) where
  abbrev Begins : Type 0
  Begins = Started g h m n now f t (Offers (port_at f 0) (begin_message rec bytes) ∷ []) [] [] unbegun

  abbrev case : Begins → Case
  case st = case_of now f t st.apart h st.top st.bottom st.talk

  -- the request has left
  leaves_then : AreMade g f t → (st : Begins) (fx fx2 : Fx Obj Load) (b : List (NodeEntry Obj Load)) (ds : List (Deed Obj Load)) → ask_in bytes ≡ Some a → EffectsOf (begin_message rec bytes) (first_acts (begun_with a)) fx2
      → Goes (case st) (scene_of g.book) (runs_of obj_nature t (begin_message rec bytes) true fx2 ++ (Holds (port_at t 0) way.Down None ∷ Holds (port_at f 0) way.Down None ∷ [])) (down (begin_message rec bytes) now true fx ∷ []) b (under_way (begun_with a) now []) ds
      → told_of st.deeds ≡ event (flat (Entered (port_at f 0) way.Down)) ∷ event (flat (Entered (port_at t 0) way.Down)) ∷ told_of ds
      → BeginDoes h f t (begun_with a) now rec (told_of st.deeds)
  leaves_then made st fx fx2 b ds ask effects goes told =
      let c = case st in
      let s = scene_of g.book in
      let msg : Said = begin_message rec bytes in
      let i = down msg now true fx in
      let gs : List (Stage Obj Load) = Holds (port_at t 0) way.Down None ∷ Holds (port_at f 0) way.Down None ∷ [] in
      let v : Conversation = under_way (begun_with a) now [] in
      let runs : runs_of obj_nature t msg true fx2 ++ gs ≡ few_of obj_nature t msg fx2.downs ++ gs =
      ap (λ z. z ++ gs) (only_downs t msg (begun_with a) fx2 effects) ∙ append_assoc (few_of obj_nature t msg fx2.downs) [] gs in
      let at : At c s (few_of obj_nature t msg fx2.downs ++ gs) (i ∷ []) v [] ds = record { below = b; left = ds; told = refl; goes = subst (λ z. Goes c s z (i ∷ []) b v ds) runs goes } in
      let k = sends_few c s gs (i ∷ []) v [] ds msg fx2.downs made.joined.below effects.by_one at in
      let end = begin_ends c s (i ∷ []) k.below v k.left k.goes in
      let downs : told_of ds ≡ down_notices t rec (first_acts (begun_with a)) ++ (event (flat (Left (port_at t 0))) ∷ event (flat (Left (port_at f 0))) ∷ []) =
      k.told ∙ ap (λ z. map (sent_from (port_at t 1)) z ++ told_of k.left) effects.downs ∙ ap (λ z. down_notices t rec (first_acts (begun_with a)) ++ z) end.0 in
      it_begins (told ∙ ap (λ z. event (flat (Entered (port_at f 0) way.Down)) ∷ event (flat (Entered (port_at t 0) way.Down)) ∷ z) downs) (record {
        joined = joined_seen h f t (subst (λ y. Sees y f t Open (Linked (port_at t 0)) (Linked (port_at f 1)) Open) end.1 (sees_joined g f t made.joined)) st.fetch_held st.tftp_held st.fetch_rank st.tftp_rank;
        above = st.top;
        below = st.bottom;
        fetch = st.fetch;
        tftp = st.tftp;
        gathering = subst (λ z. gathers z ≡ true) end.2 refl;
        taken = subst (λ z. taken_below z ≡ []) end.2 refl;
        fits = omega arith;
        talk = subst (λ z. RunsTo unbegun st.bottom z) (sym end.4) st.runs;
        meets = subst TalkMeets (sym end.4) st.meets;
        unharvested = st.unharvested made.unharvested;
      })

  -- the Tftp was called
  calls_tftp : AreMade g f t → (st : Begins) (fx : Fx Obj Load) (done : Bool) (fx2 : Fx Obj Load) (w : Conversation) (b : List (NodeEntry Obj Load)) (ds : List (Deed Obj Load)) → ask_in bytes ≡ Some a → Continues unbegun (down (begin_message rec bytes) now done fx2) w
      → Goes (case st) (scene_of g.book) (runs_of obj_nature t (begin_message rec bytes) done fx2 ++ (Holds (port_at t 0) way.Down None ∷ Holds (port_at f 0) way.Down None ∷ [])) (down (begin_message rec bytes) now true fx ∷ []) b w ds
      → told_of st.deeds ≡ event (flat (Entered (port_at f 0) way.Down)) ∷ event (flat (Entered (port_at t 0) way.Down)) ∷ told_of ds
      → BeginDoes h f t (begun_with a) now rec (told_of st.deeds)
  calls_tftp made st fx done fx2 w b ds ask goes_on goes told =
      let msg : Said = begin_message rec bytes in
      let gs : List (Stage Obj Load) = Holds (port_at t 0) way.Down None ∷ Holds (port_at f 0) way.Down None ∷ [] in
      elim (began done fx2 w msg now a refl ask goes_on) [
        | inl failed ↦
            let uses = subst (λ z. UsesStack obj_nature now (scene_of g.book) (runs_of obj_nature t msg z fx2 ++ gs) ds (scene_of h.book)) failed goes.uses in
            fails_at_once (ap first_close told ∙ fails-told now (scene_of g.book) (scene_of h.book) t msg fx2 gs ds (ap open_count made.joined.back) uses)
        | inr k ↦ leaves_then made st fx fx2 b ds ask k.1
            (subst (λ z. Goes (case st) (scene_of g.book) (runs_of obj_nature t msg z fx2 ++ gs) (down msg now true fx ∷ []) b (under_way (begun_with a) now []) ds) k.0
            (subst (λ z. Goes (case st) (scene_of g.book) (runs_of obj_nature t msg done fx2 ++ gs) (down msg now true fx ∷ []) b z ds) k.2 goes)) told
      ]

  -- the Fetch was
  calls_fetch : AreMade g f t → (st : Begins) (done : Bool) (fx : Fx Obj Load) (ds : List (Deed Obj Load)) → ask_in bytes ≡ Some a → length bytes < 2 ^ 32 → AsksOfFetch [] (down (begin_message rec bytes) now done fx)
      → Goes (case st) (scene_of g.book) (runs_of obj_nature f (begin_message rec bytes) done fx ++ (Holds (port_at f 0) way.Down None ∷ [])) (down (begin_message rec bytes) now done fx ∷ []) [] unbegun ds
      → told_of st.deeds ≡ event (flat (Entered (port_at f 0) way.Down)) ∷ told_of ds → BeginDoes h f t (begun_with a) now rec (told_of st.deeds)
  calls_fetch made st false fx ds ask short asks goes told =
      fails_at_once (ap first_close told ∙ fails-told now (scene_of g.book) (scene_of h.book) f (begin_message rec bytes) fx (Holds (port_at f 0) way.Down None ∷ []) ds (ap open_count made.joined.user) goes.uses)
  calls_fetch made st true fx ds ask short asks goes told =
      let msg : Said = begin_message rec bytes in
      let i = down msg now true fx in
      let gs : List (Stage Obj Load) = Holds (port_at f 0) way.Down None ∷ [] in
      let runs : runs_of obj_nature f msg true fx ≡ Sends (port_at f 1) msg ∷ [] =
      runs_down obj_nature now f msg fx (same_down msg) (only_down rec bytes fx short (asks refl)) ∙ ap (λ (z : Said). Sends (port_at f 1) z ∷ []) (same_message rec bytes) in
      let k = passes-down (case st) (scene_of g.book) gs (i ∷ []) [] unbegun ds msg made.joined.link (subst (λ z. Goes (case st) (scene_of g.book) (z ++ gs) (i ∷ []) [] unbegun ds) runs goes) in
      calls_tftp made st fx k.0 k.1 k.2 (down msg now k.0 k.1 ∷ []) k.4.0 ask k.3 k.4.2 (told ∙ ap (λ z. event (flat (Entered (port_at f 0) way.Down)) ∷ z) k.4.1)

  pub begin_does : AreMade g f t → ask_in bytes ≡ Some a → length bytes < 2 ^ 32 → AreNoded rank_of_obj h
      → WentOne ObjStands obj_nature now (Offers (port_at f 0) (begin_message rec bytes) ∷ []) g h m n → (ns : List Notice) × Given m n ns × BeginDoes h f t (begun_with a) now rec ns
  begin_does made ask short noded went =
      let st : Begins = started g h m n now f t (Offers (port_at f 0) (begin_message rec bytes) ∷ []) [] [] unbegun made.joined.two made.fetch made.tftp refl tt made.unharvested noded (tt, tt) went in
      let k = offered-fetch (case st) (scene_of g.book) [] [] [] unbegun st.deeds (begin_message rec bytes) made.joined.user (record { uses = st.uses; tail = st.tail }) in
      (told_of st.deeds, st.told, calls_fetch made st k.0 k.1 k.3.0 ask short k.2 k.3.2 k.3.1)
