-- What a message, a time and the user's asking do to the one object of an open.
use Rattle.std.proofs.Common.{◌≡◌, ℕ, ◌<◌, ◌^◌, ◌&&◌, Bool, true, false, not, List, [], ◌∷◌, ◌++◌, length, Option, Some, None, is_some, refl, sym, ap, ◌∙◌, subst, arith}
use Rattle.std.proofs.lemmas.Bool.{eq-eqb}
use Rattle.nb_terms.specs.declared.cause.Cause.{Cause}
use Rattle.nb_ledger.specs.declared.event.Way.TheVariants as way
use Rattle.nb_ledger.specs.declared.event.GraphEvent.TheVariants.{Entered}
use Rattle.nb_ledger.specs.Flat.{Given, Heard, Notice}
use Rattle.nb_ledger.specs.GraphRun.{new_ports}
use Rattle.nb_ledger.specs.Ledger.{open_count}
use Rattle.nb_effects.specs.declared.effects.Fx.{Fx}
use Rattle.nb_graph.specs.Noded.{AreNoded}
use Rattle.nb_graph.specs.Scene.{scene_of}
use Rattle.nb_graph.specs.Trace.{Said, up, down, time, silence, left}
use Rattle.nb_graph.specs.Deeds.{Stage, Holds, Offers, Ticks, rest, told_of, runs_of}
use Rattle.nb_graph.specs.Went.{WentOne, all_of}
use Rattle.nb_graph.specs.Whole.{Objects, port_at}
use Rattle.nb_graph.proofs.Laws.{offer_up, offer_down, tick_live}
use Rattle.nb_nodes.specs.declared.load.Load.{Load}
use Rattle.nb_nodes.specs.declared.obj.Obj.{Obj}
use Rattle.nb_nodes.specs.declared.tag.Tag.TheVariants.{Begin}
use Rattle.nb_nodes.specs.Tags.{tag_number}
use Rattle.nb_nodes.specs.Objects.{obj_nature, rank_of_obj}
use Rattle.nb_nodes.specs.Exchanges.{Service, AskerState, not_begun, asking, begins_service, AsksAndGives, AskerTakes, is_begun, is_ended, stays_idle}
use Rattle.nb_nodes.specs.Standing.{ObjStands}
use Rattle.nb_opens.specs.Notices.{tells, first_close}
use Rattle.nb_opens.specs.Alones.{IsOpenLone, IsUnasked, AsksMore, AsksOrIgnores, is_taken, is_ignored, fails_before, ReceivesEach, TicksEach, Begins, starts, fails_at_once}
use Rattle.nb_opens.proofs.Effects.{runs_closes}
use Rattle.nb_opens.proofs.GoingMore.{fails-told}
use Rattle.nb_opens.proofs.LoneStarts.{IsKind, Seen, seen_lone, LoneStarted, lone_started, lone_told}
use Rattle.nb_opens.proofs.LoneWalks.{Walk, past_end, as_stages, at_rest}
use Rattle.nb_opens.proofs.LoneCalls.{slots_at, call_done, called, whole_taken, hears, hears_time, ignores, still_talks, answers_so}

-- a message of no exchange: what the node answered
module _ {S B C : Type 0} (svc : Service S B C) (known : B → List C → Type 0) (kind : ℕ) (law : IsKind svc known kind) (g h : Objects Obj) (m n : Heard) (now x : ℕ) (said : Said) where
  abbrev Starts : List (Stage Obj Load) → AskerState B C → Type 0
  Starts asks v = LoneStarted svc kind g h m n now x asks v

  ignored_so : (b : B) (start : ℕ) (calls : List C) (st : Starts (Offers (port_at x 1) said ∷ []) (asking b start calls)) (done : Bool) (fx : Fx Obj Load) (w : AskerState B C) → IsOpenLone g x → svc.takes 1 said ≡ false → length said.bytes < 2 ^ 32
      → AskerTakes svc (asking b start calls) (up 1 said now done fx) w
      → Walk svc now x (scene_of h.book) st.last (scene_of g.book) (runs_of obj_nature x said done fx ++ Holds (port_at x 1) way.Up (rest said done fx) ∷ []) w (tells (Entered (port_at x 1) way.Up) ∷ []) st.deeds
      → AsksOrIgnores svc kind h x b start calls said now (told_of st.deeds)
  ignored_so b start calls st false fx w lone none small goes k =
      fails_before (ap first_close k.told ∙ fails-told now (scene_of g.book) (scene_of h.book) x said fx (Holds (port_at x 1) way.Up (rest said false fx) ∷ []) k.left (ap open_count (lone.ports 0)) k.uses)
  ignored_so b start calls st true fx w lone none small goes k =
      let i = ignores svc b start calls said now fx w none goes in
      let ns : List Notice = tells (Entered (port_at x 1) way.Up) ∷ [] in
      let took : left fx.took said ≡ None = whole_taken said fx.took small i.1 in
      let runs : runs_of obj_nature x said true fx ≡ [] = runs_closes x said fx [] i.0.0 i.0.1 in
      let same : runs_of obj_nature x said true fx ++ Holds (port_at x 1) way.Up (rest said true fx) ∷ [] ≡ Holds (port_at x 1) way.Up None ∷ [] =
      ap (λ (z : List (Stage Obj Load)). z ++ Holds (port_at x 1) way.Up (rest said true fx) ∷ []) runs ∙ ap (λ (z : Option Said). Holds (port_at x 1) way.Up z ∷ []) took in
      let one = as_stages svc now x (scene_of h.book) st.last st.deeds (scene_of g.book) _ (Holds (port_at x 1) way.Up None ∷ []) w ns same k in
      let z = at_rest svc now x (scene_of h.book) st.last st.deeds (scene_of g.book) w _ (past_end svc now x (scene_of h.book) st.last st.deeds (scene_of g.book) w ns 1 way.Up refl one) in
      is_ignored none z.0
      (still_talks svc kind g h m n now x (Offers (port_at x 1) said ∷ []) (asking b start calls) st b start calls (subst (λ y. Seen y x new_ports) z.1 (seen_lone g x new_ports lone)) (sym i.2 ∙ z.2))

  received_so : (b : B) (start : ℕ) (calls : List C) (st : Starts (Offers (port_at x 1) said ∷ []) (asking b start calls)) (done : Bool) (fx : Fx Obj Load) (w : AskerState B C) (o : Bool) → IsOpenLone g x → svc.takes 1 said ≡ o → length said.bytes < 2 ^ 32
      → AskerTakes svc (asking b start calls) (up 1 said now done fx) w
      → Walk svc now x (scene_of h.book) st.last (scene_of g.book) (runs_of obj_nature x said done fx ++ Holds (port_at x 1) way.Up (rest said done fx) ∷ []) w (tells (Entered (port_at x 1) way.Up) ∷ []) st.deeds
      → AsksOrIgnores svc kind h x b start calls said now (told_of st.deeds)
  received_so b start calls st done fx w true lone e small goes k =
      is_taken e
      (answers_so svc kind g h m n now x (Offers (port_at x 1) said ∷ []) (asking b start calls) st b start calls said 1 way.Up (svc.received said now) (λ done fx. rest said done fx) done fx w refl lone
      (hears svc b start calls said now done fx w e small goes) k)
  received_so b start calls st done fx w false lone e small goes k = ignored_so b start calls st done fx w lone e small goes k

  pub receives_each : length said.bytes < 2 ^ 32 → AreNoded rank_of_obj h → (k : WentOne ObjStands obj_nature now (Offers (port_at x 1) said ∷ []) g h m n) → ReceivesEach svc kind g h x said now (told_of (all_of k.deeds))
  receives_each small noded k = λ b start calls t.
      let asks : List (Stage Obj Load) = Offers (port_at x 1) said ∷ [] in
      let v : AskerState B C = asking b start calls in
      let st = lone_started svc known kind law g h m n now x asks t.trace v t.lone t.stands t.run t.meets t.of_kind noded (tt, tt) k in
      let c = called svc now x (scene_of h.book) st.last st.deeds (scene_of g.book) asks v (λ done fx. up 1 said now done fx) said 1 way.Up (λ done fx. rest said done fx) st.walk
      (offer_up obj_nature now (scene_of g.book) (scene_of h.book) (port_at x 1) said [] st.walk.left (omega arith) (t.lone.ports 1) st.walk.uses) in
      subst (AsksOrIgnores svc kind h x b start calls said now) (lone_told svc known kind law g h m n now x asks t.trace v t.lone t.stands t.run t.meets t.of_kind noded (tt, tt) k)
      (received_so b start calls st c.done c.fx c.next (svc.takes 1 said) t.lone refl small c.goes c.walk)

module _ {S B C : Type 0} (svc : Service S B C) (known : B → List C → Type 0) (kind : ℕ) (law : IsKind svc known kind) (g h : Objects Obj) (m n : Heard) (now x : ℕ) where
  pub ticks_each : AreNoded rank_of_obj h → (k : WentOne ObjStands obj_nature now (Ticks x ∷ []) g h m n) → TicksEach svc kind g h x now (told_of (all_of k.deeds))
  ticks_each noded k = λ b start calls t.
      let asks : List (Stage Obj Load) = Ticks x ∷ [] in
      let v : AskerState B C = asking b start calls in
      let st = lone_started svc known kind law g h m n now x asks t.trace v t.lone t.stands t.run t.meets t.of_kind noded (tt, tt) k in
      let c = called svc now x (scene_of h.book) st.last st.deeds (scene_of g.book) asks v (λ done fx. time now done fx) silence 4 way.Time (λ done fx. None) st.walk
      (tick_live obj_nature now (scene_of g.book) (scene_of h.book) x [] st.walk.left t.lone.lives st.walk.uses) in
      subst (AsksMore svc kind h x b start calls (port_at x 4) way.Time 0 (svc.timed now)) (lone_told svc known kind law g h m n now x asks t.trace v t.lone t.stands t.run t.meets t.of_kind noded (tt, tt) k)
      (answers_so svc kind g h m n now x asks v st b start calls silence 4 way.Time (svc.timed now) (λ done fx. None) c.done c.fx c.next refl t.lone (hears_time svc b start calls now c.done c.fx c.next c.goes) c.walk)

-- the node begins, or runs out of memory
data Began {S B C : Type 0} (svc : Service S B C) (b : B) (m : Said) (now : ℕ) : Bool → Fx Obj Load → AskerState B C → Type 0 where
  broke_first : (fx : Fx Obj Load) (w : AskerState B C) → Began svc b m now false fx w
  asked_first : (fx : Fx Obj Load) → AsksAndGives m (svc.opening b) [] fx → Began svc b m now true fx (asking b now [])

does_begin : {S B C : Type 0} (svc : Service S B C) (b : B) (m : Said) → m.tag ≡ tag_number Begin → svc.asked m.bytes ≡ Some b → begins_service svc m ≡ true
does_begin {S} {B} svc b m tag ask = ap (λ z. z && is_some (svc.asked m.bytes)) (eq-eqb m.tag (tag_number Begin) tag) ∙ ap (λ (o : Option B). is_some o) ask

began : {S B C : Type 0} (svc : Service S B C) (b : B) (m : Said) (now : ℕ) (done : Bool) (fx : Fx Obj Load) (w : AskerState B C) → m.tag ≡ tag_number Begin → svc.asked m.bytes ≡ Some b → AskerTakes svc not_begun (down m now done fx) w → Began svc b m now done fx w
began svc b m now false fx w tag ask k = broke_first fx w
began {S} {B} {C} svc b m now true fx _ tag ask (is_begun c _ _ _ tag2 ask2 effects) =
    let z = sym ask ∙ ask2 in
    let same : c ≡ b = cc in
    subst (λ (a : B). Began svc b m now true fx (asking a now [])) (sym same) (asked_first fx (subst (λ (a : B). AsksAndGives m (svc.opening a) [] fx) same effects))
began svc b m now true fx _ tag ask (is_ended _ _ fatal passes) = absurd (let z = fatal in cc)
began svc b m now true fx _ tag ask (stays_idle _ _ idle nothing) = absurd (let z = sym (ap not (does_begin svc b m tag ask)) ∙ idle in cc)

module _ {S B C : Type 0} (svc : Service S B C) (known : B → List C → Type 0) (kind : ℕ) (law : IsKind svc known kind) (g h : Objects Obj) (m n : Heard) (now x : ℕ) (said : Said) (b : B) where
  begins_so : (st : LoneStarted svc kind g h m n now x (Offers (port_at x 0) said ∷ []) not_begun) (done : Bool) (fx : Fx Obj Load) (w : AskerState B C) → IsOpenLone g x → (svc.opening b).over ≡ None → Began svc b said now done fx w
      → Walk svc now x (scene_of h.book) st.last (scene_of g.book) (runs_of obj_nature x said done fx ++ Holds (port_at x 0) way.Down None ∷ []) w (tells (Entered (port_at x 0) way.Down) ∷ []) st.deeds
      → Begins svc kind h x b now said.rec (told_of st.deeds)
  begins_so st _ _ _ lone goes (broke_first fx w) k =
      fails_at_once (ap first_close k.told ∙ fails-told now (scene_of g.book) (scene_of h.book) x said fx (Holds (port_at x 0) way.Down None ∷ []) k.left (ap open_count (lone.ports 0)) k.uses)
  begins_so st _ _ _ lone goes (asked_first fx effects) k =
      let d = call_done svc now x (scene_of h.book) st.last st.deeds (scene_of g.book) (asking b now []) said (svc.opening b) [] fx 0 way.Down refl (seen_lone g x new_ports lone) effects k in
      starts d.told
      (still_talks svc kind g h m n now x (Offers (port_at x 0) said ∷ []) not_begun st b now [] (subst (λ (o : Option Cause). Seen (scene_of h.book) x (slots_at o)) goes d.seen) d.same)

  pub ask_does : IsUnasked g x kind → said.tag ≡ tag_number Begin → svc.asked said.bytes ≡ Some b → (svc.opening b).over ≡ None → AreNoded rank_of_obj h
      → WentOne ObjStands obj_nature now (Offers (port_at x 0) said ∷ []) g h m n → (ns : List Notice) × Given m n ns × Begins svc kind h x b now said.rec ns
  ask_does ready tag ask goes noded k =
      let asks : List (Stage Obj Load) = Offers (port_at x 0) said ∷ [] in
      let v : AskerState B C = not_begun in
      let st = lone_started svc known kind law g h m n now x asks [] v ready.lone ready.stands refl tt ready.of_kind noded (tt, tt) k in
      let c = called svc now x (scene_of h.book) st.last st.deeds (scene_of g.book) asks v (λ done fx. down said now done fx) said 0 way.Down (λ done fx. None) st.walk
      (offer_down obj_nature now (scene_of g.book) (scene_of h.book) (port_at x 0) said [] st.walk.left refl (ready.lone.ports 0) st.walk.uses) in
      (told_of st.deeds, st.told, begins_so st c.done c.fx c.next ready.lone goes (began svc b said now c.done c.fx c.next tag ask c.goes) c.walk)
