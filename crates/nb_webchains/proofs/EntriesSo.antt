-- Each entry of a Fetch, of a fetch by HTTP and of a connection asks for downs by slot 1 and ups by slot 0, and a Fetch for no ups.
use Rattle.std.proofs.Common.{◌≡◌, ◌<◌, ◌^◌, ℕ, ◌&&◌, Bool, true, false, not, List, [], ◌∷◌, ◌++◌, length, Option, Some, None, refl, sym, ap, subst, if◌then◌else◌}
use Rattle.std.specs.List.{AllByRecursion}
use Rattle.nb_terms.specs.declared.cause.Cause.{Cause}
use Rattle.nb_effects.specs.declared.effects.Emit.{Emit}
use Rattle.nb_effects.specs.declared.effects.Few.{Few}
use Rattle.nb_effects.specs.declared.effects.Fx.{Fx}
use Rattle.nb_graph.specs.Deeds.{rest}
use Rattle.nb_graph.specs.Trace.{NodeEntry, Said, up, down, closed, time, regain}
use Rattle.nb_conns.specs.ConnEffects.{ConnEffects, SaysNothing, TookAll, emits_of}
use Rattle.nb_conns.specs.ConnLoads.{Carrier}
use Rattle.nb_conns.specs.Dialogues.{Converses, ConversesTo, Dialogue, is_asked, takes_segment, hands_on, takes_none, takes_text, takes_tick, has_back, is_closed, ends_short, rests_still}
use Rattle.nb_nodes.specs.declared.load.Load.{Load}
use Rattle.nb_nodes.specs.declared.obj.Obj.{Obj}
use Rattle.nb_nodes.specs.Carried.{CarriesNothing}
use Rattle.nb_nodes.specs.Fetches.{AsksOfFetch, AsksOfUp, EachOf, brings_move, gathers, handed_down, is_handed_down, same_down}
use Rattle.nb_opens.proofs.LoneCalls.{whole_taken}
use Rattle.nb_webnodes.specs.WebEffects.{WebCarrier, WebEffects}
use Rattle.nb_webnodes.specs.WebTalks.{Fetched, FetchedTo, WebTalk, is_begun, takes_part, takes_end, ends_early, stays_idle}
use Rattle.nb_webchains.proofs.EntryDowns.{EntrySo, SaysSo, SlotIs}

-- what none asks for leaves by any slot
none_leaves : (k : ℕ) (e : Option (Emit Load)) → e ≡ None → SlotIs k e
none_leaves k None h = tt
none_leaves k (Some e) h = absurd (let z = h in cc)

nothing_so : (top y : ℕ) (fx : Fx Obj Load) → SaysNothing fx → SaysSo top y fx
nothing_so top y fx h = record {
  none = h.no_make;
  down = none_leaves 1 fx.downs.first h.no_down;
  downs = none_leaves 1 fx.downs.second h.no_downs;
  up = none_leaves 0 fx.ups.first h.no_up;
  ups = none_leaves 0 fx.ups.second h.no_ups;
  quiet = λ _. (h.no_up, h.no_ups);
}

carries_so : (top y : ℕ) (fx : Fx Obj Load) → CarriesNothing fx → SaysSo top y fx
carries_so top y fx h = record {
  none = h.no_make;
  down = none_leaves 1 fx.downs.first h.no_down;
  downs = none_leaves 1 fx.downs.second h.no_downs;
  up = none_leaves 0 fx.ups.first h.no_up;
  ups = none_leaves 0 fx.ups.second h.no_ups;
  quiet = λ _. (h.no_up, h.no_ups);
}

false_not : (b : Bool) → not b ≡ true → b ≡ true → ⊥
false_not true h e = let z = h in cc
false_not false h e = let z = e in cc

not_done : (b : Bool) → not b ≡ true → b ≡ false
not_done true h = absurd (let z = h in cc)
not_done false h = refl

-- OF A FETCH

module _ (top x y : ℕ) (far : y ≡ x → ⊥) where
  down_slot : (going : Bool) (m : Said) → SlotIs 1 (handed_down going m)
  down_slot going m = by (going && is_handed_down m)
    where
      by : (b : Bool) → SlotIs 1 (if b then Some (same_down m) else None)
      by true = refl
      by false = tt

  up_so : (move going : Bool) (before slot : ℕ) (m : Said) (fx : Fx Obj Load) → AsksOfUp move going before slot m fx → SaysSo top y fx
  up_so true going before slot m fx h = carries_so top y fx h.sends
  up_so false going before slot m fx h = carries_so top y fx h.sends

  fetch_so : (before : List (NodeEntry Obj Load)) (e : NodeEntry Obj Load) → AsksOfFetch before e → EntrySo top x y e
  fetch_so before (up slot m now done fx) h = ((λ d. up_so (brings_move slot m) (gathers before) _ slot m fx (h d)), λ same. absurd (far same))
  fetch_so before (down m now done fx) h = λ d.
      let i = h d in
      record {
        none = i.no_make;
        down = subst (SlotIs 1) (sym i.down) (down_slot (gathers before) m);
        downs = none_leaves 1 fx.downs.second i.one;
        up = none_leaves 0 fx.ups.first i.no_up;
        ups = none_leaves 0 fx.ups.second i.no_ups;
        quiet = λ _. (i.no_up, i.no_ups);
      }
  fetch_so before (closed slot c now fx) h = carries_so top y fx h.0
  fetch_so before (time now done fx) h = λ _. carries_so top y fx h.0
  fetch_so before (regain l) h = tt

  pub fetch_all : (t before : List (NodeEntry Obj Load)) → EachOf AsksOfFetch before t → AllByRecursion (EntrySo top x y) t
  fetch_all [] before h = tt
  fetch_all (e ∷ t) before h = (fetch_so before e h.0, fetch_all t (before ++ e ∷ []) h.1)

-- OF THE OTHER TWO

-- what leaves by the slots of all that are asked for
few_first : (k : ℕ) (f : Few (Emit Load)) → AllByRecursion (λ (e : Emit Load). e.slot ≡ k) (emits_of f) → SlotIs k f.first × SlotIs k f.second
few_first k f h = by f.first f.second h
  where
    by : (a b : Option (Emit Load)) → AllByRecursion (λ (e : Emit Load). e.slot ≡ k) (emits_of (record { first = a; second = b })) → SlotIs k a × SlotIs k b
    by None None h = (tt, tt)
    by (Some e) None h = (h.0, tt)
    by None (Some d) h = (tt, h.0)
    by (Some e) (Some d) h = (h.0, h.1.0)

module _ (top x y : ℕ) (low : y ≡ top → ⊥) where
  web_says : (k : WebCarrier Load) (m : Said) (asked given : List Said) (shut : List (ℕ × Cause)) (fx : Fx Obj Load) → WebEffects k m asked given shut fx → SaysSo top y fx
  web_says k m asked given shut fx h =
      let i = few_first 1 fx.downs h.below in
      let j = few_first 0 fx.ups h.above in
      record { none = h.no_make; down = i.0; downs = i.1; up = j.0; ups = j.1; quiet = λ same. absurd (low same) }

  web_so : (far : y ≡ x → ⊥) (k : WebCarrier Load) (v w : WebTalk) (e : NodeEntry Obj Load) → Fetched k v e w → EntrySo top x y e
  web_so far k _ _ _ (is_begun a c m now fx tag asks reads goes effects) = λ _. web_says k m _ _ _ fx effects
  web_so far k _ _ _ (takes_part a c new stream given gave slot m now fx over from took takes decides effects) = ((λ _. web_says k m _ _ _ fx effects), λ same. absurd (far same))
  web_so far k _ _ _ (takes_end a c new stream given slot m now fx over from ends took effects) = ((λ _. web_says k m _ _ _ fx effects), λ same. absurd (far same))
  web_so far k _ _ _ (ends_early v (up slot m now done fx) cut passes) = ((λ d. absurd (false_not done cut d)), λ same. absurd (far same))
  web_so far k _ _ _ (ends_early v (down m now done fx) cut passes) = λ d. absurd (false_not done cut d)
  web_so far k _ _ _ (ends_early v (closed slot c now fx) cut passes) = nothing_so top y fx passes.0
  web_so far k _ _ _ (ends_early v (time now done fx) cut passes) = absurd (let z = cut in cc)
  web_so far k _ _ _ (ends_early v (regain l) cut passes) = tt
  web_so far k _ _ _ (stays_idle v (up slot m now done fx) quiet asks) = ((λ _. nothing_so top y fx asks.0), λ same. absurd (far same))
  web_so far k _ _ _ (stays_idle v (down m now done fx) quiet asks) = λ _. nothing_so top y fx asks.0
  web_so far k _ _ _ (stays_idle v (closed slot c now fx) quiet asks) = nothing_so top y fx asks.0
  web_so far k _ _ _ (stays_idle v (time now done fx) quiet asks) = λ _. nothing_so top y fx asks.0
  web_so far k _ _ _ (stays_idle v (regain l) quiet asks) = tt

  pub web_all : (far : y ≡ x → ⊥) (k : WebCarrier Load) (t : List (NodeEntry Obj Load)) (v w : WebTalk) → FetchedTo k v t w → AllByRecursion (EntrySo top x y) t
  web_all far k [] v w h = tt
  web_all far k (e ∷ t) v w (u, goes, run) = (web_so far k v u e goes, web_all far k t u w run)

  conn_says : (k : Carrier Load) (m : Said) (acts : _) (given : List Said) (shut : List (ℕ × Cause)) (out : _) (fx : Fx Obj Load) → ConnEffects k m acts given shut out fx → SaysSo top y fx
  conn_says k m acts given shut out fx h =
      let i = few_first 1 fx.downs h.below in
      let j = few_first 0 fx.ups h.above in
      record { none = h.no_make; down = i.0; downs = i.1; up = j.0; ups = j.1; quiet = λ same. absurd (low same) }

  -- where all of a short message is taken, nothing is left of it
  none_left : (m : Said) (done : Bool) (fx : Fx Obj Load) → TookAll m fx → length m.bytes < 2 ^ 32 → rest m done fx ≡ None
  none_left m false fx took short = refl
  none_left m true fx took short = whole_taken m fx.took short took

  conn_so : (k : Carrier Load) (v w : Dialogue) (e : NodeEntry Obj Load) → Converses k v e w → EntrySo top x y e
  conn_so k _ _ _ (is_asked a m now fx tag asks effects) = λ _. conn_says k m _ _ _ _ fx effects
  conn_so k _ _ _ (takes_segment a start past slot m now fx s acts out from is lends effects took) = ((λ _. conn_says k m _ _ _ _ fx effects), λ _ short. none_left m true fx took short)
  conn_so k _ _ _ (hands_on a start past slot m now fx s acts from is goes waits unended effects took) = ((λ _. conn_says k m _ _ _ _ fx effects), λ _ short. none_left m true fx took short)
  conn_so k _ _ _ (takes_none a start past out slot m now fx isnt says closes took) = ((λ _. nothing_so top y fx says), λ _ short. none_left m true fx took short)
  conn_so k _ _ _ (takes_text a start past out m now fx acts tag effects) = λ _. conn_says k m _ _ _ _ fx effects
  conn_so k _ _ _ (takes_tick a start past out now fx acts effects) = λ _. conn_says k _ _ _ _ _ fx effects
  conn_so k _ _ _ (has_back a start past l load is) = tt
  conn_so k _ _ _ (is_closed a start past out cause now fx acts effects) = conn_says k _ _ _ _ _ fx effects
  conn_so k _ _ _ (ends_short v (up slot m now done fx) cut passes) = ((λ d. absurd (false_not done cut d)), λ _ short. ap (λ (b : Bool). rest m b fx) (not_done done cut))
  conn_so k _ _ _ (ends_short v (down m now done fx) cut passes) = λ d. absurd (false_not done cut d)
  conn_so k _ _ _ (ends_short v (closed slot c now fx) cut passes) = nothing_so top y fx passes.0
  conn_so k _ _ _ (ends_short v (time now done fx) cut passes) = λ d. absurd (false_not done cut d)
  conn_so k _ _ _ (ends_short v (regain l) cut passes) = tt
  conn_so k _ _ _ (rests_still v (up slot m now done fx) quiet asks) = ((λ _. nothing_so top y fx asks.0), λ _ short. none_left m done fx asks.2 short)
  conn_so k _ _ _ (rests_still v (down m now done fx) quiet asks) = λ _. nothing_so top y fx asks.0
  conn_so k _ _ _ (rests_still v (closed slot c now fx) quiet asks) = nothing_so top y fx asks.0
  conn_so k _ _ _ (rests_still v (time now done fx) quiet asks) = λ _. nothing_so top y fx asks.0
  conn_so k _ _ _ (rests_still v (regain l) quiet asks) = tt

  pub conn_all : (k : Carrier Load) (t : List (NodeEntry Obj Load)) (v w : Dialogue) → ConversesTo k v t w → AllByRecursion (EntrySo top x y) t
  conn_all k [] v w h = tt
  conn_all k (e ∷ t) v w (u, goes, run) = (conn_so k v u e goes, conn_all k t u w run)
