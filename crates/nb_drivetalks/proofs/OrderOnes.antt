-- Each entry of a unit, of a session and of a connection asks for downs by slot 1 and ups by slot 0.
use Rattle.std.proofs.Common.{◌≡◌, ◌<◌, ◌^◌, ℕ, Bool, true, false, not, List, [], ◌∷◌, length, Option, Some, None, refl, ap}
use Rattle.std.specs.List.{AllByRecursion}
use Rattle.nb_effects.specs.declared.effects.Emit.{Emit}
use Rattle.nb_effects.specs.declared.effects.Few.{Few}
use Rattle.nb_effects.specs.declared.effects.Fx.{Fx}
use Rattle.nb_graph.specs.Deeds.{rest}
use Rattle.nb_graph.specs.Trace.{NodeEntry, Said, up, down, closed, time, regain}
use Rattle.nb_conns.specs.ConnEffects.{GoesAbove, GoesBelow, SaysNothing, TookAll, emits_of}
use Rattle.nb_conns.specs.Dialogues.{Converses, ConversesTo, Dialogue, is_asked, takes_segment, hands_on, takes_none, takes_text, takes_tick, has_back, is_closed, ends_short, rests_still}
use Rattle.nb_drivenodes.specs.SessionTalks.{SessionTalk, SessionTalks, SessionTalksTo, login_answers, login_begins, login_breaks, login_lacks, login_refused, login_waits, session_breaks, session_ends, session_gives, session_lacks, session_rests, session_sends, session_waits}
use Rattle.nb_drivenodes.specs.UnitTalks.{UnitTalk, UnitTalks, UnitTalksTo, unit_begins, unit_ends, unit_lacks, unit_reads, unit_rests, unit_starts, unit_takes}
use Rattle.nb_nodes.specs.declared.load.Load.{Load}
use Rattle.nb_nodes.specs.declared.obj.Obj.{Obj}
use Rattle.nb_nodes.specs.Carriers.{conn_carrier, text_carrier}
use Rattle.nb_drivetalks.proofs.OrderEntries.{EntrySo, SaysSo, SlotIs}
use Rattle.nb_drivetalks.proofs.Units.{none_left}

-- what none asks for leaves by any slot
none_leaves : (k : ℕ) (e : Option (Emit Load)) → e ≡ None → SlotIs k e
none_leaves k None h = tt
none_leaves k (Some e) h = absurd (let z = h in cc)

nothing_so : (fx : Fx Obj Load) → SaysNothing fx → SaysSo fx
nothing_so fx h = record { none = h.no_make; down = none_leaves 1 fx.downs.first h.no_down; downs = none_leaves 1 fx.downs.second h.no_downs; up = none_leaves 0 fx.ups.first h.no_up; ups = none_leaves 0 fx.ups.second h.no_ups }

-- what leaves by the slots of all that are asked for
few_first : (k : ℕ) (f : Few (Emit Load)) → AllByRecursion (λ (e : Emit Load). e.slot ≡ k) (emits_of f) → SlotIs k f.first × SlotIs k f.second
few_first k f h = by f.first f.second h
  where
    by : (a b : Option (Emit Load)) → AllByRecursion (λ (e : Emit Load). e.slot ≡ k) (emits_of (record { first = a; second = b })) → SlotIs k a × SlotIs k b
    by None None h = (tt, tt)
    by (Some e) None h = (h.0, tt)
    by None (Some d) h = (tt, h.0)
    by (Some e) (Some d) h = (h.0, h.1.0)

says_so : (fx : Fx Obj Load) → fx.makes ≡ None → AllByRecursion GoesBelow (emits_of fx.downs) → AllByRecursion GoesAbove (emits_of fx.ups) → SaysSo fx
says_so fx none below above = let i = few_first 1 fx.downs below in let j = few_first 0 fx.ups above in record { none = none; down = i.0; downs = i.1; up = j.0; ups = j.1 }

false_not : (b : Bool) → not b ≡ true → b ≡ true → ⊥
false_not true h e = let z = h in cc
false_not false h e = let z = e in cc

not_done : (b : Bool) → not b ≡ true → b ≡ false
not_done true h = absurd (let z = h in cc)
not_done false h = refl

-- OF A UNIT AND A SESSION

module _ (x y : ℕ) (far : y ≡ x → ⊥) where
  unit_so : (u v : UnitTalk) (e : NodeEntry Obj Load) → UnitTalks text_carrier u e v → EntrySo x y e
  unit_so _ _ _ (unit_begins m now fx tag effects) = λ _. says_so fx effects.no_make effects.below effects.above
  unit_so _ _ _ (unit_starts n slot m now fx tagged is all effects) = ((λ _. says_so fx effects.no_make effects.below effects.above), λ same. absurd (far same))
  unit_so _ _ _ (unit_takes o chap calls p slot m now fx tagged is all effects) = ((λ _. says_so fx effects.no_make effects.below effects.above), λ same. absurd (far same))
  unit_so _ _ _ (unit_lacks o chap calls slot m now fx tagged all effects) = ((λ _. says_so fx effects.no_make effects.below effects.above), λ same. absurd (far same))
  unit_so _ _ _ (unit_reads o chap calls m now fx tag takes effects) = λ _. says_so fx effects.no_make effects.below effects.above
  unit_so _ _ _ (unit_ends u (up slot m now done fx) cut hands) = ((λ d. absurd (false_not done cut d)), λ same. absurd (far same))
  unit_so _ _ _ (unit_ends u (down m now done fx) cut hands) = λ d. absurd (false_not done cut d)
  unit_so _ _ _ (unit_ends u (closed slot c now fx) cut hands) = nothing_so fx hands.0
  unit_so _ _ _ (unit_ends u (time now done fx) cut hands) = absurd (let z = cut in cc)
  unit_so _ _ _ (unit_ends u (regain l) cut hands) = tt
  unit_so _ _ _ (unit_rests u (up slot m now done fx) quiet idle) = ((λ _. nothing_so fx idle.0), λ same. absurd (far same))
  unit_so _ _ _ (unit_rests u (down m now done fx) quiet idle) = λ _. nothing_so fx idle.0
  unit_so _ _ _ (unit_rests u (closed slot c now fx) quiet idle) = nothing_so fx idle.0
  unit_so _ _ _ (unit_rests u (time now done fx) quiet idle) = λ _. nothing_so fx idle.0
  unit_so _ _ _ (unit_rests u (regain l) quiet idle) = tt

  pub unit_all : (t : List (NodeEntry Obj Load)) (u v : UnitTalk) → UnitTalksTo text_carrier u t v → AllByRecursion (EntrySo x y) t
  unit_all [] u v h = tt
  unit_all (e ∷ t) u v (w, goes, run) = (unit_so u w e goes, unit_all t w v run)

  session_so : (r q : SessionTalk) (e : NodeEntry Obj Load) → SessionTalks text_carrier r e q → EntrySo x y e
  session_so _ _ _ (login_begins a m now fx tag found zero effects) = λ _. says_so fx effects.no_make effects.below effects.above
  session_so _ _ _ (login_refused a name m now fx tag found zero effects) = λ _. says_so fx effects.no_make effects.below effects.above
  session_so _ _ _ (login_waits a taken h slot m now fx comes cuts effects) = ((λ _. says_so fx effects.no_make effects.below effects.above), λ same. absurd (far same))
  session_so _ _ _ (login_answers a taken h p slot m now fx comes cuts effects) = ((λ _. says_so fx effects.no_make effects.below effects.above), λ same. absurd (far same))
  session_so _ _ _ (login_breaks a taken h slot m now fx comes cuts effects) = ((λ _. says_so fx effects.no_make effects.below effects.above), λ same. absurd (far same))
  session_so _ _ _ (login_lacks a taken h slot m now fx comes all effects) = ((λ _. says_so fx effects.no_make effects.below effects.above), λ same. absurd (far same))
  session_so _ _ _ (session_waits a taken h slot m now fx comes cuts effects) = ((λ _. says_so fx effects.no_make effects.below effects.above), λ same. absurd (far same))
  session_so _ _ _ (session_gives a taken h p slot m now fx comes cuts effects) = ((λ _. says_so fx effects.no_make effects.below effects.above), λ same. absurd (far same))
  session_so _ _ _ (session_breaks a taken h slot m now fx comes cuts effects) = ((λ _. says_so fx effects.no_make effects.below effects.above), λ same. absurd (far same))
  session_so _ _ _ (session_lacks a taken h slot m now fx comes all effects) = ((λ _. says_so fx effects.no_make effects.below effects.above), λ same. absurd (far same))
  session_so _ _ _ (session_sends a taken h m now fx tag effects) = λ _. says_so fx effects.no_make effects.below effects.above
  session_so _ _ _ (session_ends r (up slot m now done fx) cut hands) = ((λ d. absurd (false_not done cut d)), λ same. absurd (far same))
  session_so _ _ _ (session_ends r (down m now done fx) cut hands) = λ d. absurd (false_not done cut d)
  session_so _ _ _ (session_ends r (closed slot c now fx) cut hands) = nothing_so fx hands.0
  session_so _ _ _ (session_ends r (time now done fx) cut hands) = absurd (let z = cut in cc)
  session_so _ _ _ (session_ends r (regain l) cut hands) = tt
  session_so _ _ _ (session_rests r (up slot m now done fx) quiet idle) = ((λ _. nothing_so fx idle.0), λ same. absurd (far same))
  session_so _ _ _ (session_rests r (down m now done fx) quiet idle) = λ _. nothing_so fx idle.0
  session_so _ _ _ (session_rests r (closed slot c now fx) quiet idle) = nothing_so fx idle.0
  session_so _ _ _ (session_rests r (time now done fx) quiet idle) = λ _. nothing_so fx idle.0
  session_so _ _ _ (session_rests r (regain l) quiet idle) = tt

  pub session_all : (t : List (NodeEntry Obj Load)) (r q : SessionTalk) → SessionTalksTo text_carrier r t q → AllByRecursion (EntrySo x y) t
  session_all [] r q h = tt
  session_all (e ∷ t) r q (w, goes, run) = (session_so r w e goes, session_all t w q run)

-- OF A CONNECTION

-- where all of a short message is taken, nothing is left of it
rest_none : (m : Said) (done : Bool) (fx : Fx Obj Load) → TookAll m fx → length m.bytes < 2 ^ 32 → rest m done fx ≡ None
rest_none m false fx took short = refl
rest_none m true fx took short = none_left m fx.took short took

module _ (x y : ℕ) where
  conn_so : (v w : Dialogue) (e : NodeEntry Obj Load) → Converses conn_carrier v e w → EntrySo x y e
  conn_so _ _ _ (is_asked a m now fx tag asks effects) = λ _. says_so fx effects.no_make effects.below effects.above
  conn_so _ _ _ (takes_segment a start past slot m now fx s acts out from is lends effects took) = ((λ _. says_so fx effects.no_make effects.below effects.above), λ _ short. rest_none m true fx took short)
  conn_so _ _ _ (hands_on a start past slot m now fx s acts from is alive ready lasts effects took) = ((λ _. says_so fx effects.no_make effects.below effects.above), λ _ short. rest_none m true fx took short)
  conn_so _ _ _ (takes_none a start past out slot m now fx isnt says closes took) = ((λ _. nothing_so fx says), λ _ short. rest_none m true fx took short)
  conn_so _ _ _ (takes_text a start past out m now fx acts tag effects) = λ _. says_so fx effects.no_make effects.below effects.above
  conn_so _ _ _ (takes_tick a start past out now fx acts effects) = λ _. says_so fx effects.no_make effects.below effects.above
  conn_so _ _ _ (has_back a start past l load is) = tt
  conn_so _ _ _ (is_closed a start past out cause now fx acts effects) = says_so fx effects.no_make effects.below effects.above
  conn_so _ _ _ (ends_short v (up slot m now done fx) cut passes) = ((λ d. absurd (false_not done cut d)), λ _ short. ap (λ (b : Bool). rest m b fx) (not_done done cut))
  conn_so _ _ _ (ends_short v (down m now done fx) cut passes) = λ d. absurd (false_not done cut d)
  conn_so _ _ _ (ends_short v (closed slot c now fx) cut passes) = nothing_so fx passes.0
  conn_so _ _ _ (ends_short v (time now done fx) cut passes) = λ d. absurd (false_not done cut d)
  conn_so _ _ _ (ends_short v (regain l) cut passes) = tt
  conn_so _ _ _ (rests_still v (up slot m now done fx) quiet asks) = ((λ _. nothing_so fx asks.0), λ _ short. rest_none m done fx asks.2 short)
  conn_so _ _ _ (rests_still v (down m now done fx) quiet asks) = λ _. nothing_so fx asks.0
  conn_so _ _ _ (rests_still v (closed slot c now fx) quiet asks) = nothing_so fx asks.0
  conn_so _ _ _ (rests_still v (time now done fx) quiet asks) = λ _. nothing_so fx asks.0
  conn_so _ _ _ (rests_still v (regain l) quiet asks) = tt

  pub conn_all : (t : List (NodeEntry Obj Load)) (v w : Dialogue) → ConversesTo conn_carrier v t w → AllByRecursion (EntrySo x y) t
  conn_all [] v w h = tt
  conn_all (e ∷ t) v w (u, goes, run) = (conn_so v u e goes, conn_all t u w run)
