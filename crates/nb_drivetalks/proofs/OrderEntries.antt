-- What an entry of one of some objects asks for, of which messages leave by slot 1 of the lowest, x, and to the user by slot 0 of the top one, as what is
-- to be done.
use Rattle.std.proofs.Common.{inl, inr, ◌≡◌, ◌<◌, ◌^◌, ℕ, Bool, true, false, List, [], ◌∷◌, ◌++◌, length, Option, Some, None, refl, sym, ap, ◌∙◌, subst, append_assoc}
use Rattle.std.specs.List.{AllByRecursion}
use Rattle.std.proofs.lemmas.Bool.{cases_eq}
use Rattle.nb_terms.specs.declared.cause.Cause.{Cause}
use Rattle.nb_ledger.specs.declared.port.Port.{Port}
use Rattle.nb_ledger.specs.declared.port.PortState.TheVariants as port
use Rattle.nb_ledger.specs.declared.event.Way.{Way}
use Rattle.nb_effects.specs.declared.effects.Emit.{Emit}
use Rattle.nb_effects.specs.declared.effects.Fx.{Fx}
use Rattle.nb_effects.specs.declared.effects.Make.{Make}
use Rattle.nb_graph.specs.Deeds.{Stage, Holds, closes_of, all_closes, emit_of, few_of, makes_of, no_memory, rest, returns_of, runs_of}
use Rattle.nb_graph.specs.Scene.{Scene}
use Rattle.nb_graph.specs.Trace.{NodeEntry, Said, in_list, lent, up, down, closed, time, regain}
use Rattle.nb_graph.specs.Whole.{port_at}
use Rattle.nb_frames.specs.Frames.{is_one_of}
use Rattle.nb_frames.proofs.StageLemmas.{each-append}
use Rattle.nb_nodes.specs.declared.load.Load.{Load}
use Rattle.nb_nodes.specs.declared.obj.Obj.{Obj}
use Rattle.nb_nodes.specs.Objects.{obj_nature}
use Rattle.nb_webchains.proofs.Downward.{NoneOpens}
use Rattle.nb_drivetalks.proofs.OrderStages.{AllCalm, CalmStage, DownsFirst, Fits, OwnDown, calm_fits, downs_append}

-- a message that is asked for leaves by this slot
abbrev pub SlotIs : ℕ → Option (Emit Load) → Type 0
SlotIs k None = Unit {0}
SlotIs k (Some e) = e.slot ≡ k

-- Downs leave by slot 1 and ups by slot 0.
pub record SaysSo (fx : Fx Obj Load) : Type 0 where
  pub none : fx.makes ≡ None
  pub down : SlotIs 1 fx.downs.first
  pub downs : SlotIs 1 fx.downs.second
  pub up : SlotIs 0 fx.ups.first
  pub ups : SlotIs 0 fx.ups.second

-- so does an entry of y, and x takes all of a short message
abbrev pub EntrySo : ℕ → ℕ → NodeEntry Obj Load → Type 0
EntrySo x y (up slot m now done fx) = (done ≡ true → SaysSo fx) × (y ≡ x → length m.bytes < 2 ^ 32 → rest m done fx ≡ None)
EntrySo x y (down m now done fx) = done ≡ true → SaysSo fx
EntrySo x y (closed slot c now fx) = SaysSo fx
EntrySo x y (time now done fx) = done ≡ true → SaysSo fx
EntrySo x y (regain l) = Unit {0}

module _ (ids : List ℕ) (top x : ℕ) where
  -- No port of these that may be plugged is open, and no link leads to x from above but to its slot 0.
  pub record Hidden (s : Scene) : Type 0 where
    pub above : (y : ℕ) → is_one_of ids y ≡ true → (y ≡ top → ⊥) → s.port y 0 ≡ port.Open → ⊥
    pub below : (y : ℕ) → is_one_of ids y ≡ true → (y ≡ x → ⊥) → s.port y 1 ≡ port.Open → ⊥
    pub lowest : (k : ℕ) (q : Port) → s.port x k ≡ port.Linked q → k ≡ 0
    pub leads : (y k : ℕ) (q : Port) → is_one_of ids y ≡ true → s.port y k ≡ port.Linked q → q.obj.0 ≡ x → q.slot ≡ 0

  pub hidden_later : (s t : Scene) → NoneOpens s t → Hidden s → Hidden t
  hidden_later s t o h = record {
    above = λ y own far e. h.above y own far (o.opened y 0 e);
    below = λ y own far e. h.below y own far (o.opened y 1 e);
    lowest = λ k q e. h.lowest k q (o.linked x k q e);
    leads = λ y k q own e. h.leads y k q own (o.linked y k q e);
  }

  module _ (s : Scene) where
    returns_calm : (y : ℕ) (ls : List Load) → AllCalm top x s (returns_of y ls)
    returns_calm y [] = tt
    returns_calm y (l ∷ ls) = (tt, returns_calm y ls)

    closes_calm : (y : ℕ) (cs : List (ℕ × Cause)) → AllCalm top x s (closes_of y cs)
    closes_calm y [] = tt
    closes_calm y (c ∷ cs) = (tt, closes_calm y cs)

    returns_own : (y : ℕ) (ls : List Load) → AllByRecursion (OwnDown top x) (returns_of y ls)
    returns_own y [] = tt
    returns_own y (l ∷ ls) = (tt, returns_own y ls)

    -- a message that is asked for is none, or can't leave
    abbrev UpOrHidden : ℕ → ℕ → Type 0
    UpOrHidden y k = s.port y k ≡ port.Open → port_at y k ≡ port_at top 0

    emit_calm : (y k : ℕ) (m : Said) (e : Option (Emit Load)) → SlotIs k e → UpOrHidden y k → AllCalm top x s (emit_of obj_nature y m e)
    emit_calm y k m None i h = tt
    emit_calm y k m (Some e) i h = (subst (UpOrHidden y) (sym i) h, returns_calm y (in_list e.load))

    emit_own : (y : ℕ) (m : Said) (e : Option (Emit Load)) → y ≡ x → SlotIs 1 e → AllByRecursion (OwnDown top x) (emit_of obj_nature y m e)
    emit_own y m None same i = tt
    emit_own y m (Some e) same i = (ap (λ z. port_at z e.slot) same ∙ ap (port_at x) i, returns_own y (in_list e.load))

    no_makes : (y : ℕ) (mk : Option (Make Obj)) (gs : List (Stage Obj Load)) → mk ≡ None → makes_of y mk ++ gs ≡ gs
    no_makes y None gs e = refl
    no_makes y (Some mk) gs e = absurd (let z = e in cc)

    module _ (hidden : Hidden s) (y : ℕ) (own : is_one_of ids y ≡ true) (m : Said) (fx : Fx Obj Load) (so : SaysSo fx) where
      ups_hidden : UpOrHidden y 0
      ups_hidden = elim (cases_eq y top) [ inl i ↦ λ o. ap (λ z. port_at z 0) i | inr far ↦ λ o. absurd (hidden.above y own far o) ]

      ups_calm : AllCalm top x s (few_of obj_nature y m fx.ups)
      ups_calm = each-append obj_nature (CalmStage top x s) (emit_of obj_nature y m fx.ups.first) (emit_of obj_nature y m fx.ups.second)
          (emit_calm y 0 m fx.ups.first so.up ups_hidden) (emit_calm y 0 m fx.ups.second so.ups ups_hidden)

      rest_calm : AllCalm top x s (few_of obj_nature y m fx.ups ++ closes_of y fx.closes.items)
      rest_calm = each-append obj_nature (CalmStage top x s) (few_of obj_nature y m fx.ups) (closes_of y fx.closes.items) ups_calm (closes_calm y fx.closes.items)

      downs_calm : (y ≡ x → ⊥) → AllCalm top x s (few_of obj_nature y m fx.downs)
      downs_calm far = each-append obj_nature (CalmStage top x s) (emit_of obj_nature y m fx.downs.first) (emit_of obj_nature y m fx.downs.second)
          (emit_calm y 1 m fx.downs.first so.down (λ o. absurd (hidden.below y own far o))) (emit_calm y 1 m fx.downs.second so.downs (λ o. absurd (hidden.below y own far o)))

      downs_own : y ≡ x → AllByRecursion (OwnDown top x) (few_of obj_nature y m fx.downs)
      downs_own same = each-append obj_nature (OwnDown top x) (emit_of obj_nature y m fx.downs.first) (emit_of obj_nature y m fx.downs.second) (emit_own y m fx.downs.first same so.down) (emit_own y m fx.downs.second same so.downs)

      abbrev later : List (Stage Obj Load)
      later = few_of obj_nature y m fx.ups ++ closes_of y fx.closes.items

      runs_are : runs_of obj_nature y m true fx ≡ few_of obj_nature y m fx.downs ++ later
      runs_are = no_makes y fx.makes (few_of obj_nature y m fx.downs ++ later) so.none

      pub runs_calm : (y ≡ x → ⊥) → AllCalm top x s (runs_of obj_nature y m true fx)
      runs_calm far = subst (AllCalm top x s) (sym runs_are) (each-append obj_nature (CalmStage top x s) (few_of obj_nature y m fx.downs) later (downs_calm far) rest_calm)

      pub runs_own : y ≡ x → (hs : List (Stage Obj Load)) → AllCalm top x s hs → DownsFirst top x s (runs_of obj_nature y m true fx ++ hs)
      runs_own same hs calm =
          subst (DownsFirst top x s) (sym (ap (λ gs. gs ++ hs) runs_are ∙ append_assoc (few_of obj_nature y m fx.downs) later hs))
          (downs_append top x s (few_of obj_nature y m fx.downs) (later ++ hs) (downs_own same) (each-append obj_nature (CalmStage top x s) later hs rest_calm calm))

    -- one that ran out of memory
    pub failed_calm : (y : ℕ) (m : Said) (fx : Fx Obj Load) → AllCalm top x s (runs_of obj_nature y m false fx)
    failed_calm y m fx = each-append obj_nature (CalmStage top x s) (returns_of y (lent fx)) (all_closes y no_memory) (returns_calm y (lent fx)) (tt, (tt, (tt, (tt, tt))))

    -- After the call of y its entry is still to end; of x this stands directly after its entry.
    module _ (hidden : Hidden s) (y k : ℕ) (own : is_one_of ids y ≡ true) (by : Way) (m : Said) (o : Option Said) (gs : List (Stage Obj Load)) (calm : AllCalm top x s gs) where
      ends_calm : (w : Option Said) → (y ≡ x → w ≡ None) → CalmStage top x s (Holds (port_at y k) by w)
      ends_calm None h = tt
      ends_calm (Some w) h = λ e. let z = h e in cc

      pub called_fits : (flag done : Bool) (fx : Fx Obj Load) → (done ≡ true → SaysSo fx) → (y ≡ x → o ≡ None) → (y ≡ x → flag ≡ true) → Fits top x flag s ((runs_of obj_nature y m done fx ++ Holds (port_at y k) by o ∷ []) ++ gs)
      called_fits flag false fx so none at =
          calm_fits top x flag s ((runs_of obj_nature y m false fx ++ Holds (port_at y k) by o ∷ []) ++ gs)
          (each-append obj_nature (CalmStage top x s) (runs_of obj_nature y m false fx ++ Holds (port_at y k) by o ∷ []) gs (each-append obj_nature (CalmStage top x s) (runs_of obj_nature y m false fx) (Holds (port_at y k) by o ∷ []) (failed_calm y m fx) (ends_calm o none, tt)) calm)
      called_fits flag true fx so none at = elim (cases_eq y x) [
        | inl same ↦ subst (λ b. Fits top x b s ((runs_of obj_nature y m true fx ++ Holds (port_at y k) by o ∷ []) ++ gs)) (sym (at same))
            (inl (subst (DownsFirst top x s) (sym (append_assoc (runs_of obj_nature y m true fx) (Holds (port_at y k) by o ∷ []) gs)) (runs_own hidden y own m fx (so refl) same (Holds (port_at y k) by o ∷ gs) (ends_calm o none, calm))))
        | inr far ↦ calm_fits top x flag s ((runs_of obj_nature y m true fx ++ Holds (port_at y k) by o ∷ []) ++ gs)
            (each-append obj_nature (CalmStage top x s) (runs_of obj_nature y m true fx ++ Holds (port_at y k) by o ∷ []) gs (each-append obj_nature (CalmStage top x s) (runs_of obj_nature y m true fx) (Holds (port_at y k) by o ∷ []) (runs_calm hidden y own m fx (so refl) far) (ends_calm o none, tt)) calm)
      ]
