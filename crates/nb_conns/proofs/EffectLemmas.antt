-- What a call of a connection asks for lies within what an entry may ask for.
use Rattle.std.proofs.Common.{◌≡◌, ℕ, ◌≤◌, zero, suc, ◌++◌, List, [], ◌∷◌, Option, Some, None, Bool, false, map, refl, ap, sym, ◌∙◌, subst, arith}
use Rattle.std.proofs.lemmas.Option.{none-some}
use Rattle.std.proofs.lemmas.List.Concat.{flat_map-append}
use Rattle.std.specs.Prelude.{IfSome}
use Rattle.std.specs.List.{AllByRecursion}
use Rattle.nb_terms.specs.declared.acts.Acts.{Acts}
use Rattle.nb_terms.specs.declared.cause.Cause.{Cause}
use Rattle.nb_effects.specs.declared.effects.Emit.{Emit}
use Rattle.nb_effects.specs.declared.effects.Few.{Few}
use Rattle.nb_effects.specs.declared.effects.Fx.{Fx}
use Rattle.nb_graph.specs.Trace.{Said, silence, loads, in_list, carried, bytes_between}
use Rattle.nb_graph.specs.Effects.{AreUps, AreCloseSlots, IsUp}
use Rattle.nb_conns.specs.declared.conn_load.Lent.{Lent}
use Rattle.nb_conns.specs.ConnLoads.{Carrier, window_of_conn, windows_in}
use Rattle.nb_conns.specs.ConnEffects.{SendsDown, GivesBack, ConnEffects, ConnWithin, few_say, emit_says, emits_of, received_says, range_emit, ups_for, closes_for, GoesAbove}

both_within : (cause : Cause) → AreCloseSlots ((0, cause) ∷ (1, cause) ∷ [])
both_within cause zero d h = omega arith
both_within cause (suc zero) d h = omega arith
both_within cause (suc (suc k)) d h = absurd (omega arith)

end_within : (over : Option Cause) → AreCloseSlots (closes_for over)
end_within None k d h = absurd (omega arith)
end_within (Some cause) k d h = both_within cause k d h

below_within : (cause : Cause) → AreCloseSlots ((1, cause) ∷ [])
below_within cause zero d h = omega arith
below_within cause (suc k) d h = absurd (omega arith)

pub effects_within : {N L : Type 0} (k : Carrier L) (acts : Acts) (window : Option Lent) (ends : Bool) (over : Option Cause) (fx : Fx N L) (len : ℕ) → fx.makes ≡ None → SendsDown k acts fx.downs → GivesBack k window ends fx.ups → fx.closes.items ≡ closes_for over → ConnWithin len fx
effects_within k acts window ends over fx len no_make downs ups closes =
    record { no_make = no_make; downs = downs.within len; ups = ups.within len; closes = subst (λ (z : List (ℕ × Cause)). AreCloseSlots z) (sym closes) (end_within over) }

no_ups_within : {L : Type 0} (len : ℕ) (f : Few (Emit L)) → f.first ≡ None → f.second ≡ None → AreUps len f
no_ups_within {L} len f one two = ((λ _. two), none f.first one, none f.second two)
  where
    none : (o : Option (Emit L)) → o ≡ None → IfSome o (IsUp len)
    none None e = tt
    none (Some x) e = absurd (none-some x (sym e))

-- a close from above
pub downs_within : {N L : Type 0} (k : Carrier L) (acts : Acts) (cause : Cause) (fx : Fx N L) (len : ℕ) → fx.makes ≡ None → SendsDown k acts fx.downs → fx.ups.first ≡ None → fx.ups.second ≡ None → fx.closes.items ≡ (1, cause) ∷ [] → ConnWithin len fx
downs_within k acts cause fx len no_make downs one two closes =
    record { no_make = no_make; downs = downs.within len; ups = no_ups_within len fx.ups one two; closes = subst (λ (z : List (ℕ × Cause)). AreCloseSlots z) (sym closes) (below_within cause) }

no_emits : {L : Type 0} (f : Few (Emit L)) → f.first ≡ None → f.second ≡ None → emits_of f ≡ []
no_emits {L} f one two = ap (λ (z : Option (Emit L)). in_list z ++ in_list f.second) one ∙ ap (λ (z : Option (Emit L)). in_list z) two

no_loads : {L : Type 0} (f : Few (Emit L)) → f.first ≡ None → f.second ≡ None → loads f ≡ []
no_loads {L} f one two = ap (λ (z : Option (Emit L)). carried z ++ carried f.second) one ∙ ap (λ (z : Option (Emit L)). carried z) two

pub shut_effects : {N L : Type 0} (k : Carrier L) (m : Said) (acts : Acts) (cause : Cause) (fx : Fx N L) → fx.makes ≡ None → SendsDown k acts fx.downs → fx.ups.first ≡ None → fx.ups.second ≡ None → fx.closes.items ≡ (1, cause) ∷ [] → ConnEffects k m acts [] ((1, cause) ∷ []) [] fx
shut_effects k m acts cause fx no_make downs one two closes =
    record {
      no_make = no_make;
      downs = downs.says m;
      below = downs.below;
      ups = ap (λ z. map (emit_says k m) z) (no_emits fx.ups one two);
      above = subst (λ z. AllByRecursion GoesAbove z) (sym (no_emits fx.ups one two)) tt;
      closes = closes;
      windows = flat_map-append (λ load. window_of_conn (k.as_conn load)) (loads fx.downs) (loads fx.ups) ∙ ap (λ z. z ++ windows_in k (loads fx.ups)) downs.windows ∙ ap (λ z. windows_in k z) (no_loads fx.ups one two);
    }

-- nothing goes up
pub no_ups_for : {L : Type 0} (k : Carrier L) (window : Option Lent) (ends : Bool) (f : Few (Emit L)) → GivesBack k window ends f → window ≡ None → ends ≡ false → (f.first ≡ None) × (f.second ≡ None)
no_ups_for {L} k window ends f gives w e = none f (gives.says silence ∙ ap (λ z. ups_for 0 z ends) w ∙ ap (λ z. ups_for 0 None z) e)
  where
    empty : (o p : Option (Emit L)) → map (emit_says k silence) (in_list o ++ in_list p) ≡ [] → (o ≡ None) × (p ≡ None)
    empty None None h = (refl, refl)
    empty None (Some x) h = absurd (let z = h in cc)
    empty (Some x) p h = absurd (let z = h in cc)

    none : (f : Few (Emit L)) → few_say k silence f ≡ [] → (f.first ≡ None) × (f.second ≡ None)
    none f h = empty f.first f.second h

-- bytes of the message go up
range_emits : {L : Type 0} (from to : ℕ) (f : Few (Emit L)) → f.first ≡ Some (range_emit from to) → f.second ≡ None → emits_of f ≡ range_emit from to ∷ []
range_emits {L} from to f one two = ap (λ (z : Option (Emit L)). in_list z ++ in_list f.second) one ∙ ap (λ (z : Option (Emit L)). range_emit from to ∷ in_list z) two

range_loads : {L : Type 0} (from to : ℕ) (f : Few (Emit L)) → f.first ≡ Some (range_emit from to) → f.second ≡ None → loads f ≡ []
range_loads {L} from to f one two = ap (λ (z : Option (Emit L)). carried z ++ carried f.second) one ∙ ap (λ (z : Option (Emit L)). carried z) two

pub range_effects : {N L : Type 0} (k : Carrier L) (m : Said) (acts : Acts) (from to : ℕ) (fx : Fx N L) → fx.makes ≡ None → SendsDown k acts fx.downs → fx.ups.first ≡ Some (range_emit from to) → fx.ups.second ≡ None → fx.closes.items ≡ []
    → ConnEffects k m acts (received_says m.rec (bytes_between m.bytes from to) ∷ []) [] [] fx
range_effects k m acts from to fx no_make downs one two closes =
    record {
      no_make = no_make;
      downs = downs.says m;
      below = downs.below;
      ups = ap (λ z. map (emit_says k m) z) (range_emits from to fx.ups one two);
      above = subst (λ z. AllByRecursion GoesAbove z) (sym (range_emits from to fx.ups one two)) (refl, tt);
      closes = closes;
      windows = flat_map-append (λ load. window_of_conn (k.as_conn load)) (loads fx.downs) (loads fx.ups) ∙ ap (λ z. z ++ windows_in k (loads fx.ups)) downs.windows ∙ ap (λ z. windows_in k z) (range_loads from to fx.ups one two);
    }

pub range_within : {N L : Type 0} (k : Carrier L) (acts : Acts) (from to len : ℕ) (fx : Fx N L) → fx.makes ≡ None → SendsDown k acts fx.downs → fx.ups.first ≡ Some (range_emit from to) → fx.ups.second ≡ None → fx.closes.items ≡ [] → from ≤ to → to ≤ len → ConnWithin len fx
range_within {N} {L} k acts from to len fx no_make downs one two closes order most =
    record {
      no_make = no_make;
      downs = downs.within len;
      ups = (
        (λ _. two),
        subst (λ (z : Option (Emit L)). IfSome z (IsUp len)) (sym one) (refl, λ _. (order, most)),
        subst (λ (z : Option (Emit L)). IfSome z (IsUp len)) (sym two) tt,
      );
      closes = subst (λ (z : List (ℕ × Cause)). AreCloseSlots z) (sym closes) (end_within None);
    }
