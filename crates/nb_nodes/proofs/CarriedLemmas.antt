-- What is asked for, as messages, and within what an entry may ask for.
use Rattle.std.proofs.Common.{◌≡◌, ℕ, zero, suc, ◌≤◌, map, List, [], ◌∷◌, ◌++◌, length, Option, Some, None, is_some, false, refl, ap, sym, ◌∙◌, subst, arith}
use Rattle.std.proofs.lemmas.List.{append-nil}
use Rattle.std.specs.Global.{Box}
use Rattle.nb_terms.specs.declared.acts.Acts.{Acts}
use Rattle.nb_terms.specs.declared.acts.SendTo.{SendTo}
use Rattle.nb_terms.specs.declared.cause.Cause.{Cause}
use Rattle.nb_effects.specs.declared.effects.Emit.{Emit}
use Rattle.nb_effects.specs.declared.effects.Few.{Few}
use Rattle.nb_effects.specs.declared.effects.Fx.{Fx}
use Rattle.nb_graph.specs.Trace.{Said, bytes_between}
use Rattle.nb_graph.specs.Deeds.{said_of}
use Rattle.nb_graph.specs.Effects.{AreUps, AreCloseSlots}
use Rattle.nb_tftp.specs.Sound.{IsRange}
use Rattle.nb_nodes.specs.declared.load.Load.{Load}
use Rattle.nb_nodes.specs.declared.obj.Obj.{Obj}
use Rattle.nb_nodes.specs.declared.tag.Tag.TheVariants.{Advance}
use Rattle.nb_nodes.specs.Tags.{tag_number}
use Rattle.nb_nodes.specs.Objects.{obj_nature, first_body}
use Rattle.nb_nodes.specs.Carried.{advance_emit, datagram_emit, advance_said, datagram_said, try_tag, try_number, downs_of, first_port, up_emit, both_closes, end_closes, AsksDown, AsksWithin, EffectsOf}

-- at most one message, to this port
one_send : (xs : List SendTo) (port : ℕ) → length xs ≤ 1 → first_port xs ≡ Some port → (s : SendTo) × (xs ≡ s ∷ []) × (s.to_port ≡ port)
one_send [] port l e = absurd (let z = e in cc)
one_send (s ∷ []) port l e = (s, refl, (let z = e in cc))
one_send (s ∷ (r ∷ xs)) port l e = absurd (let z = l in grind arith)

part_none : (bytes : List ℕ) → bytes_between bytes 0 0 ≡ []
part_none bytes = refl

advance_says : (m : Said) (place : ℕ) → said_of obj_nature m (advance_emit place) ≡ record { tag = tag_number Advance; rec = m.rec; a = place; b = 0; bytes = [] }
advance_says m place = ap (λ z. record { tag = tag_number Advance; rec = m.rec; a = place; b = 0; bytes = z }) (part_none m.bytes)

datagram_says : (m : Said) (acts : Box Acts) (s : SendTo) (port : ℕ) → acts.value.sends.items ≡ s ∷ [] → s.to_port ≡ port → said_of obj_nature m (datagram_emit port acts) ≡ datagram_said m.rec acts.value.tried s
datagram_says m acts s port e p =
    ap (λ z. record { tag = tag_number (try_tag acts.value.tried); rec = m.rec; a = try_number acts.value.tried; b = port; bytes = z }) (append-nil (first_body acts.value.sends.items) ∙ ap first_body e)
    ∙ ap (λ z. record { tag = tag_number (try_tag acts.value.tried); rec = m.rec; a = try_number acts.value.tried; b = z; bytes = s.body.items }) (sym p)

-- what goes down where one datagram is sent, by whether the place has grown
downs_with : (rec : ℕ) (acts : Acts) (s : SendTo) → acts.sends.items ≡ s ∷ [] → downs_of rec acts ≡ advance_said rec acts.advance ++ datagram_said rec acts.tried s ∷ []
downs_with rec acts s e = ap (λ (z : List SendTo). advance_said rec acts.advance ++ map (datagram_said rec acts.tried) z) e

pub sends_both : (acts : Box Acts) (place port : ℕ) → length acts.value.sends.items ≤ 1 → first_port acts.value.sends.items ≡ Some port → acts.value.advance ≡ Some place → AsksDown acts.value (record { first = Some (advance_emit place); second = Some (datagram_emit port acts) })
sends_both acts place port l f e =
    let o = one_send acts.value.sends.items port l f in
    record {
      said = λ m. ap (λ z. z ∷ said_of obj_nature m (datagram_emit port acts) ∷ []) (advance_says m place)
          ∙ ap (λ z. record { tag = tag_number Advance; rec = m.rec; a = place; b = 0; bytes = [] } ∷ z ∷ []) (datagram_says m acts o.0 port o.1 o.2)
          ∙ sym (downs_with m.rec acts.value o.0 o.1 ∙ ap (λ z. advance_said m.rec z ++ datagram_said m.rec acts.value.tried o.0 ∷ []) e);
      by_one = (refl, (refl, tt));
      within = λ len. ((λ h. absurd (let z = h in cc)), (omega arith, omega arith, (λ _. (omega arith, omega arith))), (omega arith, omega arith, (λ _. (omega arith, omega arith))), refl);
    }

pub sends_one : (acts : Box Acts) (port : ℕ) → length acts.value.sends.items ≤ 1 → first_port acts.value.sends.items ≡ Some port → acts.value.advance ≡ None → AsksDown acts.value (record { first = Some (datagram_emit port acts); second = None })
sends_one acts port l f e =
    let o = one_send acts.value.sends.items port l f in
    record {
      said = λ m. ap (λ z. z ∷ []) (datagram_says m acts o.0 port o.1 o.2)
          ∙ sym (downs_with m.rec acts.value o.0 o.1 ∙ ap (λ z. advance_said m.rec z ++ datagram_said m.rec acts.value.tried o.0 ∷ []) e);
      by_one = (refl, tt);
      within = λ len. ((λ h. refl), (omega arith, omega arith, (λ _. (omega arith, omega arith))), tt, tt);
    }

pub tells_one : (acts : Acts) (place : ℕ) → acts.sends.items ≡ [] → acts.advance ≡ Some place → AsksDown acts (record { first = Some (advance_emit place); second = None })
tells_one acts place s e =
    record {
      said = λ m. ap (λ z. z ∷ []) (advance_says m place)
          ∙ sym (ap (λ (z : List SendTo). advance_said m.rec acts.advance ++ map (datagram_said m.rec acts.tried) z) s ∙ ap (λ z. advance_said m.rec z ++ []) e);
      by_one = (refl, tt);
      within = λ len. ((λ h. refl), (omega arith, omega arith, (λ _. (omega arith, omega arith))), tt, tt);
    }

pub no_port : (xs : List SendTo) → first_port xs ≡ None → xs ≡ []
no_port [] e = refl
no_port (s ∷ xs) e = absurd (let z = e in cc)

ups_within : (give : Option (ℕ × ℕ)) (len : ℕ) → IsRange give len → AreUps len (record { first = up_emit give; second = None })
ups_within None len r = ((λ _. refl), tt, tt)
ups_within (Some range) len r = ((λ _. refl), (refl, (λ _. r)), tt)

both_within : (cause : Cause) → AreCloseSlots (both_closes cause)
both_within cause zero d h = omega arith
both_within cause (suc zero) d h = omega arith
both_within cause (suc (suc k)) d h = absurd (omega arith)

end_within : (over : Option Cause) → AreCloseSlots (end_closes over)
end_within None k d h = absurd (omega arith)
end_within (Some cause) k d h = both_within cause k d h

pub all_within : (acts : Acts) (fx : Fx Obj Load) (len : ℕ) → fx.makes ≡ None → AsksDown acts fx.downs → fx.ups ≡ record { first = up_emit acts.give; second = None } → fx.closes.items ≡ end_closes acts.over → IsRange acts.give len → AsksWithin len fx
all_within acts fx len no_make asks ups closes range =
    record {
      no_make = no_make;
      downs = asks.within len;
      ups = subst (λ (z : Few (Emit Load)). AreUps len z) (sym ups) (ups_within acts.give len range);
      closes = subst (λ (z : List (ℕ × Cause)). AreCloseSlots z) (sym closes) (end_within acts.over);
    }

-- nothing goes up
pub no_ups : (m : Said) (acts : Acts) (fx : Fx Obj Load) → EffectsOf m acts fx → acts.give ≡ None → (fx.ups.first ≡ None) × (fx.ups.second ≡ None)
no_ups m acts fx effects none = (ap (λ z. z.first) effects.ups ∙ ap up_emit none, ap (λ z. z.second) effects.ups)

-- where a call doesn't end the transfer it closes nothing
pub end_none : (over : Option Cause) → is_some over ≡ false → end_closes over ≡ []
end_none None h = refl
end_none (Some cause) h = absurd (cc)
