-- What is asked for and given up, as the effects of an entry.
use Rattle.std.proofs.Common.{◌≡◌, ℕ, ◌≤◌, Option, Some, None, refl, ap, sym, ◌∙◌, subst, arith}
use Rattle.std.specs.Prelude.{IfSome}
use Rattle.nb_terms.specs.declared.acts.Acts.{Acts}
use Rattle.nb_effects.specs.declared.effects.Emit.{Emit}
use Rattle.nb_effects.specs.declared.effects.Few.{Few}
use Rattle.nb_effects.specs.declared.effects.Fx.{Fx}
use Rattle.nb_graph.specs.Trace.{Said}
use Rattle.nb_graph.specs.Effects.{AreUps, IsUp}
use Rattle.nb_nodes.specs.declared.load.Load.{Load}
use Rattle.nb_nodes.specs.declared.obj.Obj.{Obj}
use Rattle.nb_nodes.specs.Carried.{said_all, emits, up_emit, EffectsOf, AsksWithin}
use Rattle.std.specs.List.{AllByRecursion}
use Rattle.nb_tftp.specs.Sound.{IsRange}
use Rattle.nb_nodes.specs.Exchanges.{AsksAndGives, GivesOnly, LeavesByZero, said_up}

abbrev pub alone : Option (Emit Load) → Few (Emit Load)
alone given = record { first = given; second = None }

alone_said : (m : Said) (given : Option (Emit Load)) → said_all m (alone given) ≡ said_up m given
alone_said m None = refl
alone_said m (Some e) = refl

alone_zero : (given : Option (Emit Load)) → IfSome given LeavesByZero → AllByRecursion LeavesByZero (emits (alone given))
alone_zero None h = tt
alone_zero (Some e) h = (h, tt)

alone_up : (len : ℕ) (given : Option (Emit Load)) → IfSome given (IsUp len) → AreUps len (alone given)
alone_up len None h = ((λ _. refl), tt, tt)
alone_up len (Some e) h = ((λ _. refl), h, tt)

-- this is given beside what a call asks for, which gives nothing
pub gives_beside : (m : Said) (acts : Acts) (given : Option (Emit Load)) (fx : Fx Obj Load) → EffectsOf m acts fx → acts.give ≡ None → IfSome given LeavesByZero → AsksAndGives m acts (said_up m given) (record fx { ups = record fx.ups { first = given } })
gives_beside m acts given fx effects none above =
    let ups : record fx.ups { first = given } ≡ alone given = ap (λ (z : Few (Emit Load)). record z { first = given }) effects.ups in
    record {
      no_make = effects.no_make;
      downs = effects.downs;
      by_one = effects.by_one;
      ups = ap (said_all m) ups ∙ alone_said m given;
      by_zero = subst (λ (z : Few (Emit Load)). AllByRecursion LeavesByZero (emits z)) (sym ups) (alone_zero given above);
      closes = effects.closes;
    }

pub within_beside : (len : ℕ) (m : Said) (acts : Acts) (given : Option (Emit Load)) (fx : Fx Obj Load) → EffectsOf m acts fx → AsksWithin len fx → IfSome given (IsUp len) → AsksWithin len (record fx { ups = record fx.ups { first = given } })
within_beside len m acts given fx effects within above =
    let ups : record fx.ups { first = given } ≡ alone given = ap (λ (z : Few (Emit Load)). record z { first = given }) effects.ups in
    record {
      no_make = within.no_make;
      downs = within.downs;
      ups = subst (λ (z : Few (Emit Load)). AreUps len z) (sym ups) (alone_up len given above);
      closes = within.closes;
    }

-- after a call that gives nothing there is room to give this
pub gives_room : (m : Said) (acts : Acts) (fx : Fx Obj Load) → EffectsOf m acts fx → acts.give ≡ None → fx.ups.first ≡ None
gives_room m acts fx effects none = ap (λ (z : Few (Emit Load)). z.first) effects.ups ∙ ap up_emit none

pub ups_beside : (m : Said) (acts : Acts) (given : Option (Emit Load)) (fx : Fx Obj Load) → EffectsOf m acts fx → record fx.ups { first = given } ≡ alone given
ups_beside m acts given fx effects = ap (λ (z : Few (Emit Load)). record z { first = given }) effects.ups

pub no_range : (give : Option (ℕ × ℕ)) (len : ℕ) → give ≡ None → IsRange give len
no_range None len h = tt
no_range (Some r) len h = absurd (let z = h in cc)

-- what is within so many bytes is within more
up_more : (n len : ℕ) (given : Option (Emit Load)) → n ≤ len → IfSome given (IsUp n) → IfSome given (IsUp len)
up_more n len None few h = tt
up_more n len (Some e) few h = (h.0, (λ none. ((h.1 none).0, omega (arith, few, (h.1 none).1))))

pub gives_within_more : (n len : ℕ) (acts : Acts) (given : Option (Emit Load)) → n ≤ len → GivesOnly n acts given → GivesOnly len acts given
gives_within_more n len acts given few h = record { few = h.few; no_range = h.no_range; above = h.above; within = up_more n len given few h.within }
