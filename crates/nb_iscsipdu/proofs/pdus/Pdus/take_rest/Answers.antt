use Rattle.std.proofs.Common.{◌∙◌, ◌++◌, List, ℕ, ap, sym, subst, arith}
use Rattle.nb_iscsipdu.specs.declared.pdus.Known.TheVariants.{Len}
use Rattle.nb_iscsipdu.specs.Streams.{IsKnown, pdu_state_of}
use Rattle.nb_iscsipdu.proofs.StreamLemmas.{RestStep, rest-step, open-none}
use Rattle.nb_iscsipdu.proofs.pdus.Pdus.take_rest.Goals as goal

pub fill-requires-clause-len : goal.fill-requires-clause-len
fill-requires-clause-len c =
    let old = c.self.inside.block.items in
    let known = subst (λ (x : List ℕ). IsKnown (Len c.in-Len.len) x) (sym c.self.view_is) c.in-Len.ensures in
    omega (arith, c.self.invariant.1.short known.0 known.1, known.2)

step : (c : goal.After-fill) → RestStep c.self.inside.block.items c.fill.new.buffer.items c.args.bytes.now c.fill.result
step c =
    let known = subst (λ (x : List ℕ). IsKnown (Len c.in-Len.len) x) (sym c.self.view_is) c.in-Len.ensures in
    rest-step c.self.inside.block.items c.fill.new.buffer.items c.args.bytes.now c.fill.result c.in-Len.len c.self.invariant.1 known c.fill.ensures.items c.fill.ensures.count

pub invariant_of-self : goal.invariant_of-self
invariant_of-self c =
    let room = c.self.invariant.0 in
    (omega (arith, room, c.fill.ensures.capacity), (step c).gathered)

pub returns-in-Len-clause-all : goal.returns-in-Len-clause-all
returns-in-Len-clause-all c = λ long. (step c).all

pub returns-in-Len-clause-least : goal.returns-in-Len-clause-least
returns-in-Len-clause-least c = λ part later parts some.
    ap (λ (x : List ℕ). pdu_state_of (x ++ part)) (sym c.self.view_is) ∙ (step c).least part later parts some

pub returns-in-No-clause-least : goal.returns-in-No-clause-least
returns-in-No-clause-least c = open-none c.args.self.now

pub returns-in-Refused-clause-least : goal.returns-in-Refused-clause-least
returns-in-Refused-clause-least c = open-none c.args.self.now
