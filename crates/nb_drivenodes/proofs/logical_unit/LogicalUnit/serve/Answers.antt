use Rattle.std.proofs.Common.{ℕ, ◌&&◌, ◌||◌, true, length, drop, ap, not, sym, ◌∙◌, subst, arith, refl}
use Rattle.std.specs.Option.{is_some}
use Rattle.nb_iscsipdu.specs.PduTexts.{PduParts}
use Rattle.nb_disk.specs.Histories.{came}
use Rattle.nb_drivenodes.specs.UnitAnswers.{AnswersUnit}
use Rattle.nb_drivenodes.specs.UnitTalks.{UnitOn, tagged_below}
use Rattle.nb_drivenodes.specs.declared.unit_stage.UnitStage.{UnitStage}
use Rattle.nb_graph.specs.Trace.{NodeEntry, up}
use Rattle.nb_drivenodes.proofs.UnitLemmas.{unit-rests, unit-cuts, quiet-up-unit, and-off, off-tag, off-opened, tag-of, nothing-within}
use Rattle.nb_drivenodes.proofs.UnitTalkLemmas.{takes-on, pdu-is, pdu-is-none}
use Rattle.nb_drivenodes.proofs.logical_unit.LogicalUnit.serve.Goals as goal

pub returns-in_default : goal.returns-in_default
returns-in_default g c = record {
  leads = λ m slot now tag r bytes took. unit-rests g.L.CarriesText.texts _ _
      (λ d at. quiet-up-unit c.args.self.now.stage slot m now c.args.fx.now d (λ e. off-opened slot m (off-tag 11 slot m (λ t. absurd (let z = tag-of 12 slot m tag in omega (arith, t, z))))) (λ kk x e. absurd (c.in_default.not-Working kk x e)) at) (c.requires.blank.0, c.requires.blank.1, took);
  within = nothing-within _ c.args.fx.now c.requires.blank.0 c.requires.blank.1;
  took = refl;
}

pub returns-in_default-split_first_chunk-clause-leads : goal.returns-in_default-split_first_chunk-clause-leads
returns-in_default-split_first_chunk-clause-leads g c = λ m slot now tag r bytes took.
    let old = c.args.self.now.stage in
    let entry : NodeEntry g.row.N.Denot g.row.L.Denot = up slot m now true c.args.fx.now in
    subst (λ (z : UnitStage). UnitOn g.L.CarriesText.texts old z entry) c.in-Working.is
    (unit-rests g.L.CarriesText.texts old entry
    (λ d at. quiet-up-unit old slot m now c.args.fx.now d (λ e. absurd (let z = e in let y = c.in-Working.is in cc))
    (λ kk x e. ap (λ z. (tagged_below 12 slot m && is_some z) || tagged_below 8 slot m) (pdu-is-none m.bytes c.args.bytes.now bytes c.in_default-split_first_chunk.ensures.cases)
    ∙ ap (λ z. z || tagged_below 8 slot m) (and-off (tagged_below 12 slot m)) ∙ off-tag 8 slot m (λ t. absurd (let z = tag-of 12 slot m tag in omega (arith, t, z)))) at)
    (c.requires.blank.0, c.requires.blank.1, took))

pub returns-then-bytes-clause-leads : goal.returns-then-bytes-clause-leads
returns-then-bytes-clause-leads g c = λ m slot now tag r bytes took. unit-cuts _ _ _ _ c.give_up.ensures.ended (λ d at. ap not c.give_up.ensures.err) tt

pub returns-in-Ok-clause-leads : goal.returns-in-Ok-clause-leads
returns-in-Ok-clause-leads g c = λ m slot now tag r bytes took.
    let p : PduParts = record { head = c.in-Some.head.now; seg = c.in-Some.seg.now } in
    takes-on g.L.CarriesText.texts m slot now c.carry_out.new.fx c.args.self.now.stage c.carry_out.new.self.stage c.in-Working.disk c.serve_pdu.new.disk c.in-Working.chap _ p c.in-Ok.answer c.in-Working.is tag
    (pdu-is m.bytes c.args.bytes.now c.in-Some.head.now c.in-Some.seg.now bytes c.in-Some.ensures.cases.0 c.in-Some.ensures.cases.1 (let e = c.in-Some.ensures.cases.2 in omega (arith, e)))
    (ap (drop 48) bytes ∙ sym c.in-Some.ensures.cases.1) (ap length (sym bytes)) (c.carry_out.ensures.took ∙ took)
    (λ o calls st on. subst (λ (z : ℕ). AnswersUnit o calls (came z p) c.serve_pdu.new.disk c.in-Ok.answer) (sym r) (c.in-Ok.ensures o calls st on))
    c.carry_out.ensures.effects c.carry_out.ensures.stage

pub returns-in-Err-clause-leads : goal.returns-in-Err-clause-leads
returns-in-Err-clause-leads g c = λ m slot now tag r bytes took. unit-cuts _ _ _ _ c.give_up-in-Err.ensures.ended (λ d at. ap not c.give_up-in-Err.ensures.err) tt
