use Rattle.std.proofs.Common.{◌≡◌, ℕ, ◌==◌, ◌++◌, ◌∷◌, [], Some, Err, ap, not, sym, ◌∙◌, subst}
use Rattle.std.specs.Option.{option_map}
use Rattle.nb_effects.specs.declared.effects.Fx.{Fx}
use Rattle.nb_conns.proofs.DialogueLemmas.{nothing_said}
use Rattle.nb_iscsipdu.specs.PduTexts.{pdu_text}
use Rattle.nb_disk.specs.declared.blocks.ReadRefusal.{ReadRefusal}
use Rattle.nb_disk.specs.Histories.{asked, reading}
use Rattle.nb_disk.specs.DiskAnswers.{disk_answer}
use Rattle.nb_disk.specs.DiskStands.{DiskStands, RefusesRead}
use Rattle.nb_drivenodes.specs.UnitTalks.{takes_blocks}
use Rattle.nb_drivenodes.proofs.LoginAnswerLemmas.{nothing-emitted}
use Rattle.nb_drivenodes.proofs.UnitLemmas.{unit-rests, unit-cuts, quiet-down-unit, nothing-within}
use Rattle.nb_drivenodes.proofs.UnitTalkLemmas.{reads-on, quiet-read-on, takes-true, takes-out, takes-busy}
use Rattle.nb_drivenodes.proofs.logical_unit.LogicalUnit.read.Goals as goal

pub returns-in_default : goal.returns-in_default
returns-in_default g c =
    let idle = nothing_said c.args.fx.now c.requires.nothing in
    record {
      leads = λ m now tag a b. unit-rests g.L.CarriesText.texts _ _
          (λ d at. quiet-down-unit c.args.self.now.stage m now c.args.fx.now d (λ e. ap (λ z. z == 1) tag) (λ kk x o calls e st on. absurd (c.in_default.not-Working kk x e)) at) idle;
      within = λ len. nothing-within len c.args.fx.now idle.0 idle.1;
      ups = (nothing-emitted c.args.fx.now idle.0).1;
    }

pub returns-in-Ok-clause-leads : goal.returns-in-Ok-clause-leads
returns-in-Ok-clause-leads g c = λ m now tag a b.
    let idle = nothing_said c.args.fx.now c.requires.nothing in
    let fx : Fx g.row.N.Denot g.row.L.Denot = record c.args.fx.now { downs = c.send.new.downs } in
    reads-on g.L.CarriesText.texts m now fx c.args.self.now.stage c.in-Working.disk c.read.new.self c.in-Working.field-1 c.in-Ok.text c.in-Working.is tag
    (λ o calls st on. let r = c.in-Ok.ensures.refused o calls st in ap (λ z. takes_blocks o calls z m.b) a ∙ ap (λ z. takes_blocks o calls c.args.lba z) b ∙ takes-true o calls c.args.lba c.args.n c.requires.some c.requires.few r.0 r.1)
    (λ o calls st. subst (λ (z : ℕ). DiskStands o (calls ++ asked z m.b ∷ []) c.read.new.self × (Some c.in-Ok.text ≡ option_map pdu_text (disk_answer o (reading o calls) (asked z m.b)).put)) (sym a)
    (subst (λ (z : ℕ). DiskStands o (calls ++ asked c.args.lba z ∷ []) c.read.new.self × (Some c.in-Ok.text ≡ option_map pdu_text (disk_answer o (reading o calls) (asked c.args.lba z)).put)) (sym b) (c.in-Ok.ensures.stands o calls st)))
    idle.0.no_make c.send.ensures (nothing-emitted c.args.fx.now idle.0).1 idle.1

pub returns-in-Err-NoMemory-clause-leads : goal.returns-in-Err-NoMemory-clause-leads
returns-in-Err-NoMemory-clause-leads g c = λ m now tag a b. unit-cuts _ _ _ _ c.give_up.ensures.ended (λ d at. ap not c.give_up.ensures.err) tt

pub returns-in-Err-OutOfDisk-clause-leads : goal.returns-in-Err-OutOfDisk-clause-leads
returns-in-Err-OutOfDisk-clause-leads g c = λ m now tag a b.
    quiet-read-on g.L.CarriesText.texts m now c.args.fx.now c.args.self.now.stage c.in-Working.disk c.read.new.self c.in-Working.field-1 c.in-Working.is c.in-Err-OutOfDisk.ensures.err tag
    (λ o calls st on. ap (λ z. takes_blocks o calls z m.b) a ∙ ap (λ z. takes_blocks o calls c.args.lba z) b ∙ takes-out o calls c.args.lba c.args.n (subst (λ (z : ReadRefusal). RefusesRead (reading o calls) c.args.lba c.args.n (Err z)) c.in-Err-OutOfDisk.field-0-is (c.in-Err-OutOfDisk.ensures.refused o calls st)))
    (nothing_said c.args.fx.now c.requires.nothing)

pub returns-in-Err-Busy-clause-leads : goal.returns-in-Err-Busy-clause-leads
returns-in-Err-Busy-clause-leads g c = λ m now tag a b.
    quiet-read-on g.L.CarriesText.texts m now c.args.fx.now c.args.self.now.stage c.in-Working.disk c.read.new.self c.in-Working.field-1 c.in-Working.is c.in-Err-Busy.ensures.err tag
    (λ o calls st on. let r = subst (λ (z : ReadRefusal). RefusesRead (reading o calls) c.args.lba c.args.n (Err z)) c.in-Err-Busy.field-0-is (c.in-Err-Busy.ensures.refused o calls st) in ap (λ z. takes_blocks o calls z m.b) a ∙ ap (λ z. takes_blocks o calls c.args.lba z) b ∙ takes-busy o calls c.args.lba c.args.n r.1)
    (nothing_said c.args.fx.now c.requires.nothing)
