use Rattle.std.proofs.Common.{◌≡◌, ◌==◌, ◌&&◌, true, false, List, ◌∙◌, ap, sym}
use Rattle.std.proofs.lemmas.Bool.{ne_eqb, false≢true}
use Rattle.nb_disk.specs.Histories.{SessionNumbers, DiskCall}
use Rattle.nb_graph.specs.Trace.{said, down}
use Rattle.nb_conns.proofs.DialogueLemmas.{nothing_said}
use Rattle.nb_drivenodes.specs.UnitTalks.{UnitTalk, IsUnitAt, is_quiet_unit, takes_blocks, stage_is_working}
use Rattle.nb_drivenodes.proofs.UnitLemmas.{unit-rests, quiet-down-unit, and-off}
use Rattle.nb_drivenodes.proofs.UnitTalkLemmas.{takes-none, takes-many}
use Rattle.nb_drivenodes.proofs.logical_unit.LogicalUnit.ask.Goals.{then-msg-from-via-then-msg-from, then-msg-from-via-else-msg-from+then-msg-eq0, then-msg-from-via-else-msg-from+else-msg-eq0+then-msg-gt-MOST_BLOCKS}
use Rattle.nb_drivenodes.proofs.logical_unit.LogicalUnit.ask.Goals as goal

pub returns-then-msg-from-clause-leads : goal.returns-then-msg-from-clause-leads
returns-then-msg-from-clause-leads g c = λ now.
    let m = said c.args.msg.now in
    let none : (d : UnitTalk) → IsUnitAt c.args.self.now.stage d → ((o : SessionNumbers) (calls : List DiskCall) → ((m.tag == 13) && takes_blocks o calls m.a m.b) ≡ false) → is_quiet_unit d (down m now true c.args.fx.now) ≡ true =
    λ d at off. quiet-down-unit c.args.self.now.stage m now c.args.fx.now d (λ e. absurd (false≢true (sym (ap stage_is_working e) ∙ c.requires.works))) (λ kk x o calls e st on. off o calls) at in
    let idle = nothing_said c.args.fx.now c.requires.nothing in
    elim c.then-msg-from.branch [
      | then-msg-from-via-then-msg-from w ↦ unit-rests g.L.CarriesText.texts _ _ (λ d at. none d at (λ o calls. ap (λ z. z && takes_blocks o calls m.a m.b) (ne_eqb c.args.msg.now.tag 13 (λ t. w.if-msg-from.true (t ∙ sym c.from.ensures))))) idle
      | then-msg-from-via-else-msg-from+then-msg-eq0 w ↦ unit-rests g.L.CarriesText.texts _ _ (λ d at. none d at (λ o calls. ap (λ z. (m.tag == 13) && z) (takes-none o calls m.a m.b w.if-msg-eq0.true) ∙ and-off (m.tag == 13))) idle
      | then-msg-from-via-else-msg-from+else-msg-eq0+then-msg-gt-MOST_BLOCKS w ↦ unit-rests g.L.CarriesText.texts _ _ (λ d at. none d at (λ o calls. ap (λ z. (m.tag == 13) && z) (takes-many o calls m.a m.b w.if-msg-gt-MOST_BLOCKS.true) ∙ and-off (m.tag == 13))) idle
    ]
