use Rattle.std.proofs.Common.{◌≡◌, ◌∷◌, [], ◌++◌, get_or, ◌∙◌, subst, ap}
use Rattle.std.specs.List.{remove}
use Rattle.nb_terms.specs.declared.cause.Cause.{Cause}
use Rattle.nb_defs.specs.Records.{ended, out_texts}
use Rattle.nb_record.specs.Logged.{Puts}
use Rattle.nb_runner.proofs.Puts.{Puts-append}
use Rattle.nb_stack.specs.Bound.{without}
use Rattle.nb_teller.specs.Spelling.{Spelling}
use Rattle.nb_network.specs.declared.living.Living.{Living}
use Rattle.nb_open.specs.declared.open.Open.{Open}
use Rattle.nb_teller.specs.Speakers.{carrier_number}
use Rattle.nb_network.specs.Many.{Many, bare_open}
use Rattle.nb_network.specs.Steps.{answer_for, step_records}
use Rattle.nb_network.proofs.Places.{open_at, removed_at}
use Rattle.nb_network.proofs.opens.Opens.end.Goals as goal

pub returns-clause-settles : goal.returns-clause-settles
returns-clause-settles c = λ o at.
    let list = c.args.self.now.list in
    let x = c.index.result.now in
    let y = c.index-2.result.now in
    let told : Spelling = c.args.desk.now.told.value in
    let begun = out_texts (step_records c.args.begun) in
    let end = out_texts (ended o.speaker.number c.args.ended.cause ∷ []) in
    let v : c.self.inside.list.items ≡ list = ap (λ (m : Many). m.list) c.self.view_is in
    let same : c.bare-open.result ≡ bare_open o = c.bare-open.ensures ∙ ap bare_open (c.index.ensures ∙ ap (λ os. get_or os c.args.place x) v ∙ open_at list c.args.place x o at) in
    let again : y ≡ o = c.index-2.ensures ∙ ap (λ os. get_or os c.args.place y) v ∙ open_at list c.args.place y o at in (
      c.remove.ensures.items ∙ ap (λ os. remove os c.args.place) v ∙ removed_at list c.args.place o at,
      c.unbind.ensures ∙ ap (λ p. record c.args.net.now { ports = without p c.bare-open.result.speaker.own_port c.args.net.now.ports }) c.number.ensures
          ∙ ap (λ (z : Open). record c.args.net.now { ports = without (carrier_number z.speaker.carrier) z.speaker.own_port c.args.net.now.ports }) same,
      c.in_ok-answer.ensures ∙ ap (λ (s : Spelling). answer_for c.args.awaited y c.args.ended s) c.deref.ensures ∙ ap (λ (z : Living). answer_for c.args.awaited z c.args.ended told) again,
      Puts-append begun (told.text ++ end) c.put_begin.ensures
          (Puts-append told.text end (subst (λ (s : Spelling). Puts c.put_begin.new.log c.put_told.new.log s.text) c.deref-2.ensures c.put_told.ensures.text)
          (subst (λ (z : Open). Puts c.put_told.new.log c.put_over.new.log (out_texts (ended z.speaker.number c.args.ended.cause ∷ []))) same
          (subst (λ (why : Cause). Puts c.put_told.new.log c.put_over.new.log (out_texts (ended c.bare-open.result.speaker.number why ∷ []))) c.cause-why.ensures c.put_over.ensures))),
    )
