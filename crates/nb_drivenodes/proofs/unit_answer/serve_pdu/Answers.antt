use Rattle.std.proofs.Common.{ap, ◌∙◌}
use Rattle.std.specs.Option.{is_some}
use Rattle.nb_disk.specs.Histories.{came}
use Rattle.nb_iscsipdu.specs.PduTexts.{pdu_parts}
use Rattle.nb_terms.specs.declared.acts.Acts.{Acts}
use Rattle.nb_drivenodes.proofs.UnitAnswerLemmas.{answered-same}
use Rattle.nb_drivenodes.proofs.unit_answer.serve_pdu.Goals as goal

pub returns : goal.returns
returns c = λ o calls stands on.
    let s = c.in_ok-text.ensures.stands o calls stands on in
    let call = came c.args.rec (pdu_parts c.args.pdu.now) in
    record {
      stands = s.0;
      text = s.1.puts;
      gives = c.is_some.ensures ∙ ap (λ (a : Acts). is_some a.give) s.1.asks;
      answered = c.answered.ensures ∙ answered-same o calls call c.pdu.new.self c.is_busy-was_busy.result c.is_some-2.result s.0 on (c.is_busy-was_busy.ensures.at_work o calls stands on) (c.is_some-2.ensures ∙ ap (λ (a : Acts). is_some a.over) s.1.asks);
      over = ap (λ (a : Acts). a.over) s.1.asks;
    }
