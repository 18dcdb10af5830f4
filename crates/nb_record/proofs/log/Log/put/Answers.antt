use Rattle.std.proofs.Common.{ap, sym, ◌∙◌, List, ℕ}
use Rattle.nb_defs.specs.Records.{out_text, record_text}
use Rattle.nb_record.specs.View.{out_of}
use Rattle.nb_record.specs.declared.output.OutRec.{OutRec}
use Rattle.nb_record.proofs.LogLemmas.{Puts-same}
use Rattle.nb_record.proofs.log.Log.put.Goals as goal

pub returns-in-Step : goal.returns-in-Step
returns-in-Step c = Puts-same _ _ _ _ (sym (ap (λ (o : OutRec). out_text (out_of o)) c.in-Step.is)) c.put_step.ensures

pub returns-in-Frame : goal.returns-in-Frame
unfolding out_text
returns-in-Frame c = Puts-same _ _ _ _ (sym (ap (λ (o : OutRec). out_text (out_of o)) c.in-Frame.is)) c.put_record.ensures

pub returns-in-Text : goal.returns-in-Text
unfolding out_text
returns-in-Text c = Puts-same _ _ _ _ (sym (ap (λ (o : OutRec). out_text (out_of o)) c.in-Text.is)) c.put_record-in-Text.ensures

pub returns-in-Result : goal.returns-in-Result
unfolding out_text
returns-in-Result c =
    Puts-same _ _ _ _ (ap (λ (x : List ℕ). record_text 0x85 x) c.cause_bytes.ensures ∙ sym (ap (λ (o : OutRec). out_text (out_of o)) c.in-Result.is)) c.put_record-in-Result.ensures

pub returns-in-Done : goal.returns-in-Done
unfolding out_text
returns-in-Done c = Puts-same _ _ _ _ (sym (ap (λ (o : OutRec). out_text (out_of o)) c.in-Done.is)) c.put_record-in-Done.ensures
