use Rattle.std.proofs.Common.{[], ◌∷◌, ◌++◌, sym, ◌∙◌, ap, subst}
use Rattle.nb_defs.specs.Records.{out_texts, ended}
use Rattle.nb_machine.specs.Lives.{open_record}
use Rattle.nb_record.specs.Logged.{Puts}
use Rattle.nb_runner.proofs.Puts.{Puts-nothing, Puts-outs}
use Rattle.nb_teller.specs.Spelling.{Spelling}
use Rattle.nb_traced.specs.Pieces.{event_records}
use Rattle.nb_open.specs.Opening.{live_by}
use Rattle.nb_network.specs.Openings.{begun_records}
use Rattle.nb_network.proofs.begin.put_begun.Goals as goal

pub returns-in-Some : goal.returns-in-Some
returns-in-Some c = λ made told since a b.
    let l = live_by c.args.opening.now c.args.number since in
    let end = ended c.args.number c.in-Some.cause ∷ [] in
    subst (λ e. Puts c.args.log.now c.put_over.new.log (out_texts (begun_records made l told e))) (sym c.in-Some.is)
    (Puts-outs (event_records made) (open_record l ∷ (told ++ end))
    (subst (Puts c.args.log.now c.append.new.self) (c.text.ensures ∙ ap (λ (s : Spelling). s.text) c.deref.ensures ∙ a) c.append.ensures)
    (Puts-outs (open_record l ∷ []) (told ++ end) (c.put_opened.ensures since)
    (Puts-outs told end (subst (Puts c.put_opened.new.log c.append-2.new.self) (c.text-2.ensures ∙ ap (λ (s : Spelling). s.text) c.deref-2.ensures ∙ b) c.append-2.ensures) c.put_over.ensures)))

pub returns-in_default : goal.returns-in_default
returns-in_default c = λ made told since a b.
    let l = live_by c.args.opening.now c.args.number since in
    subst (λ e. Puts c.args.log.now c.append-2.new.self (out_texts (begun_records made l told e))) (sym c.in_default.is)
    (Puts-outs (event_records made) (open_record l ∷ (told ++ []))
    (subst (Puts c.args.log.now c.append.new.self) (c.text.ensures ∙ ap (λ (s : Spelling). s.text) c.deref.ensures ∙ a) c.append.ensures)
    (Puts-outs (open_record l ∷ []) (told ++ []) (c.put_opened.ensures since)
    (Puts-outs told [] (subst (Puts c.put_opened.new.log c.append-2.new.self) (c.text-2.ensures ∙ ap (λ (s : Spelling). s.text) c.deref-2.ensures ∙ b) c.append-2.ensures) Puts-nothing)))
