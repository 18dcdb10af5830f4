use Rattle.std.proofs.Common.{◌≡◌, [], ◌∷◌, ◌++◌, false, refl, sym, ◌∙◌, ap, subst}
use Rattle.nb_defs.specs.Records.{out_texts, step}
use Rattle.nb_record.specs.Logged.{Logged, Puts}
use Rattle.nb_runner.proofs.Puts.{Puts-outs}
use Rattle.nb_network.proofs.Timing.{times_record}
use Rattle.nb_network.proofs.opens.Opens.pass_time.Goals as goal

pub returns-clause-takes : goal.returns-clause-takes
returns-clause-takes c = λ w opens before is sound s state.
    let t = c.in_ok-answer.ensures.times w opens sound [] c.args.self.now.list refl refl in
    let none = c.in_ok-gathered.gathered in
    let gathered = c.pass_from.new.gathered in
    times_record c.args.self.now c.args.net.now before w opens c.args.rec c.args.ms c.args.now c.args.awaited c.in_ok-answer.answer c.pass_from.new.self c.pass_from.new.net none gathered c.args.log.now c.append.new.self s is state t
    (λ records p. Puts-outs (step c.args.rec ∷ []) records c.put_step.ensures
    (subst (Puts c.put_step.new.log c.append.new.self) (let whole : gathered.is_short ≡ false = sym c.short.ensures ∙ c.if-short.false in (p.whole whole).1 ∙ ap (λ (z : Logged). z.bytes ++ out_texts records) c.in_ok-gathered.ensures) c.append.ensures))

pub returns-clause-sound : goal.returns-clause-sound
returns-clause-sound c = λ w opens sound. (c.in_ok-answer.ensures.times w opens sound [] c.args.self.now.list refl refl).sound w sound
