use Rattle.std.proofs.Common.{ℕ, ◌∷◌, List, Option, subst, sym, ap, ◌∙◌, arith}
use Rattle.std.specs.Option.{option_or}
use Rattle.std.proofs.lemmas.List.{nil_from_length}
use Rattle.nb_tcpseg.specs.Options.{OptionsSay, by_none, by_end, by_no_operation, by_option, mss_value}
use Rattle.nb_tcpseg.proofs.OptionLemmas.{option_says, some_more}
use Rattle.nb_tcpseg.proofs.options.+mss_in.Goals as goal

pub returns-in_default-clause-sound : goal.returns-in_default-clause-sound
returns-in_default-clause-sound t c = by_none c.args.options.now (nil_from_length c.args.options.now (omega (arith, c.in_default.ensures.cases)))

pub returns-in-0-clause-sound : goal.returns-in-0-clause-sound
returns-in-0-clause-sound t c = by_end c.args.options.now c.in-Some.rest.now (c.in-Some.ensures.cases.0 ∙ ap (λ (k : ℕ). k ∷ c.in-Some.rest.now) c.in-0.is)

pub returns-in-1-clause-sound : goal.returns-in-1-clause-sound
returns-in-1-clause-sound t c = some_more c.mss_in.result c.in-Some.rest.now c.args.options.now (λ m says. by_no_operation c.args.options.now c.in-Some.rest.now m (c.in-Some.ensures.cases.0 ∙ ap (λ (k : ℕ). k ∷ c.in-Some.rest.now) c.in-1.is) says) c.mss_in.ensures.sound

pub returns-in_ok-later-in_default-kind-clause-sound : goal.returns-in_ok-later-in_default-kind-clause-sound
returns-in_ok-later-in_default-kind-clause-sound t c =
    by_option c.args.options.now c.in-Some.kind.now c.in_ok-value-in_default-kind.value.now c.in_ok-value-in_default-kind.after.now c.in_ok-later-in_default-kind.later c.or.result
    (c.in-Some.ensures.cases.0 ∙ ap (λ (x : List ℕ). c.in-Some.kind.now ∷ x) c.in_ok-value-in_default-kind.ensures.sound)
    (omega arith) c.in_ok-later-in_default-kind.ensures.sound
    (c.or.ensures ∙ ap (λ (m : Option ℕ). option_or m c.in_ok-later-in_default-kind.later) c.mss_value.ensures)

pub returns-in_ok-later-in_default-kind-clause-complete : goal.returns-in_ok-later-in_default-kind-clause-complete
returns-in_ok-later-in_default-kind-clause-complete t c = λ mss is. option_says c.args.options.now mss c.in-Some.kind.now c.in-Some.rest.now c.or.result is c.in-Some.ensures.cases.0 (λ e. omega (arith, e)) (λ e. omega (arith, e))
    (λ value rest later tail says.
    let found = c.in_ok-value-in_default-kind.ensures.complete value rest tail in
    let after : OptionsSay c.in_ok-value-in_default-kind.after.now later = subst (λ (x : List ℕ). OptionsSay x later) (sym found.1) says in
    c.or.ensures ∙ ap (λ (m : Option ℕ). option_or m c.in_ok-later-in_default-kind.later) (c.mss_value.ensures ∙ ap (λ (v : List ℕ). mss_value c.in-Some.kind.now v) found.0) ∙ ap (λ (m : Option ℕ). option_or (mss_value c.in-Some.kind.now value) m) (c.in_ok-later-in_default-kind.ensures.complete later after))
