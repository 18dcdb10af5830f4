use Rattle.std.proofs.Common.{◌∙◌, sym, arith}
use Rattle.nb_script.proofs.LinesLemmas.{begins_some, begins_none}
use Rattle.nb_script.proofs.FirstBytes.{other_text}
use Rattle.nb_script.proofs.line.begins_script.Goals as goal

pub returns-in-Some : goal.returns-in-Some
returns-in-Some c =
    let e = begins_some c.args.text.now c.in-Some.end (sym c.in-Some.ensures) in
    grind arith

pub returns-in-None : goal.returns-in-None
returns-in-None c =
    c.is_first_line-in-None.ensures ∙ sym (begins_none c.args.text.now (sym c.in-None.ensures))

pub returns-then-not-starts_with : goal.returns-then-not-starts_with
returns-then-not-starts_with c = sym (other_text c.args.text.now (sym c.starts_with.ensures.value ∙ c.if-not-starts_with.true))
