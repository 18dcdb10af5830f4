use Rattle.std.proofs.Common.{◌∙◌, sym, ap, List}
use Rattle.std.specs.List.{slice_get}
use Rattle.std.specs.Option.{option_map}
use Rattle.std.proofs.lemmas.Option.{slice_get-map}
use Rattle.nb_defs.specs.ScriptLines.{Line, script_line}
use Rattle.nb_script.proofs.ScriptLemmas.{short_at, at_most}
use Rattle.nb_script.proofs.script.Script.line.Goals as goal

pub returns-in-Some-clause-fits : goal.returns-in-Some-clause-fits
returns-in-Some-clause-fits c =
    at_most _ c.line_of.result (short_at c.self.inside.lines.lines c.args.i c.in-Some.line.now c.self.invariant.0 c.in-Some.ensures) c.line_of.ensures.fits

pub returns-in-None-clause-value : goal.returns-in-None-clause-value
returns-in-None-clause-value c =
    let lines = c.self.inside.lines.lines in
    ap (option_map script_line) c.in-None.ensures ∙ sym (slice_get-map script_line lines c.args.i) ∙ ap (λ (code : List Line). slice_get code c.args.i) c.self.view_is
