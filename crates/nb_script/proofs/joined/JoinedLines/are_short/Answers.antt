use Rattle.std.proofs.Common.{◌∙◌, ap}
use Rattle.std.specs.List.{list_all}
use Rattle.nb_defs.specs.ScriptText.{is_short_line}
use Rattle.nb_script.specs.Joined.{Joined}
use Rattle.nb_script.proofs.SpansLemmas.{shorts}
use Rattle.nb_script.proofs.joined.JoinedLines.are_short.Goals as goal

pub returns : goal.returns
returns c =
    let inside = c.self.inside in
    let short = rw c.as_slice.ensures.value at c.are_short.ensures in
    short ∙ shorts inside.bytes.items inside.spans.items c.self.invariant.0 ∙ ap (λ (j : Joined). list_all is_short_line j.lines) c.self.view_is
