use Rattle.std.proofs.Common.{◌∙◌, ap}
use Rattle.nb_script.specs.Joined.{Joined}
use Rattle.nb_script.proofs.SpansLemmas.{spans-append}
use Rattle.nb_script.proofs.joined.JoinedLines.hold.Goals as goal

pub returns-clause-lines : goal.returns-clause-lines
returns-clause-lines c =
    let inside = c.self.inside in
    rw c.in_ok-extend_from_slice.ensures.items
    (spans-append inside.bytes.items c.args.front.now inside.spans.items c.self.invariant.0 ∙ ap (λ (j : Joined). j.lines) c.self.view_is)
