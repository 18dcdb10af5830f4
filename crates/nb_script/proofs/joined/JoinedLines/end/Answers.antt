use Rattle.std.proofs.Common.{◌∙◌, sym}
use Rattle.std.specs.Result.{OnOk}
use Rattle.std.proofs.lemmas.Result.{on_ok_weaker}
use Rattle.nb_script.proofs.JoinedLemmas.{HasEnded, end_with, end_without}
use Rattle.nb_script.proofs.joined.JoinedLines.end.Goals as goal
use Rattle.nb_script.proofs.joined.JoinedLines.end.Goals.{then-not-is_empty+in_ok-hold, else-not-is_empty}

ended : (c : goal.After-close) → OnOk c.close.result (HasEnded c.args.self.now c.close.new.self c.args.rest.now)
ended c = elim c.if-not-is_empty.branch [
  | then-not-is_empty+in_ok-hold w ↦
      let e = w.in_ok-hold.ensures in
      on_ok_weaker c.close.result
      (end_with c.args.self.now c.close.new.self c.args.rest.now (sym c.is_empty.ensures ∙ w.if-not-is_empty.true))
      (rw (e.lines, e.front, e.held) at (rw w.self-is at c.close.ensures.lines))
  | else-not-is_empty w ↦
      on_ok_weaker c.close.result
      (end_without c.args.self.now c.close.new.self c.args.rest.now (sym c.is_empty.ensures ∙ w.if-not-is_empty.false))
      (rw w.self-is at c.close.ensures.lines)
]

pub returns-clause-lines : goal.returns-clause-lines
returns-clause-lines c =
    on_ok_weaker c.close.result (λ (h : HasEnded c.args.self.now c.close.new.self c.args.rest.now). h.lines) (ended c)

pub returns-clause-size : goal.returns-clause-size
returns-clause-size c =
    on_ok_weaker c.close.result (λ (h : HasEnded c.args.self.now c.close.new.self c.args.rest.now). h.size) (ended c)
