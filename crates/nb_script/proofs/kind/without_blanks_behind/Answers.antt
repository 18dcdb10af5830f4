use Rattle.std.proofs.Common.{◌≡◌, ◌∙◌, sym, take}
use Rattle.std.specs.List.{suffix_len}
use Rattle.std.proofs.lemmas.List.Sums.{suffix_len-take_no}
use Rattle.nb_defs.specs.ScriptText.{is_blank}
use Rattle.nb_script.proofs.KindLemmas.{behind_is, behind_none}
use Rattle.nb_script.proofs.kind.without_blanks_behind.Goals as goal
use Rattle.nb_script.proofs.kind.without_blanks_behind.Goals.{then-loop-len-test+else-is_blank, else-loop-len-test}

pub returns-clause-value : goal.returns-clause-value
returns-clause-value c =
    let line = c.args.line.now in
    let len = c.loop-len.len in
    let e : suffix_len is_blank (take len line) ≡ 0 =
    elim c.loop-len-test.branch [
      | then-loop-len-test+else-is_blank w ↦
          suffix_len-take_no is_blank line len 0 w.loop-len-test.true c.loop-len.invariant.0 (sym w.is_blank.ensures ∙ w.if-is_blank.false)
      | else-loop-len-test w ↦ behind_none line len w.loop-len-test.false
    ] in
    behind_is line len c.loop-len.invariant.0 c.loop-len.invariant.1 e
