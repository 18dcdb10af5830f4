use Rattle.std.proofs.Common.{◌∙◌, sym, refl, rules}
use Rattle.std.proofs.lemmas.Result.{err_from_is_err_and}
use Rattle.nb_defs.specs.ScriptLines.{script_reading}
use Rattle.nb_script.proofs.ScriptLemmas.{IsCut, reads_none, reads_too_long, reads_lines, reads_line_too_long, reads_script, keeps_numbers}
use Rattle.nb_script.proofs.ReadLemmas.{refused_none, refused_long, refused_line, refused_memory, refused_not}
use Rattle.nb_script.proofs.script.Script.read.Goals as goal

pub returns-then-not-begins_script : goal.returns-then-not-begins_script
returns-then-not-begins_script c =
    let none = reads_none c.args.text (rw c.as_slice.ensures at (sym c.begins_script.ensures ∙ c.if-not-begins_script.true)) in
    let r = refused_none _ (script_reading c.args.text) refl none in
    record {
      reads = search rules;
      numbered = search rules;
      not_script = r.not_script;
      script_too_long = r.script_too_long;
      line_too_long = r.line_too_long;
      kind = search rules;
    }

pub returns-then-len-gt-MAX_SCRIPT : goal.returns-then-len-gt-MAX_SCRIPT
returns-then-len-gt-MAX_SCRIPT c =
    let begun = rw c.as_slice.ensures at (sym c.begins_script.ensures ∙ c.if-not-begins_script.false) in
    let long = reads_too_long c.args.text begun (rw c.len.ensures at c.if-len-gt-MAX_SCRIPT.true) in
    let r = refused_long _ (script_reading c.args.text) refl long in
    record {
      reads = search rules;
      numbered = search rules;
      not_script = r.not_script;
      script_too_long = r.script_too_long;
      line_too_long = r.line_too_long;
      kind = search rules;
    }

pub returns-in_err-lines : goal.returns-in_err-lines
returns-in_err-lines c =
    let p = err_from_is_err_and c.from_residual.result c.from_residual.ensures.1 in
    let begun = rw c.as_slice.ensures at (sym c.begins_script.ensures ∙ c.if-not-begins_script.false) in
    let lines = reads_lines c.args.text begun (rw c.len.ensures at c.if-len-gt-MAX_SCRIPT.false) in
    let r = refused_memory c.from_residual.result (script_reading c.args.text) (rw p.2 at p.1) lines in
    record {
      reads = search rules;
      numbered = search rules;
      not_script = r.not_script;
      script_too_long = r.script_too_long;
      line_too_long = r.line_too_long;
      kind = search rules;
    }

pub returns-then-not-are_short : goal.returns-then-not-are_short
returns-then-not-are_short c =
    let cut : IsCut c.args.text c.in_ok-lines.lines.lines =
    record {
      begun = rw c.as_slice.ensures at (sym c.begins_script.ensures ∙ c.if-not-begins_script.false);
      fits = rw c.len.ensures at c.if-len-gt-MAX_SCRIPT.false;
      lines_are = rw c.as_slice-2.ensures at c.in_ok-lines.ensures.lines;
    } in
    let long = reads_line_too_long c.args.text c.in_ok-lines.lines.lines cut (sym c.are_short.ensures ∙ c.if-not-are_short.true) in
    let r = refused_line _ (script_reading c.args.text) refl long in
    record {
      reads = search rules;
      numbered = search rules;
      not_script = r.not_script;
      script_too_long = r.script_too_long;
      line_too_long = r.line_too_long;
      kind = search rules;
    }

pub returns-in_err-labels : goal.returns-in_err-labels
returns-in_err-labels c =
    let p = err_from_is_err_and c.from_residual-in_err-labels.result c.from_residual-in_err-labels.ensures.1 in
    let begun = rw c.as_slice.ensures at (sym c.begins_script.ensures ∙ c.if-not-begins_script.false) in
    let lines = reads_lines c.args.text begun (rw c.len.ensures at c.if-len-gt-MAX_SCRIPT.false) in
    let r = refused_memory c.from_residual-in_err-labels.result (script_reading c.args.text) (rw p.2 at p.1) lines in
    record {
      reads = search rules;
      numbered = search rules;
      not_script = r.not_script;
      script_too_long = r.script_too_long;
      line_too_long = r.line_too_long;
      kind = search rules;
    }

pub returns-in_err-busy : goal.returns-in_err-busy
returns-in_err-busy c =
    let p = err_from_is_err_and c.from_residual-in_err-busy.result c.from_residual-in_err-busy.ensures.1 in
    let begun = rw c.as_slice.ensures at (sym c.begins_script.ensures ∙ c.if-not-begins_script.false) in
    let lines = reads_lines c.args.text begun (rw c.len.ensures at c.if-len-gt-MAX_SCRIPT.false) in
    let r = refused_memory c.from_residual-in_err-busy.result (script_reading c.args.text) (rw p.2 at p.1) lines in
    record {
      reads = search rules;
      numbered = search rules;
      not_script = r.not_script;
      script_too_long = r.script_too_long;
      line_too_long = r.line_too_long;
      kind = search rules;
    }

pub returns : goal.returns
returns c =
    let cut : IsCut c.args.text c.in_ok-lines.lines.lines =
    record {
      begun = rw c.as_slice.ensures at (sym c.begins_script.ensures ∙ c.if-not-begins_script.false);
      fits = rw c.len.ensures at c.if-len-gt-MAX_SCRIPT.false;
      lines_are = rw c.as_slice-2.ensures at c.in_ok-lines.ensures.lines;
    } in
    let found = reads_script c.args.text c.in_ok-lines.lines.lines cut (sym c.are_short.ensures ∙ c.if-not-are_short.false) in
    let r = refused_not _ (script_reading c.args.text) _ _ refl found in
    record {
      reads = found;
      numbered = keeps_numbers c.args.text c.in_ok-lines.lines.lines cut;
      not_script = r.not_script;
      script_too_long = r.script_too_long;
      line_too_long = r.line_too_long;
      kind = search rules;
    }
