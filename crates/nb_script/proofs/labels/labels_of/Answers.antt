use Rattle.std.proofs.Common.{◌≡◌, ◌∙◌, sym, ap, refl, arith, map, length, [], Some, None}
use Rattle.std.specs.List.{slice_get}
use Rattle.std.specs.Option.{option_map}
use Rattle.std.proofs.lemmas.Option.{slice_get-map, slice_get-get_or}
use Rattle.std.proofs.lemmas.List.{length-map}
use Rattle.nb_defs.specs.ScriptLines.{script_line}
use Rattle.nb_script.specs.ShownLine.{shown_line}
use Rattle.nb_script.proofs.LabelLemmas.{first_after_line, first_is_place}
use Rattle.nb_script.proofs.labels.labels_of.Goals.{in-Some+in_ok-add_line, in_default}
use Rattle.nb_script.proofs.labels.labels_of.Goals as goal

pub loop-place-preserved : goal.loop-place-preserved
loop-place-preserved c = λ name.
    let ls = c.args.lines.now.lines in
    let n = c.loop-place.place in
    elim c.match-get.branch [
      | in-Some+in_ok-add_line w ↦
          let here : slice_get ls n ≡ Some w.in-Some.line.now = rw (← c.get.ensures, w.in-Some.is) refl in
          let at : slice_get (map script_line ls) n ≡ Some (shown_line w.line_of.result) = slice_get-map script_line ls n ∙ ap (option_map script_line) here ∙ ap Some (sym w.line_of.ensures.value) in
          let added = rw (← w.labels-is) at (w.in_ok-add_line.ensures name) in
          first_after_line name (map script_line ls) n (shown_line w.line_of.result) _ _ at added (c.loop-place.invariant name)
      | in_default w ↦
          let none : slice_get ls n ≡ None = rw (← c.get.ensures, w.in_default.is) refl in
          let some = slice_get-get_or ls n [] (omega (arith, c.loop-place-test.true, c.len-place-end.ensures)) in
          absurd cc
    ]

pub returns : goal.returns
returns c = λ name.
    let ls = c.args.lines.now.lines in
    let all : c.loop-place.place ≡ length (map script_line ls) = omega (arith, c.loop-place-test.false, c.loop-place.auto.place-end, c.len-place-end.ensures, length-map ls script_line) in
    first_is_place name (map script_line ls) _ (rw all at (c.loop-place.invariant name))
