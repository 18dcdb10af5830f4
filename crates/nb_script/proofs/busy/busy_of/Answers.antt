use Rattle.std.proofs.Common.{◌≡◌, ◌∙◌, sym, ap, refl, arith, map, [], Some, None}
use Rattle.std.specs.List.{slice_get}
use Rattle.std.specs.Option.{option_map}
use Rattle.std.proofs.lemmas.Option.{slice_get-map, slice_get-get_or}
use Rattle.nb_defs.specs.ScriptLines.{script_line}
use Rattle.nb_script.specs.ShownLine.{shown_line}
use Rattle.nb_script.proofs.BusyLemmas.{has_more}
use Rattle.nb_script.proofs.busy.busy_of.Goals.{in-Some+in_ok-add_line, in_default}
use Rattle.nb_script.proofs.busy.busy_of.Goals as goal

pub loop-place-preserved : goal.loop-place-preserved
loop-place-preserved c =
    let ls = c.args.lines.now.lines in
    let n = c.loop-place.place in
    elim c.match-get.branch [
      | in-Some+in_ok-add_line w ↦
          let here : slice_get ls n ≡ Some w.in-Some.line.now = rw (← c.get.ensures, w.in-Some.is) refl in
          let at : slice_get (map script_line ls) n ≡ Some (shown_line w.line_of.result) = slice_get-map script_line ls n ∙ ap (option_map script_line) here ∙ ap Some (sym w.line_of.ensures.value) in
          has_more (map script_line ls) n (shown_line w.line_of.result) c.loop-place.busy _ at (rw (← w.busy-is) at w.in_ok-add_line.ensures) c.loop-place.invariant
      | in_default w ↦
          let none : slice_get ls n ≡ None = rw (← c.get.ensures, w.in_default.is) refl in
          let some = slice_get-get_or ls n [] (omega (arith, c.loop-place-test.true, c.len-place-end.ensures)) in
          absurd cc
    ]
