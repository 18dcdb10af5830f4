use Rattle.std.proofs.Common.{◌≡◌, ◌++◌, List, ℕ, codes, ap, ◌∙◌, arith}
use Rattle.std.specs.List.{flat_map, range_with_len}
use Rattle.nb_lab.specs.Scripts.{fetch_lines, script_text}
use Rattle.nb_lab.proofs.ScriptLemmas.{lines_more}
use Rattle.nb_lab.proofs.script.script.Goals as goal

pub loop-i-preserved : goal.loop-i-preserved
loop-i-preserved c = c.in_ok-put_fetch.ensures ∙ lines_more c.loop-i.text.items c.loop-i.i c.loop-i.invariant

pub returns : goal.returns
unfolding script_text
returns c =
    let all : c.loop-i.i ≡ c.args.images = omega arith in
    c.in_ok-extend_from_slice.ensures.items
    ∙ ap (λ (x : List ℕ). x ++ codes "exit\n") (c.loop-i.invariant ∙ ap (λ (k : ℕ). codes "#!ipxe\n" ++ flat_map fetch_lines (range_with_len 0 k)) all)
