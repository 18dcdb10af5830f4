use Rattle.std.proofs.Common.{◌≡◌, ◌++◌, codes, ◌∙◌}
use Rattle.std.specs.Fmt.{decimal}
use Rattle.nb_lab.proofs.ScriptLemmas.{put_lines}
use Rattle.nb_lab.proofs.script.put_fetch.Goals as goal

pub returns : goal.returns
returns c =
    let line : c.as_bytes.result.now ≡ codes "imgfetch " ++ (c.scheme.result.now ++ (codes "://10.0.0.1/" ++ (decimal c.args.image.0 ++ codes "\n"))) =
    c.as_bytes.ensures.value ∙ c.in_ok-line.ensures.ok in
    put_lines c.args.text.now.items c.extend_from_slice.new.self.items c.extend_from_slice-2.new.self.items c.as_bytes.result.now c.scheme.result.now c.freeing.result.now c.args.image.0
    c.in_ok-extend_from_slice.ensures.items c.in_ok-extend_from_slice-2.ensures.items line c.scheme.ensures c.freeing.ensures
