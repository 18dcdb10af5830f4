use Rattle.std.proofs.Common.{◌∷◌, [], subst}
use Rattle.nb_defs.specs.Records.{leave, out_texts}
use Rattle.nb_record.specs.Logged.{Puts}
use Rattle.nb_scripts.specs.Records.{replace}
use Rattle.nb_runner.proofs.Puts.{Puts-outs}
use Rattle.nb_client.specs.Turning.{IsLeftAt}
use Rattle.nb_client.proofs.site.Site.run_in_place.Goals as goal

pub returns-in-Refused : goal.returns-in-Refused
returns-in-Refused c =
    let s = c.args.script.now in
    let cause = c.in-Refused.cause in
    let first = subst (λ d. Puts c.args.out.now c.put_replace.new.log (out_texts (replace d ∷ []))) c.depth.ensures c.put_replace.ensures in
    let last = subst (λ d. Puts c.put_replace.new.log c.put_leave.new.log (out_texts (leave d cause ∷ []))) c.depth-in-Refused.ensures c.put_leave.ensures in
    let gone = subst (λ n. IsLeftAt n cause c.args.self.now c.leave.result c.leave.new.self) c.commands.ensures.value c.leave.ensures in
    rw c.in-Refused.is (gone, Puts-outs (replace s.depth ∷ []) (leave s.depth cause ∷ []) first last)
