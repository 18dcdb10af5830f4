use Rattle.std.proofs.Common.{◌∷◌, [], ◌+◌, refl, subst}
use Rattle.nb_defs.specs.Records.{enter, leave, out_texts}
use Rattle.nb_record.specs.Logged.{Puts}
use Rattle.nb_runner.proofs.Puts.{Puts-outs}
use Rattle.nb_client.proofs.site.Site.run_within.Goals as goal

pub returns-in-Refused : goal.returns-in-Refused
returns-in-Refused c =
    let s = c.args.script in
    let cause = c.in-Refused.cause in
    let first = subst (λ d. Puts c.args.out.now c.put_enter.new.log (out_texts (enter (d + 1) ∷ []))) c.depth-depth.ensures c.put_enter.ensures in
    let last = subst (λ d. Puts c.put_enter.new.log c.put_leave.new.log (out_texts (leave (d + 1) cause ∷ []))) c.depth-depth.ensures c.put_leave.ensures in
    rw c.in-Refused.is (refl, refl, Puts-outs (enter (s.depth + 1) ∷ []) (leave (s.depth + 1) cause ∷ []) first last)
