use Rattle.std.proofs.Common.{◌≡◌, true, arith}
use Rattle.std.proofs.lemmas.Bool.Decides.{nat_tests}
use Rattle.nb_defs.specs.Causes.{is_ok_cause}
use Rattle.nb_client.proofs.Settle.{finds_server}
use Rattle.nb_client.proofs.settling.found_host.Goals as goal

pub returns-in-Host : goal.returns-in-Host
returns-in-Host c =
    let fine : is_ok_cause c.args.ended.now.cause ≡ true = grind (arith, nat_tests, c.if-ended-ne0.false) in
    rw c.in-Host.is (finds_server c.in-Host.errand c.in-Host.name c.in-Host.by c.args.ended.now fine)
