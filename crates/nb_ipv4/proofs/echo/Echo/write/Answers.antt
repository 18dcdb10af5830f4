use Rattle.std.proofs.Common.{◌≡◌, ◌++◌}
use Rattle.nb_ipv4.specs.EchoText.{echo_parts, sent_echo}
use Rattle.nb_ipv4.proofs.echo.Echo.write.Goals as goal

pub returns-clause-appended : goal.returns-clause-appended
returns-clause-appended c =
    let whole : c.head-head.result ++ c.args.self.now.body.now ≡ sent_echo (echo_parts c.args.self.now) = c.head-head.ensures.value in
    rw (← whole) c.put_both.ensures.appended

pub returns-clause-readable : goal.returns-clause-readable
returns-clause-readable c = c.head-head.ensures.readable
