use Rattle.nb_command.proofs.PrintedLemmas.{echoed_short}
use Rattle.nb_command.proofs.applying.carry_out.Goals as goal

pub returns-in_ok-echo_text-in-Echo-clause-fits : goal.returns-in_ok-echo_text-in-Echo-clause-fits
returns-in_ok-echo_text-in-Echo-clause-fits c =
    rw (c.in-Echo.is, c.in_ok-echo_text-in-Echo.ensures, c.as_slice.ensures) (echoed_short c.in-Echo.newline c.in-Echo.text)
