use Rattle.std.proofs.Common.{◌≡◌, ◌++◌}
use Rattle.nb_dhcpmsg.specs.Collected.{tag_values}
use Rattle.nb_settings.specs.LeaseSettings.{numbered, within_settings}
use Rattle.nb_settings.proofs.lease.put_inner.Given as goal

-- the settings of the numbers so far were put
abbrev pub invariant-loop-earlier : goal.invariant-loop-earlier
invariant-loop-earlier l = l.to.items ≡ l.initial.to.items ++ numbered (within_settings l.block (tag_values l.options)) l.earlier
