use Rattle.std.proofs.Common.{◌≡◌, ◌++◌}
use Rattle.nb_settings.specs.LeaseSettings.{numbered, tag_settings}
use Rattle.nb_settings.proofs.lease.put_tags.Given as goal

-- the settings of the numbers so far were put
abbrev pub invariant-loop-earlier : goal.invariant-loop-earlier
invariant-loop-earlier l = l.to.items ≡ l.initial.to.items ++ numbered (tag_settings l.block l.message.whole.now) l.earlier
