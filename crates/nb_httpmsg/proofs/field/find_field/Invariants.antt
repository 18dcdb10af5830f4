use Rattle.std.proofs.Common.{◌≡◌, drop}
use Rattle.nb_httpmsg.specs.Fields.{covered, named}
use Rattle.nb_httpmsg.proofs.field.find_field.Given as goal

abbrev pub invariant-loop-i : goal.invariant-loop-i
invariant-loop-i l = named l.name (covered l.block l.fields) ≡ named l.name (covered l.block (drop l.i l.fields))
