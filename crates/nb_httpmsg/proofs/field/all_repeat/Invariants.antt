use Rattle.std.proofs.Common.{◌≡◌, drop, codes}
use Rattle.std.specs.List.{list_all}
use Rattle.std.specs.Str.Parse.{digits_value}
use Rattle.nb_responses.specs.Heads.{has_decimal_value}
use Rattle.nb_httpmsg.specs.Fields.{covered, named}
use Rattle.nb_httpmsg.proofs.field.all_repeat.Given as goal

abbrev pub invariant-loop-i : goal.invariant-loop-i
invariant-loop-i l = list_all (has_decimal_value (digits_value 10 l.number)) (named (codes "content-length") (covered l.block l.fields)) ≡ list_all (has_decimal_value (digits_value 10 l.number)) (named (codes "content-length") (covered l.block (drop l.i l.fields)))
