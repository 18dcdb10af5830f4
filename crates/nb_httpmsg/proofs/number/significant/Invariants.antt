use Rattle.std.proofs.Common.{◌≡◌, true, drop}
use Rattle.std.specs.List.{list_all}
use Rattle.std.specs.Char.{is_ascii_digit}
use Rattle.std.specs.Str.Parse.{digits_value}
use Rattle.nb_httpmsg.proofs.number.significant.Given as goal

abbrev pub invariant-loop-i : goal.invariant-loop-i
invariant-loop-i l = record {
  value : digits_value 10 (drop l.i l.digits) ≡ digits_value 10 l.digits;
  digits : list_all is_ascii_digit (drop l.i l.digits) ≡ true;
}
