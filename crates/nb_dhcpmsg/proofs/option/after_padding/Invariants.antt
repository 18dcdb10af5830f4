use Rattle.std.proofs.Common.{◌≡◌, ◌≤◌, length}
use Rattle.nb_dhcpmsg.specs.Options.{SameOptions}
use Rattle.nb_dhcpmsg.specs.Fields.{inner_options}
use Rattle.nb_dhcpmsg.proofs.option.after_padding.Given as goal

-- what is left are the same options
abbrev pub invariant-padding : goal.invariant-padding
invariant-padding l = record {
  same : SameOptions l.fn.field l.rest;
  within : inner_options l.fn.field ≡ inner_options l.rest;
  less : length l.rest ≤ length l.fn.field;
}

abbrev pub decreases-padding : goal.decreases-padding
decreases-padding l = length l.rest
