use Rattle.std.proofs.Common.{◌≡◌, ◌+◌, ◌≤◌, length, sym, ap, arith}
use Rattle.nb_settings.specs.Names.{name_of}
use Rattle.nb_expand.proofs.NameLemmas.{name_short}
use Rattle.nb_command.proofs.show.show_setting.Goals as goal

pub returns-clause-fits : goal.returns-clause-fits
returns-clause-fits c =
    let text = c.as_slice.result.now in
    let name : length text ≤ 201 = name_short text (name_of c.in-Some.read) (sym c.in-Some.ensures.exact) in
    let value : length c.in_ok-value.value ≤ 3108 = c.in_ok-value.ensures.short in
    let line : length c.in_ok-line.field-0 ≡ length c.as_slice-2.result.now + length c.as_slice-3.result.now + 4 = c.in_ok-line.ensures.long in
    omega (arith, ap length c.as_slice.ensures.value, ap length c.as_slice-2.ensures.value, ap length c.as_slice-3.ensures)
