use Rattle.std.proofs.Common.{◌≡◌, ◌∙◌, ap, arith, List}
use Rattle.nb_settings.specs.declared.setting.Setting.{Setting}
use Rattle.nb_settings.specs.Tables.{count_of}
use Rattle.nb_settings.proofs.table.Table.count.Goals as goal

pub returns-then-has_block-clause-fits : goal.returns-then-has_block-clause-fits
returns-then-has_block-clause-fits c =
    let counted : c.count_of.result ≡ count_of c.args.block.now c.self.inside.settings.items =
    c.count_of.ensures ∙ ap (λ (xs : List Setting). count_of c.args.block.now xs) c.as_slice-then-has_block.ensures.value in
    omega (arith, c.self.invariant.at_most c.args.block.now)
