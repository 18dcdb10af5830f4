use Rattle.std.proofs.Common.{not, sym, subst, List}
use Rattle.nb_settings.specs.declared.setting.Setting.{Setting}
use Rattle.nb_settings.specs.Keys.{key_of}
use Rattle.nb_settings.specs.Tables.{IsTable, KeepsByTag, is_setting}
use Rattle.nb_settings.proofs.TableLemmas.{kept_filter}
use Rattle.std.specs.List.{All}
use Rattle.nb_settings.proofs.ByTagLemmas.{ByTag, tags_filtered}
use Rattle.nb_settings.proofs.table.Table.clear.Goals as goal

pub invariant_of-self : goal.invariant_of-self
invariant_of-self c =
    let others = λ (x : Setting). not (is_setting c.args.block.now (key_of c.args.key.now) x) in
    subst (λ (xs : List Setting). IsTable (record { blocks = c.self.inside.blocks.items; settings = xs })) (sym c.drop_setting.ensures)
    (kept_filter (record { blocks = c.self.inside.blocks.items; settings = c.self.inside.settings.items }) others c.self.invariant)

pub returns-clause-by_tag : goal.returns-clause-by_tag
returns-clause-by_tag c = λ keeps.
    let others = λ (x : Setting). not (is_setting c.args.block.now (key_of c.args.key.now) x) in
    let old = subst KeepsByTag (sym c.self.view_is) keeps in
    subst (All ByTag) (sym c.drop_setting.ensures) (tags_filtered others c.self.inside.settings.items old)
