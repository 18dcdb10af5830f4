use Rattle.std.proofs.Common.{◌≡◌, not, sym, subst, w8, to_z, of_z, List, Some, None}
use Rattle.nb_settings.specs.declared.block.Block.{Block}
use Rattle.nb_settings.specs.declared.setting.Setting.{Setting}
use Rattle.nb_settings.specs.Tables.{TableLists, IsTable, KeepsByTag, is_of, register_refusal, block_of, count_in, without_block}
use Rattle.nb_settings.proofs.TableLemmas.{kept_register}
use Rattle.nb_settings.proofs.LeaseTableLemmas.{emptied_now}
use Rattle.std.specs.List.{All}
use Rattle.nb_settings.proofs.ByTagLemmas.{ByTag, tags_filtered}
use Rattle.nb_settings.proofs.table.Table.register.Goals as goal

pub invariant_of-self-2 : goal.invariant_of-self-2
invariant_of-self-2 c =
    let table : TableLists = record { blocks = c.self.inside.blocks.items; settings = c.self.inside.settings.items } in
    let b = block_of c.args.block.now (to_z w8 (of_z w8 c.args.priority)) in
    let none : register_refusal c.args.block.now table ≡ None =
    subst (λ (t : TableLists). register_refusal c.args.block.now t ≡ None) (sym c.self.view_is) c.in_ok-check_register.ensures in
    subst (λ (xs : List Setting). IsTable (record { blocks = c.put_block.new.blocks.items; settings = xs })) (sym c.empty_block.ensures)
    (subst (λ (bs : List Block). IsTable (record { blocks = bs; settings = without_block c.args.block.now table.settings })) (sym c.in_ok-put_block.ensures.ok)
    (kept_register table b c.self.invariant none))

pub returns-clause-by_tag : goal.returns-clause-by_tag
returns-clause-by_tag c = λ keeps.
    let others = λ (x : Setting). not (is_of c.args.block.now x) in
    let old = subst KeepsByTag (sym c.self.view_is) keeps in
    subst (All ByTag) (sym c.empty_block.ensures) (tags_filtered others c.self.inside.settings.items old)

pub returns-clause-emptied : goal.returns-clause-emptied
returns-clause-emptied c =
    let table : TableLists = record { blocks = c.self.inside.blocks.items; settings = c.self.inside.settings.items } in
    let b = block_of c.args.block.now (to_z w8 (of_z w8 c.args.priority)) in
    subst (λ (xs : List Setting). count_in b.name (record { blocks = c.put_block.new.blocks.items; settings = xs }) ≡ Some 0) (sym c.empty_block.ensures)
    (subst (λ (bs : List Block). count_in b.name (record { blocks = bs; settings = without_block b.name table.settings }) ≡ Some 0) (sym c.in_ok-put_block.ensures.ok)
    (emptied_now b table))
