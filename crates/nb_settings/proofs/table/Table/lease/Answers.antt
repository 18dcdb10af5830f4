use Rattle.std.proofs.Common.{◌≡◌, ◌≤◌, ◌⊎◌, ◌∙◌, ap, sym, subst, arith, rules, w8, to_z, of_z, List, ◌++◌, length, Some, None, true, false}
use Rattle.std.specs.Prelude.{IfErr, nat_lt}
use Rattle.std.specs.List.{All, AllPairs, list_all}
use Rattle.std.proofs.lemmas.Bool.Decides.{nat_tests}
use Rattle.nb_settings.specs.declared.block.Block.{Block}
use Rattle.nb_settings.specs.declared.error.SetError.TheVariants as error
use Rattle.nb_settings.specs.declared.setting.Setting.{Setting}
use Rattle.nb_settings.specs.Tables.{TableLists, IsTable, KeepsByTag, block_of, without_block}
use Rattle.nb_settings.specs.LeaseSettings.{fill_refusal, lease_settings}
use Rattle.nb_settings.proofs.LeaseLemmas.{fits_in, lease_fits, fill_tests}
use Rattle.nb_settings.proofs.DoublesLemmas.{OtherKey}
use Rattle.nb_settings.proofs.LeaseKeysLemmas.{lease_apart}
use Rattle.nb_settings.proofs.LeaseTableLemmas.{kept_filled}
use Rattle.nb_settings.proofs.ByTagLemmas.{ByTag, tags_filled}
use Rattle.nb_settings.proofs.table.Table.lease.Goals as goal

pub returns-in_err-check_fill-clause-cause : goal.returns-in_err-check_fill-clause-cause
returns-in_err-check_fill-clause-cause c =
    let its : c.in_ok-lease.lease.items ≡ lease_settings c.args.block.now c.args.ack.now =
    c.in_ok-lease.ensures ∙ ap (lease_settings c.args.block.now) c.in-Some.ensures.whole in
    subst (λ (ss : List Setting). IfErr c.from_residual-in_err-check_fill.result (λ e. (e ≡ error.NoMemory) ⊎ (fill_refusal c.args.block.now ss c.args.self.now ≡ Some e)))
    (c.as_slice.ensures.value ∙ its) (search rules)

pub returns-clause-fits : goal.returns-clause-fits
returns-clause-fits c =
    let its : c.in_ok-lease.lease.items ≡ lease_settings c.args.block.now c.args.ack.now =
    c.in_ok-lease.ensures ∙ ap (lease_settings c.args.block.now) c.in-Some.ensures.whole in
    ap (λ (ss : List Setting). fill_refusal c.args.block.now ss c.args.self.now) (sym (c.as_slice.ensures.value ∙ its)) ∙ c.in_ok-check_fill.ensures

pub invariant_of-self-2 : goal.invariant_of-self-2
invariant_of-self-2 c =
    let table : TableLists = record { blocks = c.self.inside.blocks.items; settings = c.self.inside.settings.items } in
    let block = c.args.block.now in
    let new = c.in_ok-lease.lease.items in
    let b = block_of block (to_z w8 (of_z w8 c.lease_priority.result)) in
    let its : new ≡ lease_settings block c.args.ack.now = c.in_ok-lease.ensures ∙ ap (lease_settings block) c.in-Some.ensures.whole in
    let none : fill_refusal block c.as_slice.result.now table ≡ None =
    subst (λ (t : TableLists). fill_refusal block c.as_slice.result.now t ≡ None) (sym c.self.view_is) c.in_ok-check_fill.ensures in
    let tests = fill_tests block c.as_slice.result.now table none in
    let most : nat_lt 128 (length new) ≡ false = subst (λ (ss : List Setting). nat_lt 128 (length ss) ≡ false) c.as_slice.ensures.value tests.0 in
    let few : length new ≤ 128 = grind (arith, nat_tests) in
    let fits : list_all (fits_in block) new ≡ true = subst (λ (ss : List Setting). list_all (fits_in block) ss ≡ true) (sym its) (lease_fits block c.args.ack.now) in
    let apart : AllPairs OtherKey new = subst (λ (ss : List Setting). AllPairs OtherKey ss) (sym its) (lease_apart block c.args.ack.now) in
    subst (λ (xs : List Setting). IsTable (record { blocks = c.put_block.new.blocks.items; settings = xs }))
    (sym (c.replace_settings.ensures ∙ ap (λ (ss : List Setting). without_block block ss ++ new) c.reserve.ensures.items))
    (subst (λ (bs : List Block). IsTable (record { blocks = bs; settings = without_block block table.settings ++ new })) (sym c.in_ok-put_block.ensures.ok)
    (kept_filled table b new c.self.invariant tests.1 fits apart few))

pub returns-in_err-reserve-clause-by_tag : goal.returns-in_err-reserve-clause-by_tag
returns-in_err-reserve-clause-by_tag c = λ keeps.
    subst (All ByTag) (sym c.reserve.ensures.items) (subst KeepsByTag (sym c.self.view_is) keeps)

pub returns-in_err-put_block-clause-by_tag : goal.returns-in_err-put_block-clause-by_tag
returns-in_err-put_block-clause-by_tag c = λ keeps.
    subst (All ByTag) (sym c.reserve.ensures.items) (subst KeepsByTag (sym c.self.view_is) keeps)

pub returns-clause-by_tag : goal.returns-clause-by_tag
returns-clause-by_tag c = λ keeps.
    let block = c.args.block.now in
    let new = c.in_ok-lease.lease.items in
    let its : new ≡ lease_settings block c.args.ack.now = c.in_ok-lease.ensures ∙ ap (lease_settings block) c.in-Some.ensures.whole in
    let all = c.replace_settings.ensures ∙ ap (λ (ss : List Setting). without_block block ss ++ new) c.reserve.ensures.items
    ∙ ap (λ (ss : List Setting). without_block block c.self.inside.settings.items ++ ss) its in
    subst (All ByTag) (sym all) (tags_filled block c.args.ack.now c.self.inside.settings.items (subst KeepsByTag (sym c.self.view_is) keeps))
