use Rattle.std.proofs.Common.{◌≡◌, ◌∙◌, ap, sym, subst, ℕ, List, Some, None}
use Rattle.std.specs.Prelude.{option_map, option_and_then, find}
use Rattle.std.specs.Option.{option_copied}
use Rattle.nb_settings.specs.declared.block.Block.{Block}
use Rattle.nb_settings.specs.declared.setting.Setting.{Setting}
use Rattle.nb_settings.specs.Keys.{key_of}
use Rattle.nb_settings.specs.Tables.{TableLists, value_of, own_value, by_priority}
use Rattle.nb_settings.specs.Order.{has_behind}
use Rattle.nb_settings.proofs.LookupLemmas.{value_behind_is}
use Rattle.nb_settings.proofs.table.Table.find_behind.Goals as goal

pub returns-in_err-first-clause-value : goal.returns-in_err-first-clause-value
returns-in_err-first-clause-value c =
    let block = option_copied c.args.block in
    let key = key_of c.args.key.now in
    let found : None ≡ find (has_behind block key c.self.inside.settings.items) (by_priority c.self.inside.blocks.items) =
    c.in_err-first.ensures
    ∙ ap (λ (xs : List Setting). find (has_behind block key xs) (by_priority c.as_slice.result.now)) c.as_slice-2.ensures.value
    ∙ ap (λ (bs : List Block). find (has_behind block key c.self.inside.settings.items) (by_priority bs)) c.as_slice.ensures.value in
    let here : None ≡ find (has_behind block key c.args.self.now.settings) (by_priority c.args.self.now.blocks) =
    subst (λ (t : TableLists). None ≡ find (has_behind block key t.settings) (by_priority t.blocks)) c.self.view_is found in
    ap (option_map value_of) c.from_residual.ensures
    ∙ ap (option_and_then (λ (b : Block). own_value b.name key c.args.self.now)) here
    ∙ sym (value_behind_is block key c.args.self.now)

pub returns-clause-value : goal.returns-clause-value
returns-clause-value c =
    let block = option_copied c.args.block in
    let key = key_of c.args.key.now in
    let found : Some c.in_ok-first.first.now ≡ find (has_behind block key c.self.inside.settings.items) (by_priority c.self.inside.blocks.items) =
    c.in_ok-first.ensures
    ∙ ap (λ (xs : List Setting). find (has_behind block key xs) (by_priority c.as_slice.result.now)) c.as_slice-2.ensures.value
    ∙ ap (λ (bs : List Block). find (has_behind block key c.self.inside.settings.items) (by_priority bs)) c.as_slice.ensures.value in
    let here : Some c.in_ok-first.first.now ≡ find (has_behind block key c.args.self.now.settings) (by_priority c.args.self.now.blocks) =
    subst (λ (t : TableLists). Some c.in_ok-first.first.now ≡ find (has_behind block key t.settings) (by_priority t.blocks)) c.self.view_is found in
    c.own.ensures.value
    ∙ ap (λ (n : List ℕ). own_value n key c.args.self.now) c.as_slice-3.ensures
    ∙ ap (option_and_then (λ (b : Block). own_value b.name key c.args.self.now)) here
    ∙ sym (value_behind_is block key c.args.self.now)
