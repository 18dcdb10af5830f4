use Rattle.std.proofs.Common.{◌≡◌, ◌≤◌, ◌∙◌, ap, sym, subst, length, Some, None, false}
use Rattle.std.specs.Prelude.{option_map, find}
use Rattle.nb_settings.specs.Keys.{key_of}
use Rattle.nb_settings.specs.Tables.{TableLists, SettingValue, value_of, setting_value, own_value, is_setting, has_block}
use Rattle.nb_settings.proofs.TableLemmas.{found_short, absent_none}
use Rattle.nb_settings.proofs.table.Table.own.Goals as goal

pub returns-in_err-setting-clause-value : goal.returns-in_err-setting-clause-value
unfolding own_value
returns-in_err-setting-clause-value c =
    let test = is_setting c.args.block.now (key_of c.args.key.now) in
    let none : None ≡ find test c.self.inside.settings.items = c.in_err-setting.ensures ∙ ap (find test) c.as_slice.ensures.value in
    subst (λ (t : TableLists). option_map value_of c.from_residual.result ≡ option_map setting_value (find test t.settings)) c.self.view_is
    (ap (option_map value_of) c.from_residual.ensures ∙ ap (option_map setting_value) none)

pub returns-clause-value : goal.returns-clause-value
unfolding own_value
returns-clause-value c =
    let test = is_setting c.args.block.now (key_of c.args.key.now) in
    let some : Some c.in_ok-setting.setting.now ≡ find test c.self.inside.settings.items = c.in_ok-setting.ensures ∙ ap (find test) c.as_slice.ensures.value in
    let value : Some (value_of c.value.result) ≡ Some (setting_value c.in_ok-setting.setting.now) = ap (λ (v : SettingValue). Some v) c.value.ensures in
    subst (λ (t : TableLists). Some (value_of c.value.result) ≡ option_map setting_value (find test t.settings)) c.self.view_is
    (value ∙ ap (option_map setting_value) some)

pub returns-clause-absent : goal.returns-clause-absent
returns-clause-absent c = λ absent.
    let test = is_setting c.args.block.now (key_of c.args.key.now) in
    let some : Some c.in_ok-setting.setting.now ≡ find test c.self.inside.settings.items = c.in_ok-setting.ensures ∙ ap (find test) c.as_slice.ensures.value in
    let here : has_block c.args.block.now c.self.inside.blocks.items ≡ false =
    subst (λ (t : TableLists). has_block c.args.block.now t.blocks ≡ false) (sym c.self.view_is) absent in
    absurd (absent_none (record { blocks = c.self.inside.blocks.items; settings = c.self.inside.settings.items }) c.args.block.now (key_of c.args.key.now) c.in_ok-setting.setting.now c.self.invariant here (sym some))

pub returns-clause-fits : goal.returns-clause-fits
returns-clause-fits c =
    let test = is_setting c.args.block.now (key_of c.args.key.now) in
    let some : Some c.in_ok-setting.setting.now ≡ find test c.self.inside.settings.items = c.in_ok-setting.ensures ∙ ap (find test) c.as_slice.ensures.value in
    let short = found_short (record { blocks = c.self.inside.blocks.items; settings = c.self.inside.settings.items }) test c.in_ok-setting.setting.now c.self.invariant (sym some) in
    subst (λ (v : SettingValue). length v.bytes ≤ 1024) (sym c.value.ensures) short
