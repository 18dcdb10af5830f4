use Rattle.std.proofs.Common.{◌≡◌, ◌∙◌, ap, sym, subst, List, ◌++◌, ◌∷◌, [], ℕ}
use Rattle.std.specs.Prelude.{OnOk}
use Rattle.nb_dhcpmsg.specs.Views.{parts_of}
use Rattle.nb_dhcpmsg.specs.Collected.{tag_values}
use Rattle.nb_settings.specs.declared.setting.OwnedKey.TheVariants.{Tag}
use Rattle.nb_settings.specs.declared.setting.Setting.{Setting}
use Rattle.nb_settings.specs.LeaseSettings.{tag_settings, option_setting, value_settings}
use Rattle.nb_settings.proofs.LeaseLemmas.{no_more}
use Rattle.nb_settings.proofs.LeaseStepLemmas.{left_out, named_file, of_value}
use Rattle.nb_settings.proofs.lease.put_tag.Goals as goal

pub returns-then-is_left_out : goal.returns-then-is_left_out
returns-then-is_left_out c =
    let none = left_out c.args.block.now c.args.message.now.whole.now c.args.tag (sym c.is_left_out.ensures ∙ c.if-is_left_out.true) in
    sym (ap (λ (ss : List Setting). c.args.to.now.items ++ ss) none ∙ no_more c.args.to.now.items)

pub returns-then-is_named_file : goal.returns-then-is_named_file
returns-then-is_named_file c =
    let ack = c.args.message.now.whole.now in
    let block = c.args.block.now in
    let kept = sym c.is_left_out.ensures ∙ c.if-is_left_out.false in
    let named = sym c.is_named_file.ensures ∙ c.if-is_named_file.true in
    let name = c.file.ensures (parts_of c.args.message.now) c.requires.message in
    let same : option_setting block (Tag c.args.tag) c.file.result.now ∷ [] ≡ tag_settings block ack c.args.tag =
    ap (λ (bytes : List ℕ). option_setting block (Tag c.args.tag) bytes ∷ []) name
    ∙ sym (named_file block ack c.args.tag kept named) in
    subst (λ (ss : List Setting). OnOk c.put_option.result (c.put_option.new.to.items ≡ c.args.to.now.items ++ ss)) same c.put_option.ensures

pub returns : goal.returns
returns c =
    let ack = c.args.message.now.whole.now in
    let block = c.args.block.now in
    let same : value_settings block (Tag c.args.tag) c.args.tag (tag_values c.args.options.now) ≡ tag_settings block ack c.args.tag =
    ap (value_settings block (Tag c.args.tag) c.args.tag) c.requires.options
    ∙ sym (of_value block ack c.args.tag (sym c.is_left_out.ensures ∙ c.if-is_left_out.false) (sym c.is_named_file.ensures ∙ c.if-is_named_file.false)) in
    subst (λ (ss : List Setting). OnOk c.put_value.result (c.put_value.new.to.items ≡ c.args.to.now.items ++ ss)) same c.put_value.ensures
