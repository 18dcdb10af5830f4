use Rattle.std.proofs.Common.{◌≡◌, ◌∙◌, ap, sym, subst, arith, List, ◌++◌, ◌∷◌, [], ℕ, length}
use Rattle.std.specs.Prelude.{OnOk}
use Rattle.nb_dhcpmsg.specs.Collected.{tag_values}
use Rattle.nb_settings.specs.Keys.{key_of}
use Rattle.nb_settings.specs.declared.setting.Setting.{Setting}
use Rattle.nb_settings.specs.LeaseSettings.{option_setting, value_settings}
use Rattle.nb_settings.proofs.LeaseLemmas.{no_more}
use Rattle.nb_settings.proofs.LeaseStepLemmas.{no_setting, one_setting, not_there, too_long, a_value}
use Rattle.nb_settings.proofs.lease.put_value.Goals as goal

pub returns-then-not-has_tag : goal.returns-then-not-has_tag
returns-then-not-has_tag c =
    let os = tag_values c.args.options.now in
    let none = no_setting c.args.block.now (key_of c.args.key.now) c.args.tag os (not_there c.args.tag os (sym c.has_tag.ensures ∙ c.if-not-has_tag.true)) in
    sym (ap (λ (ss : List Setting). c.args.to.now.items ++ ss) none ∙ no_more c.args.to.now.items)

pub returns-then-len-gt-MAX_VALUE : goal.returns-then-len-gt-MAX_VALUE
returns-then-len-gt-MAX_VALUE c =
    let os = tag_values c.args.options.now in
    let long = ap length c.in_ok-value.ensures in
    let none = no_setting c.args.block.now (key_of c.args.key.now) c.args.tag os (too_long c.args.tag os (omega (arith, long, c.if-len-gt-MAX_VALUE.true))) in
    sym (ap (λ (ss : List Setting). c.args.to.now.items ++ ss) none ∙ no_more c.args.to.now.items)

pub returns : goal.returns
returns c =
    let os = tag_values c.args.options.now in
    let block = c.args.block.now in
    let key = key_of c.args.key.now in
    let its = c.as_slice.ensures.value ∙ c.in_ok-value.ensures in
    let size = ap length c.in_ok-value.ensures in
    let there = a_value c.args.tag os (sym c.has_tag.ensures ∙ c.if-not-has_tag.false) (omega (arith, size, c.if-len-gt-MAX_VALUE.false)) in
    let same : option_setting block key c.as_slice.result.now ∷ [] ≡ value_settings block key c.args.tag os =
    ap (λ (bytes : List ℕ). option_setting block key bytes ∷ []) its ∙ sym (one_setting block key c.args.tag os there) in
    subst (λ (ss : List Setting). OnOk c.put_option.result (c.put_option.new.to.items ≡ c.args.to.now.items ++ ss)) same c.put_option.ensures
