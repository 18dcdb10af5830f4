use Rattle.std.proofs.Common.{◌≡◌, ◌∙◌, ap, ℕ, List, ◌++◌}
use Rattle.nb_dhcpmsg.specs.Options.{TagValue, joined}
use Rattle.nb_dhcpmsg.specs.Fields.{inner_options}
use Rattle.nb_dhcpmsg.specs.Views.{parts_of}
use Rattle.nb_dhcpmsg.specs.Collected.{tag_values}
use Rattle.nb_settings.specs.declared.setting.Setting.{Setting}
use Rattle.nb_settings.specs.LeaseSettings.{numbered, tag_settings, within_settings, inner_settings, options_in, options_within, address_settings, address_at}
use Rattle.nb_settings.proofs.LeaseLemmas.{have_options_in}
use Rattle.nb_settings.proofs.LeaseStepLemmas.{all_gathered, of_inner}
use Rattle.nb_settings.proofs.lease.lease_settings.Goals as goal

pub put_tags-requires-clause-options : goal.put_tags-requires-clause-options
put_tags-requires-clause-options c =
    let ack = c.args.message.now.whole.now in
    ap tag_values c.as_slice.ensures.value ∙ c.in_ok-options.ensures (options_in ack) (have_options_in ack (parts_of c.args.message.now) c.requires)

pub returns : goal.returns
returns c =
    let ack = c.args.message.now.whole.now in
    let block = c.args.block.now in
    let tags = numbered (tag_settings block ack) 254 in
    let inner = numbered (inner_settings block ack) 254 in
    let options : tag_values c.as_slice-2.result.now ≡ options_in ack =
    ap tag_values c.as_slice-2.ensures.value ∙ c.in_ok-options.ensures (options_in ack) (have_options_in ack (parts_of c.args.message.now) c.requires) in
    let are_within : inner_options (joined 175 (tag_values c.as_slice-2.result.now)) ≡ options_within ack =
    ap (λ (os : List TagValue). inner_options (joined 175 os)) options in
    let yours = c.args.message.now.yiaddr.0 in
    let next = c.args.message.now.siaddr.0 in
    let first : c.put_tags.new.to.items ≡ tags = c.in_ok-put_tags.ensures ∙ ap (λ (ss : List Setting). ss ++ tags) c.new-settings.ensures.items in
    let within = c.in_ok-put_within.ensures ∙ ap (λ (ss : List Setting). c.put_tags.new.to.items ++ ss) (ap (λ (os : List TagValue). numbered (within_settings block os) 254) are_within ∙ of_inner block ack) in
    let second : c.put_within.new.to.items ≡ tags ++ inner = within ∙ ap (λ (ss : List Setting). ss ++ inner) first in
    let third : c.put_addresses.new.to.items ≡ (tags ++ inner) ++ address_settings block yours next =
    c.in_ok-put_addresses.ensures ∙ ap (λ (ss : List Setting). ss ++ address_settings block yours next) second in
    third
    ∙ ap (λ (a : ℕ). (tags ++ inner) ++ address_settings block a next) c.requires.yiaddr
    ∙ ap (λ (a : ℕ). (tags ++ inner) ++ address_settings block (address_at 16 ack) a) c.requires.siaddr
    ∙ all_gathered block ack
