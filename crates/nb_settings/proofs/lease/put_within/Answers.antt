use Rattle.std.proofs.Common.{◌≡◌, ◌∙◌, ap, subst, List, ◌++◌}
use Rattle.std.specs.Prelude.{OnOk}
use Rattle.nb_dhcpmsg.specs.Options.{TagValue, joined}
use Rattle.nb_dhcpmsg.specs.Fields.{inner_options}
use Rattle.nb_dhcpmsg.specs.Collected.{tag_values}
use Rattle.nb_settings.specs.LeaseSettings.{numbered, within_settings}
use Rattle.nb_settings.proofs.lease.put_within.Goals as goal

pub returns : goal.returns
returns c =
    let block = c.args.block.now in
    let value = c.as_slice.ensures.value ∙ c.in_ok-outer.ensures in
    let same : tag_values c.as_slice-2.result.now ≡ inner_options (joined 175 (tag_values c.args.options.now)) =
    ap tag_values c.as_slice-2.ensures.value ∙ c.in_ok-inner.ensures ∙ ap inner_options value in
    subst (λ (os : List TagValue). OnOk c.put_inner.result (c.put_inner.new.to.items ≡ c.args.to.now.items ++ numbered (within_settings block os) 254)) same c.put_inner.ensures
