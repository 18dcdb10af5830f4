use Rattle.std.proofs.Common.{◌≡◌, ◌∙◌, ap, sym, arith, ℕ, ◌+◌, List, ◌++◌, append_assoc}
use Rattle.nb_dhcpmsg.specs.Collected.{tag_values}
use Rattle.nb_settings.specs.declared.setting.Setting.{Setting}
use Rattle.nb_settings.specs.LeaseSettings.{numbered, within_settings}
use Rattle.nb_settings.proofs.LeaseLemmas.{no_more, numbered_none, numbered_more}
use Rattle.nb_settings.proofs.lease.put_inner.Goals as goal

pub loop-earlier-init : goal.loop-earlier-init
loop-earlier-init c =
    let f = within_settings c.args.block.now (tag_values c.args.options.now) in
    sym (ap (λ (ss : List Setting). c.args.to.now.items ++ ss) (numbered_none f) ∙ no_more c.args.to.now.items)

pub loop-earlier-preserved : goal.loop-earlier-preserved
loop-earlier-preserved c =
    let f = within_settings c.args.block.now (tag_values c.args.options.now) in
    let old = c.args.to.now.items in
    let i = c.loop-earlier.earlier in
    let put : c.put_value.new.to.items ≡ c.loop-earlier.to.items ++ f (i + 1) = c.in_ok-put_value.ensures in
    put
    ∙ ap (λ (ss : List Setting). ss ++ f (i + 1)) c.loop-earlier.invariant
    ∙ append_assoc old (numbered f i) (f (i + 1))
    ∙ ap (λ (ss : List Setting). old ++ ss) (sym (numbered_more f i))

pub returns : goal.returns
returns c =
    let f = within_settings c.args.block.now (tag_values c.args.options.now) in
    let end : c.loop-earlier.earlier ≡ 254 = omega (arith, c.loop-earlier-test.false, c.loop-earlier.auto.earlier-end) in
    c.loop-earlier.invariant ∙ ap (λ (n : ℕ). c.args.to.now.items ++ numbered f n) end
