use Rattle.std.proofs.Common.{◌≡◌, ◌∙◌, ap, sym, subst, List, ◌++◌, ◌∷◌, [], append_assoc}
use Rattle.std.specs.Prelude.{OnOk, codes}
use Rattle.nb_settings.specs.declared.setting.Setting.{Setting}
use Rattle.nb_settings.specs.LeaseSettings.{address_setting, address_settings}
use Rattle.nb_settings.proofs.LeaseStepLemmas.{no_next, both_addresses}
use Rattle.nb_settings.proofs.lease.put_addresses.Goals as goal

pub returns-then-next-eq0 : goal.returns-then-next-eq0
returns-then-next-eq0 c =
    let one = no_next c.args.block.now c.args.yours.0 c.args.next.0 c.if-next-eq0.true in
    c.in_ok-put_address.ensures ∙ ap (λ (ss : List Setting). c.args.to.now.items ++ ss) (sym one)

pub returns : goal.returns
returns c =
    let old = c.args.to.now.items in
    let a : List Setting = address_setting c.args.block.now (codes "ip") c.args.yours.0 ∷ [] in
    let b : List Setting = address_setting c.args.block.now (codes "next-server") c.args.next.0 ∷ [] in
    let two = both_addresses c.args.block.now c.args.yours.0 c.args.next.0 c.if-next-eq0.false in
    let first : c.put_address.new.to.items ≡ old ++ a = c.in_ok-put_address.ensures in
    let same : c.put_address.new.to.items ++ b ≡ old ++ address_settings c.args.block.now c.args.yours.0 c.args.next.0 =
    ap (λ (ss : List Setting). ss ++ b) first ∙ append_assoc old a b ∙ ap (λ (ss : List Setting). old ++ ss) (sym two) in
    subst (λ (ss : List Setting). OnOk c.put_address-2.result (c.put_address-2.new.to.items ≡ ss)) same c.put_address-2.ensures
