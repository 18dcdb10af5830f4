use Rattle.std.proofs.Common.{◌≡◌, ◌∙◌, ap, sym, subst, None}
use Rattle.nb_settings.specs.declared.setting.Setting.{Setting}
use Rattle.nb_settings.specs.Keys.{key_of}
use Rattle.nb_settings.specs.Tables.{TableLists, KeepsByTag, put_refusal, place_of}
use Rattle.nb_settings.proofs.TableLemmas.{kept_put_or}
use Rattle.nb_settings.proofs.ByTagLemmas.{ByTag, tags_put_or}
use Rattle.nb_settings.proofs.table.Table.put.Goals as goal

pub invariant_of-self : goal.invariant_of-self
invariant_of-self c =
    let table : TableLists = record { blocks = c.self.inside.blocks.items; settings = c.self.inside.settings.items } in
    let s = c.in_ok-setting.setting in
    let made = c.in_ok-setting.ensures in
    let none : put_refusal c.args.block.now (key_of c.args.key.now) c.args.bytes.now table ≡ None =
    subst (λ (t : TableLists). put_refusal c.args.block.now (key_of c.args.key.now) c.args.bytes.now t ≡ None) (sym c.self.view_is) c.in_ok-check_put.ensures in
    let fits : put_refusal s.block s.key s.bytes table ≡ None =
    subst (λ (x : Setting). put_refusal x.block x.key x.bytes table ≡ None) (sym made) none in
    let place : c.place_of-place.result ≡ place_of s.block s.key table.settings =
    c.place_of-place.ensures.value
    ∙ ap (place_of c.args.block.now (key_of c.args.key.now)) c.as_slice.ensures.value
    ∙ ap (λ (x : Setting). place_of x.block x.key table.settings) (sym made) in
    kept_put_or table s c.place_of-place.result c.put.new.settings.items c.put.result c.self.invariant fits place c.put.ensures.ok c.put.ensures.refused

pub returns-clause-by_tag : goal.returns-clause-by_tag
returns-clause-by_tag c = λ is keeps.
    let s = c.in_ok-setting.setting in
    let its : ByTag s = subst ByTag (sym c.in_ok-setting.ensures) is in
    let old = subst KeepsByTag (sym c.self.view_is) keeps in
    tags_put_or c.put.result c.place_of-place.result s c.self.inside.settings.items c.put.new.settings.items c.put.ensures.ok c.put.ensures.refused its old
