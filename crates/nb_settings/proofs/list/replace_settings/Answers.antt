use Rattle.std.proofs.Common.{◌≡◌, ◌∙◌, ap, arith, rules, tests, not, List, ◌++◌}
use Rattle.std.proofs.lemmas.Fn.{filter_same}
use Rattle.nb_settings.specs.declared.setting.Setting.{Setting}
use Rattle.nb_settings.specs.Tables.{is_of}
use Rattle.nb_settings.proofs.list.replace_settings.Goals as goal

pub returns : goal.returns
returns c =
    let others = λ (s : Setting). not (is_of c.args.block.now s) in
    let kept = filter_same _ others _ (λ x b f' called. search (rules, tests)) _ _ c.retain.ensures.filtered in
    let ok = c.append.ensures.succeeds (omega (arith, c.retain.ensures.bound, c.retain.ensures.capacity, c.requires)) in
    let joined : c.append.new.self.items ≡ c.retain.new.self.items ++ c.args.new.items = rw ok at c.append.ensures.items in
    joined ∙ ap (λ (ss : List Setting). ss ++ c.args.new.items) kept
