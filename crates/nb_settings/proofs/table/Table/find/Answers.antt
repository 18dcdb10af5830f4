use Rattle.std.proofs.Common.{◌≡◌, ◌∙◌, ap, sym, List, ℕ, [], Option, Some, None, refl}
use Rattle.std.specs.Borrow.{Bor}
use Rattle.std.specs.Prelude.{unwrap_or}
use Rattle.std.specs.Option.{option_copied}
use Rattle.nb_settings.specs.Keys.{key_of}
use Rattle.nb_settings.specs.Tables.{SettingValue, value_of, own_value}
use Rattle.nb_settings.specs.Order.{value_behind}
use Rattle.nb_settings.proofs.LookupLemmas.{first_of, look_is, named_or_root}
use Rattle.nb_settings.proofs.table.Table.find.Goals as goal

pub returns-in-Some-clause-value : goal.returns-in-Some-clause-value
returns-in-Some-clause-value c =
    let block = option_copied c.args.block in
    let key = key_of c.args.key.now in
    let behind = value_behind block key c.args.self.now in
    let name : c.unwrap_or.result.now ≡ unwrap_or block [] = ap (λ (x : Bor (List ℕ)). x.now) c.unwrap_or.ensures ∙ named_or_root c.args.block _ refl in
    let own : Some (value_of c.in-Some.value) ≡ own_value (unwrap_or block []) key c.args.self.now =
    c.in-Some.ensures.value ∙ ap (λ (n : List ℕ). own_value n key c.args.self.now) name in
    ap (λ (o : Option SettingValue). first_of o behind) own ∙ sym (look_is block key c.args.self.now)

pub returns-in-None-clause-value : goal.returns-in-None-clause-value
returns-in-None-clause-value c =
    let block = option_copied c.args.block in
    let key = key_of c.args.key.now in
    let behind = value_behind block key c.args.self.now in
    let name : c.unwrap_or.result.now ≡ unwrap_or block [] = ap (λ (x : Bor (List ℕ)). x.now) c.unwrap_or.ensures ∙ named_or_root c.args.block _ refl in
    let own : None ≡ own_value (unwrap_or block []) key c.args.self.now =
    c.in-None.ensures.value ∙ ap (λ (n : List ℕ). own_value n key c.args.self.now) name in
    c.find_behind.ensures.value ∙ ap (λ (o : Option SettingValue). first_of o behind) own ∙ sym (look_is block key c.args.self.now)
