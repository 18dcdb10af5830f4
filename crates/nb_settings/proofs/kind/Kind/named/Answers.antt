use Rattle.std.proofs.Common.{◌≡◌, ◌∙◌, ap, rules, tests}
use Rattle.std.specs.Prelude.{find}
use Rattle.std.specs.Option.{option_copied}
use Rattle.std.specs.Str.{bytes_eq}
use Rattle.std.proofs.lemmas.Iterator.{YieldsList-from_slice}
use Rattle.std.proofs.lemmas.Iterator.Search.{find_from_yields_List}
use Rattle.nb_settings.specs.declared.kind.Kind.{Kind}
use Rattle.nb_settings.specs.Kinds.{all_kinds, kind_name, kind_named}
use Rattle.nb_settings.proofs.KindLemmas.{kind_named-name}
use Rattle.nb_settings.proofs.kind.Kind.named.Goals as goal

pub returns-clause-value : goal.returns-clause-value
unfolding kind_named
returns-clause-value c =
    let test = λ (kind : Kind). bytes_eq c.args.name.now (kind_name kind) in
    let found : option_copied c.find.result ≡ find test all_kinds =
    find_from_yields_List test _ _ c.find.result c.find.ensures.ran (YieldsList-from_slice all_kinds cc) (λ x b q k. search (rules, tests)) in
    c.copied.ensures ∙ found

pub returns-clause-complete : goal.returns-clause-complete
returns-clause-complete c = λ kind is. returns-clause-value c ∙ ap kind_named is ∙ kind_named-name kind
