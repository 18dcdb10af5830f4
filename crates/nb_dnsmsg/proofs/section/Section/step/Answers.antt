use Rattle.std.proofs.Common.{List, ℕ, refl, sym, ◌∙◌, subst}
use Rattle.nb_dnsmsg.specs.Views.{IsFirstFound, IsStepped}
use Rattle.nb_dnsmsg.specs.declared.section.Want.TheVariants as want
use Rattle.nb_dnsmsg.proofs.FoundLemmas.{alias_found, no_alias, stepped}
use Rattle.nb_dnsmsg.proofs.section.Section.step.Goals as goal

pub returns-in-Some : goal.returns-in-Some
returns-in-Some c = λ rs at.
    let found = subst (λ (x : List ℕ). IsFirstFound c.first.result want.Alias c.args.message.now x rs) c.as_slice.ensures.value (c.first.ensures rs at) in
    let a = alias_found c.args.message.now c.args.name.now.items rs c.first.result c.in-Some.place found (sym c.alias_of.ensures ∙ c.in-Some.is) in
    subst (λ x. IsStepped x c.args.name.now.items c.read_name.new.to.items rs) (sym c.is_some.ensures)
    (stepped c.args.message.now c.args.name.now.items c.read_name.new.to.items rs c.in-Some.place c.read_name.result a c.read_name.ensures)

pub returns-in-None : goal.returns-in-None
returns-in-None c = λ rs at.
    let found = subst (λ (x : List ℕ). IsFirstFound c.first.result want.Alias c.args.message.now x rs) c.as_slice.ensures.value (c.first.ensures rs at) in
    (no_alias c.args.message.now c.args.name.now.items rs c.first.result found (sym c.alias_of.ensures ∙ c.in-None.is), refl)
