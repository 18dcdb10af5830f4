use Rattle.std.proofs.Common.{ap, not, sym, ◌∙◌, refl}
use Rattle.std.specs.Option.{option_map}
use Rattle.nb_webnodes.specs.WebAsks.{ask_parts}
use Rattle.nb_webnodes.proofs.WebLemmas.{rests_on, cuts_on, quiet_ask, ask_within, ask_same}
use Rattle.nb_webnodes.proofs.AnswerLemmas.{begun_on}
use Rattle.nb_webnodes.proofs.web.Web.ask.Goals as goal

pub returns-in_default-clause-leads : goal.returns-in_default-clause-leads
returns-in_default-clause-leads g c = λ m now asks a b.
    rests_on g.L.CarriesWeb.web _ _ (λ d at. quiet_ask c.args.self.now.stage m now c.args.fx.now d (ask_same m c.args.host c.args.bytes.now a b ∙ sym c.read.ensures.value ∙ ap (option_map ask_parts) c.in_default.is) at) c.requires

pub returns-in-Ok-clause-leads : goal.returns-in-Ok-clause-leads
returns-in-Ok-clause-leads g c = λ m now asks a b.
    let said = c.requires.0 in
    begun_on g.L.CarriesWeb.web m now _ c.args.self.now.stage c.in-Ok.http (ask_parts c.in-Some.ask) c.in-Ok.text asks (ask_same m c.args.host c.args.bytes.now a b ∙ sym c.read.ensures.value ∙ ap (option_map ask_parts) c.in-Some.is) c.in-Ok.ensures c.ask_below.ensures said.no_make said.no_up said.no_ups c.requires.1

pub returns-in-Ok-clause-within : goal.returns-in-Ok-clause-within
returns-in-Ok-clause-within g c = let said = c.requires.0 in ask_within g.L.CarriesWeb.web _ c.in-Ok.text _ c.ask_below.ensures (c.in-Some.ensures.enough refl) said.no_make said.no_up said.no_ups c.requires.1

pub returns-in-Err-clause-leads : goal.returns-in-Err-clause-leads
returns-in-Err-clause-leads g c = λ m now asks a b. cuts_on _ _ _ _ c.give_up.ensures.ended (λ d at. ap not c.give_up.ensures.err) tt
