use Rattle.std.proofs.Common.{ap, not, sym, ◌∙◌, refl}
use Rattle.nb_graph.specs.Trace.{said}
use Rattle.nb_conns.proofs.DialogueLemmas.{nothing_said}
use Rattle.nb_webnodes.proofs.WebLemmas.{rests_on, cuts_on, quiet_down, web_stands_on}
use Rattle.nb_webnodes.proofs.web.Web.on_down.Goals as goal

pub returns-then-not-asks-clause-stands : goal.returns-then-not-asks-clause-stands
returns-then-not-asks-clause-stands g c = λ t now s. web_stands_on g.L.CarriesWeb.web c.args.self.now c.args.self.now t _ (rests_on g.L.CarriesWeb.web _ _ (λ d at. quiet_down c.args.self.now.stage (said c.args.msg.now) now c.args.fx.now d (sym c.asks.ensures ∙ c.if-not-asks.true) at) (nothing_said c.args.fx.now c.requires)) s

pub returns-in-Ok-clause-stands : goal.returns-in-Ok-clause-stands
returns-in-Ok-clause-stands g c = λ t now s. web_stands_on g.L.CarriesWeb.web c.args.self.now c.ask.new.self t _ (c.ask.ensures.leads (said c.args.msg.now) now (sym c.asks.ensures ∙ c.if-not-asks.false) refl (sym (c.as_slice.ensures.value ∙ c.in-Ok.ensures))) s

pub returns-in-Err-clause-stands : goal.returns-in-Err-clause-stands
returns-in-Err-clause-stands g c = λ t now s. web_stands_on g.L.CarriesWeb.web c.args.self.now c.give_up.new.self t _ (cuts_on _ _ _ _ c.give_up.ensures.ended (λ d at. ap not c.give_up.ensures.err) tt) s
