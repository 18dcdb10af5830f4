use Rattle.std.proofs.Common.{refl}
use Rattle.nb_conns.proofs.DialogueLemmas.{nothing_said}
use Rattle.nb_webnodes.proofs.WebLemmas.{rests_on, web_stands_on}
use Rattle.nb_webnodes.proofs.web.Web.on_time.Goals as goal

pub returns-clause-stands : goal.returns-clause-stands
returns-clause-stands g c = λ t now s. web_stands_on g.L.CarriesWeb.web c.args.self.now c.args.self.now t _ (rests_on g.L.CarriesWeb.web _ _ (λ d at. refl) (nothing_said c.args.fx.now c.requires)) s
