use Rattle.std.proofs.Common.{refl}
use Rattle.nb_webnodes.proofs.WebLemmas.{back_on}
use Rattle.nb_webnodes.proofs.web.Web.regain.Goals as goal

pub returns-in-Some : goal.returns-in-Some
returns-in-Some g c = λ t s. back_on g.L.CarriesWeb.web c.args.self.now _ t c.args.load refl s

pub returns-in_default : goal.returns-in_default
returns-in_default g c = λ t s. back_on g.L.CarriesWeb.web c.args.self.now _ t c.args.load refl s
