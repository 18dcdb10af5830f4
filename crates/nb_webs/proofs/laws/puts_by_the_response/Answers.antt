use Rattle.nb_webs.proofs.WebLaws.{web_puts}
use Rattle.nb_webs.proofs.laws.puts_by_the_response.Goals as goal

pub returns : goal.returns
returns c = web_puts
