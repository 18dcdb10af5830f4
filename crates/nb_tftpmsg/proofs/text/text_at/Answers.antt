use Rattle.nb_tftpmsg.proofs.TextLemmas.{text_at-found, text_at-none}
use Rattle.nb_tftpmsg.proofs.text.text_at.Goals as goal

pub returns-in-Some : goal.returns-in-Some
returns-in-Some c = text_at-found c.args.bytes.now c.in-Some.end c.in-Some.ensures.place

pub returns-in-None : goal.returns-in-None
returns-in-None c = text_at-none c.args.bytes.now c.in-None.ensures.place
