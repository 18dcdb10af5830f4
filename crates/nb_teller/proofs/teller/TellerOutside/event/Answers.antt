use Rattle.nb_teller.proofs.SpellingLemmas.{event_told}
use Rattle.nb_teller.proofs.teller.TellerOutside.event.Goals as goal

pub returns : goal.returns
returns c =
    let t = c.args.self.now in
    record { given = event_told t.net.now t.who.now t.told.value c.deref_mut.result.now c.put_event.new.self c.args.e.now c.deref_mut.ensures.value c.put_event.ensures.more c.put_event.ensures.found c.put_event.ensures.stuck c.put_event.ensures.closed }
