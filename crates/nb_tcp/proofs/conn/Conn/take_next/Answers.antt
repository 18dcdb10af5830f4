use Rattle.std.proofs.Common.{refl, ap, ◌∙◌}
use Rattle.nb_terms.specs.declared.acts.Acts.{Acts}
use Rattle.nb_tcp.specs.declared.variables.Variables.{Variables}
use Rattle.nb_tcp.specs.Arriving.{incoming}
use Rattle.nb_tcp.specs.Replies.{acknowledging}
use Rattle.nb_tcp.proofs.InOrderLemmas.{follows_next}
use Rattle.nb_tcp.proofs.conn.Conn.take_next.Goals as goal

pub returns : goal.returns
returns c =
    let after : Variables = record c.receive_next.new.variables { room = c.args.segment.now.window } in
    follows_next c.args.self.now _ c.in-Established.variables c.receive_next.new.variables c.args._rec (incoming c.args.segment.now) c.args.now c.acknowledge.new.acts
    c.in-Established.is c.requires.next c.requires.low c.receive_next.ensures refl
    (c.acknowledge.ensures ∙ ap (λ (a : Acts). acknowledging c.args.self.now.link after (incoming c.args.segment.now) a) c.tell_growth.ensures)
    refl c.start.ensures.value refl refl
