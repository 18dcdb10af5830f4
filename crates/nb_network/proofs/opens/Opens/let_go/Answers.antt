use Rattle.std.proofs.Common.{sym, ◌∙◌, ap, subst}
use Rattle.nb_record.specs.Logged.{Puts}
use Rattle.nb_teller.specs.Spelling.{Spelling}
use Rattle.nb_network.specs.Shutting.{LetsWaitingGo}
use Rattle.nb_network.proofs.opens.Opens.let_go.Goals as goal

pub give_up-requires-clause-waits : goal.give_up-requires-clause-waits
give_up-requires-clause-waits c = c.requires.waits c.in-Some.chain c.in-Some.is

pub returns-in_ok-desk-in-Some-clause-lets : goal.returns-in_ok-desk-in-Some-clause-lets
returns-in_ok-desk-in-Some-clause-lets c =
    subst (λ z. LetsWaitingGo c.args.kind z c.args.self.now c.args.net.now c.give_up.new.self c.args.gathered.now c.append.new.self) (sym c.in-Some.is) (
      c.in_ok-desk-in-Some.desk.freed.value.text,
      subst (Puts c.args.gathered.now c.append.new.self) (c.text.ensures ∙ ap (λ (s : Spelling). s.text) c.deref.ensures) c.append.ensures,
      λ w opens s. (c.in_ok-desk-in-Some.ensures.gives_up w opens s, c.in_ok-desk-in-Some.ensures.sound w opens s),
    )
