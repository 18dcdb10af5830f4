use Rattle.std.proofs.Common.{◌≡◌, ◌∷◌, [], ◌++◌, get_or, ◌∙◌, subst, ap}
use Rattle.std.specs.List.{remove}
use Rattle.nb_defs.specs.Records.{ended, out_texts}
use Rattle.nb_record.specs.Logged.{Puts}
use Rattle.nb_runner.proofs.Puts.{Puts-append}
use Rattle.nb_stack.specs.Bound.{without}
use Rattle.nb_teller.specs.Speakers.{carrier_number}
use Rattle.nb_teller.specs.Spelling.{Spelling}
use Rattle.nb_open.specs.declared.open.Open.{Open}
use Rattle.nb_open.specs.Ends.{ClosesOpen}
use Rattle.nb_network.specs.Many.{Many, bare_open}
use Rattle.nb_network.proofs.Places.{open_at, removed_at}
use Rattle.nb_network.proofs.opens.Opens.close_at.Goals as goal

pub returns : goal.returns
returns c = record {
  closes = λ o at.
      let x = c.bare-open.result in
      let list = c.args.self.now.list in
      let told : Spelling = c.in_ok-desk.desk.told.value in
      let end = out_texts (ended x.speaker.number c.args.cause.now ∷ []) in
      let v : c.self.inside.list.items ≡ list = ap (λ (m : Many). m.list) c.self.view_is in
      let same : x ≡ bare_open o = c.bare-open.ensures ∙ ap bare_open (c.remove.ensures.value ∙ ap (λ os. get_or os c.args.place c.remove.result) v ∙ open_at list c.args.place c.remove.result o at) in
      record {
        told = told;
        closes = subst (λ (m : Many). ClosesOpen (bare_open o) c.args.cause.now c.args.net.now m.graph c.close.new.graph told) c.self.view_is
            (subst (λ (y : Open). ClosesOpen y c.args.cause.now c.args.net.now c.self.inside.graph c.close.new.graph told) same c.in_ok-desk.ensures);
        list = c.remove.ensures.items ∙ ap (λ os. remove os c.args.place) v ∙ removed_at list c.args.place o at;
        net_is = subst (λ (z : Open). c.unbind.new.self ≡ record c.args.net.now { ports = without (carrier_number z.speaker.carrier) z.speaker.own_port c.args.net.now.ports }) same
            (c.unbind.ensures ∙ ap (λ p. record c.args.net.now { ports = without p x.speaker.own_port c.args.net.now.ports }) c.number.ensures);
        puts = subst (λ (y : Open). Puts c.args.gathered.now c.put_over.new.log (told.text ++ out_texts (ended y.speaker.number c.args.cause.now ∷ []))) same
            (Puts-append told.text end (subst (λ (s : Spelling). Puts c.args.gathered.now c.put_told.new.log s.text) c.deref.ensures c.put_told.ensures.text) c.put_over.ensures);
        noded = c.has_nodes.ensures;
      };
}
