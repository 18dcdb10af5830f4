use Rattle.std.proofs.Common.{◌≡◌, ◌==◌, ◌∷◌, [], ◌++◌, get_or, sym, ◌∙◌, subst, ap}
use Rattle.std.specs.List.{AllByRecursion, remove}
use Rattle.nb_defs.specs.Records.{ended, out_texts}
use Rattle.nb_machine.specs.Lives.{Live}
use Rattle.nb_record.specs.Logged.{Puts}
use Rattle.nb_runner.proofs.Puts.{Puts-append}
use Rattle.nb_stack.specs.Bound.{without}
use Rattle.nb_teller.specs.Speakers.{carrier_number}
use Rattle.nb_teller.specs.Spelling.{Spelling}
use Rattle.nb_open.specs.declared.open.Open.{Open}
use Rattle.nb_open.specs.Ends.{MayWaitBeside, ShutsWith}
use Rattle.nb_open.specs.Open.{IsOpenOf as IsBareOf}
use Rattle.nb_network.specs.Many.{IsLivingOfSome, Many, bare_open}
use Rattle.nb_network.specs.Shutting.{ends_beside, parted_by}
use Rattle.nb_network.proofs.Shuts.{may_beside}
use Rattle.nb_network.proofs.Hearing.{bare_is}
use Rattle.nb_network.proofs.opens.Opens.shut_first.Goals as goal

pub shut_down-requires-clause-beside : goal.shut_down-requires-clause-beside
shut_down-requires-clause-beside c =
    let x = c.bare-open.result in
    subst (λ p. MayWaitBeside p.0 x.objects) (sym (c.parted-with.ensures ∙ ap (λ b. parted_by b c.args.waits) c.ends_with.ensures)) (may_beside x.objects (x.speaker.number == c.args.beside) c.args.waits)

pub returns : goal.returns
returns c = record {
  shuts = λ o rest is.
      let x = c.bare-open.result in
      let told : Spelling = c.in_ok-desk.desk.told.value in
      let end = out_texts (ended x.speaker.number c.args.cause.now ∷ []) in
      let v : c.self.inside.list.items ≡ o ∷ rest = ap (λ (m : Many). m.list) c.self.view_is ∙ is in
      let same : x ≡ bare_open o = c.bare-open.ensures ∙ ap bare_open (c.remove.ensures.value ∙ ap (λ os. get_or os 0 c.remove.result) v) in
      let parts : c.parted-with.result ≡ parted_by (ends_beside x.objects (x.speaker.number == c.args.beside)) c.args.waits = c.parted-with.ensures ∙ ap (λ b. parted_by b c.args.waits) c.ends_with.ensures in
      let some : IsLivingOfSome c.args.self.now.graph o = (subst (AllByRecursion (IsLivingOfSome c.args.self.now.graph)) is c.requires.sound.2.lives).0 in
      record {
        now = ends_beside x.objects (x.speaker.number == c.args.beside);
        parts = ap (λ p. p.1) parts;
        told = told;
        shuts = subst (λ w. ShutsWith c.args.kind (bare_open o) w c.args.cause.now c.args.net.now c.args.self.now.graph c.shut_down.new.graph told) (ap (λ p. p.0) parts)
            (subst (λ (m : Many). (l : Live) → IsBareOf m.graph (bare_open o) l → ShutsWith c.args.kind (bare_open o) c.parted-with.result.0 c.args.cause.now c.args.net.now m.graph c.shut_down.new.graph told) c.self.view_is
            (subst (λ (y : Open). (l : Live) → IsBareOf c.self.inside.graph y l → ShutsWith c.args.kind y c.parted-with.result.0 c.args.cause.now c.args.net.now c.self.inside.graph c.shut_down.new.graph told) same c.in_ok-desk.ensures)
            some.0 (bare_is some.1));
        list = c.remove.ensures.items ∙ ap (λ os. remove os 0) v;
        net_is = subst (λ (z : Open). c.unbind.new.self ≡ record c.args.net.now { ports = without (carrier_number z.speaker.carrier) z.speaker.own_port c.args.net.now.ports }) same
            (c.unbind.ensures ∙ ap (λ p. record c.args.net.now { ports = without p x.speaker.own_port c.args.net.now.ports }) c.number.ensures);
        puts = subst (λ (y : Open). Puts c.args.gathered.now c.put_over.new.log (told.text ++ out_texts (ended y.speaker.number c.args.cause.now ∷ []))) same
            (Puts-append told.text end (subst (λ (s : Spelling). Puts c.args.gathered.now c.put_told.new.log s.text) c.deref.ensures c.put_told.ensures.text) c.put_over.ensures);
        noded = c.has_nodes.ensures;
      };
}
