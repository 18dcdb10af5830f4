use Rattle.std.proofs.Common.{◌≡◌, Some, get_or, sym, ◌∙◌, subst, ap, refl}
use Rattle.nb_graph.specs.Noded.{AreNoded}
use Rattle.nb_graph.specs.Whole.{Objects}
use Rattle.nb_ledger.specs.declared.event.Way.TheVariants.{Time}
use Rattle.nb_machine.specs.Lives.{Live, time}
use Rattle.nb_nodes.specs.Objects.{rank_of_obj}
use Rattle.nb_nodes.specs.declared.obj.Obj.{Obj}
use Rattle.nb_open.specs.declared.open.Open.{Open}
use Rattle.nb_open.specs.Exchanges.{Exchanges}
use Rattle.nb_open.specs.Open.{IsOpenOf as IsBareOf}
use Rattle.nb_network.specs.Drives.{brings}
use Rattle.nb_network.specs.Many.{Many, bare_open}
use Rattle.nb_network.proofs.Hearing.{bare_is}
use Rattle.nb_network.specs.Steps.{IsOpenAt}
use Rattle.nb_network.proofs.Places.{open_at}
use Rattle.nb_network.proofs.opens.Opens.pass_at.Goals as goal

pub returns-clause-comes : goal.returns-clause-comes
returns-clause-comes c = (
  c.in_ok-ended.ended,
  c.next_place-next.ensures,
  λ o at.
      let list = c.args.self.now.list in
      let x = c.index.result.now in
      let v : c.self.inside.list.items ≡ list = ap (λ (m : Many). m.list) c.self.view_is in
      let same : c.bare-open.result ≡ bare_open o = c.bare-open.ensures ∙ ap bare_open (c.index.ensures ∙ ap (λ os. get_or os c.args.place x) v ∙ open_at list c.args.place x o at) in
      let there : IsOpenAt c.self.inside.list.items c.args.place o = record { before = at.before; behind = at.behind; all = v ∙ at.all; place_is = at.place_is } in
      record {
        told = c.in_ok-ended.desk.told.value;
        does = λ l i fit. (subst (λ (h : Objects Obj). (l : Live) → IsBareOf c.args.self.now.graph (bare_open o) l → Unit {0} → Exchanges (bare_open o) l (time c.args.now) c.args.net.now (Some Time) c.args.self.now.graph h c.in_ok-ended.desk.told.value c.in_ok-ended.ended) (sym c.settle.ensures.graph)
            (subst (λ (m : Many). (l : Live) → IsBareOf m.graph (bare_open o) l → Unit {0} → Exchanges (bare_open o) l (time c.args.now) c.args.net.now (Some Time) m.graph c.pass_time.new.graph c.in_ok-ended.desk.told.value c.in_ok-ended.ended) c.self.view_is
            (subst (λ (y : Open). (l : Live) → IsBareOf c.self.inside.graph y l → Unit {0} → Exchanges y l (time c.args.now) c.args.net.now (Some Time) c.self.inside.graph c.pass_time.new.graph c.in_ok-ended.desk.told.value c.in_ok-ended.ended) same
            (λ l i u. c.in_ok-ended.ensures l i)))) l (bare_is i) fit;
        heard = (let told = c.in_ok-ended.desk.told.value in brings told.answer told.blocks);
        heard_is = λ l fit. refl;
        settles = c.in_ok-found.ensures.settles o there;
        noded = subst (λ (h : Objects Obj). AreNoded rank_of_obj h) (sym c.settle.ensures.graph) c.has_nodes.ensures;
      },
)
