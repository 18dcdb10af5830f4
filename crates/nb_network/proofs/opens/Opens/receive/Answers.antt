use Rattle.std.proofs.Common.{◌≡◌, Some, get_or, sym, ◌∙◌, subst, ap}
use Rattle.nb_graph.specs.Noded.{AreNoded}
use Rattle.nb_graph.specs.Whole.{Objects}
use Rattle.nb_ledger.specs.declared.event.Way.TheVariants.{Up}
use Rattle.nb_machine.specs.Lives.{Live}
use Rattle.nb_nodes.specs.Objects.{rank_of_obj}
use Rattle.nb_nodes.specs.declared.obj.Obj.{Obj}
use Rattle.nb_open.specs.declared.open.Open.{Open}
use Rattle.nb_open.specs.Exchanges.{Exchanges, IsInput}
use Rattle.nb_open.specs.Open.{IsOpenOf as IsBareOf}
use Rattle.nb_network.specs.Drives.{brings}
use Rattle.nb_network.specs.Many.{Many, bare_open}
use Rattle.nb_network.proofs.Hearing.{bare_is, heard_input}
use Rattle.nb_network.specs.Steps.{IsOpenAt}
use Rattle.nb_network.proofs.Places.{open_at}
use Rattle.nb_network.proofs.opens.Opens.receive.Goals as goal

pub returns-clause-receives : goal.returns-clause-receives
returns-clause-receives c = λ o at. (
  c.in_ok-ended.ended,
  λ came.
      let list = c.args.self.now.list in
      let x = c.index.result.now in
      let s = c.in_ok-ended.desk.told.value in
      let e = c.in_ok-ended.ended in
      let v : c.self.inside.list.items ≡ list = ap (λ (m : Many). m.list) c.self.view_is in
      let same : c.bare-open.result ≡ bare_open o = c.bare-open.ensures ∙ ap bare_open (c.index.ensures ∙ ap (λ os. get_or os c.args.place x) v ∙ open_at list c.args.place x o at) in
      let there : IsOpenAt c.self.inside.list.items c.args.place o = record { before = at.before; behind = at.behind; all = v ∙ at.all; place_is = at.place_is } in
      record {
        told = s;
        does = λ l i fit. (subst (λ (h : Objects Obj). (l : Live) → IsBareOf c.args.self.now.graph (bare_open o) l → IsInput (bare_open o) l c.args.rec c.args.arrival.now c.args.now came → Exchanges (bare_open o) l came c.args.net.now (Some Up) c.args.self.now.graph h s e) (sym c.settle.ensures.graph)
            (subst (λ (m : Many). (l : Live) → IsBareOf m.graph (bare_open o) l → IsInput (bare_open o) l c.args.rec c.args.arrival.now c.args.now came → Exchanges (bare_open o) l came c.args.net.now (Some Up) m.graph c.receive.new.graph s e) c.self.view_is
            (subst (λ (y : Open). (l : Live) → IsBareOf c.self.inside.graph y l → IsInput y l c.args.rec c.args.arrival.now c.args.now came → Exchanges y l came c.args.net.now (Some Up) c.self.inside.graph c.receive.new.graph s e) same
            (λ l i u. c.in_ok-ended.ensures l came i u)))) l (bare_is i) fit;
        heard = brings s.answer s.blocks;
        heard_is = λ l fit. heard_input (bare_open o) l c.args.rec c.args.arrival.now c.args.now came s fit;
        settles = c.in_ok-found.ensures.settles o there;
        noded = subst (λ (h : Objects Obj). AreNoded rank_of_obj h) (sym c.settle.ensures.graph) c.has_nodes.ensures;
      },
)
