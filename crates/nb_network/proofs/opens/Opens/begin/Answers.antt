use Rattle.std.proofs.Common.{◌≡◌, ℕ, ◌+◌, ◌<◌, [], Some, sym, subst}
use Rattle.nb_graph.specs.Whole.{Objects}
use Rattle.nb_nodes.specs.declared.obj.Obj.{Obj}
use Rattle.nb_chains.specs.declared.chain.Chain.{Chain}
use Rattle.nb_chains.specs.declared.kind.ChainKind.TheVariants as chain
use Rattle.nb_open.specs.Begins.{IsLatest, waiting_pieces, BeginsOpen}
use Rattle.nb_open.specs.declared.open.Open.{Open}
use Rattle.nb_open.specs.Opening.{chain_kind, own_by}
use Rattle.nb_network.specs.Many.{AreSound, HasNoneTied, Many, WaitsBeside, port_for}
use Rattle.nb_network.specs.Openings.{OpensOne}
use Rattle.nb_network.proofs.Beginning.{one_opens, one_sound}
use Rattle.nb_network.proofs.opens.Opens.begin.Goals as goal

pub returns-clause-opens : goal.returns-clause-opens
returns-clause-opens c =
    let a = c.args.opening.now in
    let net = c.args.net.now in
    let number = c.args.number in
    let waits = c.args.waits in
    let enters = c.in_ok-ended.ensures.enters in
    subst (λ (m : Many). IsLatest waits m.graph → ((d : Chain) → waits ≡ Some d → WaitsBeside (chain_kind a) d m) → (w : ℕ) → AreSound w number net m → OpensOne m net c.args.now number a (waiting_pieces (chain_kind a) waits) [] c.enter.new.self c.enter.new.net c.in_ok-ended.ended c.in_ok-begun.desk.made.value.text c.in_ok-begun.desk.told.value.text)
    c.self.view_is
    (λ latest beside w sound.
    subst (λ (h : Objects Obj). OpensOne (record { graph = c.self.inside.graph; list = c.self.inside.list.items }) net c.args.now number a (waiting_pieces (chain_kind a) waits) [] (record { graph = h; list = c.enter.new.self.list }) c.enter.new.net c.in_ok-ended.ended c.in_ok-begun.desk.made.value.text c.in_ok-begun.desk.told.value.text)
    (sym c.enter.ensures.graph)
    (one_opens a number c.args.now waits net c.self.inside.graph c.begin.new.graph c.self.inside.list.items c.enter.new.self.list c.in_ok-begun.desk.made.value c.in_ok-begun.desk.told.value c.in_ok-fresh.fresh c.in_ok-begun.begun.ended c.in_ok-fresh.ensures.drive (subst (λ (y : Open). BeginsOpen a number c.args.now waits net c.self.inside.graph c.begin.new.graph c.in_ok-begun.desk.made.value c.in_ok-begun.desk.told.value (record { «open» = y; ended = c.in_ok-begun.begun.ended })) (sym c.in_ok-fresh.ensures.bare) c.in_ok-begun.ensures)
    c.has_nodes.ensures latest beside c.enter.new.net c.in_ok-ended.ended enters.0 enters.1 w sound))
    c.requires.latest c.requires.beside

pub returns-clause-sound : goal.returns-clause-sound
returns-clause-sound c =
    let a = c.args.opening.now in
    let net = c.args.net.now in
    let number = c.args.number in
    let waits = c.args.waits in
    let enters = c.in_ok-ended.ensures.enters in
    subst (λ (m : Many). IsLatest waits m.graph → ((d : Chain) → waits ≡ Some d → WaitsBeside (chain_kind a) d m) → (w : ℕ) → AreSound w number net m → number < 16384 → own_by a ≡ port_for (chain_kind a) w number → (chain_kind a ≡ chain.Lease → HasNoneTied m) → AreSound w (number + 1) c.enter.new.net c.enter.new.self)
    c.self.view_is
    (λ latest beside w sound few own lease.
    subst (λ (h : Objects Obj). AreSound w (number + 1) c.enter.new.net (record { graph = h; list = c.enter.new.self.list }))
    (sym c.enter.ensures.graph)
    (one_sound a number c.args.now waits net c.self.inside.graph c.begin.new.graph c.self.inside.list.items c.enter.new.self.list c.in_ok-begun.desk.made.value c.in_ok-begun.desk.told.value c.in_ok-fresh.fresh c.in_ok-begun.begun.ended c.in_ok-fresh.ensures.drive (subst (λ (y : Open). BeginsOpen a number c.args.now waits net c.self.inside.graph c.begin.new.graph c.in_ok-begun.desk.made.value c.in_ok-begun.desk.told.value (record { «open» = y; ended = c.in_ok-begun.begun.ended })) (sym c.in_ok-fresh.ensures.bare) c.in_ok-begun.ensures)
    c.has_nodes.ensures latest beside c.enter.new.net c.in_ok-ended.ended enters.0 enters.1 w sound few own lease))
    c.requires.latest c.requires.beside
