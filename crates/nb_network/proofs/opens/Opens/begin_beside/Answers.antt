use Rattle.std.proofs.Common.{◌≡◌, ℕ, ◌+◌, ◌<◌, [], sym, subst}
use Rattle.nb_graph.specs.Whole.{Objects}
use Rattle.nb_nodes.specs.declared.obj.Obj.{Obj}
use Rattle.nb_chains.specs.declared.kind.ChainKind.TheVariants as chain
use Rattle.nb_open.specs.Open.{pieces_of}
use Rattle.nb_open.specs.declared.open.Open.{Open}
use Rattle.nb_open.specs.Opening.{chain_kind, own_by}
use Rattle.nb_network.specs.Many.{AreSound, HasNoneTied, IsNewestBut, Many, WaitsBeside, port_for}
use Rattle.nb_network.specs.Openings.{OpensOne, number_by}
use Rattle.nb_network.proofs.Beginning.{beside_opens, beside_sound, beside_waits}
use Rattle.nb_network.proofs.Newest.{beside_newest}
use Rattle.nb_network.proofs.opens.Opens.begin_beside.Goals as goal
use Rattle.nb_open.specs.Begins.{BeginsBeside}

pub returns-clause-opens : goal.returns-clause-opens
returns-clause-opens c =
    let a = c.args.opening.now in
    let net = c.args.net.now in
    let number = c.args.number in
    let enters = c.in_ok-ended.ensures.enters in
    subst (λ (m : Many). (w : ℕ) → AreSound w number net m → OpensOne m net c.args.now number a [] (pieces_of c.args.kind c.in_ok-waits.waits) c.enter.new.self c.enter.new.net c.in_ok-ended.ended c.in_ok-waits.desk.made.value.text c.in_ok-waits.desk.told.value.text)
    c.self.view_is
    (λ w sound.
    subst (λ (h : Objects Obj). OpensOne (record { graph = c.self.inside.graph; list = c.self.inside.list.items }) net c.args.now number a [] (pieces_of c.args.kind c.in_ok-waits.waits) (record { graph = h; list = c.enter.new.self.list }) c.enter.new.net c.in_ok-ended.ended c.in_ok-waits.desk.made.value.text c.in_ok-waits.desk.told.value.text)
    (sym c.enter.ensures.graph)
    (beside_opens c.args.kind a number c.args.now net c.self.inside.graph c.begin_beside.new.graph c.self.inside.list.items c.enter.new.self.list c.in_ok-waits.desk.made.value c.in_ok-waits.desk.told.value c.in_ok-waits.waits c.in_ok-fresh.fresh c.in_ok-waits.begun.ended c.in_ok-fresh.ensures.drive (subst (λ (y : Open). BeginsBeside c.args.kind a number c.args.now net c.self.inside.graph c.begin_beside.new.graph c.in_ok-waits.desk.made.value c.in_ok-waits.desk.told.value c.in_ok-waits.waits (record { «open» = y; ended = c.in_ok-waits.begun.ended })) (sym c.in_ok-fresh.ensures.bare) c.in_ok-waits.ensures)
    c.has_nodes.ensures c.enter.new.net c.in_ok-ended.ended enters.0 enters.1 w sound))

pub returns-clause-waits : goal.returns-clause-waits
returns-clause-waits c =
    let a = c.args.opening.now in
    let net = c.args.net.now in
    let number = c.args.number in
    let enters = c.in_ok-ended.ensures.enters in
    subst (λ (m : Many). AreSound c.requires.sound.0 number net m → WaitsBeside c.args.kind c.in_ok-waits.waits c.enter.new.self)
    c.self.view_is
    (λ sound.
    subst (λ (h : Objects Obj). WaitsBeside c.args.kind c.in_ok-waits.waits (record { graph = h; list = c.enter.new.self.list }))
    (sym c.enter.ensures.graph)
    (beside_waits c.args.kind a number c.args.now net c.self.inside.graph c.begin_beside.new.graph c.self.inside.list.items c.enter.new.self.list c.in_ok-waits.desk.made.value c.in_ok-waits.desk.told.value c.in_ok-waits.waits c.in_ok-fresh.fresh c.in_ok-waits.begun.ended c.in_ok-fresh.ensures.drive (subst (λ (y : Open). BeginsBeside c.args.kind a number c.args.now net c.self.inside.graph c.begin_beside.new.graph c.in_ok-waits.desk.made.value c.in_ok-waits.desk.told.value c.in_ok-waits.waits (record { «open» = y; ended = c.in_ok-waits.begun.ended })) (sym c.in_ok-fresh.ensures.bare) c.in_ok-waits.ensures)
    c.has_nodes.ensures c.enter.new.net c.in_ok-ended.ended enters.0 enters.1 sound.lives))
    c.requires.sound.1

pub returns-clause-sound : goal.returns-clause-sound
returns-clause-sound c =
    let a = c.args.opening.now in
    let net = c.args.net.now in
    let number = c.args.number in
    let enters = c.in_ok-ended.ensures.enters in
    subst (λ (m : Many). (w : ℕ) → AreSound w number net m → number < 16384 → own_by a ≡ port_for (chain_kind a) w number → (chain_kind a ≡ chain.Lease → HasNoneTied m) → AreSound w (number + 1) c.enter.new.net c.enter.new.self)
    c.self.view_is
    (λ w sound few own lease.
    subst (λ (h : Objects Obj). AreSound w (number + 1) c.enter.new.net (record { graph = h; list = c.enter.new.self.list }))
    (sym c.enter.ensures.graph)
    (beside_sound c.args.kind a number c.args.now net c.self.inside.graph c.begin_beside.new.graph c.self.inside.list.items c.enter.new.self.list c.in_ok-waits.desk.made.value c.in_ok-waits.desk.told.value c.in_ok-waits.waits c.in_ok-fresh.fresh c.in_ok-waits.begun.ended c.in_ok-fresh.ensures.drive (subst (λ (y : Open). BeginsBeside c.args.kind a number c.args.now net c.self.inside.graph c.begin_beside.new.graph c.in_ok-waits.desk.made.value c.in_ok-waits.desk.told.value c.in_ok-waits.waits (record { «open» = y; ended = c.in_ok-waits.begun.ended })) (sym c.in_ok-fresh.ensures.bare) c.in_ok-waits.ensures)
    c.has_nodes.ensures c.enter.new.net c.in_ok-ended.ended enters.0 enters.1 w sound few own lease))

pub returns-clause-newest : goal.returns-clause-newest
returns-clause-newest c =
    let enters = c.in_ok-ended.ensures.enters in
    subst (λ (h : Objects Obj). IsNewestBut (number_by c.in_ok-ended.ended c.args.number) c.in_ok-waits.waits (record { graph = h; list = c.enter.new.self.list }))
    (sym c.enter.ensures.graph)
    (beside_newest c.args.kind c.args.opening.now c.args.number c.args.now c.args.net.now c.self.inside.graph c.begin_beside.new.graph c.self.inside.list.items c.enter.new.self.list c.in_ok-waits.desk.made.value c.in_ok-waits.desk.told.value
    c.in_ok-waits.waits c.in_ok-fresh.fresh c.in_ok-waits.begun.ended (subst (λ (y : Open). BeginsBeside c.args.kind c.args.opening.now c.args.number c.args.now c.args.net.now c.self.inside.graph c.begin_beside.new.graph c.in_ok-waits.desk.made.value c.in_ok-waits.desk.told.value c.in_ok-waits.waits (record { «open» = y; ended = c.in_ok-waits.begun.ended })) (sym c.in_ok-fresh.ensures.bare) c.in_ok-waits.ensures) c.enter.new.net c.in_ok-ended.ended enters.0 enters.1)
