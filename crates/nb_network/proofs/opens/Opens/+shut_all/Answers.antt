use Rattle.std.proofs.Common.{◌≡◌, ℕ, [], length, sym, ◌∙◌, ap, arith}
use Rattle.std.proofs.lemmas.Bool.{eqb-true, eqb-false}
use Rattle.nb_stack.specs.Client.{Client}
use Rattle.nb_open.specs.Begins.{waiting_pieces}
use Rattle.nb_network.specs.Closings.{ClosesMany}
use Rattle.nb_network.specs.Many.{AreSound, Many}
use Rattle.nb_network.specs.Shutting.{LetsWaitingGo}
use Rattle.nb_network.proofs.Places.{none_there, some_first}
use Rattle.nb_network.proofs.Results.{on_map}
use Rattle.nb_network.proofs.Shuts.{left_beside, let_sound, shut_sound, shuts_more, shuts_none}
use Rattle.nb_network.proofs.opens.Opens.+shut_all.Goals as goal

pub returns-then-is_empty-clause-closes : goal.returns-then-is_empty-clause-closes
returns-then-is_empty-clause-closes t c =
    let v : length c.self.inside.list.items ≡ length c.args.self.now.list = ap (λ (m : Many). length m.list) c.self.view_is in
    let e = eqb-true _ 0 (sym c.is_empty.ensures ∙ c.if-is_empty.true) in
    let none : c.args.self.now.list ≡ [] = none_there c.args.self.now.list (omega (arith, e, v)) in
    on_map (LetsWaitingGo c.args.kind c.args.waits c.args.self.now c.args.net.now c.let_go.new.self c.args.gathered.now c.let_go.new.gathered)
    ((w opens : ℕ) → AreSound w opens c.args.net.now c.args.self.now → ClosesMany c.args.self.now c.args.net.now c.args.now opens c.args.cause.now (waiting_pieces c.args.kind c.args.waits) [] c.let_go.new.self c.args.gathered.now c.let_go.new.gathered)
    c.let_go.result
    (λ x w opens sound. shuts_none c.args.kind c.args.waits c.args.self.now c.args.net.now w opens c.args.now c.args.cause.now c.let_go.new.self c.args.gathered.now c.let_go.new.gathered none sound x)
    c.let_go.ensures.lets

pub returns-then-is_empty-clause-sound : goal.returns-then-is_empty-clause-sound
returns-then-is_empty-clause-sound t c =
    on_map (LetsWaitingGo c.args.kind c.args.waits c.args.self.now c.args.net.now c.let_go.new.self c.args.gathered.now c.let_go.new.gathered)
    ((w opens : ℕ) → AreSound w opens c.args.net.now c.args.self.now → AreSound w opens c.args.net.now c.let_go.new.self)
    c.let_go.result
    (λ x w opens sound. let_sound c.args.kind c.args.waits c.args.self.now c.args.net.now w opens c.let_go.new.self c.args.gathered.now c.let_go.new.gathered sound x)
    c.let_go.ensures.lets

pub shut_all-requires : goal.shut_all-requires
shut_all-requires t c =
    let v : length c.self.inside.list.items ≡ length c.args.self.now.list = ap (λ (m : Many). length m.list) c.self.view_is in
    let f = some_first c.args.self.now.list (λ e. eqb-false _ 0 (sym c.is_empty.ensures ∙ c.if-is_empty.false) (omega (arith, e, v))) in
    let x = c.in_ok-left.ensures.shuts f.0 f.1 f.2 in (
      let a = ap length x.list in let b = ap length f.2 in let d = c.decreases in omega (arith, a, b, d),
      (
        (c.requires.sound.0, c.requires.sound.1, shut_sound c.args.kind c.args.self.now c.args.net.now c.requires.sound.0 c.requires.sound.1 c.args.now c.args.cause.now f.0 f.1 c.args.waits c.in_ok-left.left c.shut_first.new.self c.shut_first.new.net c.args.gathered.now c.shut_first.new.gathered f.2 c.requires.sound.2 c.requires.waits x),
        left_beside c.args.kind c.args.self.now c.args.net.now c.requires.sound.0 c.requires.sound.1 c.args.now c.args.cause.now f.0 f.1 c.args.waits c.in_ok-left.left c.shut_first.new.self c.shut_first.new.net c.args.gathered.now c.shut_first.new.gathered f.2 c.requires.sound.2 c.requires.waits x,
      ),
    )

pub returns-clause-closes : goal.returns-clause-closes
returns-clause-closes t c =
    let v : length c.self.inside.list.items ≡ length c.args.self.now.list = ap (λ (m : Many). length m.list) c.self.view_is in
    let f = some_first c.args.self.now.list (λ e. eqb-false _ 0 (sym c.is_empty.ensures ∙ c.if-is_empty.false) (omega (arith, e, v))) in
    let x = c.in_ok-left.ensures.shuts f.0 f.1 f.2 in
    on_map
    ((w opens : ℕ) → AreSound w opens c.shut_first.new.net c.shut_first.new.self → ClosesMany c.shut_first.new.self c.shut_first.new.net c.args.now opens c.args.cause.now (waiting_pieces c.args.kind c.in_ok-left.left) [] c.shut_all.new.self c.shut_first.new.gathered c.shut_all.new.gathered)
    ((w opens : ℕ) → AreSound w opens c.args.net.now c.args.self.now → ClosesMany c.args.self.now c.args.net.now c.args.now opens c.args.cause.now (waiting_pieces c.args.kind c.args.waits) [] c.shut_all.new.self c.args.gathered.now c.shut_all.new.gathered)
    c.shut_all.result
    (λ h w opens sound.
    shuts_more c.args.kind c.args.self.now c.args.net.now w opens c.args.now c.args.cause.now f.0 f.1 c.args.waits c.in_ok-left.left c.shut_first.new.self c.shut_first.new.net c.args.gathered.now c.shut_first.new.gathered f.2 sound c.requires.waits x c.shut_all.new.self c.shut_all.new.gathered
    (h w opens (shut_sound c.args.kind c.args.self.now c.args.net.now w opens c.args.now c.args.cause.now f.0 f.1 c.args.waits c.in_ok-left.left c.shut_first.new.self c.shut_first.new.net c.args.gathered.now c.shut_first.new.gathered f.2 sound c.requires.waits x)))
    c.shut_all.ensures.closes

pub returns-clause-sound : goal.returns-clause-sound
returns-clause-sound t c =
    let v : length c.self.inside.list.items ≡ length c.args.self.now.list = ap (λ (m : Many). length m.list) c.self.view_is in
    let f = some_first c.args.self.now.list (λ e. eqb-false _ 0 (sym c.is_empty.ensures ∙ c.if-is_empty.false) (omega (arith, e, v))) in
    let x = c.in_ok-left.ensures.shuts f.0 f.1 f.2 in
    on_map
    ((w opens : ℕ) → AreSound w opens c.shut_first.new.net c.shut_first.new.self → AreSound w opens c.shut_all.new.net c.shut_all.new.self)
    ((w opens : ℕ) → AreSound w opens c.args.net.now c.args.self.now → AreSound w opens c.shut_all.new.net c.shut_all.new.self)
    c.shut_all.result
    (λ h w opens sound. h w opens (shut_sound c.args.kind c.args.self.now c.args.net.now w opens c.args.now c.args.cause.now f.0 f.1 c.args.waits c.in_ok-left.left c.shut_first.new.self c.shut_first.new.net c.args.gathered.now c.shut_first.new.gathered f.2 sound c.requires.waits x))
    c.shut_all.ensures.sound

pub returns-clause-net : goal.returns-clause-net
returns-clause-net t c =
    let v : length c.self.inside.list.items ≡ length c.args.self.now.list = ap (λ (m : Many). length m.list) c.self.view_is in
    let f = some_first c.args.self.now.list (λ e. eqb-false _ 0 (sym c.is_empty.ensures ∙ c.if-is_empty.false) (omega (arith, e, v))) in
    let x = c.in_ok-left.ensures.shuts f.0 f.1 f.2 in
    on_map
    (c.shut_all.new.net ≡ record c.shut_first.new.net { ports = [] })
    (c.shut_all.new.net ≡ record c.args.net.now { ports = [] })
    c.shut_all.result
    (λ e. e ∙ ap (λ (z : Client). record z { ports = [] }) x.net_is)
    c.shut_all.ensures.net

pub returns-clause-serials : goal.returns-clause-serials
returns-clause-serials t c =
    let v : length c.self.inside.list.items ≡ length c.args.self.now.list = ap (λ (m : Many). length m.list) c.self.view_is in
    let f = some_first c.args.self.now.list (λ e. eqb-false _ 0 (sym c.is_empty.ensures ∙ c.if-is_empty.false) (omega (arith, e, v))) in
    let x = c.in_ok-left.ensures.shuts f.0 f.1 f.2 in
    on_map
    (c.shut_all.new.self.graph.book.made ≡ c.shut_first.new.self.graph.book.made)
    (c.shut_all.new.self.graph.book.made ≡ c.args.self.now.graph.book.made)
    c.shut_all.result
    (λ e. e ∙ x.shuts.others.same_made)
    c.shut_all.ensures.serials
