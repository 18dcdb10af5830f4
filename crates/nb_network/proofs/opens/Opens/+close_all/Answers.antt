use Rattle.std.proofs.Common.{◌≡◌, ℕ, [], length, sym, ◌∙◌, ap, arith}
use Rattle.std.proofs.lemmas.Bool.{eqb-true, eqb-false}
use Rattle.nb_stack.specs.Client.{Client}
use Rattle.nb_network.specs.Closings.{ClosesMany}
use Rattle.nb_network.specs.Many.{AreSound, Many}
use Rattle.nb_network.proofs.Closes.{closes_more, closes_none, first_leaves}
use Rattle.nb_network.proofs.Places.{none_there, some_first}
use Rattle.nb_network.proofs.Results.{on_map}
use Rattle.nb_network.proofs.opens.Opens.+close_all.Goals as goal

pub returns-then-is_empty-clause-closes : goal.returns-then-is_empty-clause-closes
returns-then-is_empty-clause-closes t c = λ w opens sound.
    let v : length c.self.inside.list.items ≡ length c.args.self.now.list = ap (λ (m : Many). length m.list) c.self.view_is in
    let e = eqb-true _ 0 (sym c.is_empty.ensures ∙ c.if-is_empty.true) in
    closes_none c.args.self.now c.args.net.now c.args.now opens c.args.cause.now c.args.gathered.now (none_there c.args.self.now.list (omega (arith, e, v)))

pub close_all-requires : goal.close_all-requires
close_all-requires t c =
    let v : length c.self.inside.list.items ≡ length c.args.self.now.list = ap (λ (m : Many). length m.list) c.self.view_is in
    let f = some_first c.args.self.now.list (λ e. eqb-false _ 0 (sym c.is_empty.ensures ∙ c.if-is_empty.false) (omega (arith, e, v))) in
    let x = c.in_ok-desk.ensures.closes f.0 f.1 f.2 in (
      let a = ap length x.list in let b = ap length f.2 in let d = c.decreases in omega (arith, a, b, d),
      (c.requires.sound.0, c.requires.sound.1, (first_leaves c.args.self.now c.args.net.now c.requires.sound.0 c.requires.sound.1 c.args.now c.args.cause.now f.0 f.1 c.close_first.new.self c.close_first.new.net c.args.gathered.now c.close_first.new.gathered f.2 c.requires.sound.2 x).sound),
    )

pub returns-clause-closes : goal.returns-clause-closes
returns-clause-closes t c =
    let v : length c.self.inside.list.items ≡ length c.args.self.now.list = ap (λ (m : Many). length m.list) c.self.view_is in
    let f = some_first c.args.self.now.list (λ e. eqb-false _ 0 (sym c.is_empty.ensures ∙ c.if-is_empty.false) (omega (arith, e, v))) in
    let x = c.in_ok-desk.ensures.closes f.0 f.1 f.2 in
    on_map
    ((w opens : ℕ) → AreSound w opens c.close_first.new.net c.close_first.new.self → ClosesMany c.close_first.new.self c.close_first.new.net c.args.now opens c.args.cause.now [] [] c.close_all.new.self c.close_first.new.gathered c.close_all.new.gathered)
    ((w opens : ℕ) → AreSound w opens c.args.net.now c.args.self.now → ClosesMany c.args.self.now c.args.net.now c.args.now opens c.args.cause.now [] [] c.close_all.new.self c.args.gathered.now c.close_all.new.gathered)
    c.close_all.result
    (λ h w opens sound.
    closes_more c.args.self.now c.args.net.now w opens c.args.now c.args.cause.now f.0 f.1 c.close_first.new.self c.close_first.new.net c.args.gathered.now c.close_first.new.gathered f.2 sound x c.close_all.new.self c.close_all.new.gathered
    (h w opens (first_leaves c.args.self.now c.args.net.now w opens c.args.now c.args.cause.now f.0 f.1 c.close_first.new.self c.close_first.new.net c.args.gathered.now c.close_first.new.gathered f.2 sound x).sound))
    c.close_all.ensures.closes

pub returns-clause-sound : goal.returns-clause-sound
returns-clause-sound t c =
    let v : length c.self.inside.list.items ≡ length c.args.self.now.list = ap (λ (m : Many). length m.list) c.self.view_is in
    let f = some_first c.args.self.now.list (λ e. eqb-false _ 0 (sym c.is_empty.ensures ∙ c.if-is_empty.false) (omega (arith, e, v))) in
    let x = c.in_ok-desk.ensures.closes f.0 f.1 f.2 in
    on_map
    ((w opens : ℕ) → AreSound w opens c.close_first.new.net c.close_first.new.self → AreSound w opens c.close_all.new.net c.close_all.new.self)
    ((w opens : ℕ) → AreSound w opens c.args.net.now c.args.self.now → AreSound w opens c.close_all.new.net c.close_all.new.self)
    c.close_all.result
    (λ h w opens sound. h w opens (first_leaves c.args.self.now c.args.net.now w opens c.args.now c.args.cause.now f.0 f.1 c.close_first.new.self c.close_first.new.net c.args.gathered.now c.close_first.new.gathered f.2 sound x).sound)
    c.close_all.ensures.sound

pub returns-clause-net : goal.returns-clause-net
returns-clause-net t c =
    let v : length c.self.inside.list.items ≡ length c.args.self.now.list = ap (λ (m : Many). length m.list) c.self.view_is in
    let f = some_first c.args.self.now.list (λ e. eqb-false _ 0 (sym c.is_empty.ensures ∙ c.if-is_empty.false) (omega (arith, e, v))) in
    let x = c.in_ok-desk.ensures.closes f.0 f.1 f.2 in
    on_map
    (c.close_all.new.net ≡ record c.close_first.new.net { ports = [] })
    (c.close_all.new.net ≡ record c.args.net.now { ports = [] })
    c.close_all.result
    (λ e. e ∙ ap (λ (z : Client). record z { ports = [] }) x.net_is)
    c.close_all.ensures.net

pub returns-clause-serials : goal.returns-clause-serials
returns-clause-serials t c =
    let v : length c.self.inside.list.items ≡ length c.args.self.now.list = ap (λ (m : Many). length m.list) c.self.view_is in
    let f = some_first c.args.self.now.list (λ e. eqb-false _ 0 (sym c.is_empty.ensures ∙ c.if-is_empty.false) (omega (arith, e, v))) in
    let x = c.in_ok-desk.ensures.closes f.0 f.1 f.2 in
    on_map
    (c.close_all.new.self.graph.book.made ≡ c.close_first.new.self.graph.book.made)
    (c.close_all.new.self.graph.book.made ≡ c.args.self.now.graph.book.made)
    c.close_all.result
    (λ e. e ∙ x.closes.released.others.same_made)
    c.close_all.ensures.serials
