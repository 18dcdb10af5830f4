use Rattle.std.proofs.Common.{◌≡◌, ◌<◌, length, sym, ap, subst, arith}
use Rattle.nb_network.specs.Many.{Many}
use Rattle.nb_network.specs.Steps.{TimesCome}
use Rattle.nb_network.proofs.Timing.{next_fits, pass_more, pass_none}
use Rattle.nb_network.proofs.opens.Opens.+pass_from.Goals as goal

pub returns-then-place-len-clause-times : goal.returns-then-place-len-clause-times
returns-then-place-len-clause-times t c = λ w opens sound done rest is len.
    pass_none c.args.self.now c.args.net.now opens c.args.now c.args.place c.args.awaited c.args.gathered.now (let v : length c.self.inside.list.items ≡ length c.args.self.now.list = ap (λ (m : Many). length m.list) c.self.view_is in let a = c.if-place-len.true in let d = c.len.ensures in omega (arith, a, d, v)) done rest is len

pub pass_from-requires : goal.pass_from-requires
pass_from-requires t c =
    let v : length c.self.inside.list.items ≡ length c.args.self.now.list = ap (λ (m : Many). length m.list) c.self.view_is in
    let low : c.args.place < length c.args.self.now.list = let a = c.requires.place in let b = c.if-place-len.false in let d = c.len.ensures in omega (arith, a, b, d, v) in
    let f = next_fits c.args.self.now c.args.net.now c.requires.sound.0 c.requires.sound.1 c.args.now c.args.place c.args.awaited c.in_ok-found.found c.in_ok-found.next c.pass_at.new.self c.pass_at.new.net c.args.gathered.now c.pass_at.new.gathered low c.requires.sound.2 c.in_ok-found.ensures.comes in
    (let a = f.1 in let d = c.decreases in omega (arith, a, d), ((c.requires.sound.0, c.requires.sound.1, f.0), f.2))

pub returns-clause-times : goal.returns-clause-times
returns-clause-times t c = λ w opens sound done rest is len.
    let v : length c.self.inside.list.items ≡ length c.args.self.now.list = ap (λ (m : Many). length m.list) c.self.view_is in
    let low : c.args.place < length c.args.self.now.list = let a = c.requires.place in let b = c.if-place-len.false in let d = c.len.ensures in omega (arith, a, b, d, v) in
    subst (λ z. TimesCome c.args.self.now c.args.net.now opens c.args.now done rest c.args.awaited z c.pass_from.new.self c.pass_from.new.net c.args.gathered.now c.pass_from.new.gathered) (sym c.first_found.ensures)
    (pass_more c.args.self.now c.args.net.now w opens c.args.now c.args.place c.args.awaited c.in_ok-found.found c.in_ok-later.later c.in_ok-found.next c.pass_at.new.self c.pass_at.new.net c.pass_from.new.self c.pass_from.new.net c.args.gathered.now c.pass_at.new.gathered c.pass_from.new.gathered low sound c.in_ok-found.ensures.comes c.in_ok-later.ensures.times done rest is len)
