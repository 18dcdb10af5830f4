use Rattle.std.proofs.Common.{◌≡◌, ℕ, ◌∙◌, subst, refl}
use Rattle.std.specs.List.{AllByRecursion}
use Rattle.nb_network.specs.declared.living.Living.{Living}
use Rattle.nb_network.specs.Many.{AreSound}
use Rattle.nb_network.specs.Ones.{ClosesAt, ClosesOne}
use Rattle.nb_network.specs.Steps.{IsOpenAt}
use Rattle.nb_network.proofs.Ones.{closed_leaves, closes_one, some_has}
use Rattle.nb_network.proofs.Results.{on_map}
use Rattle.nb_network.proofs.opens.Opens.close_one.Goals as goal

pub returns-clause-closes : goal.returns-clause-closes
returns-clause-closes c =
    let f = c.in-Some.ensures.found in
    let m = c.args.self.now in
    on_map
    ((o : Living) → (at : IsOpenAt m.list c.in-Some.place o) → ClosesAt m c.args.net.now at.before o at.behind c.args.cause.now c.close_at.new.self c.close_at.new.net c.args.gathered.now c.close_at.new.gathered)
    ((w opens : ℕ) → AreSound w opens c.args.net.now m → ClosesOne c.args.number c.args.cause.now m c.args.net.now c.args.now opens c.close_at.new.self c.close_at.new.net c.args.gathered.now c.close_at.new.gathered)
    c.close_at.result
    (λ h w opens sound. closes_one c.args.number c.args.cause.now m c.args.net.now c.args.now w opens c.in-Some.place f.0 f.1 (f.2 ∙ c.from.ensures) sound c.close_at.new.self c.close_at.new.net c.args.gathered.now c.close_at.new.gathered (h f.0 f.1))
    c.close_at.ensures.closes

pub returns-clause-sound : goal.returns-clause-sound
returns-clause-sound c =
    let f = c.in-Some.ensures.found in
    let m = c.args.self.now in
    on_map
    ((o : Living) → (at : IsOpenAt m.list c.in-Some.place o) → ClosesAt m c.args.net.now at.before o at.behind c.args.cause.now c.close_at.new.self c.close_at.new.net c.args.gathered.now c.close_at.new.gathered)
    ((w opens : ℕ) → AreSound w opens c.args.net.now m → AreSound w opens c.close_at.new.net c.close_at.new.self)
    c.close_at.result
    (λ h w opens sound. (closed_leaves c.args.number c.args.cause.now m c.args.net.now c.args.now w opens c.in-Some.place f.0 f.1 (f.2 ∙ c.from.ensures) sound c.close_at.new.self c.close_at.new.net c.args.gathered.now c.close_at.new.gathered (h f.0 f.1)).sound)
    c.close_at.ensures.closes

pub returns-clause-net : goal.returns-clause-net
returns-clause-net c =
    let f = c.in-Some.ensures.found in
    let m = c.args.self.now in
    on_map
    ((o : Living) → (at : IsOpenAt m.list c.in-Some.place o) → ClosesAt m c.args.net.now at.before o at.behind c.args.cause.now c.close_at.new.self c.close_at.new.net c.args.gathered.now c.close_at.new.gathered)
    (c.close_at.new.net ≡ record c.args.net.now { ports = c.close_at.new.net.ports })
    c.close_at.result
    (λ h. (closed_leaves c.args.number c.args.cause.now m c.args.net.now c.args.now c.requires.sound.0 c.requires.sound.1 c.in-Some.place f.0 f.1 (f.2 ∙ c.from.ensures) c.requires.sound.2 c.close_at.new.self c.close_at.new.net c.args.gathered.now c.close_at.new.gathered (h f.0 f.1)).same_net)
    c.close_at.ensures.closes

pub returns-clause-serials : goal.returns-clause-serials
returns-clause-serials c =
    let f = c.in-Some.ensures.found in
    let m = c.args.self.now in
    on_map
    ((o : Living) → (at : IsOpenAt m.list c.in-Some.place o) → ClosesAt m c.args.net.now at.before o at.behind c.args.cause.now c.close_at.new.self c.close_at.new.net c.args.gathered.now c.close_at.new.gathered)
    (c.close_at.new.self.graph.book.made ≡ m.graph.book.made)
    c.close_at.result
    (λ h. (h f.0 f.1).closes.released.others.same_made)
    c.close_at.ensures.closes

pub unreachable-requires : goal.unreachable-requires
unreachable-requires c =
    some_has c.args.number c.args.self.now.list c.requires.lives
    (subst (λ n. AllByRecursion (λ (o : Living). o.speaker.number ≡ n → ⊥) c.args.self.now.list) c.from.ensures (c.in-None.ensures.none refl))
