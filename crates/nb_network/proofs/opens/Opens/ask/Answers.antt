use Rattle.std.proofs.Common.{◌≡◌, ℕ, Option, None, subst, sym, ◌∙◌, refl, ap}
use Rattle.std.specs.List.{AllByRecursion}
use Rattle.nb_machine.specs.Lives.{Live, task}
use Rattle.nb_machine.specs.States.{State}
use Rattle.nb_open.specs.declared.ended.Ended.{Ended}
use Rattle.nb_sans.specs.Sessions.{ReadTask}
use Rattle.nb_network.specs.declared.living.Living.{Living}
use Rattle.nb_network.specs.Many.{AreSound, IsStateOf}
use Rattle.nb_network.specs.Ones.{AsksOne}
use Rattle.nb_network.specs.Steps.{ComesAt, IsOpenAt}
use Rattle.nb_network.proofs.Ones.{asked_sound, asks_one, drive_there, some_has}
use Rattle.nb_network.proofs.Places.{open_at}
use Rattle.nb_network.proofs.Results.{ok_map, ok_on}
use Rattle.nb_network.proofs.opens.Opens.ask.Goals as goal

pub returns-clause-asks : goal.returns-clause-asks
returns-clause-asks c =
    let f = c.in-Some.ensures.found in
    let m = c.args.self.now in
    let blocks : ReadTask = record { lba = c.args.block; blocks = c.args.count } in
    ok_map
    (λ r. (ended : Option Ended) × ((o : Living) → (at : IsOpenAt m.list c.in-Some.place o)
    → ComesAt (λ (l : Live). Unit {0}) (task blocks c.args.now) None None m c.args.net.now at.before o at.behind c.args.awaited ended r.0 c.ask_at.new.self c.ask_at.new.net c.args.log.now c.ask_at.new.log))
    (λ r. (w opens : ℕ) → AreSound w opens c.args.net.now m → (s : State) → IsStateOf m c.args.net.now c.args.now s
    → AsksOne blocks c.args.number m c.args.net.now c.args.now opens c.args.awaited r.0 c.ask_at.new.self c.ask_at.new.net c.args.log.now c.ask_at.new.log s)
    c.ask_at.result
    (λ r h w opens sound s state. asks_one blocks c.args.number m c.args.net.now c.args.now w opens c.in-Some.place f.0 f.1 (f.2 ∙ c.from.ensures) sound c.args.awaited h.0 r.0 c.ask_at.new.self c.ask_at.new.net c.args.log.now c.ask_at.new.log (h.1 f.0 f.1) s state)
    c.ask_at.ensures.comes

pub returns-clause-sound : goal.returns-clause-sound
returns-clause-sound c =
    let f = c.in-Some.ensures.found in
    let m = c.args.self.now in
    let blocks : ReadTask = record { lba = c.args.block; blocks = c.args.count } in
    ok_on
    (λ r. (ended : Option Ended) × ((o : Living) → (at : IsOpenAt m.list c.in-Some.place o)
    → ComesAt (λ (l : Live). Unit {0}) (task blocks c.args.now) None None m c.args.net.now at.before o at.behind c.args.awaited ended r.0 c.ask_at.new.self c.ask_at.new.net c.args.log.now c.ask_at.new.log))
    ((w opens : ℕ) → AreSound w opens c.args.net.now m → AreSound w opens c.ask_at.new.net c.ask_at.new.self)
    c.ask_at.result
    (λ r h w opens sound. asked_sound blocks c.args.number m c.args.net.now c.args.now w opens c.in-Some.place f.0 f.1 (f.2 ∙ c.from.ensures) sound c.args.awaited h.0 r.0 c.ask_at.new.self c.ask_at.new.net c.args.log.now c.ask_at.new.log (h.1 f.0 f.1))
    c.ask_at.ensures.comes

pub ask_at-requires-clause-drive : goal.ask_at-requires-clause-drive
ask_at-requires-clause-drive c = λ o at.
    let f = c.in-Some.ensures.found in
    let list = c.args.self.now.list in
    drive_there c.args.number list c.in-Some.place o c.requires.drive at
    (ap (λ (p : Living). p.speaker.number) (sym (open_at list c.in-Some.place o o at) ∙ open_at list c.in-Some.place o f.0 f.1) ∙ (f.2 ∙ c.from.ensures))

pub unreachable-requires : goal.unreachable-requires
unreachable-requires c =
    some_has c.args.number c.args.self.now.list c.requires.drive.lives
    (subst (λ n. AllByRecursion (λ (o : Living). o.speaker.number ≡ n → ⊥) c.args.self.now.list) c.from.ensures (c.in-None.ensures.none refl))
