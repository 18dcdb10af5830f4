use Rattle.std.proofs.Common.{sym, ◌∙◌, ◌+◌, length, Some, refl, ap, arith}
use Rattle.nb_dnsmsg.specs.declared.walk.Walk.{Walk}
use Rattle.nb_dnsmsg.proofs.WalkLemmas.{root_ahead, label_passes, pointer_passes, jumps_nearer, steps_nearer}
use Rattle.nb_dnsmsg.proofs.walk.Walk.next.Goals as goal

pub returns-in-Root : goal.returns-in-Root
returns-in-Root c =
    let (after, at) = c.in-Root.ensures in
    root_ahead c.args.message.now c.args.self.now after c.unwrap_or.result (sym c.from_place.ensures ∙ at) c.unwrap_or.ensures

pub returns-in-Label : goal.returns-in-Label
returns-in-Label c =
    let (are, rest) = c.in-Label.ensures in
    let (after, at) = rest in
    let here = sym c.from_place.ensures ∙ at in
    let then : Walk = record c.args.self.now { place = c.args.self.now.place + (1 + length c.in-Label.label.now) } in (
      label_passes c.args.message.now c.args.self.now then c.in-Label.label.now after are here refl refl refl,
      steps_nearer c.args.message.now c.args.self.now then c.in-Label.label.now after here refl refl,
      are,
    )

pub returns-in-Pointer : goal.returns-in-Pointer
returns-in-Pointer c =
    let (high, low, after, at, big, is) = c.in-Pointer.ensures in
    let then : Walk = record { part = c.in-Pointer.target; place = c.in-Pointer.target; end = Some c.unwrap_or-in-Pointer.result } in (
      pointer_passes c.args.message.now c.args.self.now then high low c.in-Pointer.target after (sym c.from_place.ensures ∙ at) big is (omega arith) refl refl (ap (λ x. Some x) c.unwrap_or-in-Pointer.ensures),
      jumps_nearer c.args.message.now c.args.self.now then (omega arith),
    )
