use Rattle.std.proofs.Common.{◌≡◌, ℕ, ◌+◌, ◌-◌, ◌∙◌, subst, arith}
use Rattle.nb_reasm.specs.Slots.{wrapped_slot}
use Rattle.nb_reasm.specs.Memories.{IsWritten}
use Rattle.nb_reasm.proofs.SlotLemmas.{wrapped_below, wrapped_past}
use Rattle.nb_reasm.proofs.memory.Memory.lend_around.Goals as goal

pub lend-requires-clause-written : goal.lend-requires-clause-written
lend-requires-clause-written c = λ k l.
    subst (λ (i : ℕ). IsWritten c.args.self.now i) (wrapped_below c.args.self.now.size (c.args.slot + k) (omega (arith, l, c.size.ensures, c.if-len-room.true))) (c.requires.written k l)

pub lend-requires-2-clause-written : goal.lend-requires-2-clause-written
lend-requires-2-clause-written c = λ k l.
    subst (λ (i : ℕ). IsWritten c.args.self.now i) (wrapped_below c.args.self.now.size (c.args.slot + k) (omega (arith, l, c.size.ensures)))
    (c.requires.written k (omega (arith, l, c.if-len-room.false)))

pub lend-requires-3-clause-written : goal.lend-requires-3-clause-written
lend-requires-3-clause-written c = λ k l.
    let on : ℕ = (c.size.result - c.args.slot) + k in
    let back : wrapped_slot c.args.self.now.size (c.args.slot + on) ≡ 0 + k = wrapped_past c.args.self.now.size (c.args.slot + on) (omega (arith, c.size.ensures, c.requires.slot)) ∙ omega (arith, c.size.ensures, c.requires.slot) in
    subst (λ (i : ℕ). IsWritten c.args.self.now i) back (c.requires.written on (omega (arith, l)))
