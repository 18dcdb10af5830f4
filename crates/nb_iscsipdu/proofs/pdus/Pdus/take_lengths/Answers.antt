use Rattle.std.proofs.Common.{◌≡◌, ◌∙◌, length, max, ap, ℕ, arith}
use Rattle.nb_iscsipdu.proofs.StreamLemmas.{gathered-lengths}
use Rattle.nb_iscsipdu.proofs.pdus.Pdus.take_lengths.Goals as goal

pub invariant_of-self : goal.invariant_of-self
invariant_of-self c =
    let room = c.self.invariant.0 in
    let old = c.self.inside.block.items in
    let most : c.max-most.result ≡ max (length old) 8 = c.max-most.ensures ∙ ap (λ (n : ℕ). max n 8) (ap length c.as_slice.ensures.value) in
    (omega (arith, room, c.fill.ensures.capacity), gathered-lengths old c.fill.new.buffer.items c.args.bytes.now c.fill.result c.max-most.result c.self.invariant.1 c.fill.ensures.items most (omega (arith, c.fill.ensures.count)))
