use Rattle.std.proofs.Common.{◌≡◌, ℕ, ◌+◌, refl, ap, ◌∙◌}
use Rattle.nb_reasm.specs.Slots.{wrapped_slot}
use Rattle.nb_reasm.specs.Rings.{capacity}
use Rattle.nb_reasm.proofs.AdvanceLemmas.{advances_ring, advances_held}
use Rattle.nb_reasm.proofs.ring.Ring.advance.Goals as goal

pub returns-clause-ring : goal.returns-clause-ring
returns-clause-ring c =
    let size : c.size.result ≡ capacity c.args.self.now = c.size.ensures in
    advances_ring c.args.self.now (record { memory = c.args.self.now.memory; marks = c.args.self.now.marks; start = c.wrapped_slot-self.result; base = c.args.self.now.base + c.args.count; next = c.args.self.now.next; end = c.args.self.now.end }) c.args.count (record {
      ring = c.requires.ring;
      held = c.requires.held;
      memory = refl;
      words = refl;
      room = refl;
      start = c.wrapped_slot-self.ensures ∙ ap (λ (n : ℕ). wrapped_slot n (c.args.self.now.start + c.args.count)) size;
      base = refl;
      next = refl;
      end = refl;
    })

pub returns-clause-held : goal.returns-clause-held
returns-clause-held c =
    let size : c.size.result ≡ capacity c.args.self.now = c.size.ensures in
    advances_held c.args.self.now (record { memory = c.args.self.now.memory; marks = c.args.self.now.marks; start = c.wrapped_slot-self.result; base = c.args.self.now.base + c.args.count; next = c.args.self.now.next; end = c.args.self.now.end }) c.args.count (record {
      ring = c.requires.ring;
      held = c.requires.held;
      memory = refl;
      words = refl;
      room = refl;
      start = c.wrapped_slot-self.ensures ∙ ap (λ (n : ℕ). wrapped_slot n (c.args.self.now.start + c.args.count)) size;
      base = refl;
      next = refl;
      end = refl;
    })
