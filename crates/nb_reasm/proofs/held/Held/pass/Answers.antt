use Rattle.std.proofs.Common.{◌∙◌, ap, sym, ℕ, ◌+◌}
use Rattle.nb_reasm.specs.Windows.{window_of}
use Rattle.nb_reasm.proofs.PassLemmas.{pass_stands}
use Rattle.nb_reasm.proofs.held.Held.pass.Goals as goal

pub returns-clause-stands : goal.returns-clause-stands
returns-clause-stands c = λ pairs bytes long holds. pass_stands (window_of c.args.self.now.ring) (window_of c.pass.new.self) bytes c.requires.front c.requires.none
    (c.pass.ensures.base ∙ ap (λ (n : ℕ). c.args.self.now.ring.base + n) (sym long)) c.pass.ensures.none pairs holds
