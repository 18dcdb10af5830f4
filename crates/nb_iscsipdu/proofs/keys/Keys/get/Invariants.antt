use Rattle.std.proofs.Common.{◌≡◌, length}
use Rattle.nb_iscsipdu.specs.KeyTexts.{key_value}
use Rattle.nb_iscsipdu.proofs.keys.Keys.get.Given as goal

abbrev pub invariant-texts : goal.invariant-texts
invariant-texts l = key_value l.name l.rest ≡ key_value l.name l.self.bytes.now

abbrev pub decreases-texts : goal.decreases-texts
decreases-texts l = length l.rest
