use Rattle.std.proofs.Common.{◌≡◌, Option, Some, subst, sym, arith}
use Rattle.nb_effects.specs.declared.effects.Emit.{Emit}
use Rattle.nb_nodes.specs.declared.load.Load.{Load}
use Rattle.nb_nodes.specs.Carried.{AsksDown, advance_emit}
use Rattle.nb_nodes.proofs.CarriedLemmas.{sends_both}
use Rattle.nb_nodes.proofs.carrying.send.Goals as goal

pub returns-in-Some-clause-asks : goal.returns-in-Some-clause-asks
returns-in-Some-clause-asks c =
    let grown : c.args.acts.value.advance ≡ Some c.in-Some.place = grind arith in
    subst (λ (z : Option (Emit Load)). AsksDown c.args.acts.value (record { first = z; second = c.put-in-Some.new.self })) (sym c.put.ensures)
    (subst (λ (z : Option (Emit Load)). AsksDown c.args.acts.value (record { first = Some c.advance_down.result; second = z })) (sym c.put-in-Some.ensures)
    (subst (λ (z : Emit Load). AsksDown c.args.acts.value (record { first = Some z; second = Some c.datagram_down-datagram.result })) (sym c.advance_down.ensures)
    (subst (λ (z : Emit Load). AsksDown c.args.acts.value (record { first = Some (advance_emit c.in-Some.place); second = Some z })) (sym c.datagram_down-datagram.ensures)
    (sends_both c.args.acts c.in-Some.place c.args.to_port c.requires.few c.requires.port grown))))
