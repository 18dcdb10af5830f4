use Rattle.std.proofs.Common.{◌≡◌, ◌+◌, ◌*◌, arith, refl}
use Rattle.std.specs.Int.{from_bool}
use Rattle.nb_wire.proofs.TurnedLaws.{turned_step, turned_added, carry_counts, carry_fits}
use Rattle.nb_wire.proofs.sum.turned_sum.Goals as goal

pub eights-preserved : goal.eights-preserved
eights-preserved c =
    let before = c.eights.total + from_bool c.eights.carry in
    let sum : c.carried.result.0 + 18446744073709551616 * from_bool c.carried.result.1 ≡ before + c.turned.result = omega (arith, c.carried.ensures) in
    record {
      same = turned_step 8 c.eights.rest.now _ c.in-Some.after.now before _ _ refl c.in-Some.ensures.cases.0 c.in-Some.ensures.cases.1 c.in-Some.ensures.cases.2
          (turned_added _ before c.turned.result _ (carry_counts c.carried.result.0 c.carried.result.1 _ sum) c.turned.ensures) c.eights.invariant.same;
      room = carry_fits _ c.carried.result.1 before c.turned.result (omega (arith, c.carried.type_inv)) c.eights.invariant.room c.turned.type_inv sum;
      left = omega (arith, c.in-Some.ensures.cases.2, c.eights.invariant.left);
    }
