use Rattle.hex.specs.Hex.{decode_sized}
use Rattle.std.proofs.Common.{◌∷◌, []}
use Rattle.nb_expand.specs.Pairs.{byte_of_digits}
use Rattle.nb_expand.proofs.PairLemmas.{byte_of-tells, byte_of-ok, byte_of-err}
use Rattle.nb_expand.proofs.pairs.byte_of.Goals as goal

pub returns-in-Ok : goal.returns-in-Ok
returns-in-Ok c =
    let v = rw c.as_slice.ensures at c.in-Ok.ensures.value in
    byte_of-ok (byte_of_digits c.args.high c.args.low) (decode_sized (c.args.high ∷ c.args.low ∷ []) 1) c.decode_to_slice.new.out _ _ (λ e h. cc h) (byte_of-tells c.args.high c.args.low) v

pub returns-in-Err : goal.returns-in-Err
returns-in-Err c =
    let v = rw c.as_slice.ensures at c.in-Err.ensures.value in
    byte_of-err (byte_of_digits c.args.high c.args.low) (decode_sized (c.args.high ∷ c.args.low ∷ []) 1) _ _ (λ bytes h. cc h.0) (byte_of-tells c.args.high c.args.low) v
