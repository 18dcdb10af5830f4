use Rattle.std.proofs.Common.{refl, ◌≡◌, ◌<◌, ◌∷◌, [], ◌++◌, length, take, get_or, sym, ap, ◌∙◌, arith}
use Rattle.std.proofs.lemmas.Bool.Decides.{nat_tests}
use Rattle.std.proofs.lemmas.List.{take_more}
use Rattle.nb_expand.specs.Pairs.{printed_pairs}
use Rattle.nb_expand.proofs.PairLemmas.{first_pair, next_pair}
use Rattle.nb_expand.proofs.pairs.print_pairs.Goals as goal
use Rattle.nb_expand.proofs.pairs.print_pairs.Goals.{then-not-is_empty+in_ok-push, else-not-is_empty}

pub loop-byte-preserved : goal.loop-byte-preserved
loop-byte-preserved c =
    let bytes = c.args.bytes.now in
    let i = c.loop-byte.byte-index in
    let b = get_or bytes i 0 in
    let text = c.loop-byte.text.items in
    let sep = c.args.separator in
    let more = ap (printed_pairs sep) (take_more bytes i 0 (omega arith)) in
    elim c.if-not-is_empty.branch [
      | then-not-is_empty+in_ok-push w ↦
          let some : 0 < length text = grind (arith, nat_tests, c.loop-byte.text.ok.0, w.if-not-is_empty.ensures) in
          let joined : c.if-not-is_empty.text.items ≡ text ++ sep ∷ [] = ap (λ v. v.items) w.text-is ∙ w.in_ok-push.ensures.items in
          c.in_ok-extend_from_slice.ensures.items ∙ rw (joined, c.digits_of.ensures) refl ∙ next_pair sep b (take i bytes) text c.loop-byte.invariant some ∙ sym more
      | else-not-is_empty w ↦
          let empty : length text ≡ 0 = grind (arith, nat_tests, c.loop-byte.text.ok.0, w.if-not-is_empty.ensures) in
          let joined : c.if-not-is_empty.text.items ≡ text = ap (λ v. v.items) w.text-is in
          c.in_ok-extend_from_slice.ensures.items ∙ rw (joined, c.digits_of.ensures) refl ∙ first_pair sep b (take i bytes) text c.loop-byte.invariant empty ∙ sym more
    ]
