use Rattle.std.proofs.Common.{◌≡◌, ℕ, ◌+◌, ◌-◌, ◌*◌, ◌<◌, ◌++◌, MatchBool, sum, sym, subst, arith}
use Rattle.nb_wire.specs.Checksum.{words, checksum, SameSum, sum_word}
use Rattle.nb_wire.proofs.BytesLaws.{IsBytes}
use Rattle.nb_wire.proofs.ChecksumLaws.{checksum-sum, SameSum-parts, SameSum-refl, SameSum-trans, IsBytes-append}
use Rattle.nb_wire.proofs.TurnedLaws.{carry_counts, turned_whole}
use Rattle.nb_wire.proofs.sum.is_intact_after.Goals as goal

pub returns : goal.returns
returns c = λ front has.
    let bytes = c.args.bytes.now in
    let turned = c.both_sums-turned.result.0 in
    let rest = c.both_sums-turned.result.1 in
    let whole = c.carried-total.result.0 + c.from.result in
    let fits : IsBytes bytes = λ i. omega (arith, c.both_sums-turned.ensures.bytes i) in
    let counted : SameSum whole (turned + 256 * (c.args.before + rest)) =
    let P : ℕ → Type 0 = λ x. SameSum (c.carried-total.result.0 + x) (turned + 256 * (c.args.before + rest)) in
    subst P (sym c.from.ensures) (carry_counts c.carried-total.result.0 c.carried-total.result.1 _ (omega (arith, c.carried-total.ensures))) in
    let same : SameSum (256 * whole) (sum (words (front ++ bytes))) =
    SameSum-trans _ (c.args.before + sum (words bytes)) _
    (turned_whole whole turned rest c.args.before _ counted c.both_sums-turned.ensures.same)
    (SameSum-parts front bytes c.args.before _ has.even has.same (SameSum-refl _)) in
    let e : checksum (front ++ bytes) ≡ 65535 - sum_word (256 * whole) = checksum-sum (front ++ bytes) (256 * whole) (IsBytes-append front bytes has.fits fits) same in
    let P : ℕ → Type 0 = λ x. MatchBool c.is_full.result (x ≡ 0) (0 < x) in
    subst P (sym e) c.is_full.ensures
