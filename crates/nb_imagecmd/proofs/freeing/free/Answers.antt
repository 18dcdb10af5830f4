use Rattle.std.proofs.Common.{◌≡◌, ◌∙◌, ◌+◌, ◌-◌, suc, sym, subst, arith}
use Rattle.nb_image.specs.Images.{ImageList}
use Rattle.nb_imagecmd.proofs.FreeingLemmas.{FreesSoFar, frees_one, keeps_one, frees_all}
use Rattle.nb_imagecmd.proofs.freeing.free.Goals.{then-is_freed, else-is_freed}
use Rattle.nb_imagecmd.proofs.freeing.free.Goals as goal

pub loop-seen-preserved : goal.loop-seen-preserved
loop-seen-preserved c =
    let names = c.args.names.now in
    let place = c.len-len.result - c.loop-seen.seen in
    let next = c.len-len.result - (c.loop-seen.seen + 1) in
    let i = c.len-len.result - 1 - c.loop-seen.seen in
    let is : place ≡ suc i = omega arith in
    let is_next : next ≡ i = omega arith in
    elim c.if-is_freed.branch [
      | then-is_freed w ↦
          subst (λ (l : ImageList). FreesSoFar names next c.args.images.now l) (sym (w.images-is ∙ w.free.ensures.list))
          (frees_one names place next i c.args.images.now c.loop-seen.images c.name.result.now c.loop-seen.invariant is is_next c.name.ensures (sym c.is_freed.ensures ∙ w.if-is_freed.true))
      | else-is_freed w ↦
          subst (λ (l : ImageList). FreesSoFar names next c.args.images.now l) (sym w.images-is)
          (keeps_one names place next i c.args.images.now c.loop-seen.images c.name.result.now c.loop-seen.invariant is is_next c.name.ensures (sym c.is_freed.ensures ∙ w.if-is_freed.false))
    ]

pub returns : goal.returns
returns c = frees_all c.args.names.now (c.len-len.result - c.loop-seen.seen) c.args.images.now c.loop-seen.images c.loop-seen.invariant (omega arith)
