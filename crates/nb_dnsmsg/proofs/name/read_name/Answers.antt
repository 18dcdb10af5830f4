use Rattle.std.proofs.Common.{length, [], ◌∷◌, ◌++◌, sym, subst, arith, length-append, append-nil}
use Rattle.nb_dnsmsg.specs.Walks.{PassesBytes}
use Rattle.nb_dnsmsg.proofs.WalkLemmas.{begun, passes_on, too_long, root_too_long, none_passed}
use Rattle.nb_dnsmsg.proofs.name.read_name.Goals as goal

pub returns-then-not-put : goal.returns-then-not-put
returns-then-not-put c = λ name end h.
    root_too_long c.args.message.now c.args.place name end c.in-Root.end c.pieces.to.items c.pieces.walk c.pieces.invariant.passed c.in-Root.ensures (c.put.ensures.full c.if-not-put.true) h

pub returns-then-not-put-2 : goal.returns-then-not-put-2
returns-then-not-put-2 c = λ name end h.
    let l = c.in-Label.label.now in
    let size = length-append c.pieces.to.items (length l ∷ l) in
    let full = c.put-in-Label.ensures.full c.if-not-put-2.true in
    too_long c.args.message.now c.args.place name end (c.pieces.to.items ++ (length l ∷ l)) c.next.new.self
    (passes_on c.pieces.to.items (length l ∷ l) c.args.message.now (begun c.args.place) c.pieces.walk c.next.new.self c.pieces.invariant.passed c.in-Label.ensures.0)
    (omega (arith, size, full)) h

pub pieces-preserved-else-not-put-2 : goal.pieces-preserved-else-not-put-2
pieces-preserved-else-not-put-2 c =
    let l = c.in-Label.label.now in
    record {
      passed = subst (λ x. PassesBytes x c.args.message.now (begun c.args.place) c.next.new.self) (sym (c.put-in-Label.ensures.put c.if-not-put-2.false))
          (passes_on c.pieces.to.items (length l ∷ l) c.args.message.now (begun c.args.place) c.pieces.walk c.next.new.self c.pieces.invariant.passed c.in-Label.ensures.0);
      room = c.put-in-Label.ensures.fits c.if-not-put-2.false;
    }

pub pieces-preserved : goal.pieces-preserved
pieces-preserved c = record {
  passed = subst (λ x. PassesBytes x c.args.message.now (begun c.args.place) c.next.new.self) (append-nil c.pieces.to.items)
      (passes_on c.pieces.to.items [] c.args.message.now (begun c.args.place) c.pieces.walk c.next.new.self c.pieces.invariant.passed c.in-Jump.ensures.0);
  room = c.pieces.invariant.room;
}

pub returns-in-Invalid : goal.returns-in-Invalid
returns-in-Invalid c = λ name end h.
    none_passed c.args.message.now c.args.place name end c.pieces.to.items c.pieces.walk c.pieces.invariant.passed c.in-Invalid.ensures h
