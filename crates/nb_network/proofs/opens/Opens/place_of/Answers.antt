use Rattle.std.proofs.Common.{◌≡◌, ℕ, ◌+◌, ◌<◌, get_or, length, sym, ◌∙◌, subst, ap, arith}
use Rattle.nb_network.specs.declared.living.Living.{Living}
use Rattle.nb_network.specs.Many.{Many}
use Rattle.nb_network.specs.Steps.{IsOpenAt}
use Rattle.nb_network.proofs.Places.{found_at, none_has, not_here}
use Rattle.nb_network.proofs.opens.Opens.place_of.Goals as goal

pub returns-then-from-number-clause-found : goal.returns-then-from-number-clause-found
returns-then-from-number-clause-found c =
    let e : c.deref-open-items.result.now ≡ c.args.self.now.list = c.deref-open-items.ensures.value ∙ ap (λ (m : Many). m.list) c.self.view_is in
    subst (λ os. (o : Living) × IsOpenAt os c.loop-place.place o × (o.speaker.number ≡ c.args.number)) e
    (found_at c.deref-open-items.result.now c.loop-place.place _ c.args.number c.loop-place-test.true (sym c.if-from-number.true ∙ (c.from.ensures ∙ ap (λ (o : Living). o.speaker.number) c.open-item.is)))

pub loop-place-preserved : goal.loop-place-preserved
loop-place-preserved c =
    let e : c.deref-open-items.result.now ≡ c.args.self.now.list = c.deref-open-items.ensures.value ∙ ap (λ (m : Many). m.list) c.self.view_is in
    subst (λ os. (d : Living) (k : ℕ) → k < c.loop-place.place + 1 → (get_or os k d).speaker.number ≡ c.args.number → ⊥) e
    (not_here c.deref-open-items.result.now c.loop-place.place c.args.number _ c.loop-place-test.true
    (subst (λ os. (d : Living) (k : ℕ) → k < c.loop-place.place → (get_or os k d).speaker.number ≡ c.args.number → ⊥) (sym e) c.loop-place.invariant) (λ is. c.if-from-number.false (c.from.ensures ∙ (ap (λ (o : Living). o.speaker.number) c.open-item.is ∙ is))))

pub returns-clause-none : goal.returns-clause-none
returns-clause-none c = λ same.
    let e : c.deref-open-items.result.now ≡ c.args.self.now.list = c.deref-open-items.ensures.value ∙ ap (λ (m : Many). m.list) c.self.view_is in
    none_has c.args.self.now.list c.args.number (λ d k i is. c.loop-place.invariant d k (let j : k < length c.deref-open-items.result.now = subst (λ os. k < length os) (sym e) i in let h = c.loop-place-test.false in omega (arith, j, h)) is)
