use Rattle.std.proofs.Common.{◌≡◌, ◌<◌, ◌++◌, ◌-◌, ◌+◌, ◌∙◌, refl, List, ℕ, ap, sym, subst, arith, take, drop, length}
use Rattle.std.proofs.lemmas.List.{length-drop}
use Rattle.std.proofs.lemmas.Bool.{false≢true}
use Rattle.std.proofs.Common.{true}
use Rattle.nb_httpmsg.specs.Reader.{Reader}
use Rattle.nb_httpmsg.specs.Feeding.{Feeds, is_open}
use Rattle.nb_httpmsg.proofs.BlockLemmas.{rest_all, take_plus}
use Rattle.nb_httpmsg.specs.Leasts.{FeedsLeast}
use Rattle.nb_httpmsg.proofs.FeedLeastLemmas.{both_least, nothing_least}
use Rattle.nb_httpmsg.proofs.FeedLemmas.{feeds_both, feeds_nothing}
use Rattle.nb_httpmsg.proofs.chunks.Chunks.run.Goals as goal

pub loop-at-init : goal.loop-at-init
loop-at-init c = record {
  within = omega arith;
  stands = feeds_nothing c.args.self.now;
  fresh = λ _. refl;
  least = nothing_least c.args.self.now;
  ended = λ _. (refl, refl, refl);
}

pub loop-at-preserved : goal.loop-at-preserved
loop-at-preserved c =
    let at : ℕ = c.loop-at.at in
    let bytes : List ℕ = c.args.bytes.now in
    let rest : List ℕ = take (length bytes - at) (drop at bytes) in
    let still_open : is_open c.loop-at.self.place ≡ true = c.can_take.ensures.open c.if-not-can_take.false in
    let both : take at bytes ++ take c.step-at.result rest ≡ take (at + c.step-at.result) bytes = ap (λ (r : List ℕ). take at bytes ++ take c.step-at.result r) (rest_all at bytes) ∙ sym (take_plus at c.step-at.result bytes) in
    record {
      within = omega (arith, c.step-at.ensures.within, ap length (rest_all at bytes), length-drop at bytes, c.loop-at.invariant.within);
      stands = subst (λ (t : List ℕ). Feeds c.args.self.now c.step-at.new.self t) both
          (feeds_both c.args.self.now c.loop-at.self c.step-at.new.self (take at bytes) (take c.step-at.result rest) c.loop-at.invariant.stands c.step-at.ensures.stands);
      least = subst (λ (t : List ℕ). FeedsLeast c.args.self.now c.step-at.new.self t) both
          (both_least c.args.self.now c.loop-at.self c.step-at.new.self (take at bytes) (take c.step-at.result rest) c.loop-at.invariant.stands c.loop-at.invariant.least c.step-at.ensures.least);
      fresh = λ none. absurd (apart at c.step-at.result none c.step-at.ensures.some);
      ended = λ closed. absurd (false≢true (sym closed ∙ ap is_open (sym (c.loop-at.invariant.ended closed).1) ∙ still_open));
    }
  where
    apart : (a b : ℕ) → a + b ≡ 0 → 0 < b → ⊥
    apart a b e l = omega (arith, e, l)

pub returns-then-not-can_take-clause-some : goal.returns-then-not-can_take-clause-some
returns-then-not-can_take-clause-some c = λ unended room some. positive c.loop-at.at (λ e.
    let same : c.loop-at.self ≡ c.args.self.now = c.loop-at.invariant.fresh e in
    let full : length c.loop-at.self.block ≡ 4096 = c.can_take.ensures.not c.if-not-can_take.true (subst (λ (r : Reader). is_open r.place ≡ true) (sym same) unended) in
    not_less (length c.loop-at.self.block) full (subst (λ (r : Reader). length r.block < 4096) (sym same) room))
  where
    positive : (n : ℕ) → (n ≡ 0 → ⊥) → 0 < n
    positive n apart = omega (arith, apart)

    not_less : (n : ℕ) → n ≡ 4096 → n < 4096 → ⊥
    not_less n e l = omega (arith, e, l)
