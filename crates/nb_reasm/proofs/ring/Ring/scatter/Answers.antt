use Rattle.std.proofs.Common.{◌≡◌, ℕ, ◌-◌, ◌∙◌, ap, refl, sym, arith}
use Rattle.nb_reasm.specs.Windows.{window_of, is_new, places_count}
use Rattle.nb_reasm.proofs.PutLemmas.{scatters_held, scatters_count}
use Rattle.nb_reasm.proofs.ring.Ring.scatter.Goals as goal

pub returns-then-to-from-clause-held : goal.returns-then-to-from-clause-held
returns-then-to-from-clause-held c =
    scatters_held c.args.self.now c.args.self.now c.args.pos c.max-from.result c.max-from.result c.args.bytes.now
    (record {
      joinable = c.requires.ring.joinable;
      first = c.max-from.ensures;
      low = λ l. absurd (omega (arith, l));
      high = omega (arith, c.if-to-from.true, c.min-to.ensures, c.top.ensures);
      some = omega arith;
      inside = λ p h l. absurd (omega (arith, h, l));
      outside = λ p out. refl;
    })

pub returns-then-to-from-clause-count : goal.returns-then-to-from-clause-count
returns-then-to-from-clause-count c = sym (
    scatters_count c.args.self.now c.args.self.now c.args.pos c.max-from.result c.max-from.result c.args.bytes.now
    (record {
      joinable = c.requires.ring.joinable;
      first = c.max-from.ensures;
      low = λ l. absurd (omega (arith, l));
      high = omega (arith, c.if-to-from.true, c.min-to.ensures, c.top.ensures);
      some = omega arith;
      inside = λ p h l. absurd (omega (arith, h, l));
      outside = λ p out. refl;
    })
    ∙ ap (λ (n : ℕ). places_count (is_new (window_of c.args.self.now)) c.max-from.result n) (none c.max-from.result))
  where
    none : (n : ℕ) → n - n ≡ 0
    none n = omega arith

pub returns-clause-held : goal.returns-clause-held
returns-clause-held c =
    scatters_held c.args.self.now c.join.new.self c.args.pos c.max-from.result c.min-to.result c.args.bytes.now
    (record {
      joinable = c.requires.ring.joinable;
      first = c.max-from.ensures;
      low = λ l. omega (arith, c.min-to.ensures, c.top.ensures);
      high = omega (arith, c.min-to.ensures, c.top.ensures);
      some = omega (arith, c.if-to-from.false);
      inside = λ p h l. c.join.ensures.held p ∙ c.fill-count.ensures.inside p h l;
      outside = λ p out. c.join.ensures.held p ∙ c.fill-count.ensures.outside p out;
    })

pub returns-clause-count : goal.returns-clause-count
returns-clause-count c =
    c.fill-count.ensures.count
    ∙ sym (scatters_count c.args.self.now c.join.new.self c.args.pos c.max-from.result c.min-to.result c.args.bytes.now
    (record {
      joinable = c.requires.ring.joinable;
      first = c.max-from.ensures;
      low = λ l. omega (arith, c.min-to.ensures, c.top.ensures);
      high = omega (arith, c.min-to.ensures, c.top.ensures);
      some = omega (arith, c.if-to-from.false);
      inside = λ p h l. c.join.ensures.held p ∙ c.fill-count.ensures.inside p h l;
      outside = λ p out. c.join.ensures.held p ∙ c.fill-count.ensures.outside p out;
    }))
