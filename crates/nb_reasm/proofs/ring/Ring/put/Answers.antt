use Rattle.std.proofs.Common.{◌≡◌, ℕ, ◌+◌, ◌-◌, min, Some, List, length, take, drop, get_or, ap, ◌∙◌, arith}
use Rattle.std.proofs.lemmas.List.{take_all, length-drop}
use Rattle.nb_reasm.specs.Rings.{capacity}
use Rattle.nb_reasm.proofs.AppendLemmas.{runs_held, runs_count}
use Rattle.nb_reasm.proofs.ring.Ring.put.Goals as goal

pub returns-then-pos-self-clause-held : goal.returns-then-pos-self-clause-held
returns-then-pos-self-clause-held c =
    let cut : take (length c.args.bytes.now - c.min-held.result) (drop c.min-held.result c.args.bytes.now) ≡ drop c.min-held.result c.args.bytes.now = take_all (length c.args.bytes.now - c.min-held.result) (drop c.min-held.result c.args.bytes.now) (omega (arith, length-drop c.min-held.result c.args.bytes.now)) in
    runs_held c.args.self.now c.append.new.self c.args.pos c.min-held.result c.append.result c.args.bytes.now (record {
      joinable = c.requires.ring.joinable;
      none = c.if-self.true;
      from = c.if-pos-self.true;
      held_is = c.min-held.ensures;
      count = c.append.ensures.count ∙ ap (λ (xs : List ℕ). min (length xs) ((c.args.self.now.base + capacity c.args.self.now) - c.args.self.now.next)) cut;
      kept = c.append.ensures.kept;
      fresh = λ k l. c.append.ensures.fresh k l ∙ ap (λ (xs : List ℕ). Some (get_or xs k 0)) cut;
      free = c.append.ensures.free;
    })

pub returns-then-pos-self-clause-count : goal.returns-then-pos-self-clause-count
returns-then-pos-self-clause-count c =
    let cut : take (length c.args.bytes.now - c.min-held.result) (drop c.min-held.result c.args.bytes.now) ≡ drop c.min-held.result c.args.bytes.now = take_all (length c.args.bytes.now - c.min-held.result) (drop c.min-held.result c.args.bytes.now) (omega (arith, length-drop c.min-held.result c.args.bytes.now)) in
    runs_count c.args.self.now c.append.new.self c.args.pos c.min-held.result c.append.result c.args.bytes.now (record {
      joinable = c.requires.ring.joinable;
      none = c.if-self.true;
      from = c.if-pos-self.true;
      held_is = c.min-held.ensures;
      count = c.append.ensures.count ∙ ap (λ (xs : List ℕ). min (length xs) ((c.args.self.now.base + capacity c.args.self.now) - c.args.self.now.next)) cut;
      kept = c.append.ensures.kept;
      fresh = λ k l. c.append.ensures.fresh k l ∙ ap (λ (xs : List ℕ). Some (get_or xs k 0)) cut;
      free = c.append.ensures.free;
    })
