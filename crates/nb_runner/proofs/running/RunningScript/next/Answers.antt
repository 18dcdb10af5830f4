use Rattle.std.proofs.Common.{◌≡◌, ◌<◌, ◌≤◌, true, false, List, [], ◌∷◌, ℕ, length, map, drop, refl, sym, ◌∙◌, ap, subst, arith, ◌==◌}
use Rattle.std.proofs.lemmas.Bool.{eqb-true}
use Rattle.nb_script.specs.Shown.{shown_item, IsSmallItem}
use Rattle.nb_machine.specs.Running.{Running, here, further_on, lets_run}
use Rattle.nb_runner.specs.declared.running.Progress.{Progress}
use Rattle.nb_runner.proofs.Comings.{front_is, passes_command, runs_command, beginning_words, no_words, below_full, first_small, expansion_next_ok}
use Rattle.nb_runner.proofs.Measures.{command_nearer}
use Rattle.nb_runner.proofs.running.RunningScript.next.Goals as goal

pub returns-then-not-lets_run : goal.returns-then-not-lets_run
returns-then-not-lets_run c =
    let p = c.self.inside.place.value in
    let item = c.in-Some.item.now in
    let some : 0 < length c.deref-place.result.now.rest.items = omega (arith, c.in-Some.ensures.variant.0 refl, c.deref-place.result.now.rest.ok.0) in
    let front = front_is c.deref-place.result.now.rest.items item some c.in-Some.ensures.lookup in
    let behind = map shown_item (drop 1 p.rest.items) in
    let front1 : p.rest.items ≡ item ∷ drop 1 p.rest.items = subst (λ (q : Progress). q.rest.items ≡ item ∷ drop 1 q.rest.items) c.deref-place.ensures front in
    let there : c.args.self.now.rest ≡ shown_item item ∷ behind = subst (λ (x : Running). x.rest ≡ shown_item item ∷ behind) c.self.view_is (ap (map shown_item) front1) in
    let runs : lets_run (shown_item item).join c.args.self.now.last ≡ false =
    subst (λ (x : Running). lets_run (shown_item item).join x.last ≡ false) c.self.view_is
    (subst (λ (q : Progress). lets_run (shown_item item).join q.last ≡ false) c.deref-place.ensures (sym c.lets_run.ensures ∙ c.if-not-lets_run.true)) in
    rw (c.skip.ensures.result, c.skip.ensures.after) (record {
      passes = further_on c.args.self.now _ _ (passes_command c.args.self.now (shown_item item) behind there runs) (here _);
      nearer = command_nearer c.args.self.now (rw there (omega arith));
    })

pub returns-then-is_empty : goal.returns-then-is_empty
returns-then-is_empty c =
    let p = c.self.inside.place.value in
    let item = c.in-Some.item.now in
    let some : 0 < length c.deref-place.result.now.rest.items = omega (arith, c.in-Some.ensures.variant.0 refl, c.deref-place.result.now.rest.ok.0) in
    let front = front_is c.deref-place.result.now.rest.items item some c.in-Some.ensures.lookup in
    let behind = map shown_item (drop 1 p.rest.items) in
    let front1 : p.rest.items ≡ item ∷ drop 1 p.rest.items = subst (λ (q : Progress). q.rest.items ≡ item ∷ drop 1 q.rest.items) c.deref-place.ensures front in
    let there : c.args.self.now.rest ≡ shown_item item ∷ behind = subst (λ (x : Running). x.rest ≡ shown_item item ∷ behind) c.self.view_is (ap (map shown_item) front1) in
    let runs : lets_run (shown_item item).join c.args.self.now.last ≡ true =
    subst (λ (x : Running). lets_run (shown_item item).join x.last ≡ true) c.self.view_is
    (subst (λ (q : Progress). lets_run (shown_item item).join q.last ≡ true) c.deref-place.ensures (sym c.lets_run.ensures ∙ c.if-not-lets_run.false)) in
    let none : item.words ≡ [] = no_words item.words (eqb-true (length item.words) 0 (subst (λ (ws : List (List ℕ)). (length ws == 0) ≡ true) c.as_slice.ensures (sym c.is_empty.ensures ∙ c.if-is_empty.true))) in
    rw (c.succeed.ensures.result, c.succeed.ensures.after) (record {
      passes = further_on c.args.self.now _ _ (runs_command c.args.self.now (shown_item item) behind [] there runs none) (here _);
      nearer = command_nearer c.args.self.now (rw there (omega arith));
    })

pub returns-then-place-eq-MOST_COMMANDS : goal.returns-then-place-eq-MOST_COMMANDS
returns-then-place-eq-MOST_COMMANDS c =
    let p = c.self.inside.place.value in
    let item = c.in-Some.item.now in
    let some : 0 < length c.deref-place.result.now.rest.items = omega (arith, c.in-Some.ensures.variant.0 refl, c.deref-place.result.now.rest.ok.0) in
    let front = front_is c.deref-place.result.now.rest.items item some c.in-Some.ensures.lookup in
    let behind = map shown_item (drop 1 p.rest.items) in
    let front1 : p.rest.items ≡ item ∷ drop 1 p.rest.items = subst (λ (q : Progress). q.rest.items ≡ item ∷ drop 1 q.rest.items) c.deref-place.ensures front in
    let there : c.args.self.now.rest ≡ shown_item item ∷ behind = subst (λ (x : Running). x.rest ≡ shown_item item ∷ behind) c.self.view_is (ap (map shown_item) front1) in
    let runs : lets_run (shown_item item).join c.args.self.now.last ≡ true =
    subst (λ (x : Running). lets_run (shown_item item).join x.last ≡ true) c.self.view_is
    (subst (λ (q : Progress). lets_run (shown_item item).join q.last ≡ true) c.deref-place.ensures (sym c.lets_run.ensures ∙ c.if-not-lets_run.false)) in
    let are : c.as_slice.result.now ≡ item.words = c.as_slice.ensures in
    let some_words : (length item.words == 0) ≡ false = subst (λ (ws : List (List ℕ)). (length ws == 0) ≡ false) are (sym c.is_empty.ensures ∙ c.if-is_empty.false) in
    let begins = beginning_words c.args.self.now (shown_item item) behind item.words there runs refl some_words in
    let full : c.args.self.now.begun ≡ 4096 = subst (λ (x : Running). x.begun ≡ 4096) c.self.view_is
    (subst (λ (q : Progress). q.begun ≡ 4096) c.deref-place.ensures c.if-place-eq-MOST_COMMANDS.true) in
    (refl, record { name = begins.0; args = begins.1; comes = begins.2; full = full })

pub returns : goal.returns
returns c =
    let p = c.self.inside.place.value in
    let item = c.in-Some.item.now in
    let some : 0 < length c.deref-place.result.now.rest.items = omega (arith, c.in-Some.ensures.variant.0 refl, c.deref-place.result.now.rest.ok.0) in
    let front = front_is c.deref-place.result.now.rest.items item some c.in-Some.ensures.lookup in
    let behind = map shown_item (drop 1 p.rest.items) in
    let front1 : p.rest.items ≡ item ∷ drop 1 p.rest.items = subst (λ (q : Progress). q.rest.items ≡ item ∷ drop 1 q.rest.items) c.deref-place.ensures front in
    let there : c.args.self.now.rest ≡ shown_item item ∷ behind = subst (λ (x : Running). x.rest ≡ shown_item item ∷ behind) c.self.view_is (ap (map shown_item) front1) in
    let runs : lets_run (shown_item item).join c.args.self.now.last ≡ true =
    subst (λ (x : Running). lets_run (shown_item item).join x.last ≡ true) c.self.view_is
    (subst (λ (q : Progress). lets_run (shown_item item).join q.last ≡ true) c.deref-place.ensures (sym c.lets_run.ensures ∙ c.if-not-lets_run.false)) in
    let are : c.as_slice.result.now ≡ item.words = c.as_slice.ensures in
    let some_words : (length item.words == 0) ≡ false = subst (λ (ws : List (List ℕ)). (length ws == 0) ≡ false) are (sym c.is_empty.ensures ∙ c.if-is_empty.false) in
    let begins = beginning_words c.args.self.now (shown_item item) behind item.words there runs refl some_words in
    let inv = c.self.invariant in
    let begun_is : c.args.self.now.begun ≡ p.begun = sym (ap (λ (x : Running). x.begun) c.self.view_is) in
    let less : p.begun ≡ 4096 → ⊥ = λ e. c.if-place-eq-MOST_COMMANDS.false (subst (λ (q : Progress). q.begun ≡ 4096) (sym c.deref-place.ensures) e) in
    let early : p.begun < 4096 = below_full p.begun inv.0 less in
    let small : IsSmallItem item = first_small p.rest.items item (drop 1 p.rest.items) front1 inv.5 in
    expansion_next_ok c.expanded.result c.args.self.now c.args.table.now begins.0 begins.1 c.as_slice-2.result.now begins.2 (c.as_slice-2.ensures ∙ begins.3)
    (record {
      early = rw begun_is early;
      short = subst (λ (x : Running). length x.code ≤ 1048576) c.self.view_is inv.2;
      there = rw there (omega arith);
      few = rw c.as_slice-2.ensures small.0;
      total = rw c.as_slice-2.ensures small.1;
    }) c.expanded.ensures
