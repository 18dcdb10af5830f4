use Rattle.std.proofs.Common.{◌≡◌, ◌≤◌, true, false, [], List, length, map, Some, None, slice_get, refl, sym, ◌∙◌, ap, subst, arith, eq-eqb, ne_eqb}
use Rattle.std.proofs.lemmas.List.{length-map}
use Rattle.std.proofs.lemmas.Option.{slice_get_within}
use Rattle.nb_defs.specs.Causes.{is_ok_cause, ok}
use Rattle.nb_defs.specs.ScriptLines.{Line, is_idle_line}
use Rattle.nb_script.specs.Shown.{shown_item}
use Rattle.nb_script.specs.ShownLine.{shown_line}
use Rattle.nb_machine.specs.Running.{Running, here, leaving, list_comes}
use Rattle.nb_runner.specs.declared.running.Progress.{Progress}
use Rattle.nb_runner.proofs.Comings.{between_lists, behind_failure, no_list_comes, some_list_comes}
use Rattle.std.specs.Prelude.{IfSome}
use Rattle.nb_runner.proofs.Idles.{Reaches, idle_to, passes_to, lines_nearer}
use Rattle.nb_runner.proofs.running.RunningScript.next_line.Goals as goal

pub returns-then-place-ne0 : goal.returns-then-place-ne0
returns-then-place-ne0 c = λ table.
    let s = c.args.self.now in
    let last : s.last ≡ c.deref-place.result.now.last = sym (ap (λ (x : Running). x.last) c.self.view_is) ∙ sym (ap (λ (q : Progress). q.last) c.deref-place.ensures) in
    let ill : is_ok_cause s.last ≡ false = ne_eqb s.last.code 0 (λ e. c.if-place-ne0.true (sym (ap (λ x. x.code) last) ∙ e)) in
    (refl, record { last = s; passes = here s; comes = behind_failure s c.requires ill ∙ ap leaving last; same_depth = refl; same_begun = refl })

pub returns-in_default : goal.returns-in_default
returns-in_default c = λ table.
    let s = c.args.self.now in
    let p = c.deref-place.result.now in
    let code : p.script ≡ s.code = ap (λ (q : Progress). q.script) c.deref-place.ensures ∙ ap (λ (x : Running). x.code) c.self.view_is in
    let passed : p.passed ≡ s.passed = ap (λ (q : Progress). q.passed) c.deref-place.ensures ∙ ap (λ (x : Running). x.passed) c.self.view_is in
    let well : is_ok_cause s.last ≡ true = eq-eqb s.last.code 0 (subst (λ (x : Running). x.last.code ≡ 0) c.self.view_is
    (subst (λ (q : Progress). q.last.code ≡ 0) c.deref-place.ensures c.if-place-ne0.false)) in
    let kept : s.last ≡ ok = subst (λ (x : Running). is_ok_cause x.last ≡ true → x.last ≡ ok) c.self.view_is c.self.invariant.4 well in
    let r : Reaches s c.next_busy-busy.result = idle_to s c.next_busy-busy.result c.requires kept (subst (λ k. k ≤ c.next_busy-busy.result) passed c.next_busy-busy.ensures.reached) (subst (λ (xs : List Line). c.next_busy-busy.result ≤ length xs) code c.next_busy-busy.ensures.within)
    (λ k low high. subst (λ (xs : List Line). IfSome (slice_get xs k) (λ x. is_idle_line x ≡ true)) code (c.next_busy-busy.ensures.idle k (subst (λ x. x ≤ k) (sym passed) low) high)) in
    let u = r.there in
    let line : slice_get u.code u.passed ≡ None = ap (λ (xs : List Line). slice_get xs u.passed) (r.same_code ∙ sym code) ∙ ap (slice_get p.script) r.passed ∙ sym c.in_default.ensures.value in
    (refl, record { last = u; passes = r.passes; comes = rw c.cause.ensures (between_lists u None r.none (ap is_ok_cause r.well) line); same_depth = r.same_depth; same_begun = r.same_begun })

pub pass-requires-clause-there : goal.pass-requires-clause-there
pass-requires-clause-there c =
    let s = c.args.self.now in
    let line : slice_get s.code c.next_busy-busy.result ≡ Some (shown_line c.in-Some.line) = subst (λ (x : Running). slice_get x.code c.next_busy-busy.result ≡ Some (shown_line c.in-Some.line)) c.self.view_is
    (subst (λ (q : Progress). slice_get q.script c.next_busy-busy.result ≡ Some (shown_line c.in-Some.line)) c.deref-place.ensures (sym c.in-Some.ensures.value)) in
    slice_get_within s.code c.next_busy-busy.result (shown_line c.in-Some.line) line

pub pass-requires-in-Ok-clause-there : goal.pass-requires-in-Ok-clause-there
pass-requires-in-Ok-clause-there c =
    let s = c.args.self.now in
    let line : slice_get s.code c.next_busy-busy.result ≡ Some (shown_line c.in-Some.line) = subst (λ (x : Running). slice_get x.code c.next_busy-busy.result ≡ Some (shown_line c.in-Some.line)) c.self.view_is
    (subst (λ (q : Progress). slice_get q.script c.next_busy-busy.result ≡ Some (shown_line c.in-Some.line)) c.deref-place.ensures (sym c.in-Some.ensures.value)) in
    slice_get_within s.code c.next_busy-busy.result (shown_line c.in-Some.line) line

pub returns-in-None : goal.returns-in-None
returns-in-None c = λ table.
    let s = c.args.self.now in
    let p = c.deref-place.result.now in
    let code : p.script ≡ s.code = ap (λ (q : Progress). q.script) c.deref-place.ensures ∙ ap (λ (x : Running). x.code) c.self.view_is in
    let passed : p.passed ≡ s.passed = ap (λ (q : Progress). q.passed) c.deref-place.ensures ∙ ap (λ (x : Running). x.passed) c.self.view_is in
    let well : is_ok_cause s.last ≡ true = eq-eqb s.last.code 0 (subst (λ (x : Running). x.last.code ≡ 0) c.self.view_is
    (subst (λ (q : Progress). q.last.code ≡ 0) c.deref-place.ensures c.if-place-ne0.false)) in
    let kept : s.last ≡ ok = subst (λ (x : Running). is_ok_cause x.last ≡ true → x.last ≡ ok) c.self.view_is c.self.invariant.4 well in
    let r : Reaches s c.next_busy-busy.result = idle_to s c.next_busy-busy.result c.requires kept (subst (λ k. k ≤ c.next_busy-busy.result) passed c.next_busy-busy.ensures.reached) (subst (λ (xs : List Line). c.next_busy-busy.result ≤ length xs) code c.next_busy-busy.ensures.within)
    (λ k low high. subst (λ (xs : List Line). IfSome (slice_get xs k) (λ x. is_idle_line x ≡ true)) code (c.next_busy-busy.ensures.idle k (subst (λ x. x ≤ k) (sym passed) low) high)) in
    let u = r.there in
    let line : slice_get u.code u.passed ≡ Some (shown_line c.in-Some.line) = ap (λ (xs : List Line). slice_get xs u.passed) (r.same_code ∙ sym code) ∙ ap (slice_get p.script) r.passed ∙ sym c.in-Some.ensures.value in
    let there = slice_get_within s.code c.next_busy-busy.result (shown_line c.in-Some.line) (ap (λ (xs : List Line). slice_get xs c.next_busy-busy.result) (sym code) ∙ sym c.in-Some.ensures.value) in
    rw (c.pass.ensures.result, c.pass.ensures.after, c.new.ensures.items) (record {
      passes = passes_to s c.next_busy-busy.result [] r (between_lists u (Some (shown_line c.in-Some.line)) r.none (ap is_ok_cause r.well) line ∙ no_list_comes u (shown_line c.in-Some.line) (sym c.in-None.ensures.value));
      nearer = lines_nearer s c.next_busy-busy.result [] (subst (λ k. k ≤ c.next_busy-busy.result) passed c.next_busy-busy.ensures.reached) there (omega arith) c.requires;
    })

pub returns-in-Ok : goal.returns-in-Ok
returns-in-Ok c = λ table.
    let s = c.args.self.now in
    let p = c.deref-place.result.now in
    let code : p.script ≡ s.code = ap (λ (q : Progress). q.script) c.deref-place.ensures ∙ ap (λ (x : Running). x.code) c.self.view_is in
    let passed : p.passed ≡ s.passed = ap (λ (q : Progress). q.passed) c.deref-place.ensures ∙ ap (λ (x : Running). x.passed) c.self.view_is in
    let well : is_ok_cause s.last ≡ true = eq-eqb s.last.code 0 (subst (λ (x : Running). x.last.code ≡ 0) c.self.view_is
    (subst (λ (q : Progress). q.last.code ≡ 0) c.deref-place.ensures c.if-place-ne0.false)) in
    let kept : s.last ≡ ok = subst (λ (x : Running). is_ok_cause x.last ≡ true → x.last ≡ ok) c.self.view_is c.self.invariant.4 well in
    let r : Reaches s c.next_busy-busy.result = idle_to s c.next_busy-busy.result c.requires kept (subst (λ k. k ≤ c.next_busy-busy.result) passed c.next_busy-busy.ensures.reached) (subst (λ (xs : List Line). c.next_busy-busy.result ≤ length xs) code c.next_busy-busy.ensures.within)
    (λ k low high. subst (λ (xs : List Line). IfSome (slice_get xs k) (λ x. is_idle_line x ≡ true)) code (c.next_busy-busy.ensures.idle k (subst (λ x. x ≤ k) (sym passed) low) high)) in
    let u = r.there in
    let line : slice_get u.code u.passed ≡ Some (shown_line c.in-Some.line) = ap (λ (xs : List Line). slice_get xs u.passed) (r.same_code ∙ sym code) ∙ ap (slice_get p.script) r.passed ∙ sym c.in-Some.ensures.value in
    let there = slice_get_within s.code c.next_busy-busy.result (shown_line c.in-Some.line) (ap (λ (xs : List Line). slice_get xs c.next_busy-busy.result) (sym code) ∙ sym c.in-Some.ensures.value) in
    let list = c.in-Ok.list.items in
    let few : length (map shown_item list) ≤ 65 = omega (arith, length-map list shown_item, c.in-Ok.ensures.fits.few) in
    let text = c.in-Some-list_on.text.now in
    rw (c.pass-in-Ok.ensures.result, c.pass-in-Ok.ensures.after, c.from.ensures.0) (record {
      passes = passes_to s c.next_busy-busy.result (map shown_item list) r (between_lists u (Some (shown_line c.in-Some.line)) r.none (ap is_ok_cause r.well) line
          ∙ some_list_comes u (shown_line c.in-Some.line) text (sym c.in-Some-list_on.ensures.value)
          ∙ ap (list_comes u) c.in-Ok.ensures.value);
      nearer = lines_nearer s c.next_busy-busy.result (map shown_item list) (subst (λ k. k ≤ c.next_busy-busy.result) passed c.next_busy-busy.ensures.reached) there few c.requires;
    })

pub returns-in-Err-TooManyWords : goal.returns-in-Err-TooManyWords
returns-in-Err-TooManyWords c = λ table.
    let s = c.args.self.now in
    let p = c.deref-place.result.now in
    let code : p.script ≡ s.code = ap (λ (q : Progress). q.script) c.deref-place.ensures ∙ ap (λ (x : Running). x.code) c.self.view_is in
    let passed : p.passed ≡ s.passed = ap (λ (q : Progress). q.passed) c.deref-place.ensures ∙ ap (λ (x : Running). x.passed) c.self.view_is in
    let well : is_ok_cause s.last ≡ true = eq-eqb s.last.code 0 (subst (λ (x : Running). x.last.code ≡ 0) c.self.view_is
    (subst (λ (q : Progress). q.last.code ≡ 0) c.deref-place.ensures c.if-place-ne0.false)) in
    let kept : s.last ≡ ok = subst (λ (x : Running). is_ok_cause x.last ≡ true → x.last ≡ ok) c.self.view_is c.self.invariant.4 well in
    let r : Reaches s c.next_busy-busy.result = idle_to s c.next_busy-busy.result c.requires kept (subst (λ k. k ≤ c.next_busy-busy.result) passed c.next_busy-busy.ensures.reached) (subst (λ (xs : List Line). c.next_busy-busy.result ≤ length xs) code c.next_busy-busy.ensures.within)
    (λ k low high. subst (λ (xs : List Line). IfSome (slice_get xs k) (λ x. is_idle_line x ≡ true)) code (c.next_busy-busy.ensures.idle k (subst (λ x. x ≤ k) (sym passed) low) high)) in
    let u = r.there in
    let line : slice_get u.code u.passed ≡ Some (shown_line c.in-Some.line) = ap (λ (xs : List Line). slice_get xs u.passed) (r.same_code ∙ sym code) ∙ ap (slice_get p.script) r.passed ∙ sym c.in-Some.ensures.value in
    let text = c.in-Some-list_on.text.now in (
      refl,
      record {
        last = u;
        passes = r.passes;
        comes = rw c.from-in-Err-TooManyWords.ensures (between_lists u (Some (shown_line c.in-Some.line)) r.none (ap is_ok_cause r.well) line
            ∙ some_list_comes u (shown_line c.in-Some.line) text (sym c.in-Some-list_on.ensures.value)
            ∙ ap (list_comes u) ((rw c.in-Err-TooManyWords.field-0-is at c.in-Err-TooManyWords.ensures.too_many).0 refl));
        same_depth = r.same_depth;
        same_begun = r.same_begun;
      },
    )
