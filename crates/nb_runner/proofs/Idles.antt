-- A script passes lines on which nothing is to be done.
use Rattle.std.proofs.Common.{◌≡◌, ℕ, zero, suc, ◌+◌, ◌-◌, ◌<◌, ◌≤◌, ◌||◌, ◌&&◌, Bool, true, false, List, [], ◌∷◌, length, drop, Option, Some, None, slice_get, ◌⊎◌, inl, inr, get_or, add-zero, refl, sym, ◌∙◌, ap, subst, arith}
use Rattle.std.specs.Prelude.{IfSome}
use Rattle.std.specs.List.{list_all}
use Rattle.std.proofs.lemmas.Option.{slice_get-get_or}
use Rattle.nb_defs.specs.Causes.{ok, is_ok_cause}
use Rattle.nb_defs.specs.ScriptLines.{Line, label, list, empty, Join, first_join, and_join, or_join, then_join, Item, items, is_or_join, is_no_word, has_no_words, is_idle_item, is_idle_list, is_idle_cut, is_idle_line}
use Rattle.nb_machine.specs.Running.{Running, PassesOn, here, further_on, coming, passing, lets_run, onto_line, behind_lines, behind_command, with_result, list_comes, line_comes}
use Rattle.nb_runner.specs.Steps.{moves_in}
use Rattle.nb_runner.proofs.Comings.{between_lists, passes_command, runs_command}

-- the script passes to this line, between two lists, after a success
pub record Reaches (s : Running) (line : ℕ) : Type 0 where
  pub there : Running
  pub passes : PassesOn s there
  pub passed : there.passed ≡ line
  pub none : there.rest ≡ []
  pub well : there.last ≡ ok
  pub same_code : there.code ≡ s.code
  pub same_depth : there.depth ≡ s.depth
  pub same_base : there.base ≡ s.base
  pub same_begun : there.begun ≡ s.begun

reaches_by : (s t : Running) (line : ℕ) → coming s ≡ passing t → t.code ≡ s.code → t.depth ≡ s.depth → t.base ≡ s.base → t.begun ≡ s.begun → Reaches t line → Reaches s line
reaches_by s t line comes code depth base begun r = record {
  there = r.there;
  passes = further_on s t r.there comes r.passes;
  passed = r.passed;
  none = r.none;
  well = r.well;
  same_code = r.same_code ∙ code;
  same_depth = r.same_depth ∙ depth;
  same_base = r.same_base ∙ base;
  same_begun = r.same_begun ∙ begun;
}

-- a join lets its command run after a success, or is `||`
runs_or : (j : Join) → (lets_run j ok ≡ true) × (is_or_join j ≡ false) ⊎ (lets_run j ok ≡ false) × (is_or_join j ≡ true)
runs_or first_join = inl (refl, refl)
runs_or and_join = inl (refl, refl)
runs_or or_join = inr (refl, refl)
runs_or then_join = inl (refl, refl)

no_word : (ws : List (List ℕ)) → is_no_word ws ≡ true → ws ≡ []
no_word [] e = refl
no_word (w ∷ ws) e = absurd (cc)

and_both : (a b : Bool) → (a && b) ≡ true → (a ≡ true) × (b ≡ true)
and_both true b e = (refl, e)
and_both false b e = absurd (cc)

-- commands that come to nothing after a success
pub idle_items : (is : List Item) (s : Running) → s.rest ≡ is → s.last ≡ ok → list_all is_idle_item is ≡ true → Reaches s s.passed
idle_items [] s rest well idle = record { there = s; passes = here s; passed = refl; none = rest; well = well; same_code = refl; same_depth = refl; same_base = refl; same_begun = refl }
idle_items (i ∷ behind) s rest well idle =
    let both = and_both (is_idle_item i) (list_all is_idle_item behind) idle in
    let rest1 : drop 1 s.rest ≡ behind = ap (drop 1) rest in
    elim (runs_or i.join) [
      | inl e ↦
          let words : i.words ≡ [] = no_word i.words (subst (λ b. (b || has_no_words i) ≡ true) e.1 both.0) in
          let runs : lets_run i.join s.last ≡ true = ap (lets_run i.join) well ∙ e.0 in
          reaches_by s (with_result (behind_command s) ok) s.passed (runs_command s i behind [] rest runs words) refl refl refl refl
          (idle_items behind (with_result (behind_command s) ok) rest1 refl both.1)
      | inr e ↦
          let stops : lets_run i.join s.last ≡ false = ap (lets_run i.join) well ∙ e.0 in
          reaches_by s (behind_command s) s.passed (passes_command s i behind rest stops) refl refl refl refl
          (idle_items behind (behind_command s) rest1 well both.1)
    ]

idle_all : (is : List Item) → is_idle_list is ≡ true → list_all is_idle_item is ≡ true
unfolding is_idle_list
idle_all [] e = refl
idle_all (i ∷ others) e =
    let both = and_both (has_no_words i) (list_all is_idle_item others) e in
    ap (λ b. (is_or_join i.join || b) && list_all is_idle_item others) both.0 ∙ or_idle (is_or_join i.join) (list_all is_idle_item others) both.1
  where
    or_idle : (a b : Bool) → b ≡ true → ((a || true) && b) ≡ true
    or_idle true b e = e
    or_idle false b e = e

-- one line
idle_line : (line : Line) (s : Running) → is_idle_line line ≡ true → s.rest ≡ [] → s.last ≡ ok → coming s ≡ line_comes s (Some line) → Reaches s (s.passed + 1)
idle_line (label name) s idle rest well comes =
    reaches_by s (onto_line s []) (s.passed + 1) comes refl refl refl refl (idle_items [] (onto_line s []) refl well refl)
idle_line empty s idle rest well comes =
    reaches_by s (onto_line s []) (s.passed + 1) comes refl refl refl refl (idle_items [] (onto_line s []) refl well refl)
idle_line (list text) s idle rest well comes = by (items text) refl idle
  where
    by : (cut : Option (List Item)) → items text ≡ cut → is_idle_cut cut ≡ true → Reaches s (s.passed + 1)
    by None e idle = absurd (cc)
    by (Some is) e idle =
        reaches_by s (onto_line s is) (s.passed + 1) (comes ∙ ap (list_comes s) e) refl refl refl refl (idle_items is (onto_line s is) refl well (idle_all is idle))

within_some : (code : List Line) (i : ℕ) → i < length code → (line : Line) × (slice_get code i ≡ Some line)
within_some code i h = (get_or code i empty, slice_get-get_or code i empty h)

-- so many lines
pub idle_lines : (n : ℕ) (s : Running) → s.rest ≡ [] → s.last ≡ ok → s.passed + n ≤ length s.code →
    ((k : ℕ) → s.passed ≤ k → k < s.passed + n → IfSome (slice_get s.code k) (λ line. is_idle_line line ≡ true)) → Reaches s (s.passed + n)
idle_lines zero s rest well few idle = subst (Reaches s) (sym (add-zero s.passed)) (idle_items [] s rest well refl)
idle_lines (suc n) s rest well few idle =
    let (line, there) = within_some s.code s.passed (omega (arith, few)) in
    let is : is_idle_line line ≡ true = subst (λ o. IfSome o (λ x. is_idle_line x ≡ true)) there (idle s.passed (omega arith) (omega arith)) in
    let first = idle_line line s is rest well (between_lists s (Some line) rest (ap is_ok_cause well) there) in
    let u = first.there in
    let next = idle_lines n u first.none first.well (rw (first.passed, first.same_code) (omega (arith, few)))
    (λ k from below. subst (λ code. IfSome (slice_get code k) (λ x. is_idle_line x ≡ true)) (sym first.same_code) (idle k (omega (arith, from, first.passed)) (omega (arith, below, first.passed)))) in
    record {
      there = next.there;
      passes = passes_then s u next.there first.passes next.passes;
      passed = next.passed ∙ ap (λ p. p + n) first.passed ∙ omega arith;
      none = next.none;
      well = next.well;
      same_code = next.same_code ∙ first.same_code;
      same_depth = next.same_depth ∙ first.same_depth;
      same_base = next.same_base ∙ first.same_base;
      same_begun = next.same_begun ∙ first.same_begun;
    }
  where
    passes_then : (a b c : Running) → PassesOn a b → PassesOn b c → PassesOn a c
    passes_then a b c (here _) q = q
    passes_then a b c (further_on _ t _ comes p) q = further_on a t c comes (passes_then t b c p q)

-- to a line at or after the next one
pub idle_to : (s : Running) (line : ℕ) → s.rest ≡ [] → s.last ≡ ok → s.passed ≤ line → line ≤ length s.code →
    ((k : ℕ) → s.passed ≤ k → k < line → IfSome (slice_get s.code k) (λ x. is_idle_line x ≡ true)) → Reaches s line
idle_to s line rest well from within idle =
    let same : s.passed + (line - s.passed) ≡ line = omega (arith, from) in
    subst (Reaches s) same (idle_lines (line - s.passed) s rest well (subst (λ x. x ≤ length s.code) (sym same) within) (λ k low high. idle k low (subst (λ x. k < x) same high)))

-- and the line after them, whose list it is
pub passes_to : (s : Running) (line : ℕ) (is : List Item) (r : Reaches s line) → coming r.there ≡ passing (onto_line r.there is) →
    PassesOn s (with_result (onto_line (behind_lines s line) is) ok)
passes_to s line is r comes =
    let t = with_result (onto_line (behind_lines s line) is) ok in
    let same : onto_line r.there is ≡ t = rw (r.passed, r.well, r.same_code, r.same_depth, r.same_base, r.same_begun) refl in
    ends_with s r.there t r.passes (comes ∙ ap passing same)
  where
    ends_with : (a b c : Running) → PassesOn a b → coming b ≡ passing c → PassesOn a c
    ends_with a b c (here _) comes = further_on a c c comes (here c)
    ends_with a b c (further_on _ u _ first p) comes = further_on a u c first (ends_with u b c p comes)

-- which brings the end of the step nearer
pub lines_nearer : (s : Running) (line : ℕ) (is : List Item) → s.passed ≤ line → line < length s.code → length is ≤ 65 → s.rest ≡ [] → moves_in (with_result (onto_line (behind_lines s line) is) ok) < moves_in s
lines_nearer s line is from within few none = omega (arith, from, within, few)
