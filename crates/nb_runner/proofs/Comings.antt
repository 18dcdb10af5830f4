-- What a script comes to next, case by case.
use Rattle.std.specs.Prelude.{IfSome, IfOk, slice_index_or, All}
use Rattle.std.proofs.lemmas.List.Quantifiers.{position-Some}
use Rattle.std.proofs.Common.{◌≡◌, ℕ, ◌<◌, ◌≤◌, ◌==◌, length, true, false, cond, List, [], ◌∷◌, Option, Some, None, Result, Ok, Err, slice_get, drop, arith, refl, sym, ◌∙◌, ap, subst}
use Rattle.nb_defs.specs.Causes.{is_ok_cause}
use Rattle.nb_defs.specs.ScriptLines.{Item, Line, label, list, empty, items, label_place, is_label_of}
use Rattle.nb_script.specs.declared.item.Item.{Item as ItemHeld}
use Rattle.nb_script.specs.Shown.{FitList, IsSmallItem}
use Rattle.nb_machine.specs.Running.{Running, coming, passing, leaving, beginning, rest_comes, line_comes, list_comes, words_come, lets_run, behind_command, onto_line}
use Rattle.nb_settings.specs.Tables.{TableLists}
use Rattle.nb_machine.specs.Effects.{expansion}
use Rattle.nb_runner.specs.declared.running.Next.{Next}
use Rattle.nb_runner.specs.declared.running.Next.TheVariants as next
use Rattle.nb_runner.specs.NextCommand.{IsReady, IsExpansion, IsNext, list_of}

-- a label's line is one of the script's
pub label_within : (name : List ℕ) (code : List Line) → IfSome (label_place name code) (λ line. line < length code)
unfolding label_place
label_within name code = go (label_place name code) refl
  where
    go : (o : Option ℕ) → label_place name code ≡ o → IfSome o (λ line. line < length code)
    go None e = tt
    go (Some i) e = (position-Some (is_label_of name) code i empty e).0

pub label_small : (name : List ℕ) (code : List Line) → length code ≤ 1048576 → IfSome (label_place name code) (λ line. line < 1048576)
label_small name code few = less (label_place name code) (label_within name code)
  where
    less : (o : Option ℕ) → IfSome o (λ line. line < length code) → IfSome o (λ line. line < 1048576)
    less None h = tt
    less (Some i) h = omega (arith, h, few)

-- the start of some commands
pub front_is : (items : List ItemHeld) (x : ItemHeld) → 0 < length items → x ≡ slice_index_or items 0 x → items ≡ x ∷ drop 1 items
front_is [] x h e = absurd (omega (arith, h))
front_is (y ∷ ys) x h e = ap (λ z. z ∷ ys) (sym e)

pub fits_none : (items : List ItemHeld) → items ≡ [] → FitList items
fits_none items e = record { few = omega (arith, ap length e); small = λ k d h. absurd (omega (arith, h, ap length e)) }

-- between two lists
pub between_lists : (s : Running) (line : Option Line) → s.rest ≡ [] → is_ok_cause s.last ≡ true → slice_get s.code s.passed ≡ line → coming s ≡ line_comes s line
unfolding coming
between_lists s line none well there =
    ap (λ r. rest_comes s r) none ∙ ap (λ b. cond b (line_comes s (slice_get s.code s.passed)) (leaving s.last)) well ∙ ap (λ x. line_comes s x) there

-- after a list that ended in failure
pub behind_failure : (s : Running) → s.rest ≡ [] → is_ok_cause s.last ≡ false → coming s ≡ leaving s.last
unfolding coming
behind_failure s none ill =
    ap (λ r. rest_comes s r) none ∙ ap (λ b. cond b (line_comes s (slice_get s.code s.passed)) (leaving s.last)) ill

-- a command that doesn't run
pub passes_command : (s : Running) (i : Item) (behind : List Item) → s.rest ≡ i ∷ behind → lets_run i.join s.last ≡ false → coming s ≡ passing (behind_command s)
unfolding coming
passes_command s i behind there runs =
    ap (λ r. rest_comes s r) there ∙ ap (λ b. cond b (words_come s i.words) (passing (behind_command s))) runs

-- one that does
pub runs_command : (s : Running) (i : Item) (behind : List Item) (ws : List (List ℕ)) → s.rest ≡ i ∷ behind → lets_run i.join s.last ≡ true → i.words ≡ ws → coming s ≡ words_come s ws
unfolding coming
runs_command s i behind ws there runs are =
    ap (λ r. rest_comes s r) there ∙ ap (λ b. cond b (words_come s i.words) (passing (behind_command s))) runs ∙ ap (λ x. words_come s x) are

pub no_words : (ws : List (List ℕ)) → length ws ≡ 0 → ws ≡ []
no_words [] h = refl
no_words (w ∷ ws) h = absurd (omega arith)

-- a command that has words begins
pub beginning_words : (s : Running) (i : Item) (behind : List Item) (ws : List (List ℕ)) → s.rest ≡ i ∷ behind → lets_run i.join s.last ≡ true → i.words ≡ ws → (length ws == 0) ≡ false →
    (name : List ℕ) × (args : List (List ℕ)) × (coming s ≡ beginning name args) × (ws ≡ name ∷ args)
beginning_words s i behind [] there runs are some = absurd (cc)
beginning_words s i behind (name ∷ args) there runs are some = (name, args, runs_command s i behind (name ∷ args) there runs are, refl)

pub below_full : (n : ℕ) → n ≤ 4096 → (n ≡ 4096 → ⊥) → n < 4096
below_full n h not = grind arith

-- the first of small commands is small
pub first_small : (items : List ItemHeld) (x : ItemHeld) (behind : List ItemHeld) → items ≡ x ∷ behind → FitList items → IsSmallItem x
first_small items x behind e f = subst (λ (xs : List ItemHeld). All IsSmallItem xs) e f.small 0 x (omega arith)

-- the words of a command that begins, expanded or not
pub expansion_next : (next : Next) (s : Running) (table : TableLists) (name : List ℕ) (args : List (List ℕ)) (written : List (List ℕ)) → coming s ≡ beginning name args → written ≡ name ∷ args → IsReady s written →
    IsExpansion next table written → IsNext next table s s
expansion_next (next.Begins ws) s table name args written comes are r e = (
  refl,
  record {
    name = name;
    args = args;
    comes = comes;
    expands = subst (λ x. expansion table x ≡ Ok ws) are e.0;
    is_ready = record { early = r.early; short = r.short; there = r.there; few = e.1; total = e.2 };
  },
)
expansion_next (next.Refused ws cause) s table name args written comes are r e = (
  refl,
  record {
    name = name;
    args = args;
    comes = comes;
    are = e.0 ∙ are;
    why = e.1;
    refuses = subst (λ x. expansion table x ≡ Err e.1) are e.2;
    cause_is = e.3;
    is_ready = subst (IsReady s) (sym e.0) r;
  },
)
expansion_next next.Passed s table name args written comes are r e = absurd e
expansion_next (next.Left cause) s table name args written comes are r e = absurd e
expansion_next next.Full s table name args written comes are r e = absurd e

pub expansion_next_ok : {E : Type 0} (r : Result Next E) (s : Running) (table : TableLists) (name : List ℕ) (args : List (List ℕ)) (written : List (List ℕ)) → coming s ≡ beginning name args → written ≡ name ∷ args → IsReady s written →
    IfOk r (λ next. IsExpansion next table written) → IfOk r (λ next. IsNext next table s s)
expansion_next_ok (Ok next) s table name args written comes are r e = expansion_next next s table name args written comes are r e
expansion_next_ok (Err why) s table name args written comes are r e = tt

-- a line without a list is passed
pub no_list_comes : (s : Running) (line : Line) → list_of line ≡ None → line_comes s (Some line) ≡ passing (onto_line s [])
no_list_comes s (label name) e = refl
no_list_comes s (list text) e = absurd (let no : Some text ≡ None = e in cc)
no_list_comes s empty e = refl

-- a line with one comes to it
pub some_list_comes : (s : Running) (line : Line) (text : List ℕ) → list_of line ≡ Some text → line_comes s (Some line) ≡ list_comes s (items text)
some_list_comes s (label name) text e = absurd (let no : None ≡ Some text = e in cc)
some_list_comes s (list other) text e = let same : other ≡ text = cc in ap (λ t. list_comes s (items t)) same
some_list_comes s empty text e = absurd (let no : None ≡ Some text = e in cc)
