-- The texts that a segment brings, one after another: where only the last byte of some brings one, they are its text.
use Rattle.std.proofs.Common.{◌≡◌, ◌<◌, ℕ, Bool, List, [], ◌∷◌, ◌++◌, length, drop, refl, ap, ◌∙◌, sym, append_assoc, append-nil, arith}
use Rattle.std.proofs.lemmas.List.{drop_all, drop_at}
use Rattle.nb_talks.specs.Talking.{Talker, more_of, text_calls, text_to_send, texts_by}

-- a text adds nothing to one that is the same, and to one that it begins with its rest
pub more_none : (xs : List ℕ) → more_of xs xs ≡ []
more_none xs = drop_all (length xs) xs (omega arith)

pub more_rest : (xs ys zs : List ℕ) → zs ≡ xs ++ ys → more_of xs zs ≡ ys
more_rest xs ys zs is = ap (drop (length xs)) is ∙ drop_at xs ys (length xs) refl

pub calls_append : (xs ys : List (List ℕ)) (now : ℕ) → text_calls (xs ++ ys) now ≡ text_calls xs now ++ text_calls ys now
calls_append [] ys now = refl
calls_append (x ∷ xs) ys now = ap (λ z. text_to_send x now ++ z) (calls_append xs ys now) ∙ sym (append_assoc (text_to_send x now) (text_calls xs now) (text_calls ys now))

module _ {T : Type 0} (t : Talker T) (ended : Bool) (tasks : List (T × ℕ)) where
  pub texts_append : (come xs ys : List ℕ) → texts_by t ended tasks come (xs ++ ys) ≡ texts_by t ended tasks come xs ++ texts_by t ended tasks (come ++ xs) ys
  texts_append come [] ys = ap (λ z. texts_by t ended tasks z ys) (sym (append-nil come))
  texts_append come (b ∷ xs) ys =
      ap (λ z. more_of (t.says come ended tasks) (t.says (come ++ b ∷ []) ended tasks) ∷ z)
      (texts_append (come ++ b ∷ []) xs ys ∙ ap (λ z. texts_by t ended tasks (come ++ b ∷ []) xs ++ texts_by t ended tasks z ys) (append_assoc come (b ∷ []) xs))

  -- Of these bytes after what had come none but the last brings something.
  abbrev pub OnlyLast : List ℕ → List ℕ → Type 0
  OnlyLast come xs = (part later : List ℕ) → xs ≡ part ++ later → 0 < length later → t.says (come ++ part) ended tasks ≡ t.says come ended tasks

  later_so : (come : List ℕ) (b : ℕ) (xs : List ℕ) → OnlyLast come (b ∷ xs) → t.says (come ++ b ∷ []) ended tasks ≡ t.says come ended tasks → OnlyLast (come ++ b ∷ []) xs
  later_so come b xs only same = λ part later is some.
      ap (λ z. t.says z ended tasks) (append_assoc come (b ∷ []) part) ∙ only (b ∷ part) later (ap (λ z. b ∷ z) is) some ∙ sym same

  -- they bring one text
  pub one_text : (come xs : List ℕ) (now : ℕ) → OnlyLast come xs → text_calls (texts_by t ended tasks come xs) now ≡ text_to_send (more_of (t.says come ended tasks) (t.says (come ++ xs) ended tasks)) now
  one_text come [] now only =
      sym (ap (λ z. text_to_send z now) (ap (λ z. more_of (t.says come ended tasks) (t.says z ended tasks)) (append-nil come) ∙ more_none (t.says come ended tasks)))
  one_text come (b ∷ []) now only = append-nil (text_to_send (more_of (t.says come ended tasks) (t.says (come ++ b ∷ []) ended tasks)) now)
  one_text come (b ∷ c ∷ xs) now only =
      let same : t.says (come ++ b ∷ []) ended tasks ≡ t.says come ended tasks = only (b ∷ []) (c ∷ xs) refl (omega arith) in
      let none : text_to_send (more_of (t.says come ended tasks) (t.says (come ++ b ∷ []) ended tasks)) now ≡ [] =
      ap (λ z. text_to_send (more_of (t.says come ended tasks) z) now) same ∙ ap (λ z. text_to_send z now) (more_none (t.says come ended tasks)) in
      let rest = one_text (come ++ b ∷ []) (c ∷ xs) now (later_so come b (c ∷ xs) only same) in
      ap (λ z. z ++ text_calls (texts_by t ended tasks (come ++ b ∷ []) (c ∷ xs)) now) none ∙ rest
      ∙ ap (λ z. text_to_send (more_of z (t.says ((come ++ b ∷ []) ++ c ∷ xs) ended tasks)) now) same
      ∙ ap (λ z. text_to_send (more_of (t.says come ended tasks) (t.says z ended tasks)) now) (append_assoc come (b ∷ []) (c ∷ xs))

  -- bytes that bring nothing, whatever part of them is taken
  pub no_text : (come xs : List ℕ) (now : ℕ) → ((part later : List ℕ) → xs ≡ part ++ later → t.says (come ++ part) ended tasks ≡ t.says come ended tasks) → text_calls (texts_by t ended tasks come xs) now ≡ []
  no_text come xs now none =
      one_text come xs now (λ part later is some. none part later is)
      ∙ ap (λ z. text_to_send (more_of (t.says come ended tasks) z) now) (none xs [] (sym (append-nil xs))) ∙ ap (λ z. text_to_send z now) (more_none (t.says come ended tasks))
