-- What the commands are that are cut from words.
use Rattle.std.proofs.Common.{◌≡◌, ℕ, ◌+◌, Bool, true, false, ◌||◌, cond, List, [], ◌∷◌, ◌++◌, length, refl, sym, ap, arith}
use Rattle.std.specs.Prelude.{codes, count_by, All}
use Rattle.std.specs.Str.{bytes_eq}
use Rattle.std.proofs.lemmas.Slice.Eq.{bytes_eq-Decides}
use Rattle.std.proofs.lemmas.List.Elements.{All-nil, All-cons, All-weaker}
use Rattle.std.proofs.lemmas.List.Sums.{sum_by-cons}
use Rattle.nb_defs.specs.ScriptText.{is_join}
use Rattle.nb_defs.specs.ScriptLines.{Join, first_join, and_join, or_join, then_join, join_of, Item, item, cut_words, is_no_join, join_words, spelled, IsJoinedItem, IsCommandIn, AreCutFrom}

same_bytes : (xs ys : List ℕ) → bytes_eq xs ys ≡ true → xs ≡ ys
same_bytes xs ys h = (bytes_eq-Decides xs ys).0 h

word_of : (word : List ℕ) (a b c : Bool) → bytes_eq word (codes "&&") ≡ a → bytes_eq word (codes "||") ≡ b → bytes_eq word (codes ";") ≡ c → (a || b || c) ≡ true → join_words (join_of word) ≡ word ∷ []
unfolding join_of
word_of word true b c e f g h = rw e (ap (λ w. w ∷ []) (sym (same_bytes word (codes "&&") e)))
word_of word false true c e f g h = rw (e, f) (ap (λ w. w ∷ []) (sym (same_bytes word (codes "||") f)))
word_of word false false true e f g h = rw (e, f) (ap (λ w. w ∷ []) (sym (same_bytes word (codes ";") g)))
word_of word false false false e f g h = cc

-- a join word is its join's
pub join_words-join_of : (word : List ℕ) → is_join word ≡ true → join_words (join_of word) ≡ word ∷ []
join_words-join_of word h = word_of word _ _ _ refl refl refl h

no_first : (word : List ℕ) (a b : Bool) → bytes_eq word (codes "&&") ≡ a → bytes_eq word (codes "||") ≡ b → ¬ (join_of word ≡ first_join)
unfolding join_of
no_first word true b e f = λ h. let g : and_join ≡ first_join = rw e at h in cc
no_first word false true e f = λ h. let g : or_join ≡ first_join = rw (e, f) at h in cc
no_first word false false e f = λ h. let g : then_join ≡ first_join = rw (e, f) at h in cc

-- what the commands are that are cut from words, the first at this join
record Shape (join : Join) (ws : List (List ℕ)) (cut : List Item) : Type 0 where
  words : List (List ℕ)
  behind : List Item
  cut_are : cut ≡ item join words ∷ behind
  spelled_are : words ++ spelled behind ≡ ws
  joined : All IsJoinedItem behind
  command : IsCommandIn ws (item join words)
  each : All (IsCommandIn ws) behind
  few : length behind ≡ count_by is_join ws

count_more : (p : List ℕ → Bool) (word : List ℕ) (ws : List (List ℕ)) → count_by p (word ∷ ws) ≡ cond (p word) 1 0 + count_by p ws
count_more p word ws = sum_by-cons (λ w. cond (p w) 1 0) word ws

-- a command in fewer words
weaker : (word : List ℕ) (ws : List (List ℕ)) (i : Item) → IsCommandIn ws i → IsCommandIn (word ∷ ws) i
weaker word ws i c = record {
  no_joins = c.no_joins;
  few = omega (arith, c.few, count_more is_no_join word ws);
  small = omega (arith, c.small, sum_by-cons length word ws);
}

shape_join : (join : Join) (word : List ℕ) (ws : List (List ℕ)) → is_join word ≡ true → Shape (join_of word) ws (cut_words (join_of word) ws) → Shape join (word ∷ ws) (cut_words join (word ∷ ws))
unfolding cut_words
shape_join join word ws e s = record {
  words = [];
  behind = cut_words (join_of word) ws;
  cut_are = rw e refl;
  spelled_are = rw (s.cut_are, join_words-join_of word e) (ap (λ ws. word ∷ ws) s.spelled_are);
  joined = rw s.cut_are (All-cons IsJoinedItem (item (join_of word) s.words) s.behind (no_first word _ _ refl refl) s.joined);
  command = record { no_joins = refl; few = omega arith; small = omega arith };
  each = rw s.cut_are
      (All-cons (IsCommandIn (word ∷ ws)) (item (join_of word) s.words) s.behind (weaker word ws _ s.command) (All-weaker (IsCommandIn ws) (IsCommandIn (word ∷ ws)) (weaker word ws) s.behind s.each));
  few = rw (s.cut_are, count_more is_join word ws, e) (omega (arith, s.few));
}

shape_word : (join : Join) (word : List ℕ) (ws : List (List ℕ)) → is_join word ≡ false → Shape join ws (cut_words join ws) → Shape join (word ∷ ws) (cut_words join (word ∷ ws))
unfolding cut_words
shape_word join word ws e s = record {
  words = word ∷ s.words;
  behind = s.behind;
  cut_are = rw (e, s.cut_are) refl;
  spelled_are = ap (λ ws. word ∷ ws) s.spelled_are;
  joined = s.joined;
  command = record {
    no_joins = rw e s.command.no_joins;
    few = rw (count_more is_no_join word ws, e) (omega (arith, s.command.few));
    small = rw (sum_by-cons length word ws, sum_by-cons length word s.words) (omega (arith, s.command.small));
  };
  each = All-weaker (IsCommandIn ws) (IsCommandIn (word ∷ ws)) (weaker word ws) s.behind s.each;
  few = rw (count_more is_join word ws, e) (omega (arith, s.few));
}

shape_more : (join : Join) (word : List ℕ) (ws : List (List ℕ)) (t : Bool) → is_join word ≡ t → ((j : Join) → Shape j ws (cut_words j ws)) → Shape join (word ∷ ws) (cut_words join (word ∷ ws))
shape_more join word ws true e ih = shape_join join word ws e (ih (join_of word))
shape_more join word ws false e ih = shape_word join word ws e (ih join)

shape : (ws : List (List ℕ)) (join : Join) → Shape join ws (cut_words join ws)
unfolding cut_words
shape [] join = record {
  words = [];
  behind = [];
  cut_are = refl;
  spelled_are = refl;
  joined = All-nil IsJoinedItem;
  command = record { no_joins = refl; few = omega arith; small = omega arith };
  each = All-nil (IsCommandIn []);
  few = refl;
}
shape (word ∷ ws) join = shape_more join word ws (is_join word) refl (shape ws)

-- the commands cut from words
pub cut_words_are : (ws : List (List ℕ)) → AreCutFrom ws (cut_words first_join ws)
cut_words_are ws =
    let s = shape ws first_join in
    rw s.cut_are
    (record {
      first = refl;
      behind_first = s.joined;
      spelled_are = s.spelled_are;
      each = All-cons (IsCommandIn ws) (item first_join s.words) s.behind s.command s.each;
      few = omega (arith, s.few);
    })
