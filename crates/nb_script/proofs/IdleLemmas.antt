-- Which lists come to nothing, word by word.
use Rattle.std.proofs.Common.{◌≡◌, ℕ, Bool, true, false, cond, ◌&&◌, ◌||◌, List, [], ◌∷◌, Option, Some, None, refl}
use Rattle.std.specs.Prelude.{IfSome}
use Rattle.std.specs.List.{list_all}
use Rattle.nb_defs.specs.ScriptText.{is_join, line_words}
use Rattle.nb_defs.specs.ScriptLines.{Join as JoinedBy, Item, item, first_join, join_of, cut_words, are_few, items, is_or_join, is_idle_item, is_idle_list, is_idle_cut}
use Rattle.nb_script.specs.declared.join.Join.{Join}
use Rattle.nb_script.specs.ShownJoin.{shown_join}
use Rattle.nb_script.specs.Idle.{are_idle_words}

-- a join word
pub idle_joined : (join : JoinedBy) (word : List ℕ) (ws : List (List ℕ)) → is_join word ≡ true → are_idle_words join (word ∷ ws) ≡ are_idle_words (join_of word) ws
unfolding are_idle_words
idle_joined join word ws e = rw e refl

-- a word of a command that runs after a failure alone
pub idle_skipped : (join : JoinedBy) (word : List ℕ) (ws : List (List ℕ)) → is_join word ≡ false → is_or_join join ≡ true → are_idle_words join (word ∷ ws) ≡ are_idle_words join ws
unfolding are_idle_words
idle_skipped join word ws e f = rw (e, f) refl

-- a word of any other command
pub idle_begun : (join : JoinedBy) (word : List ℕ) (ws : List (List ℕ)) → is_join word ≡ false → is_or_join join ≡ false → are_idle_words join (word ∷ ws) ≡ false
unfolding are_idle_words
idle_begun join word ws e f = rw (e, f) refl

-- the join stays where the word is passed over
pub idle_same : (join : Join) (word : List ℕ) (r : Option Join) → is_join word ≡ false → IfSome r (λ next. (next ≡ join) × (is_or_join (shown_join join) ≡ true))
    → IfSome r (λ next. (ws : List (List ℕ)) → are_idle_words (shown_join join) (word ∷ ws) ≡ are_idle_words (shown_join next) ws)
idle_same join word None plain h = tt
idle_same join word (Some next) plain h = λ ws. rw h.0 (idle_skipped (shown_join join) word ws plain h.1)

pub idle_none : (join : JoinedBy) → are_idle_words join [] ≡ true
unfolding are_idle_words
idle_none join = refl

-- the first of the commands that are cut from words, and the others
record Begins (join : JoinedBy) (cut : List Item) : Type 0 where
  words : List (List ℕ)
  others : List Item
  cut_are : cut ≡ item join words ∷ others

begins_more : (join : JoinedBy) (word : List ℕ) (ws : List (List ℕ)) (t : Bool) → is_join word ≡ t → Begins join (cut_words join ws) → Begins join (cut_words join (word ∷ ws))
unfolding cut_words
begins_more join word ws true e b = record { words = []; others = cut_words (join_of word) ws; cut_are = rw e refl }
begins_more join word ws false e b = record { words = word ∷ b.words; others = b.others; cut_are = rw (e, b.cut_are) refl }

begins : (join : JoinedBy) (ws : List (List ℕ)) → Begins join (cut_words join ws)
unfolding cut_words
begins join [] = record { words = []; others = []; cut_are = refl }
begins join (word ∷ ws) = begins_more join word ws (is_join word) refl (begins join ws)

or_true : (a : Bool) → (a || true) ≡ true
or_true true = refl
or_true false = refl

and_true : (a : Bool) → a ≡ (a && true)
and_true true = refl
and_true false = refl

and_false : (a : Bool) → false ≡ (a && false)
and_false true = refl
and_false false = refl

first_word : (a b c d : Bool) → ((a || b) && c) ≡ d → ((a || false) && c) ≡ (a && d)
first_word true b c d h = h
first_word false b c d h = refl

items_more : (join : JoinedBy) (word : List ℕ) (ws : List (List ℕ)) (t : Bool) → is_join word ≡ t → ((j : JoinedBy) → list_all is_idle_item (cut_words j ws) ≡ are_idle_words j ws) → list_all is_idle_item (cut_words join (word ∷ ws)) ≡ are_idle_words join (word ∷ ws)
unfolding cut_words are_idle_words
items_more join word ws true e ih = rw (e, or_true (is_or_join join)) (ih (join_of word))
items_more join word ws false e ih =
    let b = begins join ws in
    rw (e, b.cut_are) (first_word (is_or_join join) _ (list_all is_idle_item b.others) (are_idle_words join ws) (rw b.cut_are at (ih join)))

idle_items : (ws : List (List ℕ)) (join : JoinedBy) → list_all is_idle_item (cut_words join ws) ≡ are_idle_words join ws
unfolding cut_words are_idle_words
idle_items [] join = rw (or_true (is_or_join join)) refl
idle_items (word ∷ ws) join = items_more join word ws (is_join word) refl (idle_items ws)

idle_list : (ws : List (List ℕ)) → is_idle_list (cut_words first_join ws) ≡ are_idle_words first_join ws
unfolding is_idle_list
idle_list ws =
    let b = begins first_join ws in
    rw b.cut_are (rw b.cut_are at (idle_items ws first_join))

-- a list comes to nothing by its words, where it isn't refused
pub idle_words_few : (line : List ℕ) → is_idle_cut (items line) ≡ (are_idle_words first_join (line_words line) && are_few (line_words line))
unfolding items
idle_words_few line =
    let ws = line_words line in
    elim (are_few ws) as (λ t. is_idle_cut (cond t (Some (cut_words first_join ws)) None) ≡ (are_idle_words first_join ws && t)) [
      | true ↦ rw (idle_list ws) (and_true (are_idle_words first_join ws))
      | false ↦ and_false (are_idle_words first_join ws)
    ]
