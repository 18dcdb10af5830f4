-- How the commands of a list are cut, word by word.
use Rattle.std.proofs.Common.{◌≡◌, ℕ, true, false, List, [], ◌∷◌, ◌++◌, map, refl, ap, append_assoc, length, ◌≤◌, nat_le, arith}
use Rattle.std.proofs.lemmas.List.{append-nil, map-append, get_or-map, length-map}
use Rattle.std.specs.Prelude.{codes, count_by}
use Rattle.std.proofs.lemmas.Bool.{leb-true, and_parts}
use Rattle.std.specs.Str.{bytes_eq}
use Rattle.nb_defs.specs.ScriptText.{is_join, line_words}
use Rattle.nb_defs.proofs.ScriptLaws.{words_small}
use Rattle.nb_defs.specs.ScriptLines as defs
use Rattle.nb_defs.specs.ScriptLines.{join_of, cut_words, item, are_few, is_no_join, AreCutFrom}
use Rattle.nb_script.specs.declared.item.Cutting.{Cutting}
use Rattle.nb_script.specs.declared.item.Item.{Item}
use Rattle.nb_script.specs.declared.join.Join.{Join}
use Rattle.nb_script.specs.ShownJoin.{shown_join}
use Rattle.nb_script.specs.Shown.{shown_item, FitList}
use Rattle.nb_script.specs.Cutting.{words_onto, commands_before}

onto_none : (behind : List defs.Item) → words_onto [] behind ≡ behind
onto_none [] = refl
onto_none (i ∷ behind) = refl

onto_word : (ws : List (List ℕ)) (word : List ℕ) (behind : List defs.Item) → words_onto (ws ++ word ∷ []) behind ≡ words_onto ws (defs.onto_first_item word behind)
onto_word ws word [] = refl
onto_word ws word (i ∷ behind) = rw (append_assoc ws (word ∷ []) i.words) refl

cut_join : (join : defs.Join) (word : List ℕ) (behind : List (List ℕ)) → is_join word ≡ true → cut_words join (word ∷ behind) ≡ item join [] ∷ cut_words (join_of word) behind
unfolding cut_words
cut_join join word behind e = rw e refl

cut_more : (join : defs.Join) (word : List ℕ) (behind : List (List ℕ)) → is_join word ≡ false → cut_words join (word ∷ behind) ≡ defs.onto_first_item word (cut_words join behind)
unfolding cut_words
cut_more join word behind e = rw e refl

cut_none : (join : defs.Join) → cut_words join [] ≡ item join [] ∷ []
unfolding cut_words
cut_none join = refl

-- a word more
pub before_word : (old new : Cutting) (word : List ℕ) → is_join word ≡ false → new.done ≡ old.done → new.join ≡ old.join → new.words.items ≡ old.words.items ++ word ∷ [] → (behind : List (List ℕ)) → commands_before new behind ≡ commands_before old (word ∷ behind)
before_word old new word plain d j w behind =
    rw (d, j, w, cut_more (shown_join old.join) word behind plain) (ap (λ is. map shown_item old.done.items ++ is) (onto_word old.words.items word (cut_words (shown_join old.join) behind)))

-- the last command, as it is
abbrev pub last_of : Cutting → Item
last_of c = record { join = c.join; words = c.words.items }

-- a join
pub before_join : (old new : Cutting) (word : List ℕ) (join : Join) → is_join word ≡ true → shown_join join ≡ join_of word → new.done.items ≡ old.done.items ++ last_of old ∷ [] → new.join ≡ join → new.words.items ≡ [] → (behind : List (List ℕ)) → commands_before new behind ≡ commands_before old (word ∷ behind)
before_join old new word join joins shown d j w behind =
    rw (d, j, w, map-append shown_item old.done.items (last_of old ∷ []), shown, onto_none (cut_words (join_of word) behind), cut_join (shown_join old.join) word behind joins, append-nil old.words.items)
    (append_assoc (map shown_item old.done.items) (item (shown_join old.join) old.words.items ∷ []) (cut_words (join_of word) behind))

-- the end
pub before_end : (c : Cutting) (last : Item) (all : List Item) → shown_item last ≡ item (shown_join c.join) c.words.items → all ≡ c.done.items ++ last ∷ [] → map shown_item all ≡ commands_before c []
before_end c last all l a =
    rw (a, map-append shown_item c.done.items (last ∷ []), l, cut_none (shown_join c.join), append-nil c.words.items) refl

-- which join a word is
pub join_and : (word : List ℕ) → bytes_eq word (codes "&&") ≡ true → (is_join word ≡ true) × (defs.and_join ≡ join_of word)
unfolding join_of
join_and word e = rw e (refl, refl)

pub join_or : (word : List ℕ) → bytes_eq word (codes "&&") ≡ false → bytes_eq word (codes "||") ≡ true → (is_join word ≡ true) × (defs.or_join ≡ join_of word)
unfolding join_of
join_or word e f = rw (e, f) (refl, refl)

pub join_then : (word : List ℕ) → bytes_eq word (codes "&&") ≡ false → bytes_eq word (codes "||") ≡ false → bytes_eq word (codes ";") ≡ true → (is_join word ≡ true) × (defs.then_join ≡ join_of word)
unfolding join_of
join_then word e f g = rw (e, f, g) (refl, refl)

-- the commands of a line that isn't too long and has few words
pub list_fits : (line : List ℕ) (list : List Item) → length line ≤ 4096 → are_few (line_words line) ≡ true → AreCutFrom (line_words line) (map shown_item list) → FitList list
list_fits line list short few cut =
    let ws = line_words line in
    let f = (and_parts (nat_le (count_by is_no_join ws) 64) (nat_le (count_by is_join ws) 64) few).0 in
    let g = (and_parts (nat_le (count_by is_no_join ws) 64) (nat_le (count_by is_join ws) 64) few).1 in
    let words_few : count_by is_no_join ws ≤ 64 = leb-true (count_by is_no_join ws) 64 f in
    let joins_few : count_by is_join ws ≤ 64 = leb-true (count_by is_join ws) 64 g in
    record {
      few = omega (arith, cut.few, length-map list shown_item, joins_few);
      small = λ k d l.
          let each = rw (get_or-map shown_item list k d (shown_item d) l) at (cut.each k (shown_item d) (omega (arith, l, length-map list shown_item))) in
          (omega (arith, each.few, words_few), omega (arith, each.small, words_small line, short));
    }
