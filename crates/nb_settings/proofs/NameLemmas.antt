-- Names: by the grammar, and as a function of the bytes.
use Rattle.std.proofs.Common.{◌≡◌, ℕ, List, [], ◌∷◌, ◌++◌, Option, Some, None, true, refl, ap, ◌∙◌, sym, subst, append_assoc, append-nil}
use Rattle.std.specs.Prelude.{option_map, option_and_then, IfSome}
use Rattle.std.proofs.lemmas.Option.{same_Some}
use Rattle.nb_settings.specs.declared.kind.Kind.{Kind}
use Rattle.nb_settings.specs.declared.name.Name.{Name}
use Rattle.nb_settings.specs.declared.setting.OwnedKey.{OwnedKey}
use Rattle.nb_settings.specs.Kinds.{kind_name, kind_named}
use Rattle.nb_settings.specs.Names.{SettingName, name_of, IsBlockName, IsKeyText, IsName, block_text, kind_text, cut_at, key_read, is_block_name, kind_cut, tail_read, block_cut, name_read}
use Rattle.nb_settings.proofs.FindLemmas.{either_way}
use Rattle.nb_settings.proofs.KindLemmas.{kind_named-name, kind_named-some, kind_name-no_slash}
use Rattle.nb_settings.proofs.CutLemmas.{cut, has_no, has_no-append, cut_at-front, cut_at-without, cut_at-stands}
use Rattle.nb_settings.proofs.KeyLemmas.{key_no, key_read-complete, key_read-sound, is_block_name-complete, is_block_name-sound, block_no_slash}

abbrev named : Option (List ℕ) → OwnedKey → Option Kind → SettingName
named block key kind = record { block = block; key = key; kind = kind }

tail_alone : (block : Option (List ℕ)) (text : List ℕ) → cut_at 58 text ≡ None → tail_read block text ≡ option_map (λ key. named block key None) (key_read text)
unfolding tail_read
tail_alone block text none = rw none refl

tail_kind : (block : Option (List ℕ)) (text front back : List ℕ) → cut_at 58 text ≡ Some (cut front back) → tail_read block text ≡ option_and_then (λ key. option_map (λ kind. named block key (Some kind)) (kind_named back)) (key_read front)
unfolding tail_read
tail_kind block text front back some = rw some refl

-- a key and what names its kind are read
tail_complete : (block : Option (List ℕ)) (key : OwnedKey) (kind : Option Kind) (text : List ℕ) → IsKeyText text key → tail_read block (text ++ kind_text kind) ≡ Some (named block key kind)
tail_complete block key None text is =
    let none = cut_at-without 58 text (key_no 58 text key refl refl refl is) in
    ap (tail_read block) (append-nil text) ∙ tail_alone block text none ∙ ap (option_map (λ k. named block k None)) (key_read-complete text key is)
tail_complete block key (Some kind) text is =
    let some = cut_at-front 58 text (kind_name kind) (key_no 58 text key refl refl refl is) in
    tail_kind block (text ++ 58 ∷ kind_name kind) text (kind_name kind) some ∙ rw (key_read-complete text key is, kind_named-name kind) refl

no_slash : (key : OwnedKey) (kind : Option Kind) (text : List ℕ) → IsKeyText text key → has_no 47 (text ++ kind_text kind) ≡ true
no_slash key None text is = has_no-append 47 text [] (key_no 47 text key refl refl refl is) refl
no_slash key (Some kind) text is =
    let second : has_no 47 (58 ∷ kind_name kind) ≡ true = rw (kind_name-no_slash kind) refl in
    has_no-append 47 text (58 ∷ kind_name kind) (key_no 47 text key refl refl refl is) second

without_block : (text : List ℕ) → cut_at 47 text ≡ None → name_read text ≡ tail_read None text
unfolding name_read
without_block text none = rw none refl

with_block : (text block rest : List ℕ) → cut_at 47 text ≡ Some (cut block rest) → is_block_name block ≡ true → name_read text ≡ tail_read (Some block) rest
unfolding name_read
with_block text block rest some is = rw some (rw is refl)

name_complete : (block : Option (List ℕ)) (key : OwnedKey) (kind : Option Kind) (text : List ℕ) → IsKeyText text key → IfSome block IsBlockName → name_read (block_text block ++ (text ++ kind_text kind)) ≡ Some (named block key kind)
name_complete None key kind text is block_is =
    let tail = text ++ kind_text kind in
    without_block tail (cut_at-without 47 tail (no_slash key kind text is)) ∙ tail_complete None key kind text is
name_complete (Some block) key kind text is block_is =
    let tail = text ++ kind_text kind in
    let some = cut_at-front 47 block tail (block_no_slash block block_is) in
    ap name_read (append_assoc block (47 ∷ []) tail)
    ∙ with_block (block ++ 47 ∷ tail) block tail some (is_block_name-complete block block_is)
    ∙ tail_complete (Some block) key kind text is

-- each spelling of a name is read
pub name_read-complete : (text : List ℕ) (name : SettingName) → IsName text name → name_read text ≡ Some name
name_read-complete text name is = ap name_read is.spelled ∙ name_complete name.block name.key name.kind is.key_text is.is_key is.is_block

-- what was read after the block
record IsTail (block : Option (List ℕ)) (text : List ℕ) (name : SettingName) : Type 0 where
  key_text : List ℕ
  is_key : IsKeyText key_text name.key
  same_block : block ≡ name.block
  spelled : text ≡ key_text ++ kind_text name.kind

read_alone : (block : Option (List ℕ)) (text : List ℕ) (name : SettingName) (key : Option OwnedKey) → key_read text ≡ key → option_map (λ k. named block k None) key ≡ Some name → IsTail block text name
read_alone block text name None read is = absurd cc
read_alone block text name (Some key) read is =
    let same : named block key None ≡ name = same_Some (named block key None) name is in
    subst (IsTail block text) same (record { key_text = text; is_key = key_read-sound text key read; same_block = refl; spelled = sym (append-nil text) })

read_kind : (block : Option (List ℕ)) (text front back : List ℕ) (name : SettingName) (key : Option OwnedKey) (kind : Option Kind) → text ≡ front ++ 58 ∷ back → key_read front ≡ key → kind_named back ≡ kind → option_and_then (λ k. option_map (λ t. named block k (Some t)) kind) key ≡ Some name → IsTail block text name
read_kind block text front back name None kind stands one two is = absurd cc
read_kind block text front back name (Some key) None stands one two is = absurd cc
read_kind block text front back name (Some key) (Some kind) stands one two is =
    let same : named block key (Some kind) ≡ name = same_Some (named block key (Some kind)) name is in
    subst (IsTail block text) same (record {
      key_text = front;
      is_key = key_read-sound front key one;
      same_block = refl;
      spelled = stands ∙ ap (λ x. front ++ 58 ∷ x) (kind_named-some back kind two);
    })

tail_by : (block : Option (List ℕ)) (text : List ℕ) (name : SettingName) (found : Option (List ℕ × List ℕ)) → cut_at 58 text ≡ found → kind_cut block found text ≡ Some name → IsTail block text name
tail_by block text name None at is = read_alone block text name (key_read text) refl is
tail_by block text name (Some p) at is =
    read_kind block text p.0 p.1 name (key_read p.0) (kind_named p.1) (cut_at-stands 58 text p.0 p.1 at) refl refl is

tail_sound : (block : Option (List ℕ)) (text : List ℕ) (name : SettingName) → tail_read block text ≡ Some name → IsTail block text name
unfolding tail_read
tail_sound block text name is = tail_by block text name (cut_at 58 text) refl is

name_from_tail : (block : Option (List ℕ)) (text rest : List ℕ) (name : SettingName) → IfSome block IsBlockName → text ≡ block_text block ++ rest → IsTail block rest name → IsName text name
name_from_tail block text rest name is stands tail = record {
  key_text = tail.key_text;
  is_key = tail.is_key;
  is_block = subst (λ b. IfSome b IsBlockName) tail.same_block is;
  spelled = stands ∙ ap (λ b. block_text b ++ rest) tail.same_block ∙ ap (λ r. block_text name.block ++ r) tail.spelled;
}

name_by : (text : List ℕ) (name : SettingName) (found : Option (List ℕ × List ℕ)) → cut_at 47 text ≡ found → block_cut found text ≡ Some name → IsName text name
name_by text name None at is = name_from_tail None text text name tt refl (tail_sound None text name is)
name_by text name (Some p) at is = either_way (is_block_name p.0)
    (λ on. name_from_tail (Some p.0) text p.1 name (is_block_name-sound p.0 on) (cut_at-stands 47 text p.0 p.1 at ∙ sym (append_assoc p.0 (47 ∷ []) p.1)) (tail_sound (Some p.0) p.1 name (rw on at is)))
    (λ off. let none : None ≡ Some name = rw off at is in absurd cc)

-- and nothing else
pub name_read-sound : (text : List ℕ) (name : SettingName) → name_read text ≡ Some name → IsName text name
unfolding name_read
name_read-sound text name is = name_by text name (cut_at 47 text) refl is

pub read_is_sound : (text : List ℕ) (read : Option Name) → option_map name_of read ≡ name_read text → IfSome read (λ name. IsName text (name_of name))
read_is_sound text None is = tt
read_is_sound text (Some name) is = name_read-sound text (name_of name) (sym is)
