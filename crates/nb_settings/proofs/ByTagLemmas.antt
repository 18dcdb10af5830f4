-- Settings that have tags are kept by their tags.
use Rattle.std.proofs.Common.{◌≡◌, ◌∙◌, sym, subst, refl, ℕ, List, [], ◌∷◌, ◌++◌, Bool, true, false, not, ◌&&◌, Option, Some, None, Ok, Err, inl, inr, append-nil}
use Rattle.std.specs.Prelude.{codes, ◌==◌, filter, find, IfSome, OnOk, OnErr, option_map, if◌then◌else◌}
use Rattle.std.specs.List.{All, Contains, list_all}
use Rattle.std.specs.Str.{bytes_eq}
use Rattle.std.specs.declared.result.Result.{Result}
use Rattle.std.proofs.lemmas.List.Elements.{All-nil, All-cons, All-append, All-contains, All-filter, All-push, All-set, All-weaker}
use Rattle.nb_settings.specs.declared.name.Name.{Name}
use Rattle.nb_settings.specs.declared.setting.OwnedKey.{OwnedKey}
use Rattle.nb_settings.specs.declared.setting.OwnedKey.TheVariants.{Tag, Sub, Free}
use Rattle.nb_settings.specs.declared.setting.Setting.{Setting}
use Rattle.nb_settings.specs.Keys.{key_of, same_key}
use Rattle.nb_settings.specs.Listed.{Listed, listed, key_named, IsByTag}
use Rattle.nb_settings.specs.Names.{IsKeyText, is_word, key_alone, name_of, name_read}
use Rattle.nb_settings.specs.Tables.{put_at, is_of, without_block}
use Rattle.nb_settings.specs.LeaseSettings.{numbered, tag_settings, inner_settings, address_setting, address_settings, address_at, lease_settings}
use Rattle.nb_settings.proofs.OneKeyLemmas.{one_key}
use Rattle.nb_settings.proofs.DoublesLemmas.{all_pass}
use Rattle.nb_settings.proofs.TableLemmas.{found-all}
use Rattle.nb_settings.proofs.NameLemmas.{name_read-sound, name_read-complete}
use Rattle.nb_settings.proofs.LeaseKeysLemmas.{From, numbered_from, tag_of_key, inner_of_key}
use Rattle.nb_settings.proofs.FindLemmas.{both}

-- NAMES

-- the test of it
abbrev is_by_tag : OwnedKey → Bool
is_by_tag (Tag n) = true
is_by_tag (Sub outer inner) = true
is_by_tag (Free name) = same_key (key_named name) (Free name)

by_tag : (key : OwnedKey) → is_by_tag key ≡ true → IsByTag key
by_tag (Tag n) is = tt
by_tag (Sub outer inner) is = tt
by_tag (Free name) is = one_key (key_named name) (Free name) is

lines_by_tag : list_all (λ (row : Listed). is_by_tag row.key) listed ≡ true
unfolding key_named
lines_by_tag = refl

line_by_tag : (text : List ℕ) (found : Option Listed) → find (λ (row : Listed). bytes_eq text row.name) listed ≡ found → IsByTag (key_named text)
unfolding key_named
line_by_tag text None at = rw at (rw at refl)
line_by_tag text (Some row) at =
    rw at (by_tag row.key (found-all (λ (line : Listed). is_by_tag line.key) (λ (line : Listed). bytes_eq text line.name) listed row lines_by_tag at))

named_by_tag : (text : List ℕ) → IsByTag (key_named text)
named_by_tag text = line_by_tag text (find (λ (row : Listed). bytes_eq text row.name) listed) refl

text_by_tag : (text : List ℕ) (key : OwnedKey) → IsKeyText text key → IsByTag key
text_by_tag text (Tag n) is = tt
text_by_tag text (Sub outer inner) is = tt
text_by_tag text (Free name) is = elim is [
  | inl tag ↦ absurd tag
  | inr word ↦ subst IsByTag (sym word.1) (named_by_tag text)
]

-- a name that is read is by its tag
pub read_by_tag : (text : List ℕ) (read : Option Name) → option_map name_of read ≡ name_read text → IfSome read (λ name. IsByTag (key_of name.key))
read_by_tag text None is = tt
read_by_tag text (Some name) is =
    let read = name_read-sound text (name_of name) (sym is) in
    text_by_tag read.key_text (key_of name.key) read.is_key

abbrev is_line : Listed → Bool
is_line row = is_word row.name && same_key (key_named row.name) row.key

lines_are_words : list_all is_line listed ≡ true
unfolding key_named is_word
lines_are_words = refl

-- each listed name is read as its key
pub line_read : (text : List ℕ) (row : Listed) → Contains listed row → text ≡ row.name → name_read text ≡ Some (key_alone row.key)
line_read text row there same =
    let is = both (is_word row.name) (same_key (key_named row.name) row.key) (All-contains (λ line. is_line line ≡ true) listed row (all_pass is_line listed lines_are_words) there) in
    name_read-complete text (key_alone row.key) (record {
      key_text = row.name;
      is_key = inr (is.0, sym (one_key (key_named row.name) row.key is.1));
      is_block = tt;
      spelled = same ∙ sym (append-nil row.name);
    })

-- TABLES

-- the setting's key is by its tag
abbrev pub ByTag : Setting → Type 0
ByTag s = IsByTag s.key

tags_put : (place : Option ℕ) (s : Setting) (ss : List Setting) → ByTag s → All ByTag ss → All ByTag (put_at place s ss)
tags_put None s ss is all = All-push ByTag ss s all is
tags_put (Some i) s ss is all = All-set ByTag ss i s is all

pub tags_filtered : (q : Setting → Bool) (ss : List Setting) → All ByTag ss → All ByTag (filter q ss)
tags_filtered q ss all = All-filter q ByTag ss all

one_or_two : (ip server : Setting) (alone : Bool) → ByTag ip → ByTag server → All ByTag (ip ∷ (if alone then [] else server ∷ []))
one_or_two ip server true one two = All-cons ByTag ip [] one (All-nil ByTag)
one_or_two ip server false one two = All-cons ByTag ip (server ∷ []) one (All-cons ByTag server [] two (All-nil ByTag))

ip_by_tag : key_named (codes "ip") ≡ Free (codes "ip")
unfolding key_named
ip_by_tag = refl

server_by_tag : key_named (codes "next-server") ≡ Free (codes "next-server")
unfolding key_named
server_by_tag = refl

addresses_by_tag : (block : List ℕ) (yours next : ℕ) → All ByTag (address_settings block yours next)
unfolding address_settings
addresses_by_tag block yours next =
    one_or_two (address_setting block (codes "ip") yours) (address_setting block (codes "next-server") next) (next == 0) ip_by_tag server_by_tag

-- so are those of a lease
lease_by_tag : (block ack : List ℕ) → All ByTag (lease_settings block ack)
unfolding lease_settings
lease_by_tag block ack =
    let tags = numbered (tag_settings block ack) 254 in
    let inner = numbered (inner_settings block ack) 254 in
    let addresses = address_settings block (address_at 16 ack) (address_at 20 ack) in
    let tag_key = λ (n : ℕ). Tag n in
    let inner_key = λ (n : ℕ). Sub 175 n in
    let tags_are : All ByTag tags =
    All-weaker (From tag_key 1) ByTag (λ s from. subst IsByTag (sym from.2) tt) tags (numbered_from tag_key (tag_settings block ack) (tag_of_key block ack) 254) in
    let inner_are : All ByTag inner =
    All-weaker (From inner_key 1) ByTag (λ s from. subst IsByTag (sym from.2) tt) inner (numbered_from inner_key (inner_settings block ack) (inner_of_key block ack) 254) in
    All-append ByTag (tags ++ inner) addresses (All-append ByTag tags inner tags_are inner_are) (addresses_by_tag block (address_at 16 ack) (address_at 20 ack))

-- also where memory runs out, and nothing is put
pub tags_put_or : {E : Type 0} (r : Result (Unit {0}) E) (place : Option ℕ) (s : Setting) (old new : List Setting) → OnOk r (new ≡ put_at place s old) → OnErr r (new ≡ old) → ByTag s → All ByTag old → All ByTag new
tags_put_or (Ok x) place s old new ok err is all = subst (All ByTag) (sym ok) (tags_put place s old is all)
tags_put_or (Err e) place s old new ok err is all = subst (All ByTag) (sym err) all

-- and with the settings of a lease
pub tags_filled : (block ack : List ℕ) (ss : List Setting) → All ByTag ss → All ByTag (without_block block ss ++ lease_settings block ack)
tags_filled block ack ss all =
    All-append ByTag (without_block block ss) (lease_settings block ack) (tags_filtered (λ s. not (is_of block s)) ss all) (lease_by_tag block ack)
