-- A command changes no setting but the one that it names.
use Rattle.std.proofs.Common.{◌≡◌, ℕ, Bool, true, false, not, ◌&&◌, List, [], ◌∷◌, ◌++◌, get_or, Option, Some, None, Ok, Err, ℤ, ◌+ℤ◌, refl, ap, ◌∙◌, sym, subst}
use Rattle.std.specs.Prelude.{filter, find, option_map, if◌then◌else◌}
use Rattle.std.specs.Fmt.{signed_decimal}
use Rattle.std.specs.declared.result.Result.{Result}
use Rattle.std.specs.Str.{bytes_eq}
use Rattle.std.proofs.lemmas.List.Folds.{find_past}
use Rattle.std.proofs.lemmas.List.Quantifiers.{position-Some}
use Rattle.std.proofs.lemmas.Slice.Eq.{bytes_eq-Decides}
use Rattle.nb_settings.specs.declared.error.SetError.{SetError}
use Rattle.nb_settings.specs.declared.kind.Kind.{Kind}
use Rattle.nb_settings.specs.declared.setting.OwnedKey.{OwnedKey}
use Rattle.nb_settings.specs.declared.setting.Setting.{Setting}
use Rattle.nb_settings.specs.Keys.{same_key}
use Rattle.nb_settings.specs.Names.{SettingName}
use Rattle.nb_settings.specs.Tables.{TableLists, is_of, is_setting, own_value, setting_of, setting_value, place_of, put_at, with_value, cleared, put_refusal, has_block}
use Rattle.nb_settings.proofs.FindLemmas.{either_way, both}
use Rattle.nb_settings.proofs.OneKeyLemmas.{one_key, same_as_itself}
use Rattle.nb_expand.specs.Reading.{parsed}
use Rattle.nb_command.specs.declared.error.ApplyError.{ApplyError}
use Rattle.nb_command.specs.declared.error.ApplyError.TheVariants.{BadName}
use Rattle.nb_command.specs.Settings.{named_block, change_named, put_answer, put_value, put_text}
use Rattle.nb_command.specs.Others.{is_meant}
use Rattle.nb_command.specs.Set.{set_kind, set_value}
use Rattle.nb_command.specs.Inc.{sum_put}

pub same_Ok : {T E : Type 0} (x y : T) → ◌≡◌ {A = Result T E} (Ok x) (Ok y) → x ≡ y
same_Ok x y is = cc

meant : (block other : List ℕ) (key another : OwnedKey) → block ≡ other → key ≡ another → (bytes_eq block other && same_key key another) ≡ true
meant block other key another b k =
    let same : same_key key another ≡ true = ap (λ x. same_key key x) (sym k) ∙ same_as_itself key in
    rw ((bytes_eq-Decides block other).1 b, same) refl

-- a setting isn't that of two blocks or two keys
apart : (block other : List ℕ) (key another : OwnedKey) (x : Setting) → (bytes_eq block other && same_key key another) ≡ false → is_setting block key x ≡ true → is_setting other another x ≡ false
apart block other key another x off on = either_way (is_setting other another x)
    (λ yes.
    let there = both (is_of block x) (same_key x.key key) on in
    let here = both (is_of other x) (same_key x.key another) yes in
    let b : block ≡ other = sym ((bytes_eq-Decides x.block block).0 there.0) ∙ (bytes_eq-Decides x.block other).0 here.0 in
    let k : key ≡ another = sym (one_key x.key key there.1) ∙ one_key x.key another here.1 in
    let wrong : true ≡ false = sym (meant block other key another b k) ∙ off in
    absurd cc)
    (λ no. no)

find-push : {A : Type 0} (p : A → Bool) (xs : List A) (x : A) → p x ≡ false → find p (xs ++ x ∷ []) ≡ find p xs
find-push p [] x off = rw off refl
find-push p (y ∷ ys) x off = either_way (p y) (λ on. rw on refl) (λ no. rw no (find-push p ys x off))

find-filter : {A : Type 0} (p q : A → Bool) (xs : List A) → ((x : A) → q x ≡ true → p x ≡ false) → find p (filter (λ x. not (q x)) xs) ≡ find p xs
find-filter p q [] off = refl
find-filter p q (x ∷ xs) off =
    let ih = find-filter p q xs off in
    either_way (q x)
    (λ on. rw (on, off x on) ih)
    (λ no. either_way (p x) (λ px. rw (no, px) refl) (λ px. rw (no, px) ih))

-- all other settings of a table are as they were
abbrev pub OthersStay : List ℕ → OwnedKey → TableLists → TableLists → Type 0
OthersStay block key table new =
    (other : List ℕ) (another : OwnedKey) → (bytes_eq block other && same_key key another) ≡ false → own_value other another new ≡ own_value other another table

same_setting : (s : Setting) → is_setting s.block s.key s ≡ true
same_setting s = rw ((bytes_eq-Decides s.block s.block).1 refl, same_as_itself s.key) refl

put_found : (s : Setting) (settings : List Setting) (place : Option ℕ) → place_of s.block s.key settings ≡ place → (other : List ℕ) (another : OwnedKey) → (bytes_eq s.block other && same_key s.key another) ≡ false → find (is_setting other another) (put_at place s settings) ≡ find (is_setting other another) settings
put_found s settings None at other another off =
    find-push (is_setting other another) settings s (apart s.block other s.key another s off (same_setting s))
put_found s settings (Some i) at other another off =
    let there = position-Some (is_setting s.block s.key) settings i s at in
    find_past (is_setting other another) settings i s s
    (apart s.block other s.key another (get_or settings i s) off there.1)
    (apart s.block other s.key another s off (same_setting s))

put_stays : (s : Setting) (table : TableLists) → OthersStay s.block s.key table (with_value s table)
unfolding own_value
put_stays s table = λ other another off.
    ap (option_map setting_value) (put_found s table.settings (place_of s.block s.key table.settings) refl other another off)

pub cleared_stays : (block : List ℕ) (key : OwnedKey) (table : TableLists) → OthersStay block key table (cleared block key table)
unfolding own_value
cleared_stays block key table = λ other another off.
    ap (option_map setting_value) (find-filter (is_setting other another) (is_setting block key) table.settings (λ x on. apart block other key another x off on))

-- what a change gives, where it gives a table
pub stays_if : (block : List ℕ) (key : OwnedKey) (table given new : TableLists) → ◌≡◌ {A = Result TableLists ApplyError} (Ok given) (Ok new) → OthersStay block key table given → OthersStay block key table new
stays_if block key table given new is stays =
    let e : given ≡ new = same_Ok given new is in
    subst (OthersStay block key table) e stays

answer_stays : (block : List ℕ) (key : OwnedKey) (table given new : TableLists) (why : Option SetError) → put_answer why given ≡ Ok new → OthersStay block key table given → OthersStay block key table new
answer_stays block key table given new None is stays = stays_if block key table given new is stays
answer_stays block key table given new (Some why) is stays = absurd cc

value_stays : (block : List ℕ) (key : OwnedKey) (kind : Kind) (bytes : Option (List ℕ)) (table new : TableLists) → put_value block key kind bytes table ≡ Ok new → OthersStay block key table new
value_stays block key kind None table new is = absurd cc
value_stays block key kind (Some bytes) table new is =
    answer_stays block key table (with_value (setting_of block key kind bytes) table) new (put_refusal block key bytes table) is (put_stays (setting_of block key kind bytes) table)

pub bytes_stay : (name : SettingName) (kind : Kind) (bytes : List ℕ) (table new : TableLists) → put_value (named_block name) name.key kind (Some bytes) table ≡ Ok new → OthersStay (named_block name) name.key table new
bytes_stay name kind bytes table new is = value_stays (named_block name) name.key kind (Some bytes) table new is

text_stays : (name : SettingName) (kind : Kind) (text : List ℕ) (table new : TableLists) → put_text name kind text table ≡ Ok new → OthersStay (named_block name) name.key table new
text_stays name kind text table new is = value_stays (named_block name) name.key kind (parsed kind text) table new is

pub set_stays : (value : List ℕ) (table new : TableLists) (name : SettingName) → set_value value table name ≡ Ok new → OthersStay (named_block name) name.key table new
set_stays [] table new name is = stays_if (named_block name) name.key table (cleared (named_block name) name.key table) new is (cleared_stays (named_block name) name.key table)
set_stays (byte ∷ bytes) table new name is = text_stays name (set_kind name) (byte ∷ bytes) table new is

pub sum_stays : (name : SettingName) (by : ℤ) (table new : TableLists) (from : Option (Kind × ℤ)) → sum_put name by table from ≡ Ok new → OthersStay (named_block name) name.key table new
sum_stays name by table new None is = absurd cc
sum_stays name by table new (Some from) is = text_stays name from.0 (signed_decimal (from.1 +ℤ by)) table new is

-- a change of the named block
in_block_stays : (change : Result TableLists ApplyError) (there : Bool) (new : TableLists) → (if there then change else Err BadName) ≡ Ok new → change ≡ Ok new
in_block_stays change true new is = is
in_block_stays change false new is = absurd cc

pub named_stays : (change : SettingName → Result TableLists ApplyError) (table new : TableLists) (name : Option SettingName) → change_named change table name ≡ Ok new → ((n : SettingName) → change n ≡ Ok new → OthersStay (named_block n) n.key table new) → (other : List ℕ) (another : OwnedKey) → is_meant name other another ≡ false → own_value other another new ≡ own_value other another table
named_stays change table new None is stays other another off = absurd cc
named_stays change table new (Some n) is stays other another off =
    stays n (in_block_stays (change n) (has_block (named_block n) table.blocks) new is) other another off
