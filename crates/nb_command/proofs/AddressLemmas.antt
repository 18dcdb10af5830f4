-- An address put as a value, and whether it is refused.
use Rattle.std.proofs.Common.{◌≡◌, ℕ, suc, ◌+◌, ◌≤◌, Bool, true, false, not, cond, ltb, List, [], ◌∷◌, length, Option, Some, None, Ok, Err, refl, ap, ◌∙◌, sym, arith}
use Rattle.std.specs.Prelude.{find, is_none, nat_le, option_map, unwrap_or, OnOk, OnErr}
use Rattle.std.specs.declared.result.Result.{Result}
use Rattle.std.specs.Int.{to_be_bytes, w32}
use Rattle.std.specs.List.{position_or_len}
use Rattle.std.specs.Result.{result_err}
use Rattle.std.proofs.lemmas.Bool.Decides.{nat_tests}
use Rattle.nb_settings.specs.declared.error.SetError.{SetError}
use Rattle.nb_settings.specs.declared.kind.Kind.{Kind}
use Rattle.nb_settings.specs.declared.kind.Kind.TheVariants.{Ipv4}
use Rattle.nb_settings.specs.declared.setting.OwnedKey.{OwnedKey}
use Rattle.nb_settings.specs.Names.{SettingName, name_read}
use Rattle.nb_settings.specs.Tables.{TableLists, count_in, count_of, has_block, is_full, is_setting, own_value, place_of, setting_value}
use Rattle.nb_settings.proofs.FindLemmas.{either_way}
use Rattle.nb_command.specs.declared.error.ApplyError.{ApplyError}
use Rattle.nb_command.specs.declared.error.ApplyError.TheVariants.{BadName}
use Rattle.nb_command.specs.Addresses.{address_put, address_table}
use Rattle.nb_command.specs.Others.{is_meant}
use Rattle.nb_command.specs.Settings.{Change, named_block, change_named, put_answer, put_value}
use Rattle.nb_command.proofs.OtherSettings.{OthersStay, bytes_stay, named_stays}

found_at : (b : Bool) (k : ℕ) → is_none (cond b (Some k) None) ≡ not b
found_at true k = refl
found_at false k = refl

pub mapped : {A B : Type 0} (f : A → B) (o : Option A) → is_none (option_map f o) ≡ is_none o
mapped f None = refl
mapped f (Some x) = refl

first_inside : (n : ℕ) → ltb 0 (suc n) ≡ true
first_inside n = grind (arith, nat_tests)

one_further : (k n : ℕ) → ltb (1 + k) (suc n) ≡ ltb k n
one_further k n = grind (arith, nat_tests)

found_or_not : {A : Type 0} (p : A → Bool) (xs : List A) → is_none (find p xs) ≡ not (ltb (position_or_len p xs) (length xs))
found_or_not p [] = refl
found_or_not p (x ∷ xs) = either_way (p x)
    (λ on. rw on (sym (ap not (first_inside (length xs)))))
    (λ off. rw off (found_or_not p xs ∙ sym (ap not (one_further (position_or_len p xs) (length xs)))))

-- a block has no setting of a key where it has no place for it
placeless : (block : List ℕ) (key : OwnedKey) (table : TableLists) → is_none (place_of block key table.settings) ≡ is_none (own_value block key table)
unfolding own_value
placeless block key table =
    let test = is_setting block key in
    let n = position_or_len test table.settings in
    found_at (ltb n (length table.settings)) n ∙ sym (found_or_not test table.settings) ∙ sym (mapped setting_value (find test table.settings))

enough : (n : ℕ) → 128 ≤ n → nat_le 128 n ≡ true
enough n many = grind (arith, nat_tests)

-- a block with as many settings as it may have is full for the keys of which it has none
pub full_block : (block : List ℕ) (key : OwnedKey) (table : TableLists) → has_block block table.blocks ≡ true → 128 ≤ unwrap_or (count_in block table) 0 → is_none (own_value block key table) ≡ is_full block key table.settings
full_block block key table there many =
    let counted : 128 ≤ count_of block table.settings = rw there at many in
    rw (enough (count_of block table.settings) counted) (sym (placeless block key table))

-- a value put, or refused, leaves all other settings as they were
pub put_or_kept : {A : Type 0} (result : Result A ApplyError) (name : SettingName) (kind : Kind) (bytes : List ℕ) (table new : TableLists) → OnOk result (put_value (named_block name) name.key kind (Some bytes) table ≡ Ok new) → OnErr result (new ≡ table) → OthersStay (named_block name) name.key table new
put_or_kept (Ok x) name kind bytes table new is same = bytes_stay name kind bytes table new is
put_or_kept (Err why) name kind bytes table new is same = λ other another off. ap (own_value other another) same

-- an address put changes no other setting
pub address_stays : (word : List ℕ) (address : ℕ) (table new : TableLists) → address_table word address table ≡ Ok new → (block : List ℕ) (key : OwnedKey) → is_meant (name_read word) block key ≡ false → own_value block key new ≡ own_value block key table
address_stays word address table new is =
    named_stays (address_put address table) table new (name_read word) is (λ name put. bytes_stay name Ipv4 (to_be_bytes w32 address) table new put)

answer_alike : (why : Option SetError) (one other : TableLists) → result_err (put_answer why one) ≡ result_err (put_answer why other)
answer_alike None one other = refl
answer_alike (Some why) one other = refl

there_alike : (there : Bool) (one other : Change) → result_err one ≡ result_err other → result_err (cond there one (Err BadName)) ≡ result_err (cond there other (Err BadName))
there_alike true one other same = same
there_alike false one other same = refl

named_alike : (name : Option SettingName) (address other : ℕ) (table : TableLists) → result_err (change_named (address_put address table) table name) ≡ result_err (change_named (address_put other table) table name)
named_alike None address other table = refl
named_alike (Some name) address other table =
    there_alike (has_block (named_block name) table.blocks) (address_put address table name) (address_put other table name) (answer_alike _ _ _)

-- each address is refused for the same reason, or none is
pub refused_alike : (word : List ℕ) (address other : ℕ) (table : TableLists) → result_err (address_table word address table) ≡ result_err (address_table word other table)
refused_alike word address other table = named_alike (name_read word) address other table
