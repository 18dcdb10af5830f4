-- A message as a function of its bytes is the message that the grammar says.
use Rattle.std.proofs.Common.{◌≡◌, ℕ, ◌≤◌, ◌&&◌, Bool, true, false, List, [], ◌∷◌, ◌++◌, length, drop, Option, Some, None, refl, sym, ◌∙◌, ap, subst, leb, cond}
use Rattle.std.specs.Option.{option_map, option_and_then}
use Rattle.std.specs.Str.{bytes_eq}
use Rattle.std.proofs.lemmas.Bool.{leb-true, le-leb, false≢true}
use Rattle.std.proofs.lemmas.Option.{none-some, same_Some}
use Rattle.std.proofs.lemmas.Slice.Eq.{bytes_eq-Decides}
use Rattle.nb_dhcpmsg.specs.Options.{TagValue, joined}
use Rattle.nb_dhcpmsg.specs.Messages.{MessageParts, IsMessage, HasOptions, HasCookie, field, only, overload, has_file, has_sname, used_if}
use Rattle.nb_dhcpmsg.specs.Fields.{FieldRead, field_read, read_from, main_read, overload_in, file_read, sname_read, message_options, parts_in, begins_options, message_in}
use Rattle.nb_dhcpmsg.proofs.FieldLemmas.{either_way, are_read, read_are}
use Rattle.nb_dhcpmsg.proofs.MessageLemmas.{message_one}

pub by_option : {A : Type 0} {P : Type 0} (o : Option A) → (o ≡ None → P) → ((x : A) → o ≡ Some x → P) → P
by_option None none some = none refl
by_option (Some x) none some = some x refl

both : (a b : Bool) → (a && b) ≡ true → (a ≡ true) × (b ≡ true)
both true true h = (refl, refl)
both true false h = absurd (false≢true h)
both false b h = absurd (false≢true h)

some_if : {A : Type 0} (b : Bool) (x y : A) → cond b (Some x) None ≡ Some y → (b ≡ true) × (x ≡ y)
some_if true x y h = (refl, same_Some x y h)
some_if false x y h = absurd (none-some y h)

three : (a b c : Bool) → (a && b && c) ≡ true → (a ≡ true) × (b ≡ true) × (c ≡ true)
three a b c h = let x = both (a && b) c h in let y = both a b x.0 in (y.0, y.1, x.1)

-- the options of a message by the function have those by the grammar
pub options_have : (bytes : List ℕ) (os : List TagValue) → message_options bytes ≡ Some os → HasOptions bytes os
unfolding message_options
options_have bytes os is =
    let all = some_if ((main_read bytes).whole && (file_read bytes).whole && (sname_read bytes).whole) ((main_read bytes).options ++ ((file_read bytes).options ++ (sname_read bytes).options)) os is in
    let whole = three (main_read bytes).whole (file_read bytes).whole (sname_read bytes).whole all.0 in
    record {
      main = (main_read bytes).options;
      file = (file_read bytes).options;
      sname = (sname_read bytes).options;
      in_main = read_are 0 (drop 240 bytes) whole.0;
      in_file = read_are 0 (used_if (has_file (overload_in bytes)) (field 108 128 bytes)) whole.1;
      in_sname = read_are 0 (used_if (has_sname (overload_in bytes)) (field 44 64 bytes)) whole.2;
      all = sym all.1;
    }

joined_reads : FieldRead → FieldRead → FieldRead → Option (List TagValue)
joined_reads main file sname = cond (main.whole && file.whole && sname.whole) (Some (main.options ++ (file.options ++ sname.options))) None

-- and those by the grammar are those by the function
pub have_options : (bytes : List ℕ) (os : List TagValue) → HasOptions bytes os → message_options bytes ≡ Some os
unfolding message_options joined_reads
have_options bytes os h =
    let main = are_read (drop 240 bytes) h.main h.in_main in
    let over : overload_in bytes ≡ overload h.main = ap (λ (r : FieldRead). overload r.options) main in
    let file : file_read bytes ≡ field_read h.file true =
    ap (λ o. read_from 0 (used_if (has_file o) (field 108 128 bytes))) over ∙ are_read (used_if (has_file (overload h.main)) (field 108 128 bytes)) h.file h.in_file in
    let sname : sname_read bytes ≡ field_read h.sname true =
    ap (λ o. read_from 0 (used_if (has_sname o) (field 44 64 bytes))) over ∙ are_read (used_if (has_sname (overload h.main)) (field 44 64 bytes)) h.sname h.in_sname in
    ap (λ r. joined_reads r (file_read bytes) (sname_read bytes)) main
    ∙ ap (λ r. joined_reads (field_read h.main true) r (sname_read bytes)) file
    ∙ ap (λ r. joined_reads (field_read h.main true) (field_read h.file true) r) sname
    ∙ ap (λ (os : List TagValue). Some os) (sym h.all)

only_is : (value : List ℕ) (byte : ℕ) → only value ≡ Some byte → value ≡ byte ∷ []
only_is [] byte is = absurd (none-some byte is)
only_is (b ∷ []) byte is = ap (λ x. x ∷ []) (same_Some b byte is)
only_is (b ∷ c ∷ bs) byte is = absurd (none-some byte is)

by_begin : Bool → List ℕ → Option (List TagValue) → Option MessageParts
by_begin begins bytes options = cond begins (option_and_then (λ os. option_map (parts_in bytes) (only (joined 53 os))) options) None

begins_so : (bytes : List ℕ) → 240 ≤ length bytes → HasCookie bytes → begins_options bytes ≡ true
begins_so bytes long cookie = ap (λ b. b && bytes_eq (field 236 4 bytes) (99 ∷ 130 ∷ 83 ∷ 99 ∷ [])) (le-leb 240 (length bytes) long) ∙ (bytes_eq-Decides (field 236 4 bytes) (99 ∷ 130 ∷ 83 ∷ 99 ∷ [])).1 cookie

-- a message by the grammar is that message by the function
pub message_is : (bytes : List ℕ) (m : MessageParts) → IsMessage bytes m → message_in bytes ≡ Some m
unfolding message_in by_begin
message_is bytes m is =
    ap (λ b. by_begin b bytes (message_options bytes)) (begins_so bytes is.long is.cookie)
    ∙ ap (λ o. by_begin true bytes o) (have_options bytes is.options is.has_options)
    ∙ ap (λ v. option_map (parts_in bytes) (only v)) is.kind
    ∙ ap (λ (x : MessageParts). Some x) (sym (message_one bytes m (parts_in bytes m.kind) is (record {
      long = is.long;
      cookie = is.cookie;
      op = refl;
      xid = refl;
      yiaddr = refl;
      siaddr = refl;
      chaddr = refl;
      options = is.options;
      has_options = is.has_options;
      kind = is.kind;
    })))

kind_in : (bytes : List ℕ) (os : List TagValue) (m : MessageParts) → begins_options bytes ≡ true → message_options bytes ≡ Some os
    → option_map (parts_in bytes) (only (joined 53 os)) ≡ Some m → IsMessage bytes m
kind_in bytes os m begins has is =
    let start = both (leb 240 (length bytes)) (bytes_eq (field 236 4 bytes) (99 ∷ 130 ∷ 83 ∷ 99 ∷ [])) begins in
    by_option (only (joined 53 os))
    (λ none. absurd (none-some m (sym (ap (option_map (parts_in bytes)) none) ∙ is)))
    (λ kind some.
    let same : parts_in bytes kind ≡ m = same_Some (parts_in bytes kind) m (sym (ap (option_map (parts_in bytes)) some) ∙ is) in
    subst (λ (x : MessageParts). IsMessage bytes x) same (record {
      long = leb-true 240 (length bytes) start.0;
      cookie = (bytes_eq-Decides (field 236 4 bytes) (99 ∷ 130 ∷ 83 ∷ 99 ∷ [])).0 start.1;
      op = refl;
      xid = refl;
      yiaddr = refl;
      siaddr = refl;
      chaddr = refl;
      options = os;
      has_options = options_have bytes os has;
      kind = only_is (joined 53 os) kind some;
    }))

-- and the other way round
pub is_message : (bytes : List ℕ) (m : MessageParts) → message_in bytes ≡ Some m → IsMessage bytes m
unfolding message_in by_begin
is_message bytes m is = either_way (begins_options bytes)
    (λ begins. by_option (message_options bytes)
    (λ none. absurd (none-some m (sym (ap (λ b. by_begin b bytes (message_options bytes)) begins ∙ ap (λ o. by_begin true bytes o) none) ∙ is)))
    (λ os some. kind_in bytes os m begins some (sym (ap (λ b. by_begin b bytes (message_options bytes)) begins ∙ ap (λ o. by_begin true bytes o) some) ∙ is)))
    (λ other. absurd (none-some m (sym (ap (λ b. by_begin b bytes (message_options bytes)) other) ∙ is)))

-- what is no message by the grammar is none by the function
pub no_message : (bytes : List ℕ) → ((m : MessageParts) → IsMessage bytes m → ⊥) → message_in bytes ≡ None
no_message bytes never = by_option (message_in bytes) (λ none. none) (λ m some. absurd (never m (is_message bytes m some)))
