-- A message is one message, by its bytes.
use Rattle.std.proofs.Common.{◌≡◌, ℕ, ◌<◌, List, [], ◌∷◌, ◌++◌, length, drop, unwrap_or, Option, Some, None, sym, ◌∙◌, ap, subst, arith}
use Rattle.std.proofs.Math.ListN.{drop_of_length-le}
use Rattle.nb_dhcpmsg.specs.declared.cursor.Cursor.{Cursor}
use Rattle.nb_dhcpmsg.specs.declared.joined.Only.{Only}
use Rattle.nb_dhcpmsg.specs.declared.joined.Only.TheVariants as one
use Rattle.nb_dhcpmsg.specs.Options.{TagValue, AreOptions, joined}
use Rattle.nb_dhcpmsg.specs.Messages.{MessageParts, IsMessage, HasOptions, field, only, overload, has_file, has_sname, used_if}
use Rattle.nb_dhcpmsg.specs.Lefts.{IsLeft, OptionBegun, IsOnlyByte, byte_of_only}
use Rattle.nb_dhcpmsg.proofs.OptionLemmas.{options_one, nothing_none}
use Rattle.nb_dhcpmsg.proofs.LeftLemmas.{left_one}

pub byte_is : (o : Only) (tag : ℕ) (c : Cursor) (os : List TagValue) → IsOnlyByte o tag c → IsLeft c os → byte_of_only o ≡ only (joined tag os)
byte_is one.Broken tag c os h left = absurd (h os left)
byte_is one.Other tag c os (ps, other, none) left = sym none ∙ ap (λ z. only (joined tag z)) (left_one c ps os other left)
byte_is (one.Byte byte) tag c os (ps, other, is) left = sym (ap only is) ∙ ap (λ z. only (joined tag z)) (left_one c ps os other left)

pub record Found (tag byte : ℕ) (c : Cursor) : Type 0 where
  pub options : List TagValue
  pub left : IsLeft c options
  pub value : joined tag options ≡ byte ∷ []

pub byte_found : (o : Only) (tag byte : ℕ) (c : Cursor) → IsOnlyByte o tag c → byte_of_only o ≡ Some byte → Found tag byte c
byte_found one.Broken tag byte c h e = absurd cc
byte_found one.Other tag byte c h e = absurd cc
byte_found (one.Byte b) tag byte c (os, left, is) e =
    let same : b ≡ byte = ap (λ (z : Option ℕ). unwrap_or z 0) e in
    record { options = os; left = left; value = is ∙ ap (λ z. z ∷ []) same }

pub begun_left : (c : Cursor) (bytes : List ℕ) (os : List TagValue) → OptionBegun c bytes → HasOptions bytes os → IsLeft c os
begun_left c bytes os b h = record {
  first = h.main;
  second = h.file;
  third = h.sname;
  in_field = subst (λ z. AreOptions z h.main) (sym b.main) h.in_main;
  in_second = subst (λ z. AreOptions z h.file) (sym (b.file h.main h.in_main)) h.in_file;
  in_third = subst (λ z. AreOptions z h.sname) (sym (b.sname h.main h.in_main)) h.in_sname;
  all = h.all;
}

pub begun_options : (c : Cursor) (bytes : List ℕ) (os : List TagValue) → OptionBegun c bytes → IsLeft c os → HasOptions bytes os
begun_options c bytes os b h =
    let main = subst (λ z. AreOptions z h.first) b.main h.in_field in
    record {
      main = h.first;
      file = h.second;
      sname = h.third;
      in_main = main;
      in_file = subst (λ z. AreOptions z h.second) (b.file h.first main) h.in_second;
      in_sname = subst (λ z. AreOptions z h.third) (b.sname h.first main) h.in_third;
      all = h.all;
    }

-- a message too short for options has none
pub short_none : (bytes : List ℕ) (os : List TagValue) → length bytes < 240 → HasOptions bytes os → os ≡ []
short_none bytes os short h =
    let gone : drop 240 bytes ≡ [] = drop_of_length-le bytes {i = 240} (omega (arith, short)) in
    let main : h.main ≡ [] = nothing_none h.main (subst (λ z. AreOptions z h.main) gone h.in_main) in
    let file : h.file ≡ [] = nothing_none h.file (subst (λ (z : List TagValue). AreOptions (used_if (has_file (overload z)) (field 108 128 bytes)) h.file) main h.in_file) in
    let sname : h.sname ≡ [] = nothing_none h.sname (subst (λ (z : List TagValue). AreOptions (used_if (has_sname (overload z)) (field 44 64 bytes)) h.sname) main h.in_sname) in
    h.all ∙ ap (λ z. z ++ (h.file ++ h.sname)) main ∙ ap (λ z. z ++ h.sname) file ∙ sname

has_one : (bytes : List ℕ) (os ps : List TagValue) → HasOptions bytes os → HasOptions bytes ps → os ≡ ps
has_one bytes os ps a b =
    let main = options_one (drop 240 bytes) a.main b.main a.in_main b.in_main in
    let file = options_one _ a.file b.file (subst (λ (z : List TagValue). AreOptions (used_if (has_file (overload z)) (field 108 128 bytes)) a.file) main a.in_file) b.in_file in
    let sname = options_one _ a.sname b.sname (subst (λ (z : List TagValue). AreOptions (used_if (has_sname (overload z)) (field 44 64 bytes)) a.sname) main a.in_sname) b.in_sname in
    a.all ∙ ap (λ z. z ++ (a.file ++ a.sname)) main ∙ ap (λ z. b.main ++ (z ++ a.sname)) file ∙ ap (λ z. b.main ++ (b.file ++ z)) sname ∙ sym b.all

parts : ℕ → ℕ → ℕ → ℕ → List ℕ → ℕ → MessageParts
parts op xid yiaddr siaddr chaddr kind = record { op = op; xid = xid; yiaddr = yiaddr; siaddr = siaddr; chaddr = chaddr; kind = kind }

head_of : List ℕ → ℕ
head_of [] = 0
head_of (x ∷ xs) = x

pub message_one : (bytes : List ℕ) (a b : MessageParts) → IsMessage bytes a → IsMessage bytes b → a ≡ b
unfolding parts head_of
message_one bytes a b p q =
    let kinds : a.kind ∷ [] ≡ b.kind ∷ [] = sym p.kind ∙ ap (λ z. joined 53 z) (has_one bytes p.options q.options p.has_options q.has_options) ∙ q.kind in
    let kind : a.kind ≡ b.kind = ap head_of kinds in
    ap (λ z. parts z a.xid a.yiaddr a.siaddr a.chaddr a.kind) (p.op ∙ sym q.op)
    ∙ ap (λ z. parts b.op z a.yiaddr a.siaddr a.chaddr a.kind) (p.xid ∙ sym q.xid)
    ∙ ap (λ z. parts b.op b.xid z a.siaddr a.chaddr a.kind) (p.yiaddr ∙ sym q.yiaddr)
    ∙ ap (λ z. parts b.op b.xid b.yiaddr z a.chaddr a.kind) (p.siaddr ∙ sym q.siaddr)
    ∙ ap (λ z. parts b.op b.xid b.yiaddr b.siaddr z a.kind) (p.chaddr ∙ sym q.chaddr)
    ∙ ap (λ z. parts b.op b.xid b.yiaddr b.siaddr b.chaddr z) kind

-- without a kind of one byte there is no message
pub no_kind : (o : Only) (c : Cursor) (bytes : List ℕ) (m : MessageParts) → IsOnlyByte o 53 c → byte_of_only o ≡ None → OptionBegun c bytes → IsMessage bytes m → ⊥
no_kind o c bytes m h none b is =
    let e : byte_of_only o ≡ Some m.kind = byte_is o 53 c is.options h (begun_left c bytes is.options b is.has_options) ∙ ap only is.kind in
    let f : None ≡ Some m.kind = sym none ∙ e in
    absurd cc
