-- What an iSCSI name means is what its grammar says.
use Rattle.std.proofs.Common.{◌≡◌, ◌≢◌, ◌↔◌, ◌⊎◌, ℕ, zero, suc, ◌<◌, ◌≤◌, true, false, ◌&&◌, eqb, ltb, leb, List, [], ◌∷◌, ◌++◌, length, get_or, codes, decimal, Option, Some, None, refl, sym, ap, ◌∙◌, arith}
use Rattle.std.proofs.Math.Logic.{inl, inr}
use Rattle.std.specs.Option.{option_map, option_and_then}
use Rattle.std.specs.Str.Parse.{IsNumeral, digits_value}
use Rattle.std.proofs.lemmas.Bool.{and_parts, ne_eqb, ltb-true, lt-ltb}
use Rattle.std.proofs.lemmas.Bool.Decides.{nat_tests}
use Rattle.std.proofs.lemmas.Fmt.{decimal-digits_value, decimal_is_IsNumeral, decimal_digit, first_decimal}
use Rattle.std.proofs.lemmas.Option.{none-some}
use Rattle.std.proofs.lemmas.Slice.Eq.{bytes_eq-Decides}
use Rattle.std.proofs.lemmas.Str.Parse.{numerals_by_value, tells_digits, digit_at}
use Rattle.nb_uri.specs.Pieces.{cut_at_first}
use Rattle.nb_uri.specs.IscsiNames.{IscsiTarget, HasNoColon, IsPortField, SpellsIscsi, fields_target, iscsi_lun, iscsi_port, iscsi_target, is_iscsi_protocol, is_target_name, word_number}
use Rattle.nb_uri.proofs.DigitLemmas.{word_number-some, word_number-read}
use Rattle.nb_uri.proofs.FieldLemmas.{cut-at, cut-joins}
use Rattle.nb_uri.proofs.PieceLemmas.{either_way}

-- ---- ports

positive : (n : ℕ) (text : List ℕ) → decimal n ≡ text → get_or text 0 0 ≢ 48 → 0 < n
positive zero text same first = absurd (first (ap (λ ds. get_or ds 0 0) (sym same ∙ decimal_digit 0 (omega arith))))
positive (suc n) text same first = omega arith

not_empty : (c : ℕ) (text : List ℕ) → eqb (length (c ∷ text)) 0 ≡ false
not_empty c text = ne_eqb (length (c ∷ text)) 0 (λ none. omega (arith, none))

port-spelled : (text : List ℕ) (port : ℕ) → iscsi_port text ≡ Some port → IsPortField text port
port-spelled [] port is = inl (refl, cc is)
port-spelled (c ∷ text) port is = either_way (eqb c 48)
    (λ zero. absurd (none-some port (rw (not_empty c text, zero) at is)))
    (λ other.
    let read = word_number-read 10 (c ∷ text) port (rw (not_empty c text, other) at is) in
    let first : c ≢ 48 = λ e. grind (arith, nat_tests, e, other) in
    let same = decimal-digits_value (numerals_by_value _ tells_digits) (c ∷ text) read.0.1 read.0.0 (λ e. absurd (first e)) (omega (arith, read.1, read.2)) in
    let spelled : c ∷ text ≡ decimal port = sym same ∙ ap decimal read.1 in
    inr (spelled, positive port (c ∷ text) (sym spelled) first, omega (arith, read.1, read.2)))

port-read : (text : List ℕ) (port : ℕ) → IsPortField text port → iscsi_port text ≡ Some port
port-read text port (inl none) = rw none.0 (ap Some (sym none.1))
port-read text port (inr spelled) =
    let numeral = decimal_is_IsNumeral port (omega (arith, spelled.2)) in
    let first = first_decimal port spelled.1 (omega (arith, spelled.2)) in
    let digits : IsNumeral 10 text = rw spelled.0 numeral.0 in
    let value : digits_value 10 text ≡ port = ap (digits_value 10) spelled.0 ∙ numeral.1 in
    of_digits text (rw spelled.0 first) (word_number-some 10 text digits (omega (arith, value, spelled.2)) ∙ ap Some value)
  where
    of_digits : (t : List ℕ) → 48 < get_or t 0 0 → word_number 10 t ≡ Some port → iscsi_port t ≡ Some port
    of_digits [] above is = absurd (omega (arith, above))
    of_digits (c ∷ t) above is =
        let other : eqb c 48 ≡ false = grind (arith, nat_tests, above) in
        rw (not_empty c t, other) is

port-whole : (text : List ℕ) (port : ℕ) → IsPortField text port → HasNoColon text
port-whole text port (inl none) = rw none.0 (λ place below same. omega (arith, below))
port-whole text port (inr spelled) =
    let numeral = decimal_is_IsNumeral port (omega (arith, spelled.2)) in
    rw spelled.0 (λ place below same. let digit = digit_at (decimal port) place numeral.0.1 below in omega (arith, digit.1, same))

-- ---- protocols

protocol-whole : (text : List ℕ) → (text ≡ []) ⊎ (text ≡ codes "6") → HasNoColon text
protocol-whole text (inl none) = rw none (λ place below same. omega (arith, below))
protocol-whole text (inr six) = rw six one
  where
    one : HasNoColon (54 ∷ [])
    one zero below same = omega (arith, same)
    one (suc place) below same = omega (arith, below)

protocol-spelled : (text : List ℕ) → is_iscsi_protocol text ≡ true → (text ≡ []) ⊎ (text ≡ codes "6")
protocol-spelled [] is = inl refl
protocol-spelled (c ∷ text) is = inr ((bytes_eq-Decides (c ∷ text) (codes "6")).0 (rw (not_empty c text) at is))

protocol-read : (text : List ℕ) → (text ≡ []) ⊎ (text ≡ codes "6") → is_iscsi_protocol text ≡ true
protocol-read text (inl none) = rw none refl
protocol-read text (inr six) = rw six refl

-- ---- five fields

-- what the fields mean where they are read, and what is then known of them
record Reads (server protocol port lun target : List ℕ) (disk : IscsiTarget) : Type 0 where
  server_is : disk.server ≡ server
  target_is : disk.target ≡ target
  some : 0 < length server
  tcp : is_iscsi_protocol protocol ≡ true
  name : is_target_name target ≡ true
  number : iscsi_port port ≡ Some disk.port
  unit : iscsi_lun lun ≡ Some disk.lun

meant : (server target : List ℕ) (number : Option ℕ) (unit : Option (List ℕ)) (disk : IscsiTarget)
    → option_and_then (λ n. option_map (λ u. record { server = server; port = n; lun = u; target = target }) unit) number ≡ Some disk
    → (number ≡ Some disk.port) × (unit ≡ Some disk.lun) × (disk.server ≡ server) × (disk.target ≡ target)
meant server target None unit disk is = absurd (none-some disk is)
meant server target (Some n) None disk is = absurd (none-some disk is)
meant server target (Some n) (Some u) disk is =
    let same : record { server = server; port = n; lun = u; target = target } ≡ disk = cc is in
    (ap (λ (d : IscsiTarget). Some d.port) same, ap (λ (d : IscsiTarget). Some d.lun) same, ap (λ (d : IscsiTarget). d.server) (sym same), ap (λ (d : IscsiTarget). d.target) (sym same))

fields-read : (server protocol port lun target : List ℕ) (disk : IscsiTarget) → fields_target server protocol port lun target ≡ Some disk → Reads server protocol port lun target disk
fields-read server protocol port lun target disk is = either_way (ltb 0 (length server) && is_iscsi_protocol protocol && is_target_name target)
    (λ on.
    let first = and_parts (ltb 0 (length server) && is_iscsi_protocol protocol) (is_target_name target) on in
    let second = and_parts (ltb 0 (length server)) (is_iscsi_protocol protocol) first.0 in
    let parts = meant server target (iscsi_port port) (iscsi_lun lun) disk (rw on at is) in
    record { server_is = parts.2; target_is = parts.3; some = ltb-true 0 (length server) second.0; tcp = second.1; name = first.1; number = parts.0; unit = parts.1 })
    (λ off. absurd (none-some disk (rw off at is)))

fields-given : (protocol port lun : List ℕ) (disk : IscsiTarget) → 0 < length disk.server → is_iscsi_protocol protocol ≡ true → is_target_name disk.target ≡ true → iscsi_port port ≡ Some disk.port → iscsi_lun lun ≡ Some disk.lun → fields_target disk.server protocol port lun disk.target ≡ Some disk
fields-given protocol port lun disk some tcp name number unit =
    rw (lt-ltb 0 (length disk.server) some, tcp, name, number, unit) refl

-- ---- a name

name-fits : (target : List ℕ) → is_target_name target ≡ true → (0 < length target) × (length target ≤ 223)
name-fits target is = let parts = and_parts (ltb 0 (length target)) (leb (length target) 223) is in (ltb-true 0 (length target) parts.0, grind (arith, nat_tests, parts.1))

name-given : (target : List ℕ) → 0 < length target → length target ≤ 223 → is_target_name target ≡ true
name-given target some fits = let long : leb (length target) 223 ≡ true = grind (arith, nat_tests, fits) in rw (lt-ltb 0 (length target) some, long) refl

-- the fields that are cut out, one after the other
abbrev Field : Type 0
Field = Option (List ℕ × List ℕ)

spelled-4 : (text server protocol port three : List ℕ) (disk : IscsiTarget) (four : Field) → text ≡ server ++ 58 ∷ (protocol ++ 58 ∷ (port ++ 58 ∷ three)) → HasNoColon server → four ≡ cut_at_first 58 three → option_and_then (λ four. fields_target server protocol port four.0 four.1) four ≡ Some disk → SpellsIscsi text disk
spelled-4 text server protocol port three disk None is none cuts read = absurd (none-some disk read)
spelled-4 text server protocol port three disk (Some four) is none cuts read =
    let joined = cut-joins three four.0 four.1 cuts in
    let fields = fields-read server protocol port four.0 four.1 disk read in
    let fits = name-fits four.1 fields.name in
    let spelled : text ≡ disk.server ++ 58 ∷ (protocol ++ 58 ∷ (port ++ 58 ∷ (four.0 ++ 58 ∷ disk.target))) = rw (fields.server_is, fields.target_is) (is ∙ ap (λ t. server ++ 58 ∷ (protocol ++ 58 ∷ (port ++ 58 ∷ t))) joined.0) in
    record {
      protocol = protocol;
      port = port;
      lun = four.0;
      spelled = spelled;
      server_is_whole = rw fields.server_is none;
      server_is_some = rw fields.server_is fields.some;
      protocol_is_tcp = protocol-spelled protocol fields.tcp;
      port_is_number = port-spelled port disk.port fields.number;
      lun_is_whole = joined.1;
      lun_is_unit = fields.unit;
      name_is_some = rw fields.target_is fits.0;
      name_fits = rw fields.target_is fits.1;
    }

abbrev read-3 : List ℕ → List ℕ → Field → Option IscsiTarget
read-3 server protocol three = option_and_then (λ three. option_and_then (λ four. fields_target server protocol three.0 four.0 four.1) (cut_at_first 58 three.1)) three

spelled-3 : (text server protocol two : List ℕ) (disk : IscsiTarget) (three : Field) → text ≡ server ++ 58 ∷ (protocol ++ 58 ∷ two) → HasNoColon server → three ≡ cut_at_first 58 two → read-3 server protocol three ≡ Some disk → SpellsIscsi text disk
spelled-3 text server protocol two disk None is none cuts read = absurd (none-some disk read)
spelled-3 text server protocol two disk (Some three) is none cuts read =
    spelled-4 text server protocol three.0 three.1 disk (cut_at_first 58 three.1) (is ∙ ap (λ t. server ++ 58 ∷ (protocol ++ 58 ∷ t)) (cut-joins two three.0 three.1 cuts).0) none refl read

abbrev read-2 : List ℕ → Field → Option IscsiTarget
read-2 server two = option_and_then (λ two. read-3 server two.0 (cut_at_first 58 two.1)) two

spelled-2 : (text server one : List ℕ) (disk : IscsiTarget) (two : Field) → text ≡ server ++ 58 ∷ one → HasNoColon server → two ≡ cut_at_first 58 one → read-2 server two ≡ Some disk → SpellsIscsi text disk
spelled-2 text server one disk None is none cuts read = absurd (none-some disk read)
spelled-2 text server one disk (Some two) is none cuts read =
    spelled-3 text server two.0 two.1 disk (cut_at_first 58 two.1) (is ∙ ap (λ t. server ++ 58 ∷ t) (cut-joins one two.0 two.1 cuts).0) none refl read

abbrev read-1 : Field → Option IscsiTarget
read-1 one = option_and_then (λ one. read-2 one.0 (cut_at_first 58 one.1)) one

spelled-1 : (text : List ℕ) (disk : IscsiTarget) (one : Field) → one ≡ cut_at_first 58 text → read-1 one ≡ Some disk → SpellsIscsi text disk
spelled-1 text disk None cuts read = absurd (none-some disk read)
spelled-1 text disk (Some one) cuts read =
    let joined = cut-joins text one.0 one.1 cuts in
    spelled-2 text one.0 one.1 disk (cut_at_first 58 one.1) joined.0 joined.1 refl read

pub iscsi-spelled : (text : List ℕ) (disk : IscsiTarget) → iscsi_target text ≡ Some disk → SpellsIscsi text disk
iscsi-spelled text disk is = spelled-1 text disk (cut_at_first 58 text) refl is

pub iscsi-read : (text : List ℕ) (disk : IscsiTarget) → SpellsIscsi text disk → iscsi_target text ≡ Some disk
iscsi-read text disk s =
    let four = cut-at s.lun disk.target s.lun_is_whole in
    let three = cut-at s.port (s.lun ++ 58 ∷ disk.target) (port-whole s.port disk.port s.port_is_number) in
    let two = cut-at s.protocol (s.port ++ 58 ∷ (s.lun ++ 58 ∷ disk.target)) (protocol-whole s.protocol s.protocol_is_tcp) in
    let one = cut-at disk.server (s.protocol ++ 58 ∷ (s.port ++ 58 ∷ (s.lun ++ 58 ∷ disk.target))) s.server_is_whole in
    let given = fields-given s.protocol s.port s.lun disk s.server_is_some (protocol-read s.protocol s.protocol_is_tcp) (name-given disk.target s.name_is_some s.name_fits) (port-read s.port disk.port s.port_is_number) s.lun_is_unit in
    ap iscsi_target s.spelled
    ∙ ap read-1 one
    ∙ ap (read-2 disk.server) two
    ∙ ap (read-3 disk.server s.protocol) three
    ∙ ap (λ (four : Field). option_and_then (λ four. fields_target disk.server s.protocol s.port four.0 four.1) four) four
    ∙ given

pub iscsi-both : (text : List ℕ) (disk : IscsiTarget) → (iscsi_target text ≡ Some disk) ↔ SpellsIscsi text disk
iscsi-both text disk = (iscsi-spelled text disk, iscsi-read text disk)
