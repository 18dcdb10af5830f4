-- An OACK that is written is read again.
use Rattle.std.proofs.Common.{◌≡◌, ℕ, ◌+◌, ◌^◌, ◌<◌, List, [], ◌∷◌, ◌++◌, Option, Some, None, true, refl, ap, ◌∙◌, sym, arith, eqb, length, map, lit<, lit≤}
use Rattle.std.specs.Prelude.{codes}
use Rattle.std.specs.Char.{is_ascii_digit, digit_value}
use Rattle.std.specs.Int.Digits.{digits_of, AllBelowBase, number_from_digits}
use Rattle.std.specs.List.{list_all}
use Rattle.std.specs.Option.{option_map, IfSome}
use Rattle.std.specs.Str.Parse.{digits_value}
use Rattle.std.proofs.lemmas.Bool.{eqb-true, le-leb, lt-ltb}
use Rattle.std.proofs.lemmas.Int.Digits.{digits_value_is, all_below_base_digits_of, number_digits_of}
use Rattle.std.proofs.lemmas.List.{append-nil}
use Rattle.std.proofs.lemmas.Str.{digit_value_digit}
use Rattle.nb_tftpmsg.specs.Texts.{HasNoZero, ended, decimal, decimal_text}
use Rattle.nb_tftpmsg.specs.Options.{TftpOption, IsOption}
use Rattle.nb_tftpmsg.specs.Packets.{oack, packet_text, IsTftpPacket}
use Rattle.nb_tftpmsg.proofs.TextLemmas.{either_way}
use Rattle.nb_tftpmsg.proofs.DecimalLemmas.{length-decimal_text-some}

abbrev written : ℕ → ℕ
written digit = 48 + digit

digits_are : (ds : List ℕ) → AllBelowBase 10 ds → list_all is_ascii_digit (map written ds) ≡ true
digits_are [] below = refl
digits_are (d ∷ ds) below = rw (le-leb 48 (48 + d) (omega arith), le-leb (48 + d) 57 (omega (arith, below.0)), digits_are ds below.1) refl

values_are : (ds : List ℕ) → AllBelowBase 10 ds → map digit_value (map written ds) ≡ ds
values_are [] below = refl
values_are (d ∷ ds) below =
    let value : digit_value (48 + d) + 48 ≡ 48 + d = digit_value_digit (48 + d) (omega arith, omega (arith, below.0)) in
    let same : digit_value (48 + d) ≡ d = omega arith in
    ap (λ x. x ∷ map digit_value (map written ds)) same ∙ ap (λ xs. d ∷ xs) (values_are ds below.1)

clean_digits : (ds : List ℕ) → HasNoZero (map written ds)
clean_digits [] = tt
clean_digits (d ∷ ds) = (omega arith, clean_digits ds)

pub clean_decimal : (n : ℕ) → HasNoZero (decimal_text n)
clean_decimal n = either_way (eqb n 0) (λ on. rw on (lit< tt, tt)) (λ off. rw off (clean_digits (digits_of 10 n)))

all_digits : (n : ℕ) → list_all is_ascii_digit (decimal_text n) ≡ true
all_digits n = either_way (eqb n 0) (λ on. rw on refl) (λ off. rw off (digits_are (digits_of 10 n) (all_below_base_digits_of 10 n (lit≤ tt))))

value_again : (n : ℕ) → digits_value 10 (decimal_text n) ≡ n
value_again n = either_way (eqb n 0)
    (λ on. rw on (sym (eqb-true n 0 on)))
    (λ off. rw off
    (digits_value_is 10 (map written (digits_of 10 n))
    ∙ ap (λ ds. number_from_digits 10 ds) (values_are (digits_of 10 n) (all_below_base_digits_of 10 n (lit≤ tt)))
    ∙ number_digits_of 10 n (lit≤ tt)))

pub decimal_again : (bound n : ℕ) → n < bound → decimal bound (decimal_text n) ≡ Some n
decimal_again bound n small =
    rw (lt-ltb 0 (length (decimal_text n)) (length-decimal_text-some n), all_digits n, value_again n, lt-ltb n bound small) refl

abbrev option : List ℕ → ℕ → TftpOption
option name n = record { name = name; value = decimal_text n }

size_option : (n : ℕ) → IsOption (option (codes "blksize") n)
size_option n = record { name = (lit< tt, (lit< tt, (lit< tt, (lit< tt, (lit< tt, (lit< tt, (lit< tt, tt))))))); value = clean_decimal n }

length_option : (n : ℕ) → IsOption (option (codes "tsize") n)
length_option n = record { name = (lit< tt, (lit< tt, (lit< tt, (lit< tt, (lit< tt, tt))))); value = clean_decimal n }

abbrev text_of : List ℕ → ℕ → List ℕ
text_of name n = ended name ++ ended (decimal_text n)

pub oack_again : (size length : Option ℕ) → IfSome size (λ n. n < 2 ^ 16) → IfSome length (λ n. n < 2 ^ 32) → IsTftpPacket (packet_text (oack size length)) (oack size length)
oack_again None None fits longer = ([], tt, refl, record { blksize = refl; tsize = refl })
oack_again (Some n) None fits longer =
    (option (codes "blksize") n ∷ [], (size_option n, tt), refl, record { blksize = ap (λ d. option_map (λ x. Some x) d) (decimal_again (2 ^ 16) n fits); tsize = refl })
oack_again None (Some n) fits longer =
    (option (codes "tsize") n ∷ [], (length_option n, tt), ap (λ t. 0 ∷ 6 ∷ t) (sym (append-nil (text_of (codes "tsize") n))), record { blksize = refl; tsize = ap (λ d. option_map (λ x. Some x) d) (decimal_again (2 ^ 32) n longer) })
oack_again (Some m) (Some n) fits longer = (
  option (codes "blksize") m ∷ option (codes "tsize") n ∷ [],
  (size_option m, (length_option n, tt)),
  ap (λ t. 0 ∷ 6 ∷ (text_of (codes "blksize") m ++ t)) (sym (append-nil (text_of (codes "tsize") n))),
  record { blksize = ap (λ d. option_map (λ x. Some x) d) (decimal_again (2 ^ 16) m fits); tsize = ap (λ d. option_map (λ x. Some x) d) (decimal_again (2 ^ 32) n longer) },
)
