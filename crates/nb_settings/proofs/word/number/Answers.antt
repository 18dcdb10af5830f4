use Rattle.std.proofs.Common.{◌≡◌, ◌<◌, ◌∙◌, get_or, sym, subst, arith, Ok, List, ℕ}
use Rattle.std.specs.Str.{IsValidUpTo, valid_up_to}
use Rattle.nb_settings.proofs.NumberLemmas.{number_read-decimal, number_read-none, parsed_is, parsed_from, decimal_first, decimal_utf8, ok_some, ok_none, text_is, no_text}
use Rattle.nb_settings.proofs.word.number.Goals as goal

pub returns-then-not-begins_with_digit : goal.returns-then-not-begins_with_digit
returns-then-not-begins_with_digit c =
    sym (number_read-none c.args.text.now
    (λ n is same.
    let digit = rw c.if-not-begins_with_digit.true at (c.begins_with_digit.ensures.1 (decimal_first c.args.text.now n is same)) in
    absurd cc))

pub returns-in_err-text : goal.returns-in_err-text
returns-in_err-text c =
    c.from_residual.ensures
    ∙ sym (number_read-none c.args.text.now
    (λ n is same. no_text (λ e. IsValidUpTo c.args.text.now (valid_up_to e)) c.from_utf8.result c.args.text.now c.from_utf8.ensures.cases c.in_err-text.ensures.value (decimal_utf8 c.args.text.now n is same)))

pub returns-in_err-number : goal.returns-in_err-number
returns-in_err-number c =
    let text : c.in_ok-text.text.now ≡ c.args.text.now = text_is (λ e. IsValidUpTo c.args.text.now (valid_up_to e)) c.from_utf8.result c.in_ok-text.text c.args.text.now c.from_utf8.ensures.cases c.in_ok-text.ensures.value in
    c.from_residual-in_err-number.ensures
    ∙ sym (number_read-none c.args.text.now
    (λ n is same. ok_none c.parse.result n c.in_err-number.ensures.value (parsed_from c.in_ok-text.text.now n c.parse.result c.parse.ensures.value.0 is (text ∙ same))))

pub returns-then-number-le-MAX_NUMBER : goal.returns-then-number-le-MAX_NUMBER
returns-then-number-le-MAX_NUMBER c =
    let text : c.in_ok-text.text.now ≡ c.args.text.now = text_is (λ e. IsValidUpTo c.args.text.now (valid_up_to e)) c.from_utf8.result c.in_ok-text.text c.args.text.now c.from_utf8.ensures.cases c.in_ok-text.ensures.value in
    let digit = c.begins_with_digit.ensures.0 c.if-not-begins_with_digit.false in
    let first : 48 < get_or c.in_ok-text.text.now 0 0 = subst (λ (t : List ℕ). 48 < get_or t 0 0) (sym text) digit.0 in
    let ok : c.parse.result ≡ Ok c.in_ok-number.number = ok_some c.parse.result c.in_ok-number.number c.in_ok-number.ensures.value in
    let read = parsed_is c.in_ok-text.text.now c.in_ok-number.number c.parse.result c.parse.ensures.value.0 ok first (omega arith) in
    sym (number_read-decimal c.args.text.now c.in_ok-number.number read.0 (sym text ∙ read.1))

pub returns-else-number-le-MAX_NUMBER : goal.returns-else-number-le-MAX_NUMBER
returns-else-number-le-MAX_NUMBER c =
    let text : c.in_ok-text.text.now ≡ c.args.text.now = text_is (λ e. IsValidUpTo c.args.text.now (valid_up_to e)) c.from_utf8.result c.in_ok-text.text c.args.text.now c.from_utf8.ensures.cases c.in_ok-text.ensures.value in
    let ok : c.parse.result ≡ Ok c.in_ok-number.number = ok_some c.parse.result c.in_ok-number.number c.in_ok-number.ensures.value in
    sym (number_read-none c.args.text.now
    (λ n is same.
    let other = parsed_from c.in_ok-text.text.now n c.parse.result c.parse.ensures.value.0 is (text ∙ same) in
    let equal : c.in_ok-number.number ≡ n = cc in
    omega (arith, is.1)))
