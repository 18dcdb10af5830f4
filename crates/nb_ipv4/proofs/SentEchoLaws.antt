-- An echo that is sent is read again.
use Rattle.std.proofs.Common.{◌≡◌, ℕ, ◌+◌, ◌*◌, ◌/◌, ◌%◌, ◌<◌, ◌≤◌, ◌^◌, inl, inr, List, [], ◌∷◌, ◌++◌, length, get_or, refl, sym, ap, ◌∙◌, sum, arith}
use Rattle.std.specs.Int.{w16, to_be_bytes}
use Rattle.std.proofs.lemmas.List.{length-append}
use Rattle.nb_wire.specs.Checksum.{words, checksum, HasSum}
use Rattle.nb_wire.proofs.BytesLaws.{IsBytes}
use Rattle.nb_wire.proofs.ChecksumLaws.{checksum-zero, checksum-closes}
use Rattle.nb_ipv4.specs.EchoText.{EchoParts, IsEchoKind, IsEcho, echo_header, echo_text, sent_echo}
use Rattle.nb_ipv4.proofs.NumberLaws.{bytes_of, bytes_onto, same_of}
use Rattle.nb_ipv4.proofs.EchoLaws.{header_form, length-echo_header}

abbrev as_two : List ℕ → List ℕ
as_two x = get_or x 0 0 ∷ get_or x 1 0 ∷ []

-- the eight bytes that are written are the header
pub header_written : (e : EchoParts) (kind total : ℕ) (ident seq field : List ℕ) → e.kind ≡ kind → ident ≡ to_be_bytes w16 e.ident → seq ≡ to_be_bytes w16 e.seq → field ≡ to_be_bytes w16 total → header_form kind 0 (as_two field) (as_two ident) (as_two seq) ≡ echo_header e total
unfolding echo_header
header_written e kind total ident seq field kind_is ident_is seq_is field_is =
    ap (λ (x : ℕ). header_form x 0 (as_two field) (as_two ident) (as_two seq)) (sym kind_is)
    ∙ ap (λ (x : List ℕ). header_form e.kind 0 (as_two x) (as_two ident) (as_two seq)) field_is
    ∙ ap (λ (x : List ℕ). header_form e.kind 0 (to_be_bytes w16 total) (as_two x) (as_two seq)) ident_is
    ∙ ap (λ (x : List ℕ). header_form e.kind 0 (to_be_bytes w16 total) (to_be_bytes w16 e.ident) (as_two x)) seq_is

abbrev after_sum : EchoParts → List ℕ
after_sum e = e.ident / 256 % 256 ∷ e.ident % 256 ∷ e.seq / 256 % 256 ∷ e.seq % 256 ∷ e.body

text_around : (e : EchoParts) (field : ℕ) → echo_text e field ≡ (e.kind ∷ 0 ∷ []) ++ field / 256 % 256 ∷ field % 256 ∷ after_sum e
unfolding echo_header
text_around e field = refl

kind_fits : (kind : ℕ) → IsEchoKind kind → kind < 256
kind_fits kind (inl request) = omega (arith, request)
kind_fits kind (inr reply) = omega (arith, reply)

text_fits : (e : EchoParts) (high low : ℕ) → IsEchoKind e.kind → IsBytes e.body → high < 256 → low < 256 → IsBytes ((e.kind ∷ 0 ∷ []) ++ high ∷ low ∷ after_sum e)
text_fits e high low kind body h l =
    bytes_onto (e.kind ∷ 0 ∷ high ∷ low ∷ e.ident / 256 % 256 ∷ e.ident % 256 ∷ e.seq / 256 % 256 ∷ e.seq % 256 ∷ []) e.body (kind_fits e.kind kind, (omega arith, (h, (l, (omega arith, (omega arith, (omega arith, (omega arith, tt)))))))) body

sum_closed : (e : EchoParts) → IsEchoKind e.kind → IsBytes e.body → (checksum (echo_text e 0) < 2 ^ 16) × (checksum (echo_text e (checksum (echo_text e 0))) ≡ 0)
sum_closed e kind body =
    let unsummed = (e.kind ∷ 0 ∷ []) ++ 0 ∷ 0 ∷ after_sum e in
    let field = checksum (echo_text e 0) in
    let field_is : field ≡ checksum unsummed = ap checksum (text_around e 0) in
    let zeros : IsBytes unsummed = text_fits e 0 0 kind body (omega arith) (omega arith) in
    let small : field < 65536 = omega (arith, field_is, checksum-zero unsummed zeros) in
    let same : 256 * (field / 256 % 256) + field % 256 ≡ checksum unsummed = omega (arith, small, field_is) in (
      small,
      ap checksum (text_around e field)
          ∙ checksum-closes (e.kind ∷ 0 ∷ []) (after_sum e) (field / 256 % 256) (field % 256) refl (text_fits e (field / 256 % 256) (field % 256) kind body (omega arith) (omega arith)) zeros same,
    )

pub sent_readable : (e : EchoParts) → IsEchoKind e.kind → IsBytes e.body → length e.body ≤ 65527 → (e.ident < 2 ^ 16) × (e.seq < 2 ^ 16) → IsEcho (sent_echo e) e
unfolding sent_echo
sent_readable e kind body room fits =
    let field = checksum (echo_text e 0) in
    let closed = sum_closed e kind body in
    record {
      sum = field;
      kind = kind;
      ident = fits.0;
      seq = fits.1;
      sum_fits = closed.0;
      total = omega (arith, room, length-append (echo_header e field) e.body, length-echo_header e field);
      spelled = refl;
      checked = inl closed.1;
    }

-- the sum of a header's words, from its fields
pub header_has_sum : (e : EchoParts) (n : ℕ) → IsEchoKind e.kind → e.ident < 2 ^ 16 → e.seq < 2 ^ 16 → n ≡ 256 * e.kind + e.ident + e.seq → HasSum (echo_header e 0) n
unfolding echo_header
header_has_sum e n kind ident seq is =
    let e2 : n ≡ sum (words (echo_header e 0)) = omega (arith, is, ident, seq) in
    record {
      even = refl;
      fits = bytes_of (echo_header e 0) (kind_fits e.kind kind, (omega arith, (omega arith, (omega arith, (omega arith, (omega arith, (omega arith, (omega arith, tt))))))));
      same = same_of e2;
    }

-- what is put is the echo as it is sent
pub sent_whole : (e : EchoParts) (closed : List ℕ) (field : ℕ) → field ≡ checksum (echo_text e 0) → closed ≡ echo_header e field → closed ++ e.body ≡ sent_echo e
unfolding sent_echo
sent_whole e closed field field_is closed_is =
    ap (λ (x : List ℕ). x ++ e.body) (closed_is ∙ ap (λ (n : ℕ). echo_header e n) field_is)
