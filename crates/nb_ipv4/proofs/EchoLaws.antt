-- An echo's fields stand at their places, bytes whose fields are right are an echo, and they are at most one.
use Rattle.std.proofs.Common.{◌≡◌, ℕ, ◌+◌, ◌*◌, ◌<◌, ◌≤◌, ◌^◌, List, [], ◌∷◌, ◌++◌, length, get_or, take, drop, refl, sym, ap, ◌∙◌, arith}
use Rattle.std.specs.Int.{w16, to_be_bytes}
use Rattle.std.proofs.lemmas.List.{drop_at, length-append}
use Rattle.nb_wire.proofs.BytesLaws.{IsBytes, Splits, IsBytes-front}
use Rattle.nb_ipv4.specs.EchoText.{EchoParts, IsEchoKind, IsIntactEcho, IsEcho, echo_header, echo_text}
use Rattle.nb_ipv4.proofs.NumberLaws.{be16_bytes, elements-drop}

pub length-echo_header : (e : EchoParts) (sum : ℕ) → length (echo_header e sum) ≡ 8
unfolding echo_header
length-echo_header e sum = refl

-- where the fields of an echo stand in its first eight bytes, and where its body does
pub record IsEchoPlaced (fixed bytes : List ℕ) (e : EchoParts) : Type 0 where
  pub long : 8 ≤ length bytes
  pub kind : e.kind ≡ get_or fixed 0 0
  pub code : get_or fixed 1 0 ≡ 0
  pub ident : e.ident ≡ 256 * get_or fixed 4 0 + get_or fixed 5 0
  pub seq : e.seq ≡ 256 * get_or fixed 6 0 + get_or fixed 7 0
  pub body : e.body ≡ drop 8 bytes

pub echo_placed : (fixed bytes : List ℕ) (e : EchoParts) → fixed ≡ take 8 bytes → IsEcho bytes e → IsEchoPlaced fixed bytes e
unfolding echo_header
echo_placed fixed bytes e front is =
    let text : List ℕ = echo_text e is.sum in
    let at : (k : ℕ) → get_or fixed k 0 ≡ get_or (take 8 text) k 0 = λ k. ap (λ (b : List ℕ). get_or b k 0) (front ∙ ap (λ (b : List ℕ). take 8 b) is.spelled) in
    record {
      long = omega (arith, ap length is.spelled, length-append (echo_header e is.sum) e.body, length-echo_header e is.sum);
      kind = sym (at 0);
      code = at 1;
      ident = omega (arith, at 4, at 5, is.ident);
      seq = omega (arith, at 6, at 7, is.seq);
      body = sym (ap (λ (b : List ℕ). drop 8 b) is.spelled ∙ drop_at (echo_header e is.sum) e.body 8 (length-echo_header e is.sum));
    }

abbrev pub made : ℕ → ℕ → ℕ → List ℕ → EchoParts
made kind ident seq body = record { kind = kind; ident = ident; seq = seq; body = body }

echo_same : (e f : EchoParts) → e.kind ≡ f.kind → e.ident ≡ f.ident → e.seq ≡ f.seq → e.body ≡ f.body → e ≡ f
echo_same e f kind ident seq body =
    ap (λ (x : ℕ). made x e.ident e.seq e.body) kind
    ∙ ap (λ (x : ℕ). made f.kind x e.seq e.body) ident
    ∙ ap (λ (x : ℕ). made f.kind f.ident x e.body) seq
    ∙ ap (λ (x : List ℕ). made f.kind f.ident f.seq x) body

-- bytes are at most one echo
pub echo_one : (bytes : List ℕ) (e f : EchoParts) → IsEcho bytes e → IsEcho bytes f → e ≡ f
echo_one bytes e f first second =
    let a = echo_placed (take 8 bytes) bytes e refl first in
    let b = echo_placed (take 8 bytes) bytes f refl second in
    echo_same e f (a.kind ∙ sym b.kind) (a.ident ∙ sym b.ident) (a.seq ∙ sym b.seq) (a.body ∙ sym b.body)

-- the eight bytes of a header, by its pieces
abbrev pub header_form : ℕ → ℕ → List ℕ → List ℕ → List ℕ → List ℕ
header_form kind code sum ident seq = kind ∷ code ∷ sum ++ ident ++ seq

header_spelled : (fixed : List ℕ) (e : EchoParts) → IsBytes fixed → length fixed ≡ 8 → e.kind ≡ get_or fixed 0 0 → get_or fixed 1 0 ≡ 0 → e.ident ≡ 256 * get_or fixed 4 0 + get_or fixed 5 0 → e.seq ≡ 256 * get_or fixed 6 0 + get_or fixed 7 0 → echo_header e (256 * get_or fixed 2 0 + get_or fixed 3 0) ≡ fixed
unfolding echo_header
header_spelled fixed e fits len kind code ident seq =
    let at : ℕ → ℕ = λ k. get_or fixed k 0 in
    let sum = 256 * at 2 + at 3 in
    ap (λ (x : ℕ). header_form x 0 (to_be_bytes w16 sum) (to_be_bytes w16 e.ident) (to_be_bytes w16 e.seq)) kind
    ∙ ap (λ (x : ℕ). header_form (at 0) x (to_be_bytes w16 sum) (to_be_bytes w16 e.ident) (to_be_bytes w16 e.seq)) (sym code)
    ∙ ap (λ (x : List ℕ). header_form (at 0) (at 1) x (to_be_bytes w16 e.ident) (to_be_bytes w16 e.seq)) (be16_bytes sum (at 2) (at 3) (fits 2) (fits 3) refl)
    ∙ ap (λ (x : List ℕ). header_form (at 0) (at 1) (at 2 ∷ at 3 ∷ []) x (to_be_bytes w16 e.seq)) (be16_bytes e.ident (at 4) (at 5) (fits 4) (fits 5) ident)
    ∙ ap (λ (x : List ℕ). header_form (at 0) (at 1) (at 2 ∷ at 3 ∷ []) (at 4 ∷ at 5 ∷ []) x) (be16_bytes e.seq (at 6) (at 7) (fits 6) (fits 7) seq)
    ∙ elements-drop 8 0 fixed len

-- bytes of which these are the first eight and the body are the echo with these fields
pub echo_made : (fixed body bytes : List ℕ) (ident seq : ℕ) → IsBytes bytes → Splits 8 bytes fixed body → IsEchoKind (get_or fixed 0 0) → get_or fixed 1 0 ≡ 0 → ident ≡ 256 * get_or fixed 4 0 + get_or fixed 5 0 → seq ≡ 256 * get_or fixed 6 0 + get_or fixed 7 0 → length bytes < 2 ^ 16 → IsIntactEcho bytes → IsEcho bytes (made (get_or fixed 0 0) ident seq body)
echo_made fixed body bytes ident seq fits front kind code ident_is seq_is total checked =
    let fixed_fits : IsBytes fixed = IsBytes-front 8 bytes fixed body front fits in
    let e = made (get_or fixed 0 0) ident seq body in
    record {
      sum = 256 * get_or fixed 2 0 + get_or fixed 3 0;
      kind = kind;
      ident = omega (arith, ident_is, fixed_fits 4, fixed_fits 5);
      seq = omega (arith, seq_is, fixed_fits 6, fixed_fits 7);
      sum_fits = omega (arith, fixed_fits 2, fixed_fits 3);
      total = total;
      spelled = front.parts ∙ ap (λ (x : List ℕ). x ++ body) (sym (header_spelled fixed e fixed_fits front.len refl code ident_is seq_is));
      checked = checked;
    }
