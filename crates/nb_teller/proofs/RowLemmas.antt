-- What is spelled is what its rows say.
use Rattle.std.proofs.Common.{◌≡◌, ℕ, Bool, true, false, List, [], ◌∷◌, Option, Some, None, refl, sym, ◌∙◌, ap}
use Rattle.nb_terms.specs.declared.cause.Cause.{Cause}
use Rattle.nb_wire.specs.declared.address.Ip4.{Ip4}
use Rattle.nb_ledger.specs.Flat.{Notice}
use Rattle.nb_opens.specs.Notices.{first_close}
use Rattle.nb_stack.specs.Client.{Client}
use Rattle.nb_teller.specs.declared.speaker.Speaker.{Speaker}
use Rattle.nb_drivechains.specs.declared.drive_answer.DriveAnswer.{DriveAnswer}
use Rattle.nb_teller.specs.Deliveries.{delivered_address, delivered_answer, delivered_bytes}
use Rattle.nb_teller.specs.Spelling.{Spelling, closed_row, bytes_row, address_row, answer_row, stuck_row, rows_of, rows_in, IsSpelled}
use Rattle.nb_teller.specs.Tellings.{any_lacks_route}

-- the first of some, or else this, and the others
abbrev first_of : {A : Type 0} → A → List A → A
first_of d [] = d
first_of d (x ∷ xs) = x

abbrev others_of : {A : Type 0} → List A → List A
others_of [] = []
others_of (x ∷ xs) = xs

abbrev fifth_on : {A : Type 0} → List A → List A
fifth_on xs = others_of (others_of (others_of (others_of xs)))

abbrev is_some_row : List ℕ → Bool
is_some_row [] = false
is_some_row (x ∷ xs) = true

-- a cause is its row's
cause_is : (a b : Option Cause) → closed_row a ≡ closed_row b → a ≡ b
cause_is None None e = refl
cause_is None (Some d) e = absurd (let no : false ≡ true = ap is_some_row e in cc)
cause_is (Some c) None e = absurd (let no : true ≡ false = ap is_some_row e in cc)
cause_is (Some c) (Some d) e = ap Some (by c d (ap (first_of 0) e) (ap (λ r. first_of 0 (others_of r)) e) (ap (λ r. first_of 0 (others_of (others_of r))) e))
  where
    by : (x y : Cause) → x.code ≡ y.code → x.a ≡ y.a → x.b ≡ y.b → x ≡ y
    by x y f g h = ap (λ z. record { code = z; a = x.a; b = x.b }) f ∙ (ap (λ z. record { code = y.code; a = z; b = x.b }) g ∙ ap (λ z. record { code = y.code; a = y.a; b = z }) h)

-- so are bytes, and an address
bytes_is : (a b : Option (List ℕ)) → bytes_row a ≡ bytes_row b → a ≡ b
bytes_is None None e = refl
bytes_is None (Some d) e = absurd (let no : false ≡ true = ap is_some_row e in cc)
bytes_is (Some c) None e = absurd (let no : true ≡ false = ap is_some_row e in cc)
bytes_is (Some c) (Some d) e = ap Some (ap others_of e)

address_is : (a b : Option Ip4) → address_row a ≡ address_row b → a ≡ b
address_is None None e = refl
address_is None (Some d) e = absurd (let no : false ≡ true = ap is_some_row e in cc)
address_is (Some c) None e = absurd (let no : true ≡ false = ap is_some_row e in cc)
address_is (Some c) (Some d) e = ap (λ z. Some (record { 0 = z })) (ap (first_of 0) e)

answer_is : (a b : Option DriveAnswer) → answer_row a ≡ answer_row b → a ≡ b
answer_is None None e = refl
answer_is None (Some d) e = absurd (let no : false ≡ true = ap is_some_row e in cc)
answer_is (Some c) None e = absurd (let no : true ≡ false = ap is_some_row e in cc)
answer_is (Some c) (Some d) e =
    ap Some (ap (λ z. record { blocks = z; chap = c.chap }) (ap (first_of 0) e) ∙ ap (λ z. record { blocks = d.blocks; chap = z }) (ap (λ r. first_of 0 (others_of r)) e))

stuck_is : (a b : Bool) → stuck_row a ≡ stuck_row b → a ≡ b
stuck_is true true e = refl
stuck_is false false e = refl
stuck_is true false e = absurd (let no : true ≡ false = ap is_some_row e in cc)
stuck_is false true e = absurd (let no : false ≡ true = ap is_some_row e in cc)

-- what is spelled is what its rows say
pub are_rows : (net : Client) (who : Speaker) (s : Spelling) (ns : List Notice) → s.is_lost ≡ false → rows_of net who ns ≡ rows_in s → IsSpelled net who s ns
are_rows net who s ns whole e = (
  whole,
  sym (ap (first_of []) e),
  sym (cause_is (first_close ns) s.closed (ap (λ r. first_of [] (others_of r)) e)),
  sym (bytes_is (delivered_bytes ns) s.bytes (ap (λ r. first_of [] (others_of (others_of r))) e)),
  sym (address_is (delivered_address ns) s.address (ap (λ r. first_of [] (others_of (others_of (others_of r)))) e)),
  sym (stuck_is (any_lacks_route net who ns) s.is_stuck (ap (λ r. first_of [] (fifth_on r)) e)),
  sym (ap (λ r. first_of [] (others_of (fifth_on r))) e),
  sym (answer_is (delivered_answer ns) s.answer (ap (λ r. first_of [] (others_of (others_of (fifth_on r)))) e)),
)

pub rows_are : (net : Client) (who : Speaker) (s : Spelling) (ns : List Notice) → IsSpelled net who s ns → rows_of net who ns ≡ rows_in s
rows_are net who s ns is = rw (is.1, is.2, is.3, is.4, is.5, is.6, is.7) refl
