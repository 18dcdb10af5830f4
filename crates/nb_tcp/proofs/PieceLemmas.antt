-- The piece of a segment that is put into the window has the segment's bytes at their places.
use Rattle.std.proofs.Common.{◌≡◌, ◌≤◌, ◌<◌, ℕ, zero, suc, ◌+◌, ◌-◌, ◌%◌, ◌^◌, ◌==◌, ◌&&◌, ◌||◌, get_or, List, [], ◌∷◌, length, take, drop, Option, Some, None, Bool, true, false, cond, refl, ap, ◌∙◌, sym, subst, arith, ltb, leb, min, ⊎_elim}
use Rattle.std.specs.List.{slice_get, list_any}
use Rattle.std.proofs.lemmas.Bool.{ltb-true, ltb-false, leb-true, eqb-true, eq-eqb, lt-ltb, cases_lt, false≢true, and_from, and_parts, or_cases, or_right}
use Rattle.std.proofs.lemmas.Bool.Decides.{nat_tests}
use Rattle.std.proofs.lemmas.Option.{slice_get_past, slice_get_within, slice_get-get_or, none-some}
use Rattle.std.proofs.lemmas.List.{length-take}
use Rattle.nb_streams.specs.Segments.{Incoming, ahead, places}
use Rattle.nb_streams.specs.Streams.{byte_at, if_here}
use Rattle.nb_streams.specs.Flows.{full_window, is_past}
use Rattle.nb_streams.proofs.StreamLaws.{either}
use Rattle.nb_streams.proofs.PieceLaws.{ahead_at}
use Rattle.nb_reasm.specs.Windows.{HeldWindow, is_inside, window_byte}
use Rattle.nb_tcp.specs.declared.variables.Variables.{Variables}
use Rattle.nb_tcp.specs.Numbers.{distance_of, piece_place, piece_bytes, counted_upto, kept_bytes, passes_limit}
use Rattle.nb_tcp.proofs.PlaceLemmas.{ahead_low, ahead_back, place_byte}

pub get_drop : (n i : ℕ) (xs : List ℕ) → slice_get (drop n xs) i ≡ slice_get xs (n + i)
get_drop zero i xs = let e : zero + i ≡ i = omega arith in ap (λ k. slice_get xs k) (sym e)
get_drop (suc n) i [] = refl
get_drop (suc n) i (x ∷ xs) = let e : suc n + i ≡ suc (n + i) = omega arith in get_drop n i xs ∙ ap (λ k. slice_get (x ∷ xs) k) (sym e)

pub get_take : (n i : ℕ) (xs : List ℕ) → i < n → slice_get (take n xs) i ≡ slice_get xs i
get_take zero i xs l = absurd (none_below i l)
  where
    none_below : (i : ℕ) → i < 0 → ⊥
    none_below i l = omega (arith, l)
get_take (suc n) i [] l = refl
get_take (suc n) zero (x ∷ xs) l = refl
get_take (suc n) (suc i) (x ∷ xs) l = get_take n i xs (omega (arith, l))

-- a place past the window has no byte
pub place_none : (width first n p at : ℕ) (bytes : List ℕ) → n + width ≤ p → byte_at p (places width first n at bytes) ≡ None
place_none width first n p at [] over = refl
place_none width first n p at (b ∷ bytes) over = either (ltb (ahead (first + n) at) width)
    (λ t. rw t (either ((n + ahead (first + n) at) == p)
    (λ here. absurd (apart (ahead (first + n) at) (ltb-true (ahead (first + n) at) width t) (eqb-true (n + ahead (first + n) at) p here)))
    (λ off. ap (λ (c : Bool). if_here c b (byte_at p (places width first n (at + 1) bytes))) off ∙ place_none width first n p (at + 1) bytes over)))
    (λ f. rw f (place_none width first n p (at + 1) bytes over))
  where
    apart : (d : ℕ) → d < width → n + d ≡ p → ⊥
    apart d l e = omega (arith, l, e, over)

-- by how far the segment's number is ahead of the window's
piece_in : (x number e d : ℕ) (body : List ℕ) → length body < 2 ^ 16 → e < 65535 → ahead x number ≡ d → d ≤ e → slice_get body (ahead number (x + e)) ≡ slice_get body (e - d)
piece_in x number e d body short inside is l =
    let back : (x + d) % 2 ^ 32 ≡ number % 2 ^ 32 = subst (λ k. (x + k) % 2 ^ 32 ≡ number % 2 ^ 32) is (ahead_back x number) in
    ap (λ k. slice_get body k) (ahead_at number (x + e) (e - d) (omega (arith, inside)) (turned x number e d back l))
  where
    turned : (x number e d : ℕ) → (x + d) % 2 ^ 32 ≡ number % 2 ^ 32 → d ≤ e → (x + e) % 2 ^ 32 ≡ (number + (e - d)) % 2 ^ 32
    turned x number e d back l = omega (arith, back, l)

piece_before : (x number e d : ℕ) → ahead x number ≡ d → e < d → d < 2 ^ 32 → ahead number (x + e) ≡ e + (2 ^ 32 - d)
piece_before x number e d is l low =
    let back : (x + d) % 2 ^ 32 ≡ number % 2 ^ 32 = subst (λ k. (x + k) % 2 ^ 32 ≡ number % 2 ^ 32) is (ahead_back x number) in
    ahead_at number (x + e) (e + (2 ^ 32 - d)) (omega (arith, l, low)) (turned x number e d back l low)
  where
    turned : (x number e d : ℕ) → (x + d) % 2 ^ 32 ≡ number % 2 ^ 32 → e < d → d < 2 ^ 32 → (x + e) % 2 ^ 32 ≡ (number + (e + (2 ^ 32 - d))) % 2 ^ 32
    turned x number e d back l low = omega (arith, back, l, low)

abbrev pub piece_get : ℕ → List ℕ → ℕ → Option ℕ
piece_get place bytes p = cond (leb place p) (slice_get bytes (p - place)) None

get_if : (place p : ℕ) (bytes : List ℕ) → place ≤ p → piece_get place bytes p ≡ slice_get bytes (p - place)
get_if place p bytes l = ap (λ c. cond c (slice_get bytes (p - place)) None) (le_leb place p l)
  where
    le_leb : (a b : ℕ) → a ≤ b → leb a b ≡ true
    le_leb a b l = grind (arith, nat_tests)

get_not : (place p : ℕ) (bytes : List ℕ) → p < place → piece_get place bytes p ≡ None
get_not place p bytes l = ap (λ c. cond c (slice_get bytes (p - place)) None) (lt_leb place p l)
  where
    lt_leb : (a b : ℕ) → b < a → leb a b ≡ false
    lt_leb a b l = grind (arith, nat_tests)

-- the piece has the byte at a place of the window that the segment has there
pub piece_has : (v : Variables) (s : Incoming) (e : ℕ) → length s.body < 2 ^ 16 → v.next < 2 ^ 31 → e < 65535
    → piece_get (piece_place v s) (piece_bytes v s) (v.next + e) ≡ slice_get s.body (ahead s.number ((v.irs + 1 + v.next) + e))
piece_has v s e short small inside = either (ltb (distance_of v s.number) full_window)
    (λ t. rw t (near v.next (v.irs + 1 + v.next) s.number e (distance_of v s.number) s.body short small inside refl (ltb-true (distance_of v s.number) full_window t)))
    (λ f. rw f (far v.next (v.irs + 1 + v.next) s.number e (distance_of v s.number) s.body inside refl (ltb-false (distance_of v s.number) full_window f) (ahead_low (v.irs + 1 + v.next) s.number)))
  where
    near : (n x number e d : ℕ) (body : List ℕ) → length body < 2 ^ 16 → n < 2 ^ 31 → e < 65535 → ahead x number ≡ d → d < 65535 → piece_get (min (n + d) (2 ^ 32 - 1)) body (n + e) ≡ slice_get body (ahead number (x + e))
    near n x number e d body short small inside is l =
        let place : min (n + d) (2 ^ 32 - 1) ≡ n + d = omega (arith, small, l) in
        ap (λ k. piece_get k body (n + e)) place ∙ ⊎_elim
        (λ before. get_not (n + d) (n + e) body (omega (arith, before)) ∙ sym (ap (λ k. slice_get body k) (piece_before x number e d is before (omega (arith, l))) ∙ slice_get_past body (e + (2 ^ 32 - d)) (omega (arith, short, l))))
        (λ after. get_if (n + d) (n + e) body (omega (arith, after)) ∙ ap (λ k. slice_get body k) (shift n d e after) ∙ sym (piece_in x number e d body short inside is after))
        (cases_lt e d)
      where
        shift : (n d e : ℕ) → d ≤ e → (n + e) - (n + d) ≡ e - d
        shift n d e l = omega (arith, l)

    far : (n x number e d : ℕ) (body : List ℕ) → e < 65535 → ahead x number ≡ d → 65535 ≤ d → d < 2 ^ 32 → piece_get n (drop (2 ^ 32 - d) body) (n + e) ≡ slice_get body (ahead number (x + e))
    far n x number e d body inside is l low =
        get_if n (n + e) (drop (2 ^ 32 - d) body) (omega arith)
        ∙ ap (λ k. slice_get (drop (2 ^ 32 - d) body) k) (back n e)
        ∙ get_drop (2 ^ 32 - d) e body
        ∙ ap (λ k. slice_get body k) (turn e (2 ^ 32 - d))
        ∙ sym (ap (λ k. slice_get body k) (piece_before x number e d is (omega (arith, inside, l)) low))
      where
        back : (n e : ℕ) → (n + e) - n ≡ e
        back n e = omega arith

        turn : (e k : ℕ) → k + e ≡ e + k
        turn e k = omega arith

byte_if : (w : HeldWindow) (place : ℕ) (bytes : List ℕ) (p : ℕ) (b : Bool) → is_inside w p ≡ b → window_byte w place bytes p ≡ cond (b && leb place p) (slice_get bytes (p - place)) None
byte_if w place bytes p b is = ap (λ c. cond (c && leb place p) (slice_get bytes (p - place)) None) is

inside_is : (w : HeldWindow) (n p : ℕ) → w.base ≡ n → w.size ≡ 65535 → n ≤ p → p < n + 65535 → is_inside w p ≡ true
inside_is w n p base size l m = by_tests w.base w.size (omega (arith, base, l)) (omega (arith, base, size, m))
  where
    by_tests : (b k : ℕ) → b ≤ p → p < b + k → (leb b p && ltb p (b + k)) ≡ true
    by_tests b k l m = grind (arith, nat_tests)

outside_is : (w : HeldWindow) (n p : ℕ) → w.base ≡ n → w.size ≡ 65535 → n + 65535 ≤ p → is_inside w p ≡ false
outside_is w n p base size l = by_tests w.base w.size (omega (arith, base, size, l))
  where
    by_tests : (b k : ℕ) → b + k ≤ p → (leb b p && ltb p (b + k)) ≡ false
    by_tests b k l = grind (arith, nat_tests)

kept_get : (place c p : ℕ) (bytes : List ℕ) → p < c → piece_get place (take (c - place) bytes) p ≡ piece_get place bytes p
kept_get place c p bytes l = ⊎_elim
    (λ before. get_not place p (take (c - place) bytes) before ∙ sym (get_not place p bytes before))
    (λ after. get_if place p (take (c - place) bytes) after ∙ get_take (c - place) (p - place) bytes (omega (arith, l, after)) ∙ sym (get_if place p bytes after))
    (cases_lt p place)

-- what is put at a place that counts is the segment's byte there
pub put_byte : (v c : Variables) (s : Incoming) (w : HeldWindow) (p : ℕ) → length s.body < 2 ^ 16 → v.next < 2 ^ 31 → w.base ≡ v.next → w.size ≡ 65535 → v.next ≤ p → p < counted_upto c
    → window_byte w (piece_place v s) (kept_bytes c (piece_place v s) (piece_bytes v s)) p ≡ byte_at p (places full_window (v.irs + 1) v.next s.number s.body)
put_byte v c s w p short small base size l counts = ⊎_elim
    (λ inside. let here : v.next + (p - v.next) ≡ p = omega (arith, l) in
    byte_if w (piece_place v s) (kept_bytes c (piece_place v s) (piece_bytes v s)) p true (inside_is w v.next p base size l inside)
    ∙ kept_get (piece_place v s) (counted_upto c) p (piece_bytes v s) counts
    ∙ ap (λ k. piece_get (piece_place v s) (piece_bytes v s) k) (sym here)
    ∙ piece_has v s (p - v.next) short small (omega (arith, inside, l))
    ∙ sym (place_byte full_window (v.irs + 1) v.next (p - v.next) s.number s.body (omega (arith, inside, l)) (omega (arith, inside, l)))
    ∙ ap (λ k. byte_at k (places full_window (v.irs + 1) v.next s.number s.body)) here)
    (λ over. byte_if w (piece_place v s) (kept_bytes c (piece_place v s) (piece_bytes v s)) p false (outside_is w v.next p base size over)
    ∙ sym (place_none full_window (v.irs + 1) v.next p s.number s.body over))
    (cases_lt p (v.next + 65535))

-- nothing is put at a place that doesn't count
pub put_none : (c : Variables) (w : HeldWindow) (place p : ℕ) (bytes : List ℕ) → counted_upto c ≤ p → window_byte w place (kept_bytes c place bytes) p ≡ None
put_none c w place p bytes over = either (is_inside w p && leb place p)
    (λ t. ap (λ b. cond b (slice_get (take (counted_upto c - place) bytes) (p - place)) None) t ∙ slice_get_past (take (counted_upto c - place) bytes) (p - place) (omega (arith, length-take (counted_upto c - place) bytes, leb-true place p (and_parts (is_inside w p) (leb place p) t).1, over)))
    (λ f. ap (λ b. cond b (slice_get (take (counted_upto c - place) bytes) (p - place)) None) f)

-- a place that counts for nothing else has a byte where some pair has it
any_byte : (pairs : List (ℕ × ℕ)) (p b : ℕ) → 2 ^ 31 - 1 ≤ p → byte_at p pairs ≡ Some b → list_any is_past pairs ≡ true
any_byte [] p b high is = absurd (none-some b is)
any_byte (q ∷ qs) p b high is = either (q.0 == p)
    (λ here. let past : is_past q ≡ true = le_leb (2 ^ 31 - 1) q.0 (omega (arith, eqb-true q.0 p here, high)) in or_from_left (is_past q) (list_any is_past qs) past)
    (λ off. or_right (is_past q) (list_any is_past qs) (any_byte qs p b high (rw off at is)))
  where
    le_leb : (a b : ℕ) → a ≤ b → leb a b ≡ true
    le_leb a b l = grind (arith, nat_tests)

    or_from_left : (a b : Bool) → a ≡ true → (a || b) ≡ true
    or_from_left true b e = refl
    or_from_left false b e = absurd (false≢true e)

record HighByte (pairs : List (ℕ × ℕ)) : Type 0 where
  place : ℕ
  byte : ℕ
  high : 2 ^ 31 - 1 ≤ place
  is : byte_at place pairs ≡ Some byte

byte_any : (pairs : List (ℕ × ℕ)) → list_any is_past pairs ≡ true → HighByte pairs
byte_any [] e = absurd (false≢true e)
byte_any (q ∷ qs) e = either (is_past q)
    (λ past. record { place = q.0; byte = q.1; high = leb-true (2 ^ 31 - 1) q.0 past; is = ap (λ c. if_here c q.1 (byte_at q.0 qs)) (eq-eqb q.0 q.0 refl) })
    (λ low. later (byte_any qs (⊎_elim (λ past. absurd (false≢true (sym low ∙ past))) (λ t. t) (or_cases (is_past q) (list_any is_past qs) e))))
  where
    later : HighByte qs → HighByte (q ∷ qs)
    later h = either (q.0 == h.place)
        (λ here. record { place = h.place; byte = q.1; high = h.high; is = ap (λ c. if_here c q.1 (byte_at h.place qs)) here })
        (λ off. record { place = h.place; byte = h.byte; high = h.high; is = ap (λ c. if_here c q.1 (byte_at h.place qs)) off ∙ h.is })

record Reaches (n place : ℕ) (piece : List ℕ) : Type 0 where
  some : 0 < length piece
  high : 2 ^ 31 - 1 < min (place + length piece) (n + 65535)

reaches_test : (v : Variables) (s : Incoming) → Reaches v.next (piece_place v s) (piece_bytes v s) → passes_limit v s ≡ true
reaches_test v s r = and_from (ltb 0 (length (piece_bytes v s))) (ltb (2 ^ 31 - 1) (min (piece_place v s + length (piece_bytes v s)) (v.next + full_window))) (lt-ltb 0 (length (piece_bytes v s)) r.some) (lt-ltb (2 ^ 31 - 1) (min (piece_place v s + length (piece_bytes v s)) (v.next + full_window)) r.high)

test_reaches : (v : Variables) (s : Incoming) → passes_limit v s ≡ true → Reaches v.next (piece_place v s) (piece_bytes v s)
test_reaches v s t =
    let both = and_parts (ltb 0 (length (piece_bytes v s))) (ltb (2 ^ 31 - 1) (min (piece_place v s + length (piece_bytes v s)) (v.next + full_window))) t in
    record { some = ltb-true 0 (length (piece_bytes v s)) both.0; high = ltb-true (2 ^ 31 - 1) (min (piece_place v s + length (piece_bytes v s)) (v.next + full_window)) both.1 }

-- the byte that a piece has at a place
get_reaches : (n place e b : ℕ) (piece : List ℕ) → 2 ^ 31 - 1 ≤ n + e → e < 65535 → piece_get place piece (n + e) ≡ Some b → Reaches n place piece
get_reaches n place e b piece high inside is = ⊎_elim
    (λ before. absurd (none-some b (sym (get_not place (n + e) piece before) ∙ is)))
    (λ after. let within : (n + e) - place < length piece = slice_get_within piece ((n + e) - place) b (sym (get_if place (n + e) piece after) ∙ is) in
    record { some = omega (arith, within); high = omega (arith, within, after, high, inside) })
    (cases_lt (n + e) place)

place_low : (v : Variables) (s : Incoming) → v.next < 2 ^ 31 → (v.next ≤ piece_place v s) × (piece_place v s < v.next + 65535)
place_low v s small = either (ltb (distance_of v s.number) full_window)
    (λ t. rw t (near v.next (distance_of v s.number) small (ltb-true (distance_of v s.number) full_window t)))
    (λ f. rw f (omega arith, omega arith))
  where
    near : (n d : ℕ) → n < 2 ^ 31 → d < 65535 → (n ≤ min (n + d) (2 ^ 32 - 1)) × (min (n + d) (2 ^ 32 - 1) < n + 65535)
    near n d l m = (omega (arith, l, m), omega (arith, l, m))

bool_both : (a b : Bool) → (a ≡ true → b ≡ true) → (b ≡ true → a ≡ true) → a ≡ b
bool_both true true f g = refl
bool_both false false f g = refl
bool_both true false f g = sym (f refl)
bool_both false true f g = g refl

-- the window has a byte of the segment whose place is too high exactly where the test says so
pub past_is : (v : Variables) (s : Incoming) → length s.body < 2 ^ 16 → v.next < 2 ^ 31 → list_any is_past (places full_window (v.irs + 1) v.next s.number s.body) ≡ passes_limit v s
past_is v s short small = bool_both (list_any is_past (places full_window (v.irs + 1) v.next s.number s.body)) (passes_limit v s)
    (λ t. reaches_test v s (found v s short small (byte_any (places full_window (v.irs + 1) v.next s.number s.body) t)))
    (λ t. shown v s short small (test_reaches v s t) (place_low v s small))
  where
    found : (v : Variables) (s : Incoming) → length s.body < 2 ^ 16 → v.next < 2 ^ 31 → HighByte (places full_window (v.irs + 1) v.next s.number s.body) → Reaches v.next (piece_place v s) (piece_bytes v s)
    found v s short small h = ⊎_elim
        (λ inside. let here : v.next + (h.place - v.next) ≡ h.place = omega (arith, h.high, small) in
        let e : ℕ = h.place - v.next in
        get_reaches v.next (piece_place v s) (h.place - v.next) h.byte (piece_bytes v s) (omega (arith, h.high, here)) (omega (arith, inside, here))
        (piece_has v s (h.place - v.next) short small (omega (arith, inside, here))
        ∙ sym (place_byte full_window (v.irs + 1) v.next (h.place - v.next) s.number s.body (omega (arith, inside, here)) (omega (arith, inside, here)))
        ∙ ap (λ k. byte_at k (places full_window (v.irs + 1) v.next s.number s.body)) here ∙ h.is))
        (λ over. absurd (none-some h.byte (sym (place_none full_window (v.irs + 1) v.next h.place s.number s.body over) ∙ h.is)))
        (cases_lt h.place (v.next + 65535))

    shown : (v : Variables) (s : Incoming) → length s.body < 2 ^ 16 → v.next < 2 ^ 31 → Reaches v.next (piece_place v s) (piece_bytes v s) → (v.next ≤ piece_place v s) × (piece_place v s < v.next + 65535) → list_any is_past (places full_window (v.irs + 1) v.next s.number s.body) ≡ true
    shown v s short small r low =
        let last : ℕ = min (piece_place v s + length (piece_bytes v s)) (v.next + 65535) - 1 in
        let e : ℕ = last - v.next in
        let here : v.next + (last - v.next) ≡ last = omega (arith, low.0, r.some, r.high, small) in
        let inside : last - v.next < 65535 = omega (arith, low.0, r.some, r.high, small) in
        let after : piece_place v s ≤ last = omega (arith, low.1, r.some, r.high) in
        let within : last - piece_place v s < length (piece_bytes v s) = omega (arith, low.1, r.some, r.high) in
        any_byte (places full_window (v.irs + 1) v.next s.number s.body) last (get_or (piece_bytes v s) (last - piece_place v s) 0) (omega (arith, r.high))
        (ap (λ k. byte_at k (places full_window (v.irs + 1) v.next s.number s.body)) (sym here)
        ∙ place_byte full_window (v.irs + 1) v.next (last - v.next) s.number s.body inside (omega (arith, inside))
        ∙ sym (piece_has v s (last - v.next) short small inside)
        ∙ ap (λ k. piece_get (piece_place v s) (piece_bytes v s) k) here
        ∙ get_if (piece_place v s) last (piece_bytes v s) after
        ∙ slice_get-get_or (piece_bytes v s) (last - piece_place v s) 0 within)
