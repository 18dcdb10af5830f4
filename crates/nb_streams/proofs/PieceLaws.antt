-- A segment that has a piece of a stream, and the number of its first byte, carries it, whatever came before.
use Rattle.std.proofs.Common.{◌≡◌, ◌≤◌, ◌<◌, ℕ, zero, suc, ◌+◌, ◌-◌, ◌*◌, ◌/◌, ◌%◌, ◌^◌, List, [], ◌∷◌, ◌++◌, length, drop, Some, ap, ◌∙◌, sym, arith, ltb, ◌⊎◌, inl, inr, ⊎_elim}
use Rattle.std.specs.List.{AllByRecursion, slice_get}
use Rattle.std.proofs.lemmas.Bool.{cases_lt, ltb-true}
use Rattle.std.proofs.lemmas.Nat.{mod-mul-add, div-add-mod', mod_below}
use Rattle.std.proofs.lemmas.List.{drop-drop}
use Rattle.std.proofs.lemmas.Option.{slice_get_within, none-some}
use Rattle.nb_streams.proofs.StreamLaws.{either}
use Rattle.nb_streams.specs.Segments.{ahead, placed_byte, places}
use Rattle.nb_streams.specs.Flows.{full_window}
use Rattle.nb_streams.specs.Streams.{IsByteOf}

-- going round by a number
turn : (a m r b : ℕ) → b < m → r ≡ a * m + b → r % m ≡ b
turn a m r b l e = ap (λ k. k % m) e ∙ mod-mul-add a m b l

distance_by : (m from d q r : ℕ) → 0 < m → d < m → r < m → from ≡ q * m + r → (r + d < m) ⊎ (m ≤ r + d) → ((from + d) % m + (m - r)) % m ≡ d
distance_by m from d q r pos l low e (inl small) =
    let first : (from + d) % m ≡ r + d = turn q m (from + d) (r + d) small (omega (arith, e)) in
    rw first (turn 1 m ((r + d) + (m - r)) d l (omega (arith, low)))
distance_by m from d q r pos l low e (inr large) =
    let first : (from + d) % m ≡ (r + d) - m = turn (q + 1) m (from + d) ((r + d) - m) (omega (arith, l, low, large)) (omega (arith, e, large)) in
    rw first (turn 0 m (((r + d) - m) + (m - r)) d l (omega (arith, low, large)))

-- a number that is so far ahead
pub distance : (m from d : ℕ) → 0 < m → d < m → ((from + d) % m + (m - from % m)) % m ≡ d
distance m from d pos l = distance_by m from d (from / m) (from % m) pos l (mod_below from m pos) (sym (div-add-mod' from m)) (cases_lt (from % m + d) m)

next_by : (m a qa qb b r : ℕ) → 0 < m → r < m → a ≡ qa * m + r → b ≡ qb * m + r → (r + 1 < m) ⊎ (m ≤ r + 1) → (a + 1) % m ≡ (b + 1) % m
next_by m a qa qb b r pos low ea eb (inl small) =
    turn qa m (a + 1) (r + 1) small (omega (arith, ea)) ∙ sym (turn qb m (b + 1) (r + 1) small (omega (arith, eb)))
next_by m a qa qb b r pos low ea eb (inr large) =
    turn (qa + 1) m (a + 1) 0 pos (omega (arith, ea, low, large)) ∙ sym (turn (qb + 1) m (b + 1) 0 pos (omega (arith, eb, low, large)))

pub same_next : (m a b : ℕ) → 0 < m → a % m ≡ b % m → (a + 1) % m ≡ (b + 1) % m
same_next m a b pos e = next_by m a (a / m) (b / m) b (a % m) pos (mod_below a m pos) (sym (div-add-mod' a m)) (sym (div-add-mod' b m) ∙ ap (λ r. b / m * m + r) (sym e)) (cases_lt (a % m + 1) m)

whole_turn : (m a : ℕ) → 0 < m → (a + m) % m ≡ a % m
whole_turn m a pos = turn (a / m + 1) m (a + m) (a % m) (mod_below a m pos) (omega (arith, sym (div-add-mod' a m)))

pub mod_twice : (m a : ℕ) → 0 < m → a % m % m ≡ a % m
mod_twice m a pos = turn 0 m (a % m) (a % m) (mod_below a m pos) (omega arith)

pub ahead_at : (from to d : ℕ) → d < 2 ^ 32 → to % 2 ^ 32 ≡ (from + d) % 2 ^ 32 → ahead from to ≡ d
ahead_at from to d l e = ap (λ k. (k + (2 ^ 32 - (from % 2 ^ 32))) % 2 ^ 32) e ∙ distance (2 ^ 32) from d (omega arith) l

byte_at : (xs : List ℕ) (p b : ℕ) (rest : List ℕ) → drop p xs ≡ b ∷ rest → slice_get xs p ≡ Some b
byte_at [] zero b rest e = absurd (none-some b (ap (λ ys. slice_get ys 0) e))
byte_at [] (suc p) b rest e = absurd (none-some b (ap (λ ys. slice_get ys 0) e))
byte_at (x ∷ xs) zero b rest e = ap (λ ys. slice_get ys 0) e
byte_at (x ∷ xs) (suc p) b rest e = byte_at xs p b rest e

drop_next : (xs : List ℕ) (p b : ℕ) (rest : List ℕ) → drop p xs ≡ b ∷ rest → drop (p + 1) xs ≡ rest
drop_next xs p b rest e = sym (drop-drop 1 p xs) ∙ ap (drop 1) e

placed_is : (xs : List ℕ) (width n d b : ℕ) → (d < width → slice_get xs (n + d) ≡ Some b) → AllByRecursion (IsByteOf xs) (placed_byte width n d b)
placed_is xs width n d b is = either (ltb d width) (λ only_if. rw only_if (is (ltb-true d width only_if), tt)) (λ off. rw off tt)

piece_byte : (xs : List ℕ) (theirs n at place b : ℕ) → length xs < 2 ^ 31 → n ≤ length xs → place < length xs → at % 2 ^ 32 ≡ (theirs + place) % 2 ^ 32 → slice_get xs place ≡ Some b
    → (n ≤ place) ⊎ (place < n) → AllByRecursion (IsByteOf xs) (placed_byte full_window n (ahead (theirs + n) at) b)
piece_byte xs theirs n at place b short before inside e is (inl later) =
    let sum : (theirs + n) + (place - n) ≡ theirs + place = omega (arith, later) in
    let d : ahead (theirs + n) at ≡ place - n = ahead_at (theirs + n) at (place - n) (omega (arith, short, inside)) (e ∙ ap (λ k. k % 2 ^ 32) (sym sum)) in
    let here : n + (place - n) ≡ place = omega (arith, later) in
    rw d (placed_is xs full_window n (place - n) b (λ l. ap (λ k. slice_get xs k) here ∙ is))
piece_byte xs theirs n at place b short before inside e is (inr earlier) =
    let sum : (theirs + n) + (2 ^ 32 - (n - place)) ≡ (theirs + place) + 2 ^ 32 = omega (arith, earlier, short, before) in
    let d : ahead (theirs + n) at ≡ 2 ^ 32 - (n - place) = ahead_at (theirs + n) at (2 ^ 32 - (n - place)) (omega (arith, earlier)) (e ∙ sym (whole_turn (2 ^ 32) (theirs + place) (omega arith)) ∙ ap (λ k. k % 2 ^ 32) (sym sum)) in
    rw d (placed_is xs full_window n (2 ^ 32 - (n - place)) b (λ l. absurd (no_less 65535 (omega (arith, l, short, before)))))
  where
    no_less : (k : ℕ) → k < k → ⊥
    no_less k l = omega (arith, l)

all_append : {A : Type 0} (P : A → Type 0) (xs ys : List A) → AllByRecursion P xs → AllByRecursion P ys → AllByRecursion P (xs ++ ys)
all_append P [] ys p q = q
all_append P (x ∷ xs) ys p q = (p.0, all_append P xs ys p.1 q)

le_or : (a b : ℕ) → (a ≤ b) ⊎ (b < a)
le_or a b = ⊎_elim (λ l. inr l) (λ l. inl l) (cases_lt b a)

pub pieces_are : (xs : List ℕ) (theirs n at place : ℕ) (bytes rest : List ℕ) → length xs < 2 ^ 31 → n ≤ length xs → at % 2 ^ 32 ≡ (theirs + place) % 2 ^ 32 → drop place xs ≡ bytes ++ rest
    → AllByRecursion (IsByteOf xs) (places full_window theirs n at bytes)
pieces_are xs theirs n at place [] rest short before e stands = tt
pieces_are xs theirs n at place (b ∷ bytes) rest short before e stands =
    let here : slice_get xs place ≡ Some b = byte_at xs place b (bytes ++ rest) stands in
    let further : (at + 1) % 2 ^ 32 ≡ (theirs + (place + 1)) % 2 ^ 32 = same_next (2 ^ 32) at (theirs + place) (omega arith) e ∙ ap (λ k. k % 2 ^ 32) (plus_assoc theirs place) in
    all_append (IsByteOf xs) (placed_byte full_window n (ahead (theirs + n) at) b) (places full_window theirs n (at + 1) bytes)
    (piece_byte xs theirs n at place b short before (slice_get_within xs place b here) e here (le_or n place))
    (pieces_are xs theirs n (at + 1) (place + 1) bytes rest short before further (drop_next xs place b (bytes ++ rest) stands))
  where
    plus_assoc : (a b : ℕ) → (a + b) + 1 ≡ a + (b + 1)
    plus_assoc a b = omega arith
