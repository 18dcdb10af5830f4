-- Segments that are pieces of a stream, in any order and number, leave a prefix of it, and all of it at the end.
use Rattle.std.proofs.Common.{◌≡◌, ◌≤◌, ◌<◌, ℕ, zero, suc, ◌+◌, ◌-◌, ◌%◌, ◌^◌, List, [], ◌∷◌, length, Some, true, ap, ◌∙◌, sym, subst, arith, leb, ⊎_elim}
use Rattle.std.specs.List.{AllByRecursion}
use Rattle.std.proofs.lemmas.Option.{none-some, same_Some}
use Rattle.std.proofs.lemmas.List.{length-append}
use Rattle.nb_streams.specs.Segments.{Incoming, ahead, places}
use Rattle.nb_streams.specs.Streams.{front, next, has_ended, IsByteOf, IsPrefixOf}
use Rattle.nb_streams.specs.Flows.{TcpCall, segment_came, time_came, text_came, Flow, ConnPhase, asking, flowing, full_window, place_within, stop_of, after_tcp_call, held_in, held_after}
use Rattle.nb_streams.specs.Carrying.{CarriesIn, CarriesBy, Carry, IsPieceOf, BringsNothing, SentBy, AreFrom}
use Rattle.nb_streams.proofs.StreamLaws.{front_is, either}
use Rattle.nb_streams.proofs.FlowLaws.{IsOf, nothing_is, call_is, front_is_streams, ended_is_whole}
use Rattle.nb_streams.proofs.PieceLaws.{same_next, ahead_at, mod_twice, pieces_are}

same_later : (m a b k : ℕ) → 0 < m → a % m ≡ b % m → (a + k) % m ≡ (b + k) % m
same_later m a b zero pos e = ap (λ n. n % m) (plus_none a) ∙ e ∙ ap (λ n. n % m) (sym (plus_none b))
  where
    plus_none : (n : ℕ) → n + 0 ≡ n
    plus_none n = omega arith
same_later m a b (suc k) pos e = ap (λ n. n % m) (plus_one a k) ∙ same_next m (a + k) (b + k) pos (same_later m a b k pos e) ∙ ap (λ n. n % m) (sym (plus_one b k))
  where
    plus_one : (n k : ℕ) → n + suc k ≡ (n + k) + 1
    plus_one n k = omega arith

within_is : (n d place : ℕ) → place_within n d ≡ Some place → place ≡ n + d
within_is n d place is = either (leb d full_window) (λ only_if. sym (same_Some (n + d) place (rw only_if at is))) (λ off. absurd (none-some place (rw off at is)))

front_short : (xs ys : List ℕ) → IsPrefixOf ys xs → length ys ≤ length xs
front_short xs ys (rest, e) = omega (arith, ap length e, length-append ys rest)

stop_at_end : (xs : List ℕ) (f : Flow) (s : Incoming) → length xs < 2 ^ 31 - 1 → next f.held ≤ length xs → IsPieceOf xs f.theirs s → (place : ℕ) → stop_of f s ≡ Some place → place ≡ length xs
stop_at_end xs f s short before piece place is = either s.fin
    (λ only_if.
    let whole : piece.place + length s.body ≡ length xs = omega (arith, piece.within, ap length (piece.fin only_if)) in
    let d : ℕ = length xs - next f.held in
    let sum : (f.theirs + next f.held) + d ≡ (f.theirs + piece.place) + length s.body = omega (arith, whole, before) in
    let number : (s.number + length s.body) % 2 ^ 32 ≡ ((f.theirs + piece.place) + length s.body) % 2 ^ 32 = same_later (2 ^ 32) s.number (f.theirs + piece.place) (length s.body) (omega arith) (ap (λ n. n % 2 ^ 32) piece.number ∙ mod_twice (2 ^ 32) (f.theirs + piece.place) (omega arith)) in
    let far : ahead (f.theirs + next f.held) (s.number + length s.body) ≡ d = ahead_at (f.theirs + next f.held) (s.number + length s.body) d (omega (arith, short)) (number ∙ ap (λ n. n % 2 ^ 32) (sym sum)) in
    let there : place_within (next f.held) (ahead (f.theirs + next f.held) (s.number + length s.body)) ≡ Some place = rw only_if at is in
    within_is (next f.held) _ place there ∙ ap (λ n. next f.held + n) far ∙ omega (arith, before))
    (λ off. absurd (none-some place (rw off at is)))

-- a piece of the stream carries it, whatever is held
pub piece_carries : (xs : List ℕ) (f : Flow) (s : Incoming) → length xs < 2 ^ 31 - 1 → next f.held ≤ length xs → IsPieceOf xs f.theirs s → CarriesIn xs f s
piece_carries xs f s short before piece = record {
  bytes = pieces_are xs f.theirs (next f.held) s.number piece.place s.body piece.rest (omega (arith, short)) before (ap (λ n. n % 2 ^ 32) piece.number ∙ mod_twice (2 ^ 32) (f.theirs + piece.place) (omega arith)) piece.bytes;
  stop = stop_at_end xs f s short before piece;
}

silent_carries : (xs : List ℕ) (f : Flow) (s : Incoming) → BringsNothing s → CarriesIn xs f s
silent_carries xs f s is = record {
  bytes = subst (λ body. AllByRecursion (IsByteOf xs) (places full_window f.theirs (next f.held) s.number body)) (sym is.body) tt;
  stop = λ place has. absurd (none-some place (rw is.fin at has));
}

one_carries : (xs : List ℕ) (p : ConnPhase) (c : TcpCall) → length xs < 2 ^ 31 - 1 → IsOf xs (held_in p) → SentBy xs p c → CarriesBy xs p c
one_carries xs (asking text) c short was sent = tt
one_carries xs (flowing f) (segment_came m now) short was sent = λ only_if. ⊎_elim (λ silent. silent_carries xs f m.segment silent)
    (λ piece. piece_carries xs f m.segment short (front_short xs (front f.held) (front_is xs f.held was.bytes)) piece) (sent only_if)
one_carries xs (flowing f) (time_came now) short was sent = tt
one_carries xs (flowing f) (text_came bytes now) short was sent = tt

all_carry : (xs : List ℕ) (isn : ℕ) (p : ConnPhase) (cs : List TcpCall) → length xs < 2 ^ 31 - 1 → IsOf xs (held_in p) → AreFrom xs isn p cs → Carry xs isn p cs
all_carry xs isn p [] short was from = tt
all_carry xs isn p (c ∷ cs) short was from =
    let one : CarriesBy xs p c = one_carries xs p c short was from.0 in
    (one, all_carry xs isn (after_tcp_call isn p c) cs short (call_is xs isn p c was one) from.1)

pub front_of_pieces : (xs : List ℕ) (isn : ℕ) (cs : List TcpCall) → length xs < 2 ^ 31 - 1 → AreFrom xs isn (asking []) cs → IsPrefixOf (front (held_after isn cs)) xs
front_of_pieces xs isn cs short from = front_is_streams xs isn cs (all_carry xs isn (asking []) cs short (nothing_is xs) from)

pub whole_of_pieces : (xs : List ℕ) (isn : ℕ) (cs : List TcpCall) → length xs < 2 ^ 31 - 1 → AreFrom xs isn (asking []) cs → has_ended (held_after isn cs) ≡ true → front (held_after isn cs) ≡ xs
whole_of_pieces xs isn cs short from only_if = ended_is_whole xs isn cs (all_carry xs isn (asking []) cs short (nothing_is xs) from) only_if
