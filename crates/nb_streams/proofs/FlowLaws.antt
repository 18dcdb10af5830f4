-- More calls only extend what has come of a stream, and it is the stream's where the segments carry one.
use Rattle.std.proofs.Common.{◌≡◌, ℕ, ◌+◌, List, [], ◌∷◌, ◌++◌, length, Option, Some, None, Bool, true, false, refl, ap, ◌∙◌, sym, subst, arith, leb, append-nil}
use Rattle.std.specs.List.{AllByRecursion, fold}
use Rattle.std.proofs.lemmas.Bool.{eqb-true, false≢true}
use Rattle.std.proofs.lemmas.List.{append_assoc, length-append, nil_from_length}
use Rattle.std.proofs.lemmas.Option.{none-some}
use Rattle.nb_streams.specs.Segments.{Incoming, ahead}
use Rattle.nb_streams.specs.Streams.{HeldBytes, nothing_held, front, next, has_ended, is_stop, first_stop, IsByteOf, IsPrefixOf}
use Rattle.nb_streams.specs.Flows.{TcpCall, segment_came, time_came, text_came, Flow, ConnPhase, asking, flowing, full_window, place_within, stop_of, window_bytes, is_taken, advances, with_segment, going_on, is_sending, after_segment, establishes, opened_by, after_tcp_call, conn_phase, held_in, held_after}
use Rattle.nb_streams.specs.Carrying.{CarriesIn, CarriesBy, Carry}
use Rattle.nb_streams.proofs.StreamLaws.{IsAhead, front_more, front_is, either}

front_same : (xs ys : List ℕ) → xs ≡ ys → IsPrefixOf xs ys
front_same xs ys e = ([], sym e ∙ sym (append-nil xs))

front_on : (xs ys zs : List ℕ) → IsPrefixOf xs ys → IsPrefixOf ys zs → IsPrefixOf xs zs
front_on xs ys zs a b = (a.0 ++ b.0, b.1 ∙ ap (λ l. l ++ b.0) a.1 ∙ append_assoc xs a.0 b.0)

pub held_going : (advanced : Bool) (f : Flow) → (going_on advanced f).held ≡ f.held
held_going advanced f = either (is_sending advanced f) (λ only_if. rw only_if refl) (λ off. rw off refl)

within_ahead : (n distance : ℕ) → IsAhead n (place_within n distance)
within_ahead n distance = either (leb distance full_window) (λ only_if. rw only_if (omega arith)) (λ off. rw off tt)

stop_ahead : (f : Flow) (s : Incoming) → IsAhead (next f.held) (stop_of f s)
stop_ahead f s = either s.fin (λ only_if. rw only_if (within_ahead (next f.held) (ahead (f.theirs + next f.held) (s.number + length s.body)))) (λ off. rw off tt)

-- one more segment only extends the front
pub segment_more : (f : Flow) (s : Incoming) → IsPrefixOf (front f.held) (front (after_segment f s).held)
segment_more f s = either (is_taken f s)
    (λ only_if. rw only_if (rw (held_going (advances f s) (with_segment s f)) (front_more f.held (stop_of f s) (window_bytes f s) (stop_ahead f s))))
    (λ off. rw off (front_same (front f.held) (front f.held) refl))

call_more : (isn : ℕ) (p : ConnPhase) (c : TcpCall) → IsPrefixOf (front (held_in p)) (front (held_in (after_tcp_call isn p c)))
call_more isn (asking text) (segment_came m now) = (front (held_in (after_tcp_call isn (asking text) (segment_came m now))), refl)
call_more isn (asking text) (time_came now) = front_same _ _ refl
call_more isn (asking text) (text_came bytes now) = front_same _ _ refl
call_more isn (flowing f) (segment_came m now) = segment_more f m.segment
call_more isn (flowing f) (time_came now) = front_same _ _ refl
call_more isn (flowing f) (text_came bytes now) = front_same _ _ (ap front (sym (held_going false (record f { text = f.text ++ bytes }))))

calls_more : (isn : ℕ) (p : ConnPhase) (cs : List TcpCall) → IsPrefixOf (front (held_in p)) (front (held_in (fold (after_tcp_call isn) p cs)))
calls_more isn p [] = front_same _ _ refl
calls_more isn p (c ∷ cs) = front_on (front (held_in p)) (front (held_in (after_tcp_call isn p c))) _ (call_more isn p c) (calls_more isn (after_tcp_call isn p c) cs)

fold_on : (isn : ℕ) (p : ConnPhase) (cs more : List TcpCall) → fold (after_tcp_call isn) p (cs ++ more) ≡ fold (after_tcp_call isn) (fold (after_tcp_call isn) p cs) more
fold_on isn p [] more = refl
fold_on isn p (c ∷ cs) more = fold_on isn (after_tcp_call isn p c) cs more

-- more calls only extend the front
pub front_grows : (isn : ℕ) (cs more : List TcpCall) → IsPrefixOf (front (held_after isn cs)) (front (held_after isn (cs ++ more)))
unfolding conn_phase
front_grows isn cs more = subst (λ p. IsPrefixOf (front (held_in (fold (after_tcp_call isn) (asking []) cs))) (front (held_in p))) (sym (fold_on isn (asking []) cs more)) (calls_more isn (fold (after_tcp_call isn) (asking []) cs) more)

pub all_append : {A : Type 0} (P : A → Type 0) (xs ys : List A) → AllByRecursion P xs → AllByRecursion P ys → AllByRecursion P (xs ++ ys)
all_append P [] ys p q = q
all_append P (x ∷ xs) ys p q = (p.0, all_append P xs ys p.1 q)

-- what is held is the stream's, and the end is its end
pub record IsOf (xs : List ℕ) (h : HeldBytes) : Type 0 where
  pub bytes : AllByRecursion (IsByteOf xs) h.pairs
  pub stop : (place : ℕ) → h.stop ≡ Some place → place ≡ length xs

stop_is : (xs : List ℕ) (old new : Option ℕ) → ((place : ℕ) → old ≡ Some place → place ≡ length xs) → ((place : ℕ) → new ≡ Some place → place ≡ length xs) → (place : ℕ) → first_stop old new ≡ Some place → place ≡ length xs
stop_is xs None new a b place is = b place is
stop_is xs (Some stop) new a b place is = a place is

segment_is : (xs : List ℕ) (f : Flow) (s : Incoming) → IsOf xs f.held → (is_taken f s ≡ true → CarriesIn xs f s) → IsOf xs (after_segment f s).held
segment_is xs f s was brings_more = either (is_taken f s)
    (λ only_if. let now : CarriesIn xs f s = brings_more only_if in
    rw only_if (rw (held_going (advances f s) (with_segment s f)) record {
      bytes = all_append (IsByteOf xs) f.held.pairs (window_bytes f s) was.bytes now.bytes;
      stop = stop_is xs f.held.stop (stop_of f s) was.stop now.stop;
    }))
    (λ off. rw off was)

pub nothing_is : (xs : List ℕ) → IsOf xs nothing_held
nothing_is xs = record { bytes = tt; stop = λ place is. absurd (none-some place is) }

pub call_is : (xs : List ℕ) (isn : ℕ) (p : ConnPhase) (c : TcpCall) → IsOf xs (held_in p) → CarriesBy xs p c → IsOf xs (held_in (after_tcp_call isn p c))
call_is xs isn (asking text) (segment_came m now) was brings_more = either (establishes isn m.segment)
    (λ only_if. rw only_if (subst (IsOf xs) (sym (held_going false (opened_by isn text m.segment))) (nothing_is xs)))
    (λ off. rw off (nothing_is xs))
call_is xs isn (asking text) (time_came now) was brings_more = was
call_is xs isn (asking text) (text_came bytes now) was brings_more = was
call_is xs isn (flowing f) (segment_came m now) was brings_more = segment_is xs f m.segment was brings_more
call_is xs isn (flowing f) (time_came now) was brings_more = was
call_is xs isn (flowing f) (text_came bytes now) was brings_more = subst (IsOf xs) (sym (held_going false (record f { text = f.text ++ bytes }))) was

calls_are : (xs : List ℕ) (isn : ℕ) (p : ConnPhase) (cs : List TcpCall) → IsOf xs (held_in p) → Carry xs isn p cs → IsOf xs (held_in (fold (after_tcp_call isn) p cs))
calls_are xs isn p [] was carry = was
calls_are xs isn p (c ∷ cs) was carry = calls_are xs isn (after_tcp_call isn p c) cs (call_is xs isn p c was carry.0) carry.1

held_is : (xs : List ℕ) (isn : ℕ) (cs : List TcpCall) → Carry xs isn (asking []) cs → IsOf xs (held_after isn cs)
unfolding conn_phase
held_is xs isn cs carry = calls_are xs isn (asking []) cs (nothing_is xs) carry

-- whatever of a stream comes, in whatever order and how often, the front is a prefix of it
pub front_is_streams : (xs : List ℕ) (isn : ℕ) (cs : List TcpCall) → Carry xs isn (asking []) cs → IsPrefixOf (front (held_after isn cs)) xs
front_is_streams xs isn cs carry = front_is xs (held_after isn cs) (held_is xs isn cs carry).bytes

whole_front : (xs ys : List ℕ) → IsPrefixOf ys xs → length ys ≡ length xs → ys ≡ xs
whole_front xs ys (rest, e) same =
    let none : length rest ≡ 0 = omega (arith, same, ap length e, length-append ys rest) in
    sym (e ∙ ap (λ l. ys ++ l) (nil_from_length rest none) ∙ append-nil ys)

stop_here : (o : Option ℕ) (n size : ℕ) → ((place : ℕ) → o ≡ Some place → place ≡ size) → is_stop o n ≡ true → n ≡ size
stop_here None n size all only_if = absurd (false≢true only_if)
stop_here (Some stop) n size all only_if = eqb-true n stop only_if ∙ all stop refl

-- once it has ended, it is all of the stream
pub ended_is_whole : (xs : List ℕ) (isn : ℕ) (cs : List TcpCall) → Carry xs isn (asking []) cs → has_ended (held_after isn cs) ≡ true → front (held_after isn cs) ≡ xs
ended_is_whole xs isn cs carry only_if = whole_front xs (front (held_after isn cs)) (front_is_streams xs isn cs carry) (stop_here (held_after isn cs).stop (next (held_after isn cs)) (length xs) (held_is xs isn cs carry).stop only_if)
