-- After a segment bytes wait exactly where the place grew, and what was delivered is still the front's.
use Rattle.std.proofs.Common.{◌≡◌, ◌≤◌, ◌<◌, ℕ, ◌==◌, not, List, [], ◌++◌, length, take, Option, Some, None, true, ap, ◌∙◌, sym, subst, arith, ltb, min, ⊎_elim, append-nil}
use Rattle.std.specs.Option.{option_or, is_some}
use Rattle.std.proofs.lemmas.Bool.{lt-ltb, le-ltb, cases_lt, eq-eqb, ne_eqb}
use Rattle.std.proofs.lemmas.List.{length-append, nil_from_length, take-append-le}
use Rattle.nb_streams.specs.Segments.{Incoming}
use Rattle.nb_streams.specs.Streams.{HeldBytes, before_stop, first_stop, front, next, IsPrefixOf}
use Rattle.nb_streams.proofs.StreamLaws.{IsAhead}
use Rattle.nb_reasm.specs.Windows.{HeldWindow, window_byte}
use Rattle.nb_tcp.specs.declared.variables.Variables.{Variables}
use Rattle.nb_tcp.specs.Numbers.{flow_of, found_stop, with_stop, upto_stop, piece_place, piece_bytes, counted_upto, kept_bytes}
use Rattle.nb_tcp.proofs.PieceLemmas.{put_none}
use Rattle.nb_tcp.proofs.WindowStandsLemmas.{PutsSegment, held_then, base_is, below_counted, first_before, upto_below, some_none, put_stands, front_then, stop_same, stop_ahead}

-- a byte was put at the base
grew_put : (v : Variables) (h : HeldBytes) (s : Incoming) (old new : HeldWindow) → PutsSegment v h s old new → new.base < new.next → old.base < counted_upto (with_stop v s)
grew_put v h s old new c l = ⊎_elim
    (λ below. below)
    (λ over. absurd (some_none (new.at old.base) (subst (λ k. is_some (new.at k) ≡ true) c.put.base (c.put.least.3 new.base (same new.base) l)) (none over)))
    (cases_lt old.base (counted_upto (with_stop v s)))
  where
    same : (k : ℕ) → k ≤ k
    same k = omega arith

    none : counted_upto (with_stop v s) ≤ old.base → new.at old.base ≡ None
    none over = c.put.at old.base
        ∙ ap (λ o. option_or o (window_byte old (piece_place v s) (kept_bytes (with_stop v s) (piece_place v s) (piece_bytes v s)) old.base)) (subst (λ k. old.at k ≡ None) (sym c.here) c.stands.least.2)
        ∙ put_none (with_stop v s) old (piece_place v s) old.base (piece_bytes v s) over

grew_up : (v : Variables) (h : HeldBytes) (s : Incoming) (old new : HeldWindow) → PutsSegment v h s old new → new.base < new.next → v.next < upto_stop (first_stop v.stop (found_stop v s)) new.next
grew_up v h s old new c l =
    let before : before_stop (first_stop v.stop (found_stop v s)) old.base ≡ true = below_counted (first_stop v.stop (found_stop v s)) old.base (grew_put v h s old new c l) in
    let was : before_stop h.stop old.base ≡ true = subst (λ o. before_stop o old.base ≡ true) c.stop (first_before v.stop (found_stop v s) old.base before) in
    let base : old.base ≡ v.next = base_is v h s old new c old.base (same old.base) was in
    let up : old.base < upto_stop (first_stop v.stop (found_stop v s)) new.next = upto_below (first_stop v.stop (found_stop v s)) old.base new.next (omega (arith, l, c.put.base)) before in
    omega (arith, up, base)
  where
    same : (k : ℕ) → k ≤ k
    same k = omega arith

-- an end that is ahead leaves the next place
still : (old found : Option ℕ) (n k m : ℕ) → n ≡ upto_stop old k → IsAhead n found → m ≡ k → upto_stop (first_stop old found) m ≡ n
still (Some stop) found n k m e ahead same = ap (λ j. min j stop) same ∙ sym e
still None None n k m e ahead same = same ∙ sym e
still None (Some stop) n k m e ahead same = omega (arith, e, ahead, same)

stayed : (v : Variables) (h : HeldBytes) (s : Incoming) (old new : HeldWindow) → PutsSegment v h s old new → new.next ≤ new.base → upto_stop (first_stop v.stop (found_stop v s)) new.next ≡ v.next
stayed v h s old new c l =
    let n_is : v.next ≡ upto_stop v.stop old.next = c.same ∙ c.stands.next ∙ ap (λ o. upto_stop o old.next) (sym c.stop) in
    let ahead : IsAhead v.next (found_stop v s) = subst (λ k. IsAhead k (found_stop v s)) (sym c.same) (subst (λ o. IsAhead (next h) o) (stop_same v h [] s c.same c.small) (stop_ahead (flow_of v h []) s)) in
    still v.stop (found_stop v s) v.next old.next new.next n_is ahead (omega (arith, l, c.put.least.0, c.put.base, c.here))

-- bytes wait exactly where the place grew
pub grew_is : (v : Variables) (h : HeldBytes) (s : Incoming) (old new : HeldWindow) → PutsSegment v h s old new
    → ltb new.base new.next ≡ not (v.next == upto_stop (first_stop v.stop (found_stop v s)) new.next)
grew_is v h s old new c = ⊎_elim
    (λ l. let up : v.next < upto_stop (first_stop v.stop (found_stop v s)) new.next = grew_up v h s old new c l in
    lt-ltb new.base new.next l ∙ ap not (sym (ne_eqb v.next (upto_stop (first_stop v.stop (found_stop v s)) new.next) (apart v.next (upto_stop (first_stop v.stop (found_stop v s)) new.next) up))))
    (λ l. le-ltb new.base new.next l ∙ ap not (sym (eq-eqb v.next (upto_stop (first_stop v.stop (found_stop v s)) new.next) (sym (stayed v h s old new c l)))))
    (cases_lt new.base new.next)
  where
    apart : (a b : ℕ) → a < b → a ≡ b → ⊥
    apart a b l e = omega (arith, l, e)

-- the place after the segment is that of what is held then
pub next_then : (v : Variables) (h : HeldBytes) (s : Incoming) (old new : HeldWindow) → PutsSegment v h s old new → upto_stop (first_stop v.stop (found_stop v s)) new.next ≡ next (held_then v h s)
next_then v h s old new c = ap (λ o. upto_stop (first_stop o (found_stop v s)) new.next) c.stop ∙ sym (put_stands v h s old new c).next

at_most : (old found : Option ℕ) (n k m : ℕ) → n ≡ upto_stop old k → n < k → upto_stop (first_stop old found) m ≤ n
at_most None found n k m e l = absurd (apart n k l e)
  where
    apart : (a b : ℕ) → a < b → a ≡ b → ⊥
    apart a b l e = omega (arith, l, e)
at_most (Some stop) found n k m e l = omega (arith, e, l)

no_more : (xs rest : List ℕ) → length (xs ++ rest) ≤ length xs → xs ++ rest ≡ xs
no_more xs rest l = ap (λ r. xs ++ r) (nil_from_length rest (omega (arith, l, length-append xs rest))) ∙ append-nil xs

-- what was delivered is a prefix of the front still
pub delivered_then : (v : Variables) (h : HeldBytes) (s : Incoming) (old new : HeldWindow) → PutsSegment v h s old new
    → take new.base (front (held_then v h s)) ≡ take old.base (front h)
delivered_then v h s old new c = by_rest (front_then v h s c.same c.small)
  where
    by_rest : IsPrefixOf (front h) (front (held_then v h s)) → take new.base (front (held_then v h s)) ≡ take old.base (front h)
    by_rest (rest, e) = ap (λ k. take k (front (held_then v h s))) c.put.base ∙ ⊎_elim
        (λ l. ap (λ xs. take old.base xs) (e ∙ no_more (front h) rest (omega (arith, ap length e, sym (put_stands v h s old new c).next, at_most h.stop (found_stop v s) (next h) old.next new.next c.stands.next (omega (arith, l, c.here)), (put_stands v h s old new c).next))))
        (λ l. ap (λ xs. take old.base xs) e ∙ take-append-le old.base (front h) rest l)
        (cases_lt (next h) old.base)
