-- The window holds what has come, also after a segment's bytes were put into it.
use Rattle.std.proofs.Common.{◌≡◌, ◌≤◌, ◌<◌, ℕ, ◌+◌, ◌-◌, ◌^◌, ◌==◌, ◌&&◌, List, [], ◌∷◌, ◌++◌, length, get_or, Option, Some, None, Bool, true, false, cond, refl, ap, ◌∙◌, sym, subst, arith, ltb, leb, min, ⊎_elim}
use Rattle.std.specs.List.{filter}
use Rattle.std.specs.Option.{option_or, unwrap_or, is_some}
use Rattle.std.proofs.lemmas.Bool.{ltb-true, leb-true, eqb-true, lt-ltb, cases_lt, false≢true, and_from, and_parts}
use Rattle.std.proofs.lemmas.Option.{slice_get-get_or, none-some}
use Rattle.std.proofs.lemmas.List.{length-append}
use Rattle.nb_streams.specs.Segments.{Incoming, ahead, places}
use Rattle.nb_streams.specs.Streams.{HeldBytes, byte_at, if_here, before_stop, counts, counting, first_stop, front, next, with_pairs, stop_at, IsPrefixOf}
use Rattle.nb_streams.specs.Flows.{Flow, full_window, place_within, stop_of, window_bytes}
use Rattle.nb_streams.proofs.StreamLaws.{either, by_option, look_counted, IsAhead, front_more}
use Rattle.nb_streams.proofs.LeastLaws.{none_at_next, byte_below_next}
use Rattle.nb_reasm.specs.Windows.{HeldWindow, NextIsLeast, window_byte}
use Rattle.nb_tcp.specs.declared.variables.Variables.{Variables}
use Rattle.nb_tcp.specs.Numbers.{flow_of, found_stop, with_stop, upto_stop, piece_place, piece_bytes, counted_upto, kept_bytes}
use Rattle.nb_tcp.specs.Receiving.{PutInto}
use Rattle.nb_tcp.specs.ConnStanding.{WindowStands}
use Rattle.nb_tcp.proofs.PieceLemmas.{put_byte, put_none}

byte_append : (p : ℕ) (xs ys : List (ℕ × ℕ)) → byte_at p (xs ++ ys) ≡ option_or (byte_at p xs) (byte_at p ys)
byte_append p [] ys = refl
byte_append p (q ∷ xs) ys = ap (λ (o : Option ℕ). if_here (q.0 == p) q.1 o) (byte_append p xs ys) ∙ first (q.0 == p) q.1 (byte_at p xs) (byte_at p ys)
  where
    first : (b : Bool) (x : ℕ) (m n : Option ℕ) → if_here b x (option_or m n) ≡ option_or (if_here b x m) n
    first true x m n = refl
    first false x m n = refl

look_counts : (stop : Option ℕ) (pairs : List (ℕ × ℕ)) (p b : ℕ) → counts stop (p, b) ≡ true → byte_at p pairs ≡ Some b → byte_at p (filter (counts stop) pairs) ≡ Some b
look_counts stop [] p b good is = absurd (none-some b is)
look_counts stop (q ∷ qs) p b good is = either (q.0 == p)
    (λ here. let at : q.0 ≡ p = eqb-true q.0 p here in
    let passes : counts stop q ≡ true = subst (λ z. (ltb z (2 ^ 31 - 1) && before_stop stop z) ≡ true) (sym at) good in
    rw passes (rw here (rw here at is)))
    (λ off. either (counts stop q)
    (λ passes. rw passes (rw off (look_counts stop qs p b good (rw off at is))))
    (λ fails. rw fails (look_counts stop qs p b good (rw off at is))))

-- a place that counts and isn't in the counting pairs has no byte
look_nothing : (h : HeldBytes) (p : ℕ) → p < 2 ^ 31 - 1 → before_stop h.stop p ≡ true → byte_at p (counting h) ≡ None → byte_at p h.pairs ≡ None
look_nothing h p low before none = by_option (byte_at p h.pairs)
    (λ e. e)
    (λ b some. absurd (none-some b (sym none ∙ look_counts h.stop h.pairs p b (and_from (ltb p (2 ^ 31 - 1)) (before_stop h.stop p) (lt-ltb p (2 ^ 31 - 1) low) before) some)))

below_upto : (stop : Option ℕ) (n k : ℕ) → n < upto_stop stop k → (n < k) × (before_stop stop n ≡ true)
below_upto None n k l = (l, refl)
below_upto (Some stop) n k l = (omega (arith, l), lt-ltb n stop (omega (arith, l)))

pub upto_below : (stop : Option ℕ) (n k : ℕ) → n < k → before_stop stop n ≡ true → n < upto_stop stop k
upto_below None n k l before = l
upto_below (Some stop) n k l before = omega (arith, l, ltb-true n stop before)

upto_is : (stop : Option ℕ) (k : ℕ) → before_stop stop (upto_stop stop k) ≡ true → upto_stop stop k ≡ k
upto_is None k before = refl
upto_is (Some stop) k before = omega (arith, ltb-true (min k stop) stop before)

pub some_none : (o : Option ℕ) → is_some o ≡ true → o ≡ None → ⊥
some_none None e n = false≢true e
some_none (Some b) e n = none-some b (sym n)

-- the least place that isn't held is the front's end, as far as places count
pub next_is : (w : HeldWindow) (h : HeldBytes) → NextIsLeast w → w.next < 2 ^ 31
    → ((p : ℕ) → w.base ≤ p → p < 2 ^ 31 - 1 → before_stop h.stop p ≡ true → w.at p ≡ byte_at p h.pairs)
    → ((p : ℕ) → p < w.base → p < 2 ^ 31 - 1 → before_stop h.stop p ≡ true → p < next h)
    → next h ≡ upto_stop h.stop w.next
next_is w h least small at low = ⊎_elim
    (λ less. absurd (too_few less))
    (λ rest. ⊎_elim (λ more. absurd (too_many more)) (λ rest2. omega (arith, rest, rest2)) (cases_lt (upto_stop h.stop w.next) (next h)))
    (cases_lt (next h) (upto_stop h.stop w.next))
  where
    never : (n : ℕ) → n < n → ⊥
    never n l = omega (arith, l)

    too_few : next h < upto_stop h.stop w.next → ⊥
    too_few less =
        let both : (next h < w.next) × (before_stop h.stop (next h) ≡ true) = below_upto h.stop (next h) w.next less in
        let under : next h < 2 ^ 31 - 1 = omega (arith, both.0, small) in
        let none : byte_at (next h) h.pairs ≡ None = look_nothing h (next h) under both.1 (none_at_next h) in
        ⊎_elim
        (λ before. never (next h) (low (next h) before under both.1))
        (λ inside. some_none (w.at (next h)) (least.3 (next h) inside both.0) (at (next h) inside under both.1 ∙ none))
        (cases_lt (next h) w.base)

    too_many : upto_stop h.stop w.next < next h → ⊥
    too_many more =
        let m : ℕ = upto_stop h.stop w.next in
        let byte : byte_at (upto_stop h.stop w.next) (counting h) ≡ Some (get_or (front h) (upto_stop h.stop w.next) 0) = byte_below_next h (upto_stop h.stop w.next) more ∙ slice_get-get_or (front h) (upto_stop h.stop w.next) 0 more in
        let both : (byte_at (upto_stop h.stop w.next) h.pairs ≡ Some (get_or (front h) (upto_stop h.stop w.next) 0)) × (counts h.stop (upto_stop h.stop w.next, get_or (front h) (upto_stop h.stop w.next) 0) ≡ true) = look_counted h.stop h.pairs (upto_stop h.stop w.next) (get_or (front h) (upto_stop h.stop w.next) 0) byte in
        let parts = and_parts (ltb (upto_stop h.stop w.next) (2 ^ 31 - 1)) (before_stop h.stop (upto_stop h.stop w.next)) both.1 in
        let same : upto_stop h.stop w.next ≡ w.next = upto_is h.stop w.next parts.1 in
        let inside : w.base ≤ upto_stop h.stop w.next = subst (λ k. w.base ≤ k) (sym same) least.0 in
        let held : w.at (upto_stop h.stop w.next) ≡ Some (get_or (front h) (upto_stop h.stop w.next) 0) = at (upto_stop h.stop w.next) inside (ltb-true (upto_stop h.stop w.next) (2 ^ 31 - 1) parts.0) parts.1 ∙ both.0 in
        none-some (get_or (front h) (upto_stop h.stop w.next) 0) (sym (subst (λ k. w.at k ≡ None) (sym same) least.2) ∙ held)

-- the place of a FIN is the same, as long as places are below the limit
pub stop_same : (v : Variables) (h : HeldBytes) (text : List ℕ) (s : Incoming) → v.next ≡ next h → v.next < 2 ^ 31 → stop_of (flow_of v h text) s ≡ found_stop v s
stop_same v h text s same small = rw (← same) (either s.fin (λ t. rw t (within v.next (ahead (v.irs + 1 + v.next) (s.number + length s.body)) small)) (λ f. rw f refl))
  where
    within : (n d : ℕ) → n < 2 ^ 31 → place_within n d ≡ cond (leb d full_window) (Some (min (n + d) (2 ^ 32 - 1))) None
    within n d small = either (leb d full_window)
        (λ t. rw t (ap (λ k. Some k) (by_low n d small (leb-true d full_window t))))
        (λ f. rw f refl)
      where
        by_low : (n d : ℕ) → n < 2 ^ 31 → d ≤ 65535 → n + d ≡ min (n + d) (2 ^ 32 - 1)
        by_low n d l m = omega (arith, l, m)

pub stop_ahead : (f : Flow) (s : Incoming) → IsAhead (next f.held) (stop_of f s)
stop_ahead f s = either s.fin (λ t. rw t (within_ahead (next f.held) (ahead (f.theirs + next f.held) (s.number + length s.body)))) (λ f. rw f tt)
  where
    within_ahead : (n distance : ℕ) → IsAhead n (place_within n distance)
    within_ahead n distance = either (leb distance full_window) (λ t. rw t (omega arith)) (λ f. rw f tt)

-- a window whose front was delivered, and a segment's bytes that are put into it
pub record PutsSegment (v : Variables) (h : HeldBytes) (s : Incoming) (old new : HeldWindow) : Type 0 where
  pub short : length s.body < 2 ^ 16
  pub small : v.next < 2 ^ 31
  pub same : v.next ≡ next h
  pub stop : v.stop ≡ h.stop
  pub stands : WindowStands old h
  pub here : old.base ≡ old.next
  pub put : PutInto old (piece_place v s) (kept_bytes (with_stop v s) (piece_place v s) (piece_bytes v s)) new

-- what is held once the segment came
abbrev pub held_then : Variables → HeldBytes → Incoming → HeldBytes
held_then v h s = with_pairs (places full_window (v.irs + 1) v.next s.number s.body) (stop_at (found_stop v s) h)

counted_below : (o : Option ℕ) (p : ℕ) → p < 2 ^ 31 - 1 → before_stop o p ≡ true → p < min (unwrap_or o (2 ^ 31 - 1)) (2 ^ 31 - 1)
counted_below None p low before = omega (arith, low)
counted_below (Some stop) p low before = omega (arith, low, ltb-true p stop before)

pub below_counted : (o : Option ℕ) (p : ℕ) → p < min (unwrap_or o (2 ^ 31 - 1)) (2 ^ 31 - 1) → before_stop o p ≡ true
below_counted None p l = refl
below_counted (Some stop) p l = lt-ltb p stop (omega (arith, l))

pub first_before : (old new : Option ℕ) (p : ℕ) → before_stop (first_stop old new) p ≡ true → before_stop old p ≡ true
first_before None new p e = refl
first_before (Some stop) new p e = e

-- where a place at or after the base counts, the base is the next place
pub base_is : (v : Variables) (h : HeldBytes) (s : Incoming) (old new : HeldWindow) → PutsSegment v h s old new → (p : ℕ) → old.base ≤ p → before_stop h.stop p ≡ true → old.base ≡ v.next
base_is v h s old new c p l before = c.here ∙ sym (c.same ∙ c.stands.next ∙ by_stop h.stop old.base old.next p l c.here before)
  where
    by_stop : (stop : Option ℕ) (base next p : ℕ) → base ≤ p → base ≡ next → before_stop stop p ≡ true → upto_stop stop next ≡ next
    by_stop None base next p l e before = refl
    by_stop (Some stop) base next p l e before = omega (arith, l, e, ltb-true p stop before)

put_at : (v : Variables) (h : HeldBytes) (s : Incoming) (old new : HeldWindow) → PutsSegment v h s old new
    → (p : ℕ) → new.base ≤ p → p < 2 ^ 31 - 1 → before_stop (held_then v h s).stop p ≡ true → new.at p ≡ byte_at p (held_then v h s).pairs
put_at v h s old new c p l low before =
    let above : old.base ≤ p = omega (arith, l, c.put.base) in
    let was : before_stop h.stop p ≡ true = first_before h.stop (found_stop v s) p before in
    let base : old.base ≡ v.next = base_is v h s old new c p above was in
    let counted : p < counted_upto (with_stop v s) = counted_below (first_stop v.stop (found_stop v s)) p low (subst (λ o. before_stop (first_stop o (found_stop v s)) p ≡ true) (sym c.stop) before) in
    c.put.at p
    ∙ ap (λ o. option_or o (window_byte old (piece_place v s) (kept_bytes (with_stop v s) (piece_place v s) (piece_bytes v s)) p)) (c.stands.at p above low was)
    ∙ ap (λ o. option_or (byte_at p h.pairs) o) (put_byte v (with_stop v s) s old p c.short c.small base c.stands.size (omega (arith, above, base)) counted)
    ∙ sym (byte_append p h.pairs (places full_window (v.irs + 1) v.next s.number s.body))

put_above : (v : Variables) (h : HeldBytes) (s : Incoming) (old new : HeldWindow) → PutsSegment v h s old new → (p : ℕ) → 2 ^ 31 - 1 ≤ p → new.at p ≡ None
put_above v h s old new c p high =
    c.put.at p
    ∙ ap (λ o. option_or o (window_byte old (piece_place v s) (kept_bytes (with_stop v s) (piece_place v s) (piece_bytes v s)) p)) (c.stands.above p high)
    ∙ put_none (with_stop v s) old (piece_place v s) p (piece_bytes v s) (least (unwrap_or (with_stop v s).stop (2 ^ 31 - 1)))
  where
    least : (k : ℕ) → min k (2 ^ 31 - 1) ≤ p
    least k = omega (arith, high)

put_small : (v : Variables) (h : HeldBytes) (s : Incoming) (old new : HeldWindow) → PutsSegment v h s old new → new.next < 2 ^ 31
put_small v h s old new c = ⊎_elim
    (λ l. l)
    (λ over. absurd (some_none (new.at (2 ^ 31 - 1)) (c.put.least.3 (2 ^ 31 - 1) (omega (arith, c.put.base, c.here, c.stands.most)) (omega (arith, over))) (put_above v h s old new c (2 ^ 31 - 1) (omega arith))))
    (cases_lt new.next (2 ^ 31))

-- the held bytes are those of the connection
pub held_same : (v : Variables) (h : HeldBytes) (text : List ℕ) (s : Incoming) → v.next ≡ next h → v.next < 2 ^ 31
    → with_pairs (window_bytes (flow_of v h text) s) (stop_at (stop_of (flow_of v h text) s) h) ≡ held_then v h s
held_same v h text s same small =
    ap (λ o. with_pairs (window_bytes (flow_of v h text) s) (stop_at o h)) (stop_same v h text s same small)
    ∙ ap (λ n. with_pairs (places full_window (v.irs + 1) n s.number s.body) (stop_at (found_stop v s) h)) (sym same)

-- the front grew, if it changed at all
pub front_then : (v : Variables) (h : HeldBytes) (s : Incoming) → v.next ≡ next h → v.next < 2 ^ 31 → IsPrefixOf (front h) (front (held_then v h s))
front_then v h s same small =
    front_more h (found_stop v s) (places full_window (v.irs + 1) v.next s.number s.body)
    (subst (λ o. IsAhead (next h) o) (stop_same v h [] s same small) (stop_ahead (flow_of v h []) s))

pub prefix_length : (xs ys : List ℕ) → IsPrefixOf xs ys → length xs ≤ length ys
prefix_length xs ys (rest, e) = omega (arith, ap length e, length-append xs rest)

-- after a segment the window stands for what is held then
pub put_stands : (v : Variables) (h : HeldBytes) (s : Incoming) (old new : HeldWindow) → PutsSegment v h s old new → WindowStands new (held_then v h s)
put_stands v h s old new c = record {
  size = c.put.size ∙ c.stands.size;
  least = c.put.least;
  most = put_small v h s old new c;
  next = next_is new (held_then v h s) c.put.least (put_small v h s old new c) (put_at v h s old new c) low;
  at = put_at v h s old new c;
  above = put_above v h s old new c;
}
  where
    low : (p : ℕ) → p < new.base → p < 2 ^ 31 - 1 → before_stop (held_then v h s).stop p ≡ true → p < next (held_then v h s)
    low p l small before =
        let was : before_stop h.stop p ≡ true = first_before h.stop (found_stop v s) p before in
        let under : p < upto_stop h.stop old.next = upto_below h.stop p old.next (omega (arith, l, c.put.base, c.here)) was in
        omega (arith, under, c.stands.next, prefix_length (front h) (front (held_then v h s)) (front_then v h s c.same c.small))
