-- A Fetch closes both its ports or none.
use Rattle.std.proofs.Common.{inl, inr, ◌≡◌, ℕ, ◌+◌, ◌-◌, ◌==◌, ◌&&◌, Bool, true, false, not, cond, List, [], ◌∷◌, ◌++◌, length, nat_lt, Option, Some, None, refl, sym, ap, ◌∙◌, subst, if◌then◌else◌, append_assoc, arith}
use Rattle.std.specs.List.{find}
use Rattle.std.specs.Option.{is_none}
use Rattle.std.proofs.lemmas.Bool.{lt-ltb, le-ltb}
use Rattle.std.proofs.lemmas.List.{append-nil}
use Rattle.nb_terms.specs.declared.cause.Cause.{Cause}
use Rattle.nb_effects.specs.declared.effects.Fx.{Fx}
use Rattle.nb_graph.specs.Effects.{ClosesSlot}
use Rattle.nb_graph.specs.Trace.{Said, NodeEntry, up, down, closed, time, regain}
use Rattle.nb_nodes.specs.declared.load.Load.{Load}
use Rattle.nb_nodes.specs.declared.obj.Obj.{Obj}
use Rattle.nb_nodes.specs.Carried.{CarriesNothing, both_closes}
use Rattle.nb_nodes.specs.Fetches.{body_too_large, brings_move, ends_fetch, first_end, gathers, taken_below, passed_close, closes_below, up_closes, AsksUp, AsksMove, AsksOfUp, AsksOfFetch, EachOf, FetchStands}
use Rattle.nb_nodes.specs.declared.fetch.Fetch.{Fetch}
use Rattle.nb_closings.specs.Passing.{ends_object, object_has_ended, ClosesBothOrNone, PassesEndOn}
use Rattle.nb_closings.proofs.TraceLemmas.{none_ended}

-- the last entry of a trace, with those before it
last_asks : (before t : List (NodeEntry Obj Load)) (e : NodeEntry Obj Load) → EachOf AsksOfFetch before (t ++ e ∷ []) → AsksOfFetch (before ++ t) e
last_asks before [] e h = subst (λ (z : List (NodeEntry Obj Load)). AsksOfFetch z e) (sym (append-nil before)) h.0
last_asks before (d ∷ t) e h = subst (λ (z : List (NodeEntry Obj Load)). AsksOfFetch z e) (append_assoc before (d ∷ []) t) (last_asks (before ++ d ∷ []) t e h.1)

-- one that hasn't ended still gathers
no_fetch_end : (e : NodeEntry Obj Load) → ends_object e ≡ false → ends_fetch e ≡ false
no_fetch_end (up slot m now done fx) h = h
no_fetch_end (down m now true fx) h = refl
no_fetch_end (down m now false fx) h = absurd (let z = h in cc)
no_fetch_end (closed slot c now fx) h = h
no_fetch_end (time now true fx) h = refl
no_fetch_end (time now false fx) h = absurd (let z = h in cc)
no_fetch_end (regain l) h = refl

none_found : (b : Bool) (e : NodeEntry Obj Load) (o : Option (NodeEntry Obj Load)) → b ≡ false → o ≡ None → cond b (Some e) o ≡ None
none_found true e o h k = absurd (let z = h in cc)
none_found false e o h k = k

no_end : (t : List (NodeEntry Obj Load)) → object_has_ended t ≡ false → first_end t ≡ None
no_end [] h = refl
no_end (e ∷ t) h = let z = none_ended e t h in none_found (ends_fetch e) e (first_end t) (no_fetch_end e z.0) (no_end t z.1)

still_gathers : (t : List (NodeEntry Obj Load)) → object_has_ended t ≡ false → gathers t ≡ true
still_gathers t h = ap is_none (no_end t h)

-- what a message from below makes it close
by_size : (one big : Bool) (xs : List (ℕ × Cause)) → xs ≡ (if one then (if big then both_closes body_too_large else []) else []) → ClosesBothOrNone xs
by_size true true xs e = subst ClosesBothOrNone (sym e) (inr (inl refl, inr (inl refl)))
by_size true false xs e = inl e
by_size false big xs e = inl e

by_message : (move : Bool) (before slot : ℕ) (m : Said) (fx : Fx Obj Load) → AsksOfUp move true before slot m fx → ClosesBothOrNone fx.closes.items
by_message true before slot m fx h = subst ClosesBothOrNone (sym h.closes) (inr (inl refl, inr (inl refl)))
by_message false before slot m fx h = by_size (slot == 1) (nat_lt 268435456 (before + length m.bytes)) fx.closes.items h.closes

passes : (t : List (NodeEntry Obj Load)) (e : NodeEntry Obj Load) → gathers t ≡ true → AsksOfFetch t e → PassesEndOn e
passes t (up slot m now done fx) g h = λ d. by_message (brings_move slot m) _ slot m fx (subst (λ (z : Bool). AsksOfUp (brings_move slot m) z (length (taken_below t)) slot m fx) g (h d))
passes t (down m now done fx) g h = λ d. inl (h d).no_close
passes t (closed slot c now fx) g h =
    let is : fx.closes.items ≡ (if nat_lt slot 2 then (1 - slot, c) ∷ [] else []) = h.1 ∙ ap (λ z. passed_close z slot c) g in
    ((λ low. subst (ClosesSlot (1 - slot)) (sym (is ∙ ap (λ z. if z then (1 - slot, c) ∷ [] else []) (lt-ltb slot 2 low))) (inl refl)), (λ high. is ∙ ap (λ z. if z then (1 - slot, c) ∷ [] else []) (le-ltb slot 2 high)))
passes t (time now done fx) g h = λ d. inl h.1
passes t (regain l) g h = tt

pub fetch_passes : (f : Fetch) (t : List (NodeEntry Obj Load)) (e : NodeEntry Obj Load) → FetchStands f (t ++ e ∷ []) → object_has_ended t ≡ false → PassesEndOn e
fetch_passes f t e s h = passes t e (still_gathers t h) (last_asks [] t e s.asks)
