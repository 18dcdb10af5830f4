-- What a Fetch has gathered after one entry more.
use Rattle.std.proofs.Common.{◌≡◌, ℕ, zero, suc, ◌+◌, ◌-◌, ◌<◌, ◌≤◌, ◌++◌, ◌&&◌, ◌==◌, Bool, true, false, not, cond, List, [], ◌∷◌, length, length-append, take, drop, Option, Some, None, refl, ap, ◌∙◌, subst, if◌then◌else◌, nat_lt, arith}
use Rattle.std.specs.List.{find}
use Rattle.std.specs.Option.{is_none, option_or, option_map_or}
use Rattle.std.proofs.lemmas.Bool.{lt-ltb, le-ltb}
use Rattle.std.proofs.lemmas.List.{append-nil}
use Rattle.std.proofs.lemmas.List.Concat.{flat_map-append}
use Rattle.std.proofs.lemmas.List.Folds.{find-append}
use Rattle.std.proofs.Math.Seq.{take-length}
use Rattle.nb_terms.specs.declared.cause.Cause.{Cause}
use Rattle.nb_effects.specs.declared.effects.Fx.{Fx}
use Rattle.nb_graph.specs.Trace.{Said, NodeEntry, up, closed, left, said_behind, bytes_between}
use Rattle.nb_graph.specs.Accounts.{taken_by}
use Rattle.nb_tftp.specs.History.{came, ticked, given_of}
use Rattle.nb_tftp.specs.Received.{received}
use Rattle.nb_nodes.specs.declared.load.Load.{Load}
use Rattle.nb_nodes.specs.declared.obj.Obj.{Obj}
use Rattle.nb_nodes.specs.Carried.{CarriesNothing, both_closes}
use Rattle.nb_nodes.specs.Fetches.{body_too_large, ends_fetch, first_end, is_ok_close, closed_well, gathers, taken_below, passed_close, brings_move, AsksUp, AsksOfUp, AsksOfFetch}
use Rattle.nb_opens.specs.Pairs.{BodyFits}

taken_more : (t : List (NodeEntry Obj Load)) (e : NodeEntry Obj Load) → taken_below (t ++ e ∷ []) ≡ taken_below t ++ taken_by 1 e
taken_more t e = flat_map-append (λ (x : NodeEntry Obj Load). taken_by 1 x) t (e ∷ []) ∙ ap (λ z. taken_below t ++ z) (append-nil (taken_by 1 e))

none_of : (o : Option (NodeEntry Obj Load)) → is_none o ≡ true → o ≡ None
none_of None h = refl
none_of (Some e) h = absurd (let z = h in cc)

ends_first : (t : List (NodeEntry Obj Load)) (e : NodeEntry Obj Load) → gathers t ≡ true → first_end (t ++ e ∷ []) ≡ cond (ends_fetch e) (Some e) None
ends_first t e h = find-append ends_fetch t (e ∷ []) ∙ ap (λ z. option_or z (find ends_fetch (e ∷ []))) (none_of (find ends_fetch t) h)

none_cond : (b : Bool) (e : NodeEntry Obj Load) → is_none (cond b (Some e) None) ≡ not b
none_cond true e = refl
none_cond false e = refl

well_cond : (b : Bool) (e : NodeEntry Obj Load) → option_map_or is_ok_close (cond b (Some e) None) false ≡ (b && is_ok_close e)
well_cond true e = refl
well_cond false e = refl

-- it gathers on after an entry that doesn't end it, and one that does says whether it ended well
gathers_on : (t : List (NodeEntry Obj Load)) (e : NodeEntry Obj Load) → gathers t ≡ true → ends_fetch e ≡ false → gathers (t ++ e ∷ []) ≡ true
gathers_on t e h k = ap is_none (ends_first t e h) ∙ (none_cond (ends_fetch e) e ∙ ap not k)

well_after : (t : List (NodeEntry Obj Load)) (e : NodeEntry Obj Load) → gathers t ≡ true → ends_fetch e ≡ true → closed_well (t ++ e ∷ []) ≡ is_ok_close e
well_after t e h k = ap (λ z. option_map_or is_ok_close z false) (ends_first t e h) ∙ (well_cond (ends_fetch e) e ∙ ap (λ z. z && is_ok_close e) k)

-- the port below is closed
pub after_close : (t : List (NodeEntry Obj Load)) (z : Cause) (now : ℕ) (fx : Fx Obj Load) → gathers t ≡ true → closed_well (t ++ closed 1 z now fx ∷ []) ≡ (z.code == 0)
after_close t z now fx h = well_after t (closed 1 z now fx) h refl

pub taken_close : (t : List (NodeEntry Obj Load)) (z : Cause) (now : ℕ) (fx : Fx Obj Load) → taken_below (t ++ closed 1 z now fx ∷ []) ≡ taken_below t
taken_close t z now fx = taken_more t (closed 1 z now fx) ∙ append-nil (taken_below t)

pub passes_close : (t : List (NodeEntry Obj Load)) (z : Cause) (now : ℕ) (fx : Fx Obj Load) → gathers t ≡ true → AsksOfFetch t (closed 1 z now fx) → CarriesNothing fx × (fx.closes.items ≡ (0, z) ∷ [])
passes_close t z now fx h asks = (asks.0, asks.1 ∙ ap (λ g. passed_close g 1 z) h)

-- bytes come from below that fit
pub record TakesAll (t : List (NodeEntry Obj Load)) (body : List ℕ) (m : Said) (now : ℕ) (fx : Fx Obj Load) : Type 0 where
  pub sends : CarriesNothing fx
  pub closes : fx.closes.items ≡ []
  pub rest : left fx.took m ≡ None
  pub gathering : gathers (t ++ up 1 m now true fx ∷ []) ≡ true
  pub taken : taken_below (t ++ up 1 m now true fx ∷ []) ≡ body ++ m.bytes

pub all_left : (m : Said) (n : ℕ) → n ≡ length m.bytes → left n m ≡ None
all_left m n e = rw (le-ltb n (length m.bytes) (omega (arith, e))) refl

none_left : (m : Said) (n : ℕ) → n ≡ 0 → 0 < length m.bytes → left n m ≡ Some (said_behind n m)
none_left m n e h = rw (lt-ltb n (length m.bytes) (omega (arith, e))) refl

asks_up : (t : List (NodeEntry Obj Load)) (body : List ℕ) (m : Said) (now : ℕ) (fx : Fx Obj Load) → gathers t ≡ true → taken_below t ≡ body → AsksOfFetch t (up 1 m now true fx) → brings_move 1 m ≡ false → AsksUp true (length body) 1 (length m.bytes) fx
asks_up t body m now fx h k asks other =
    subst (λ z. AsksUp true (length z) 1 (length m.bytes) fx) k (subst (λ z. AsksUp z (length (taken_below t)) 1 (length m.bytes) fx) h (subst (λ (z : Bool). AsksOfUp z (gathers t) (length (taken_below t)) 1 m fx) other (asks refl)))

pub takes_all : (t : List (NodeEntry Obj Load)) (body : List ℕ) (m : Said) (now : ℕ) (fx : Fx Obj Load) → gathers t ≡ true → taken_below t ≡ body → AsksOfFetch t (up 1 m now true fx)
    → length (body ++ m.bytes) ≤ 268435456 → brings_move 1 m ≡ false → TakesAll t body m now fx
takes_all t body m now fx h k asks fits other =
    let q = asks_up t body m now fx h k asks other in
    let small : nat_lt 268435456 (length body + length m.bytes) ≡ false = le-ltb 268435456 (length body + length m.bytes) (omega (arith, length-append body m.bytes, fits)) in
    let closes : fx.closes.items ≡ [] = q.closes ∙ ap (λ z. if z then both_closes body_too_large else []) small in
    let took : fx.took ≡ length m.bytes = q.takes ∙ ap (λ z. if z then 0 else length m.bytes) small in
    record {
      sends = q.sends;
      closes = closes;
      rest = all_left m fx.took took;
      gathering = gathers_on t (up 1 m now true fx) h (ap (λ (z : List (ℕ × Cause)). nat_lt 0 (length z)) closes);
      taken = taken_more t (up 1 m now true fx) ∙ (ap (λ z. z ++ take fx.took m.bytes) k ∙ ap (λ z. body ++ z) (ap (λ z. take z m.bytes) took ∙ take-length m.bytes));
    }

-- or that don't
pub record TakesNone (t : List (NodeEntry Obj Load)) (m : Said) (now : ℕ) (fx : Fx Obj Load) : Type 0 where
  pub sends : CarriesNothing fx
  pub closes : fx.closes.items ≡ both_closes body_too_large
  pub rest : left fx.took m ≡ Some (said_behind fx.took m)
  pub well : closed_well (t ++ up 1 m now true fx ∷ []) ≡ false

pub takes_none : (t : List (NodeEntry Obj Load)) (body : List ℕ) (m : Said) (now : ℕ) (fx : Fx Obj Load) → gathers t ≡ true → taken_below t ≡ body → AsksOfFetch t (up 1 m now true fx)
    → BodyFits body → 268435456 < length (body ++ m.bytes) → brings_move 1 m ≡ false → TakesNone t m now fx
takes_none t body m now fx h k asks fits large other =
    let q = asks_up t body m now fx h k asks other in
    let big : nat_lt 268435456 (length body + length m.bytes) ≡ true = lt-ltb 268435456 (length body + length m.bytes) (omega (arith, length-append body m.bytes, large)) in
    let closes : fx.closes.items ≡ both_closes body_too_large = q.closes ∙ ap (λ z. if z then both_closes body_too_large else []) big in
    let took : fx.took ≡ 0 = q.takes ∙ ap (λ z. if z then 0 else length m.bytes) big in
    record {
      sends = q.sends;
      closes = closes;
      rest = none_left m fx.took took (omega (arith, length-append body m.bytes, large, fits));
      well = well_after t (up 1 m now true fx) h (ap (λ (z : List (ℕ × Cause)). nat_lt 0 (length z)) closes);
    }

-- the bytes that go up of those of a message
abbrev pub goes_up : List ℕ → Option (ℕ × ℕ) → List ℕ
goes_up bytes None = []
goes_up bytes (Some range) = bytes_between bytes range.0 range.1

-- they are what the transfer gives
pub given_came : (rec port now : ℕ) (bytes : List ℕ) (range : Option (ℕ × ℕ)) → goes_up bytes range ≡ given_of (came (received rec port bytes) now) range
given_came rec port now bytes None = refl
given_came rec port now bytes (Some range) = refl

none_behind : (n : ℕ) → drop {A = ℕ} n [] ≡ []
none_behind zero = refl
none_behind (suc n) = refl

none_before : (n : ℕ) → take {A = ℕ} n [] ≡ []
none_before zero = refl
none_before (suc n) = refl

pub given_ticked : (now : ℕ) (range : Option (ℕ × ℕ)) → goes_up [] range ≡ given_of (ticked now) range
given_ticked now None = refl
given_ticked now (Some range) = ap (take (range.1 - range.0)) (none_behind range.0) ∙ none_before (range.1 - range.0)
