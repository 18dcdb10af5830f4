-- Traces with one entry more.
use Rattle.std.proofs.Common.{◌≡◌, ◌||◌, Bool, true, false, not, List, [], ◌∷◌, ◌++◌, refl, ap, ◌∙◌}
use Rattle.nb_graph.specs.Trace.{NodeEntry}
use Rattle.nb_closings.specs.Passing.{ends_object, object_has_ended}

or_none : (a b : Bool) → (a || b) ≡ false → (a ≡ false) × (b ≡ false)
or_none true b h = absurd (let z = h in cc)
or_none false b h = (refl, h)

pub both_off : (a b : Bool) → a ≡ false → b ≡ false → (a || b) ≡ false
both_off true b h k = absurd (let z = h in cc)
both_off false b h k = k

-- neither its first entry ended it, nor the others
pub none_ended : {N L : Type 0} (e : NodeEntry N L) (t : List (NodeEntry N L)) → object_has_ended (e ∷ t) ≡ false → (ends_object e ≡ false) × (object_has_ended t ≡ false)
none_ended e t h = or_none (ends_object e) (object_has_ended t) h

or_assoc : (a b c : Bool) → (a || (b || c)) ≡ ((a || b) || c)
or_assoc true b c = refl
or_assoc false b c = refl

or_off : (a : Bool) → (a || false) ≡ a
or_off true = refl
or_off false = refl

pub ended_more : {N L : Type 0} (t : List (NodeEntry N L)) (e : NodeEntry N L) → object_has_ended (t ++ e ∷ []) ≡ (object_has_ended t || ends_object e)
ended_more [] e = or_off (ends_object e)
ended_more (d ∷ t) e = ap (λ z. ends_object d || z) (ended_more t e) ∙ or_assoc (ends_object d) (object_has_ended t) (ends_object e)
