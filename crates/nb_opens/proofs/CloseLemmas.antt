-- The first close among what is told.
use Rattle.std.proofs.Common.{◌≡◌, List, [], ◌∷◌, ◌++◌, map, Option, Some, None, refl, sym, ap, ◌∙◌}
use Rattle.nb_terms.specs.declared.cause.Cause.{Cause}
use Rattle.nb_ledger.specs.declared.port.Port.{Port}
use Rattle.nb_ledger.specs.Flat.{Notice}
use Rattle.nb_graph.specs.Trace.{Said}
use Rattle.nb_opens.specs.Notices.{close_of, first_close, or_else, sent_from}

or_assoc : (x y z : Option Cause) → or_else (or_else x y) z ≡ or_else x (or_else y z)
or_assoc None y z = refl
or_assoc (Some c) y z = refl

pub first_close-append : (xs ys : List Notice) → first_close (xs ++ ys) ≡ or_else (first_close xs) (first_close ys)
first_close-append [] ys = refl
first_close-append (x ∷ xs) ys = ap (λ z. or_else (close_of x) z) (first_close-append xs ys) ∙ sym (or_assoc (close_of x) (first_close xs) (first_close ys))

pub behind_none : (xs ys : List Notice) → first_close xs ≡ None → first_close (xs ++ ys) ≡ first_close ys
behind_none xs ys h = first_close-append xs ys ∙ ap (λ z. or_else z (first_close ys)) h

-- no message closes anything
pub sent_closes : (p : Port) (ms : List Said) → first_close (map (sent_from p) ms) ≡ None
sent_closes p [] = refl
sent_closes p (m ∷ ms) = sent_closes p ms
