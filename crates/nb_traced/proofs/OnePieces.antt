-- Which objects an open has, the records leave open nowhere.
use Rattle.std.proofs.Common.{◌≡◌, ℕ, suc, ◌≤◌, true, List, [], ◌∷◌, length, refl, sym, ◌∙◌, ap, subst, arith}
use Rattle.std.specs.List.{AllByRecursion}
use Rattle.nb_defs.specs.Records.{Out}
use Rattle.nb_ledger.specs.declared.port.Port.{Port}
use Rattle.nb_ledger.specs.declared.port.PortState.TheVariants as port
use Rattle.nb_ledger.specs.GraphRun.{GraphState}
use Rattle.nb_graph.specs.Whole.{port_at}
use Rattle.nb_traced.specs.Holdings.{GraphObject, AreJoined, kinds, lowest_of, serials}
use Rattle.nb_traced.specs.Outputs.{IsNewest}
use Rattle.nb_traced.specs.Openings.{HasPieces}
use Rattle.nb_traced.proofs.Serials.{at_serial, lowest_in}
use Rattle.nb_traced.proofs.OneState.{one_state, peer_same}

-- what is plugged above an object is one
upper_same : (s : GraphState) (x y z w : ℕ) → z ≡ w → s.port z 0 ≡ port.Linked (port_at x 1) → s.port w 0 ≡ port.Linked (port_at y 1) → x ≡ y
upper_same s x y z w same a b = ap (λ (p : Port). p.obj.0) (peer_same (port_at x 1) (port_at y 1) (sym a ∙ ap (λ v. s.port v 0) same ∙ b))

head_same : (x y : ℕ) (xs ys : List ℕ) → x ∷ xs ≡ y ∷ ys → x ≡ y
head_same x y xs ys e = cc

tail_same : (x y : ℕ) (xs ys : List ℕ) → x ∷ xs ≡ y ∷ ys → xs ≡ ys
tail_same x y xs ys e = cc

none_one : (x : ℕ) (xs : List ℕ) → [] ≡ x ∷ xs → ⊥
none_one x xs e = cc

joined_same : (s : GraphState) (xs ys : List ℕ) → length xs ≡ length ys → lowest_of xs ≡ lowest_of ys → AreJoined s xs → AreJoined s ys → xs ≡ ys
joined_same s [] [] many low a b = refl
joined_same s [] (y ∷ ys) many low a b = absurd (omega (arith, many))
joined_same s (x ∷ xs) [] many low a b = absurd (omega (arith, many))
joined_same s (x ∷ []) (y ∷ []) many low a b = ap (λ z. z ∷ []) low
joined_same s (x ∷ []) (y ∷ (z ∷ zs)) many low a b = absurd (omega (arith, many))
joined_same s (x ∷ (w ∷ ws)) (y ∷ []) many low a b = absurd (omega (arith, many))
joined_same s (x ∷ (w ∷ ws)) (y ∷ (z ∷ zs)) many low a b =
    let rest = joined_same s (w ∷ ws) (z ∷ zs) (omega (arith, many)) low a.2 b.2 in
    ap (λ v. v ∷ (w ∷ ws)) (upper_same s x y w z (head_same w z ws zs rest) a.1 b.1) ∙ ap (λ v. y ∷ v) rest

as_many : (ps qs : List GraphObject) → kinds ps ≡ kinds qs → length (serials ps) ≡ length (serials qs)
as_many [] [] e = refl
as_many [] (q ∷ qs) e = absurd (none_one q.kind (kinds qs) e)
as_many (p ∷ ps) [] e = absurd (none_one p.kind (kinds ps) (sym e))
as_many (p ∷ ps) (q ∷ qs) e = ap suc (as_many ps qs (tail_same p.kind q.kind (kinds ps) (kinds qs) e))

pieces_same : (ps qs : List GraphObject) → serials ps ≡ serials qs → kinds ps ≡ kinds qs → ps ≡ qs
pieces_same [] [] a b = refl
pieces_same [] (q ∷ qs) a b = absurd (none_one q.kind (kinds qs) b)
pieces_same (p ∷ ps) [] a b = absurd (none_one p.kind (kinds ps) (sym b))
pieces_same (p ∷ ps) (q ∷ qs) a b =
    let rest = pieces_same ps qs (tail_same p.serial q.serial (serials ps) (serials qs) a) (tail_same p.kind q.kind (kinds ps) (kinds qs) b) in
    ap (λ z. record { serial = z; kind = p.kind } ∷ ps) (head_same p.serial q.serial (serials ps) (serials qs) a)
    ∙ ap (λ z. record { serial = q.serial; kind = z } ∷ ps) (head_same p.kind q.kind (kinds ps) (kinds qs) b) ∙ ap (λ z. q ∷ z) rest

-- the lowest of some is no older than that of others
no_older : (s : GraphState) (ps qs : List GraphObject) → IsNewest s (lowest_of (serials ps)) → AllByRecursion (λ q. s.live q.serial ≡ true) qs → (qs ≡ [] → ⊥) → lowest_of (serials qs) ≤ lowest_of (serials ps)
no_older s ps qs newest lives some = newest (lowest_of (serials qs)) (at_serial (λ x. s.live x ≡ true) qs lives (lowest_of (serials qs)) (lowest_in qs some))

pub pieces_are_one : (before : List Out) (kind : ℕ) (ps qs : List GraphObject) → HasPieces before kind ps → HasPieces before kind qs → ps ≡ qs
pieces_are_one before kind ps qs a b =
    let same : b.state ≡ a.state = one_state before b.state a.state b.led a.led in
    let are : kinds ps ≡ kinds qs = a.of_kind ∙ sym b.of_kind in
    let up : lowest_of (serials qs) ≤ lowest_of (serials ps) = no_older a.state ps qs a.newest (subst (λ (s : GraphState). AllByRecursion (λ q. s.live q.serial ≡ true) qs) same b.lives) b.some in
    let down : lowest_of (serials ps) ≤ lowest_of (serials qs) = no_older a.state qs ps (subst (λ s. IsNewest s (lowest_of (serials qs))) same b.newest) a.lives a.some in
    pieces_same ps qs (joined_same a.state (serials ps) (serials qs) (as_many ps qs are) (omega (arith, up, down)) a.joined (subst (λ s. AreJoined s (serials qs)) same b.joined)) are
