-- Words joined by spaces.
use Rattle.std.proofs.Common.{◌≡◌, ℕ, List, [], ◌∷◌, ◌++◌, sym, ap, append-nil}
use Rattle.std.specs.List.{flat_map, join_with_byte}

-- the first word, and the others after spaces
pub join_spaced : (w : List ℕ) (ws : List (List ℕ)) → join_with_byte 32 (w ∷ ws) ≡ w ++ flat_map (λ word. 32 ∷ word) ws
join_spaced w [] = sym (append-nil w)
join_spaced w (v ∷ ws) = ap (λ t. w ++ (32 ∷ t)) (join_spaced v ws)
