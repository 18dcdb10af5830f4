-- The ports where a new object was plugged below the last of some.
use Rattle.std.proofs.Common.{◌≡◌, ℕ, true, List, [], ◌∷◌, ◌++◌, sym, ap, ◌∙◌}
use Rattle.nb_frames.specs.Frames.{is_one_of}
use Rattle.nb_graph.specs.Whole.{port_at}
use Rattle.nb_ledger.specs.declared.port.PortState.{PortState}
use Rattle.nb_ledger.specs.declared.port.PortState.TheVariants as port
use Rattle.nb_closings.specs.Chained.{IsPluggedDown}
use Rattle.nb_closings.proofs.Joining.{first_in, later_in}
use Rattle.nb_webchains.specs.Plugs.{last_from}

-- where these are as they were, so are their links
pub plugged_same : (f h : ℕ → ℕ → PortState) (x : ℕ) (xs : List ℕ) → ((v i : ℕ) → is_one_of (x ∷ xs) v ≡ true → h v i ≡ f v i) → IsPluggedDown f x xs → IsPluggedDown h x xs
plugged_same f h x [] s p = s x 1 (first_in x []) ∙ p
plugged_same f h x (y ∷ ys) s p = (
  s x 1 (first_in x (y ∷ ys)) ∙ p.0,
  s y 0 (later_in x (y ∷ ys) y (first_in y ys)) ∙ p.1,
  plugged_same f h y ys (λ v i o. s v i (later_in x (y ∷ ys) v o)) p.2,
)

module _ (f h : ℕ → ℕ → PortState) (z y : ℕ) (top : h z 1 ≡ port.Linked (port_at y 0)) (low : h y 0 ≡ port.Linked (port_at z 1)) (below : h y 1 ≡ port.Open)
    (same : (v i : ℕ) → (v ≡ y → ⊥) → (v ≡ z → i ≡ 1 → ⊥) → h v i ≡ f v i) (is_open : f z 1 ≡ port.Open) where
  not_last : (v w i : ℕ) → f v 1 ≡ port.Linked (port_at w 0) → v ≡ z → i ≡ 1 → ⊥
  not_last v w i l d _ = let q = sym (ap (λ u. f u 1) d ∙ is_open) ∙ l in cc

  not_one : (v : ℕ) → v ≡ z → ◌≡◌ {A = ℕ} 0 1 → ⊥
  not_one v _ d = let q = d in cc

  pub plugged_down : (v : ℕ) (vs : List ℕ) → last_from v vs ≡ z → ((w : ℕ) → is_one_of (v ∷ vs) w ≡ true → w ≡ y → ⊥) → IsPluggedDown f v vs → IsPluggedDown h v (vs ++ y ∷ [])
  plugged_down v [] e far i = (ap (λ w. h w 1) e ∙ top, low ∙ ap (λ w. port.Linked (port_at w 1)) (sym e), below)
  plugged_down v (w ∷ ws) e far i = (
    same v 1 (far v (first_in v (w ∷ ws))) (not_last v w 1 i.0) ∙ i.0,
    same w 0 (far w (later_in v (w ∷ ws) w (first_in w ws))) (not_one w) ∙ i.1,
    plugged_down w ws e (λ u o. far u (later_in v (w ∷ ws) u o)) i.2,
  )
