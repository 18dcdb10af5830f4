-- The parts of a record of a fixed length, put one after another, are its spelling.
use Rattle.std.proofs.Common.{◌≡◌, ℕ, List, [], ◌∷◌, ◌++◌, ap, ◌∙◌, append_assoc}
use Rattle.std.specs.Int.{w64, to_be_bytes}
use Rattle.nb_terms.specs.declared.event.Event.{Event}
use Rattle.nb_defs.specs.Records.{out_text, record_text, event_text, cause_text, graph}

-- both ends of an event, and its cause
ends_join : (o : List ℕ) (slot : ℕ) (p : List ℕ) (other : ℕ) (c : List ℕ)
    → (o ++ (slot ∷ [])) ++ ((p ++ (other ∷ [])) ++ c) ≡ o ++ (slot ∷ (p ++ (other ∷ c)))
ends_join o slot p other c =
    append_assoc o (slot ∷ []) ((p ++ (other ∷ [])) ++ c)
    ∙ ap (λ (x : List ℕ). o ++ (slot ∷ x)) (append_assoc p (other ∷ []) c)

-- four pieces after a first one
four_join : (w h a b c : List ℕ) → (((w ++ h) ++ a) ++ b) ++ c ≡ w ++ (h ++ (a ++ (b ++ c)))
four_join w h a b c =
    append_assoc ((w ++ h) ++ a) b c ∙ append_assoc (w ++ h) a (b ++ c) ∙ append_assoc w h (a ++ (b ++ c))

-- the head of a GRAPH, both ends, and the cause
pub graph_appends : (w : List ℕ) (e : Event)
    → (((w ++ (0 ∷ 0 ∷ 0 ∷ 29 ∷ 0x8b ∷ e.event ∷ [])) ++ (to_be_bytes w64 e.object ++ (e.slot ∷ []))) ++ (to_be_bytes w64 e.other ++ (e.other_slot ∷ []))) ++ cause_text e.cause
    ≡ w ++ out_text (graph e)
unfolding out_text record_text event_text cause_text
graph_appends w e =
    four_join w (0 ∷ 0 ∷ 0 ∷ 29 ∷ 0x8b ∷ e.event ∷ []) (to_be_bytes w64 e.object ++ (e.slot ∷ [])) (to_be_bytes w64 e.other ++ (e.other_slot ∷ [])) (cause_text e.cause)
    ∙ ap (λ (x : List ℕ). w ++ ((0 ∷ 0 ∷ 0 ∷ 29 ∷ 0x8b ∷ e.event ∷ []) ++ x)) (ends_join (to_be_bytes w64 e.object) e.slot (to_be_bytes w64 e.other) e.other_slot (cause_text e.cause))
