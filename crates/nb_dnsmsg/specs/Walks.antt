-- What the steps of a walk through a name come to
use Rattle.std.specs.Prelude.{◌≡◌, ◌<◌, ◌≤◌, ◌+◌, ◌-◌, ◌*◌, ℕ, suc, List, [], ◌∷◌, ◌++◌, length, Option, Some, None, unwrap_or}
use Rattle.nb_dnsmsg.specs.declared.piece.NamePiece.{NamePiece}
use Rattle.nb_dnsmsg.specs.declared.piece.NamePiece.TheVariants as piece
use Rattle.nb_dnsmsg.specs.declared.walk.Walk.{Walk}
use Rattle.nb_dnsmsg.specs.declared.walk.NameStep.{NameStep}
use Rattle.nb_dnsmsg.specs.declared.walk.NameStep.TheVariants as next
use Rattle.nb_dnsmsg.specs.Names.{IsLabel, IsRestAt, IsNameAt}

-- the bytes begin with no piece of a name
pub record BeginsNoPiece (bytes : List ℕ) : Type 0 where
  pub root : (after : List ℕ) → bytes ≡ 0 ∷ after → ⊥
  pub label : (label after : List ℕ) → IsLabel label → bytes ≡ length label ∷ (label ++ after) → ⊥
  pub pointer : (high low : ℕ) (after : List ℕ) → bytes ≡ high ∷ low ∷ after → 192 ≤ high → ⊥

abbrev pub BeginsPiece : NamePiece → List ℕ → Type 0
BeginsPiece piece.Root bytes = (after : List ℕ) × (bytes ≡ 0 ∷ after)
BeginsPiece (piece.Label l) bytes = IsLabel l.now × ((after : List ℕ) × (bytes ≡ length l.now ∷ (l.now ++ after)))
BeginsPiece (piece.Pointer target) bytes = (high : ℕ) × (low : ℕ) × (after : List ℕ) × (bytes ≡ high ∷ low ∷ after) × (192 ≤ high) × (target ≡ (high - 192) * 256 + low)
BeginsPiece piece.Invalid bytes = BeginsNoPiece bytes

-- the walk has this rest of a name before it, and the whole name ends there in the message
pub record IsAhead (message : List ℕ) (w : Walk) (rest : List ℕ) (end : ℕ) : Type 0 where
  pub last : ℕ
  pub spelled : IsRestAt message w.part w.place rest last
  pub is_end : end ≡ unwrap_or w.end last

-- how far a walk can still go
abbrev pub way_left : List ℕ → Walk → ℕ
way_left message w = w.part * suc (length message) + (length message - w.place)

-- the walk has passed these bytes of the name's text
pub record PassesBytes (passed message : List ℕ) (a b : Walk) : Type 0 where
  pub back : (rest : List ℕ) (end : ℕ) → IsAhead message b rest end → IsAhead message a (passed ++ rest) end
  pub forth : (rest : List ℕ) (end : ℕ) → IsAhead message a rest end → (more : List ℕ) × (rest ≡ passed ++ more) × IsAhead message b more end

abbrev pub IsNextStep : NameStep → List ℕ → Walk → Walk → Type 0
IsNextStep (next.Root end) message a b = IsAhead message a (0 ∷ []) end
IsNextStep (next.Label l) message a b = PassesBytes (length l.now ∷ l.now) message a b × (way_left message b < way_left message a) × IsLabel l.now
IsNextStep next.Jump message a b = PassesBytes [] message a b × (way_left message b < way_left message a)
IsNextStep next.Invalid message a b = (rest : List ℕ) (end : ℕ) → IsAhead message a rest end → ⊥

-- a name was read as this text, with its end, or none stands there
abbrev pub IsNameRead : Option ℕ → List ℕ → ℕ → List ℕ → Type 0
IsNameRead None message place text = (name : List ℕ) (end : ℕ) → IsNameAt message place name end → ⊥
IsNameRead (Some end) message place text = IsNameAt message place text end
