-- Slots of a ring: which one it is, and that two places of one window have two.
use Rattle.std.proofs.Common.{◌≡◌, ℕ, ◌+◌, ◌-◌, ◌<◌, ◌≤◌, nat_lt, Bool, cond, sym, ap, ◌∙◌, arith}
use Rattle.std.proofs.lemmas.Bool.{ltb-true, ltb-false}
use Rattle.nb_streams.proofs.StreamLaws.{either}
use Rattle.nb_reasm.specs.Slots.{wrapped_slot}
use Rattle.nb_reasm.specs.Rings.{capacity, slot_of}
use Rattle.nb_reasm.specs.declared.ring.Ring.{Ring}

-- a slot that was counted on is itself or one turn less
pub data Turn (size i : ℕ) : Type 0 where
  same_turn : i < size → wrapped_slot size i ≡ i → Turn size i
  next_turn : size ≤ i → wrapped_slot size i ≡ i - size → Turn size i

pub turn : (size i : ℕ) → Turn size i
turn size i = either (nat_lt i size)
    (λ t. same_turn (ltb-true i size t) (ap (λ (b : Bool). cond b i (i - size)) t))
    (λ f. next_turn (ltb-false i size f) (ap (λ (b : Bool). cond b i (i - size)) f))

pub wrapped_below : (size i : ℕ) → i < size → wrapped_slot size i ≡ i
wrapped_below size i l = elim (turn size i) [
  | same_turn k is ↦ is
  | next_turn k is ↦ absurd (omega (arith, k, l))
]

pub wrapped_past : (size i : ℕ) → size ≤ i → wrapped_slot size i ≡ i - size
wrapped_past size i l = elim (turn size i) [
  | same_turn k is ↦ absurd (omega (arith, k, l))
  | next_turn k is ↦ is
]

pub slot_within : (size start offset : ℕ) → start < size → offset < size → wrapped_slot size (start + offset) < size
slot_within size start offset s o = elim (turn size (start + offset)) [
  | same_turn l is ↦ omega (arith, l, is)
  | next_turn l is ↦ omega (arith, l, is, s, o)
]

pub slots_apart : (size start m n : ℕ) → start < size → m < size → n < size → (m ≡ n → ⊥) → wrapped_slot size (start + m) ≡ wrapped_slot size (start + n) → ⊥
slots_apart size start m n s hm hn apart same = elim (turn size (start + m)) [
  | same_turn l is ↦ elim (turn size (start + n)) [
    | same_turn k at ↦ apart (omega (arith, is, at, same))
    | next_turn k at ↦ omega (arith, is, at, same, l, k, s, hm, hn)
  ]
  | next_turn l is ↦ elim (turn size (start + n)) [
    | same_turn k at ↦ omega (arith, is, at, same, l, k, s, hm, hn)
    | next_turn k at ↦ apart (omega (arith, is, at, same, l, k))
  ]
]

-- counted on twice is counted on once
pub slot_after : (size start m n : ℕ) → start < size → m + n < size → wrapped_slot size (wrapped_slot size (start + m) + n) ≡ wrapped_slot size (start + (m + n))
slot_after size start m n s o = elim (turn size (start + m)) [
  | same_turn l is ↦ ap (λ (i : ℕ). wrapped_slot size (i + n)) is ∙ ap (λ (i : ℕ). wrapped_slot size i) (regroup start m n)
  | next_turn l is ↦ ap (λ (i : ℕ). wrapped_slot size (i + n)) is ∙ over l
]
  where
    regroup : (a b c : ℕ) → (a + b) + c ≡ a + (b + c)
    regroup a b c = omega arith

    less : size ≤ start + m → ((start + m) - size) + n ≡ (start + (m + n)) - size
    less l = omega (arith, l)

    over : size ≤ start + m → wrapped_slot size (((start + m) - size) + n) ≡ wrapped_slot size (start + (m + n))
    over l = elim (turn size (((start + m) - size) + n)) [
      | same_turn k at ↦ elim (turn size (start + (m + n))) [
        | same_turn j is ↦ absurd (omega (arith, j, l))
        | next_turn j is ↦ at ∙ less l ∙ sym is
      ]
      | next_turn k at ↦ absurd (omega (arith, k, l, s, o))
    ]

-- a slot that is counted on to no end
pub slot_beside : (size start m n : ℕ) → start < size → m + n < size → wrapped_slot size (start + m) + n < size → wrapped_slot size (start + (m + n)) ≡ wrapped_slot size (start + m) + n
slot_beside size start m n s o l = sym (slot_after size start m n s o) ∙ elim (turn size (wrapped_slot size (start + m) + n)) [
  | same_turn k at ↦ at
  | next_turn k at ↦ absurd (omega (arith, k, l))
]

-- a place before another, counted on from that one, is one turn on
pub slot_around : (size start m n : ℕ) → start < size → n < m → m ≤ size → wrapped_slot size (wrapped_slot size (start + m) + ((size - m) + n)) ≡ wrapped_slot size (start + n)
slot_around size start m n s below le = elim (turn size (start + m)) [
  | same_turn l is ↦ ap (λ (i : ℕ). wrapped_slot size (i + ((size - m) + n))) is ∙ back l
  | next_turn l is ↦ ap (λ (i : ℕ). wrapped_slot size (i + ((size - m) + n))) is ∙ ap (λ (i : ℕ). wrapped_slot size i) (on l)
]
  where
    minus : (a b : ℕ) → a ≡ b + size → a - size ≡ b
    minus a b e = omega (arith, e)

    on : size ≤ start + m → ((start + m) - size) + ((size - m) + n) ≡ start + n
    on l = omega (arith, l, below, le)

    whole : start + m + ((size - m) + n) ≡ start + n + size
    whole = omega (arith, below, le)

    back : start + m < size → wrapped_slot size (start + m + ((size - m) + n)) ≡ wrapped_slot size (start + n)
    back l = elim (turn size (start + m + ((size - m) + n))) [
      | same_turn k at ↦ absurd (omega (arith, k, whole))
      | next_turn k at ↦ elim (turn size (start + n)) [
        | same_turn j to ↦ at ∙ minus (start + m + ((size - m) + n)) (start + n) whole ∙ sym to
        | next_turn j to ↦ absurd (omega (arith, j, l, below))
      ]
    ]

-- rings with the same window have the same slots
pub slots_same : (r s : Ring) → s.start ≡ r.start → s.base ≡ r.base → capacity s ≡ capacity r → (p : ℕ) → slot_of s (p - s.base) ≡ slot_of r (p - r.base)
slots_same r s start base size p =
    ap (λ (n : ℕ). wrapped_slot n (s.start + (p - s.base))) size
    ∙ ap (λ (n : ℕ). wrapped_slot (capacity r) (n + (p - s.base))) start
    ∙ ap (λ (n : ℕ). wrapped_slot (capacity r) (r.start + (p - n))) base
