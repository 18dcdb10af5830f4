-- The pieces of a response are sent in order.
use Rattle.std.proofs.Common.{◌≡◌, ◌⊎◌, ◌==◌, ◌&&◌, ℕ, ◌+◌, ◌-◌, ◌<◌, ◌≤◌, Bool, true, false, nat_lt, nat_le, min, length, Option, if◌then◌else◌, inl, inr, refl, sym, ap, subst, arith}
use Rattle.std.proofs.lemmas.Bool.{eqb-true, ltb-true, ltb-false, leb-true}
use Rattle.nb_tcpseg.specs.SegmentText.{SegmentParts}
use Rattle.nb_lab.specs.declared.page.Page.{Page}
use Rattle.nb_lab.specs.declared.piece.Piece.{Piece}
use Rattle.nb_lab.specs.declared.connection.State.{State}
use Rattle.nb_lab.specs.declared.connection.State.TheVariants.{Opened, Reading, Sending, Sent, Closed}
use Rattle.nb_lab.specs.declared.connection.Connection.{Connection}
use Rattle.nb_lab.specs.Pages.{response_text}
use Rattle.nb_lab.specs.Streams.{piece_end, is_last, sent_by}
use Rattle.nb_lab.specs.Connections.{carries_flag, place_of_ack, piece_from, sends, acknowledged_by, after_ack}
use Rattle.nb_lab.specs.Receptions.{counts_segment, brings_bytes, number_after, received_in_state, segment_received}
use Rattle.nb_lab.specs.OneResponse.{GoesOnFrom, SendsInOrder}

decide : (b : Bool) → (b ≡ true) ⊎ (b ≡ false)
decide true = inl refl
decide false = inr refl

stays : (p : Piece) → GoesOnFrom p (Sending p)
stays p = (refl, inl refl)

sent_cases : (p : Piece) → ((sent_by p ≡ piece_end p + 1) × (piece_end p ≡ length (response_text p.page))) ⊎ (sent_by p ≡ piece_end p)
sent_cases p = elim (decide (is_last p)) [
  | inl last ↦ inl (ap (λ (b : Bool). if b then piece_end p + 1 else piece_end p) last, eqb-true (piece_end p) (length (response_text p.page)) last)
  | inr other ↦ inr (ap (λ (b : Bool). if b then piece_end p + 1 else piece_end p) other)
]

-- what is acknowledged past the last byte is the FIN
past_all : (p : Piece) (place : ℕ) → p.from < place → place ≤ sent_by p → length (response_text p.page) < place → place ≡ length (response_text p.page) + 1
past_all p place past within all = elim (sent_cases p) [
  | inl (sent, end) ↦ omega (arith, within, all, sent, end)
  | inr sent ↦ absurd (none p.from place (length (response_text p.page)) p.room (sent_by p) past within all sent)
]
  where
    none : (from place len room sent : ℕ) → from < place → place ≤ sent → len < place → sent ≡ from + min (min (len - from) 1000) room → ⊥
    none from place len room sent a b c d = omega arith

not_all : (p : Piece) (place : ℕ) → place ≤ sent_by p → place ≤ length (response_text p.page) → place ≤ piece_end p
not_all p place within some = elim (sent_cases p) [
  | inl (sent, end) ↦ subst (λ k. place ≤ k) (sym end) some
  | inr sent ↦ subst (λ k. place ≤ k) sent within
]

-- an acknowledgement, by its three tests: that it is past the piece's beginning, that it is within what was sent, and that it is
-- past the last byte
by_tests : (c : Connection) (p : Piece) (place window : ℕ) (past within all : Bool) → c.state ≡ Sending p
    → (past ≡ true → p.from < place) → (within ≡ true → place ≤ sent_by p) → (all ≡ true → length (response_text p.page) < place)
    → (all ≡ false → place ≤ length (response_text p.page))
    → GoesOnFrom p (if past && within then (if all then record c { state = Sent place } else sends c (piece_from c p.page place window)) else c).state
by_tests c p place window true true true state after most h k = past_all p place (after refl) (most refl) (h refl)
by_tests c p place window true true false state after most h k = (refl, inr (after refl, not_all p place (most refl) (k refl)))
by_tests c p place window true false all state after most h k = subst (GoesOnFrom p) (sym state) (stays p)
by_tests c p place window false within all state after most h k = subst (GoesOnFrom p) (sym state) (stays p)

module _ (c : Connection) (p : Piece) (s : SegmentParts) (state : c.state ≡ Sending p) where
  stays_there : GoesOnFrom p c.state
  stays_there = subst (GoesOnFrom p) (sym state) (stays p)

  after_ack_goes : GoesOnFrom p (after_ack c s).state
  after_ack_goes =
      let place = place_of_ack s in
      let len = length (response_text p.page) in
      subst (λ (st : State). GoesOnFrom p (acknowledged_by c place s.window st).state) (sym state)
      (by_tests c p place s.window (nat_lt p.from place) (nat_le place (sent_by p)) (nat_lt len place) state
      (ltb-true p.from place) (leb-true place (sent_by p)) (ltb-true len place) (ltb-false len place))

  reset_by : (t : Bool) → GoesOnFrom p (if t then record c { state = Closed } else c).state
  reset_by true = tt
  reset_by false = stays_there

closes_by : (b : Connection) (p : Piece) (place : ℕ) (t : Bool) → b.state ≡ Sent place → GoesOnFrom p (Sent place) → GoesOnFrom p (if t then record b { state = Closed } else b).state
closes_by b p place true is h = tt
closes_by b p place false is h = subst (GoesOnFrom p) (sym is) h

received_by_goes : (b : Connection) (p : Piece) (s : SegmentParts) (page : Option Page) (st : State) → b.state ≡ st → GoesOnFrom p st → GoesOnFrom p (received_in_state b s page st).state
received_by_goes b p s page Opened is h = absurd h
received_by_goes b p s page Reading is h = absurd h
received_by_goes b p s page (Sending q) is h = subst (GoesOnFrom p) (sym is) h
received_by_goes b p s page (Sent place) is h = closes_by b p place (carries_flag s 1) is h
received_by_goes b p s page Closed is h = subst (GoesOnFrom p) (sym is) tt

received_goes : (b : Connection) (p : Piece) (s : SegmentParts) (page : Option Page) (t : Bool) → GoesOnFrom p b.state
    → GoesOnFrom p (if t then received_in_state (record b { expected = number_after s }) s page b.state else b).state
received_goes b p s page true h = received_by_goes (record b { expected = number_after s }) p s page b.state refl h
received_goes b p s page false h = h

pub sends_in_order : SendsInOrder
sends_in_order c d p s images part state h =
    let Goes : Connection → Type 0 = λ x. GoesOnFrom p x.state in
    elim (decide (carries_flag s 4)) [
      | inl is ↦ subst Goes (sym (h.reset is).1) (reset_by c p s state (s.seq == c.expected))
      | inr plain ↦ elim (decide (counts_segment c s)) [
        | inr idle ↦ subst Goes (sym (h.dropped plain idle).1) (stays_there c p s state)
        | inl active ↦ elim (decide (brings_bytes s)) [
          | inr bare ↦ subst Goes (sym (h.acknowledges plain active bare).1) (after_ack_goes c p s state)
          | inl more ↦
              let r = (h.receives plain active more).received in
              subst Goes (sym r.stands) (received_goes (after_ack c s) p s r.page (s.seq == (after_ack c s).expected) (after_ack_goes c p s state))
        ]
      ]
    ]
