-- A stream is cut into the PDUs that it spells, and into no others.
use Rattle.std.proofs.Common.{◌≡◌, ◌<◌, ◌≤◌, ℕ, ◌+◌, inl, inr, true, false, List, [], ◌∷◌, ◌++◌, length, take, drop, fold, refl, sym, ap, subst, ◌∙◌, append_assoc, append-nil, arith, leb, ltb}
use Rattle.std.proofs.lemmas.Bool.{ne_eqb, eqb-false, eq-eqb, le-leb, lt-ltb, le-ltb, ltb-true, ltb-false, leb-true, cases_lt, and_parts, and_from, and_right}
use Rattle.std.proofs.lemmas.List.{take_at, take-append-drop, length-append, length-take}
use Rattle.std.proofs.lemmas.List.Sums.{fold-append}
use Rattle.nb_iscsipdu.specs.Heads.{lengths, padded_len}
use Rattle.nb_iscsipdu.specs.PduTexts.{PduParts, IsPduText}
use Rattle.nb_iscsipdu.specs.Streams.{is_refused, pdu_len, is_whole_pdu, pdu_of, Cut, none_cut, with_rest, after_byte, cut, IsGatheredPdu, SpellsPdus, IsUnfinished, IsCutInto, StaysOpen}
use Rattle.nb_iscsipdu.proofs.KeyLemmas.{either_way}
use Rattle.nb_iscsipdu.proofs.PduLemmas.{head_one, rest_one}
use Rattle.nb_iscsipdu.proofs.StreamLemmas.{lengths-kept, open-rest, open-short, open-joined, gathered-short, gathered-rest, whole-reads, reached, fold-reached}

-- nothing is read after bytes with which no PDU begins
fold-refused : (c : Cut) (bytes : List ℕ) → is_refused c.rest ≡ true → fold after_byte c bytes ≡ c
fold-refused c [] on = refl
fold-refused c (byte ∷ bytes) on = rw on (fold-refused c bytes on)

refused-long : (bytes : List ℕ) → is_refused bytes ≡ true → (8 ≤ length bytes) × (8192 < lengths bytes)
refused-long bytes on =
    let both = and_parts _ _ on in
    (leb-true 8 (length bytes) both.0, ltb-true 8192 (lengths bytes) both.1)

refused-from : (bytes : List ℕ) → 8 ≤ length bytes → 8192 < lengths bytes → is_refused bytes ≡ true
refused-from bytes long large = and_from _ _ (le-leb 8 (length bytes) long) (lt-ltb 8192 (lengths bytes) large)

refused-not : (bytes : List ℕ) → lengths bytes ≤ 8192 → is_refused bytes ≡ false
refused-not bytes small = and_right _ _ (le-ltb 8192 (lengths bytes) small)

allowed-small : (bytes : List ℕ) → 8 ≤ length bytes → is_refused bytes ≡ false → lengths bytes ≤ 8192
allowed-small bytes long allowed =
    let eight : leb 8 (length bytes) ≡ true = le-leb 8 (length bytes) long in
    let small : ltb 8192 (lengths bytes) ≡ false = sym (rw eight refl) ∙ allowed in
    ltb-false 8192 (lengths bytes) small

left-shorter : (bytes : List ℕ) → 8 ≤ length bytes → lengths bytes ≤ 8192 → IsUnfinished bytes → length bytes < pdu_len bytes
left-shorter bytes long small (inl short) = absurd (omega arith)
left-shorter bytes long small (inr (inl large)) = absurd (omega arith)
left-shorter bytes long small (inr (inr less)) = less

-- more PDUs after some
spells-added : (text more : List ℕ) (ps : List PduParts) (p : PduParts) → SpellsPdus text ps → IsPduText more p → SpellsPdus (text ++ more) (ps ++ p ∷ [])
spells-added text more [] p is last =
    (more, [], ap (λ (x : List ℕ). x ++ more) is ∙ sym (append-nil more), last, refl)
spells-added text more (q ∷ ps) p (first, rest, is, head, tail) last =
    (first, rest ++ more, ap (λ (x : List ℕ). x ++ more) is ∙ append_assoc first rest more, head, spells-added rest more ps p tail last)

-- a byte more of what is gathered
gathered-more : (bytes : List ℕ) (byte : ℕ) → IsGatheredPdu bytes → is_refused bytes ≡ false → is_whole_pdu bytes ≡ false → IsGatheredPdu (bytes ++ byte ∷ [])
gathered-more bytes byte gathered allowed unended =
    let len : length (bytes ++ byte ∷ []) ≡ length bytes + 1 = length-append bytes (byte ∷ []) in
    elim (cases_lt (length bytes) 8) [
      | inl short ↦ gathered-short (bytes ++ byte ∷ []) (omega arith)
      | inr long ↦
          let within = gathered.short allowed long in
          let other = eqb-false (length bytes) (pdu_len bytes) unended in
          gathered-rest bytes (bytes ++ byte ∷ []) (byte ∷ []) refl long allowed (omega (arith, within, other, len))
    ]

left-open : (bytes : List ℕ) → IsGatheredPdu bytes → is_whole_pdu bytes ≡ false → IsUnfinished bytes
left-open bytes gathered unended =
    either_way (is_refused bytes)
    (λ on. inr (inl (refused-long bytes on).1))
    (λ allowed.
    elim (cases_lt (length bytes) 8) [
      | inl short ↦ inl short
      | inr long ↦
          let within = gathered.short allowed long in
          let other = eqb-false (length bytes) (pdu_len bytes) unended in
          inr (inr (omega (arith, within, other)))
    ])

abbrev Goes : Cut → List ℕ → List ℕ → Type 0
Goes c before stream = IsCutInto (before ++ (c.rest ++ stream)) (fold after_byte c stream).pdus

cut-goes : (c : Cut) (before stream : List ℕ) → SpellsPdus before c.pdus → IsGatheredPdu c.rest → is_whole_pdu c.rest ≡ false → Goes c before stream
cut-goes c before [] spells gathered unended = record {
  spelled = before;
  left = c.rest;
  all = ap (λ (x : List ℕ). before ++ x) (append-nil c.rest);
  spells = spells;
  is_left = left-open c.rest gathered unended;
}
cut-goes c before (byte ∷ stream) spells gathered unended =
    either_way (is_refused c.rest)
    (λ on.
    let long = refused-long c.rest on in
    let large : 8192 < lengths (c.rest ++ byte ∷ stream) = omega (arith, lengths-kept c.rest (byte ∷ stream) long.0, long.1) in
    let same = sym (fold-refused c (byte ∷ stream) on) in
    subst (λ (x : Cut). IsCutInto (before ++ (c.rest ++ byte ∷ stream)) x.pdus) same
    (record { spelled = before; left = c.rest ++ byte ∷ stream; all = refl; spells = spells; is_left = inr (inl large) }))
    (λ allowed.
    let grown : List ℕ = c.rest ++ byte ∷ [] in
    let now = gathered-more c.rest byte gathered allowed unended in
    let all = before ++ (c.rest ++ byte ∷ stream) in
    let grows : after_byte c byte ≡ with_rest c grown = rw allowed refl in
    either_way (is_whole_pdu grown)
    (λ on.
    let inner : Cut = record { pdus = c.pdus ++ pdu_of grown ∷ []; rest = [] } in
    let is : after_byte c byte ≡ inner = grows ∙ rw on refl in
    let more = cut-goes inner (before ++ grown) stream (spells-added before grown c.pdus (pdu_of grown) spells (whole-reads grown now on)) (gathered-short [] (omega arith)) (ne_eqb 0 (pdu_len []) (λ e. absurd (omega arith))) in
    let same : (before ++ grown) ++ stream ≡ before ++ (c.rest ++ byte ∷ stream) =
    append_assoc before grown stream ∙ ap (λ (x : List ℕ). before ++ x) (append_assoc c.rest (byte ∷ []) stream) in
    subst (λ (x : Cut). IsCutInto all (fold after_byte x stream).pdus) (sym is) (subst (λ (x : List ℕ). IsCutInto x (fold after_byte inner stream).pdus) same more))
    (λ off.
    let inner : Cut = record { pdus = c.pdus; rest = grown } in
    let is : after_byte c byte ≡ inner = grows ∙ rw off refl in
    let more = cut-goes inner before stream spells now off in
    let same : before ++ (grown ++ stream) ≡ before ++ (c.rest ++ byte ∷ stream) =
    ap (λ (x : List ℕ). before ++ x) (append_assoc c.rest (byte ∷ []) stream) in
    subst (λ (x : Cut). IsCutInto all (fold after_byte x stream).pdus) (sym is) (subst (λ (x : List ℕ). IsCutInto x (fold after_byte inner stream).pdus) same more)))

-- a stream is cut into PDUs that it spells
pub cut-spells : (stream : List ℕ) → IsCutInto stream (cut stream).pdus
cut-spells stream = cut-goes none_cut [] stream refl (gathered-short [] (omega arith)) (ne_eqb 0 (pdu_len []) (λ e. absurd (omega arith)))

-- a PDU's text stays unended up to its end, where it is whole
text-reached : (text : List ℕ) (p : PduParts) → IsPduText text p → StaysOpen [] text × (is_whole_pdu text ≡ true) × (pdu_of text ≡ p)
text-reached text p is =
    let head = head_one text (take 48 text) p refl is in
    let rest = rest_one text (drop 48 text) p refl is in
    let count : length text ≡ 48 + padded_len (length p.seg) =
    omega (arith, ap length is.spelled, length-append p.head (p.seg ++ is.padding), length-append p.seg is.padding, is.is.head, is.padded) in
    let len : lengths text ≡ length p.seg =
    ap lengths is.spelled ∙ lengths-kept p.head (p.seg ++ is.padding) (omega (arith, is.is.head)) ∙ is.is.len in
    let whole_len : pdu_len text ≡ length text = omega (arith, count, ap padded_len len) in
    let seg : take (lengths text) (drop 48 text) ≡ p.seg =
    ap (λ (n : ℕ). take n (drop 48 text)) len ∙ ap (λ (x : List ℕ). take (length p.seg) x) rest ∙ take_at p.seg is.padding (length p.seg) refl in
    let first : length (take 8 text) ≡ 8 = omega (arith, length-take 8 text, count) in
    let split : take 8 text ++ drop 8 text ≡ text = take-append-drop 8 text in
    let kept : lengths text ≡ lengths (take 8 text) = ap lengths (sym split) ∙ lengths-kept (take 8 text) (drop 8 text) (omega arith) in
    let allowed : is_refused (take 8 text) ≡ false = refused-not (take 8 text) (omega (arith, kept, len, is.is.short)) in
    let most : length (take 8 text ++ drop 8 text) ≤ pdu_len (take 8 text) = omega (arith, ap length split, whole_len, ap padded_len kept) in
    let opens = open-joined [] (take 8 text) (drop 8 text) (open-short [] (take 8 text) (omega arith)) (open-rest (take 8 text) (drop 8 text) (omega arith) allowed most) in (
      subst (λ (x : List ℕ). StaysOpen [] x) split opens,
      eq-eqb (length text) (pdu_len text) (sym whole_len),
      ap (λ (x : List ℕ). let q : PduParts = record { head = x; seg = take (lengths text) (drop 48 text) } in q) head
          ∙ ap (λ (x : List ℕ). let q : PduParts = record { head = p.head; seg = x } in q) seg,
    )

abbrev with_pdus : Cut → List PduParts → Cut
with_pdus c ps = record { pdus = c.pdus ++ ps; rest = [] }

fold-spelled : (c : Cut) (text : List ℕ) (ps : List PduParts) → c.rest ≡ [] → SpellsPdus text ps → fold after_byte c text ≡ with_pdus c ps
fold-spelled c text [] empty spells =
    ap (λ (x : List ℕ). fold after_byte c x) spells
    ∙ ap (λ (x : List PduParts). let r : Cut = record { pdus = x; rest = c.rest } in r) (sym (append-nil c.pdus))
    ∙ ap (λ (x : List ℕ). let r : Cut = record { pdus = c.pdus ++ []; rest = x } in r) empty
fold-spelled c text (p ∷ ps) empty (first, rest, is, head, tail) =
    let reads = text-reached first p head in
    let unended : is_whole_pdu c.rest ≡ false = ap is_whole_pdu empty ∙ ne_eqb 0 (pdu_len []) (λ e. absurd (omega arith)) in
    let stays : StaysOpen c.rest first = subst (λ (x : List ℕ). StaysOpen x first) (sym empty) reads.0 in
    let now : fold after_byte c first ≡ with_pdus c (p ∷ []) =
    fold-reached c first unended stays
    ∙ ap (λ (x : List ℕ). reached c (x ++ first)) empty
    ∙ rw (reads.1, reads.2) refl in
    let next : Cut = with_pdus c (p ∷ []) in
    ap (λ (x : List ℕ). fold after_byte c x) is
    ∙ fold-append after_byte c first rest
    ∙ ap (λ (x : Cut). fold after_byte x rest) now
    ∙ fold-spelled next rest ps refl tail
    ∙ ap (λ (x : List PduParts). let r : Cut = record { pdus = x; rest = [] } in r) (append_assoc c.pdus (p ∷ []) ps)

-- what is left gives no PDU
left-none : (c : Cut) (left : List ℕ) → c.rest ≡ [] → IsUnfinished left → (fold after_byte c left).pdus ≡ c.pdus
left-none c left empty is_left =
    let unended : is_whole_pdu c.rest ≡ false = ap is_whole_pdu empty ∙ ne_eqb 0 (pdu_len []) (λ e. absurd (omega arith)) in
    let reaches : (part : List ℕ) → StaysOpen [] part → fold after_byte c part ≡ reached c part = λ part stays.
    fold-reached c part unended (subst (λ (x : List ℕ). StaysOpen x part) (sym empty) stays) ∙ ap (λ (x : List ℕ). reached c (x ++ part)) empty in
    let done : (part : List ℕ) → StaysOpen [] part → is_whole_pdu part ≡ false → (fold after_byte c part).pdus ≡ c.pdus = λ part stays off.
    ap (λ (x : Cut). x.pdus) (reaches part stays) ∙ rw off (append-nil c.pdus) in
    elim (cases_lt (length left) 8) [
      | inl short ↦ done left (open-short [] left (omega arith)) (ne_eqb (length left) (pdu_len left) (λ e. absurd (omega arith)))
      | inr long ↦
          let first : List ℕ = take 8 left in
          let more : List ℕ = drop 8 left in
          let eight : length first ≡ 8 = omega (arith, length-take 8 left) in
          let split : first ++ more ≡ left = take-append-drop 8 left in
          let kept : lengths left ≡ lengths first = ap lengths (sym split) ∙ lengths-kept first more (omega arith) in
          let short : StaysOpen [] first = open-short [] first (omega arith) in
          let off : is_whole_pdu first ≡ false = ne_eqb (length first) (pdu_len first) (λ e. absurd (omega arith)) in
          either_way (is_refused first)
          (λ on.
          let stuck : Cut = record { pdus = c.pdus ++ []; rest = first } in
          let here : fold after_byte c first ≡ stuck = reaches first short ∙ rw off refl in
          ap (λ (x : List ℕ). (fold after_byte c x).pdus) (sym split)
          ∙ ap (λ (x : Cut). x.pdus) (fold-append after_byte c first more)
          ∙ ap (λ (x : Cut). (fold after_byte x more).pdus) here
          ∙ ap (λ (x : Cut). x.pdus) (fold-refused stuck more on)
          ∙ append-nil c.pdus)
          (λ allowed.
          let small : lengths first ≤ 8192 = allowed-small first (omega arith) allowed in
          let less : length left < pdu_len left = left-shorter left long (omega (arith, kept, small)) is_left in
          let most : length (first ++ more) ≤ pdu_len first = omega (arith, ap length split, less, ap padded_len kept) in
          let stays : StaysOpen [] left = subst (λ (x : List ℕ). StaysOpen [] x) split (open-joined [] first more short (open-rest first more (omega arith) allowed most)) in
          done left stays (ne_eqb (length left) (pdu_len left) (λ e. absurd (omega arith))))
    ]

-- what spells PDUs is cut into them
pub spelled-cut : (stream : List ℕ) (ps : List PduParts) → IsCutInto stream ps → (cut stream).pdus ≡ ps
spelled-cut stream ps is =
    let next : Cut = with_pdus none_cut ps in
    ap (λ (x : List ℕ). (cut x).pdus) is.all
    ∙ ap (λ (x : Cut). x.pdus) (fold-append after_byte none_cut is.spelled is.left)
    ∙ ap (λ (x : Cut). (fold after_byte x is.left).pdus) (fold-spelled none_cut is.spelled ps refl is.spells)
    ∙ left-none next is.left refl is.is_left
