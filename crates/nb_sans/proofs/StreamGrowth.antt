-- What a longer stream brings begins with what the shorter one did.
use Rattle.std.proofs.Common.{◌≡◌, ◌≤◌, ◌+◌, ◌-◌, ℕ, Bool, true, false, List, [], ◌∷◌, ◌++◌, length, take, drop, map, max, fold, refl, ap, ◌∙◌, sym, subst, append-nil, arith, if◌then◌else◌, leb}
use Rattle.std.proofs.lemmas.Bool.{le-leb, leb-true, leb-false}
use Rattle.std.proofs.lemmas.List.{map-append, take-append-le, length-append}
use Rattle.std.proofs.lemmas.List.Sums.{fold-append}
use Rattle.std.proofs.Math.Seq.{take-append-add}
use Rattle.nb_iscsipdu.specs.Streams.{Cut, none_cut, is_refused, is_whole_pdu, pdu_of, after_byte, cut}
use Rattle.nb_disk.specs.Histories.{DiskCall, came, asked, stream_ended}
use Rattle.nb_sans.specs.Sessions.{ReadTask, last_part, parts_of_cut, stream_parts, comes_from}
use Rattle.nb_sans.specs.SessionLaws.{AreAskedAfter}
use Rattle.nb_sans.proofs.Starts.{Starts, starts_itself, starts_then, starts_more, starts_after, starts_drop}

-- ---- the parts of a stream

cut_on : Cut → List ℕ → Bool → Bool → Cut
cut_on c bytes true whole = c
cut_on c bytes false true = record { pdus = c.pdus ++ pdu_of bytes ∷ []; rest = [] }
cut_on c bytes false false = record { pdus = c.pdus; rest = bytes }

cut_by : (c : Cut) (bytes : List ℕ) (r w : Bool)
    → (if r then c else (if w then (record { pdus = c.pdus ++ pdu_of bytes ∷ []; rest = [] }) else (record { pdus = c.pdus; rest = bytes }))) ≡ cut_on c bytes r w
unfolding cut_on
cut_by c bytes true w = refl
cut_by c bytes false true = refl
cut_by c bytes false false = refl

none_after : (rec : ℕ) (rest : List ℕ) → is_refused rest ≡ false → last_part rec rest ≡ []
none_after rec rest e = ap (λ b. if b then stream_ended rec ∷ [] else []) e

parts_by : (rec : ℕ) (c : Cut) (bytes : List ℕ) (r w : Bool) → is_refused c.rest ≡ r → Starts (parts_of_cut rec c) (parts_of_cut rec (cut_on c bytes r w))
unfolding cut_on
parts_by rec c bytes true w e = starts_itself (parts_of_cut rec c)
parts_by rec c bytes false true e = record {
  rest = came rec (pdu_of bytes) ∷ [];
  is = append-nil (map (came rec) (c.pdus ++ pdu_of bytes ∷ [])) ∙ map-append (came rec) c.pdus (pdu_of bytes ∷ [])
      ∙ ap (λ (l : List DiskCall). l ++ came rec (pdu_of bytes) ∷ []) (sym (ap (λ (l : List DiskCall). map (came rec) c.pdus ++ l) (none_after rec c.rest e) ∙ append-nil (map (came rec) c.pdus)));
}
parts_by rec c bytes false false e = record {
  rest = last_part rec bytes;
  is = ap (λ (l : List DiskCall). l ++ last_part rec bytes) (sym (ap (λ (l : List DiskCall). map (came rec) c.pdus ++ l) (none_after rec c.rest e) ∙ append-nil (map (came rec) c.pdus)));
}

parts_on : (rec : ℕ) (c : Cut) (byte : ℕ) → Starts (parts_of_cut rec c) (parts_of_cut rec (after_byte c byte))
parts_on rec c byte =
    let bytes : List ℕ = c.rest ++ byte ∷ [] in
    subst (λ (d : Cut). Starts (parts_of_cut rec c) (parts_of_cut rec d)) (sym (cut_by c bytes (is_refused c.rest) (is_whole_pdu bytes))) (parts_by rec c bytes (is_refused c.rest) (is_whole_pdu bytes) refl)

parts_fold : (rec : ℕ) (later : List ℕ) (c : Cut) → Starts (parts_of_cut rec c) (parts_of_cut rec (fold after_byte c later))
parts_fold rec [] c = starts_itself (parts_of_cut rec c)
parts_fold rec (byte ∷ later) c =
    starts_then (parts_of_cut rec c) (parts_of_cut rec (after_byte c byte)) (parts_of_cut rec (fold after_byte (after_byte c byte) later)) (parts_on rec c byte) (parts_fold rec later (after_byte c byte))

pub parts_grow : (rec : ℕ) (come later : List ℕ) → Starts (stream_parts rec come) (stream_parts rec (come ++ later))
parts_grow rec come later = subst (λ (d : Cut). Starts (stream_parts rec come) (parts_of_cut rec d)) (sym (fold-append after_byte none_cut come later)) (parts_fold rec later (cut come))

-- ---- its PDUs

pdus_by : (c : Cut) (bytes : List ℕ) (r w : Bool) → Starts c.pdus (cut_on c bytes r w).pdus
unfolding cut_on
pdus_by c bytes true w = starts_itself c.pdus
pdus_by c bytes false true = record { rest = pdu_of bytes ∷ []; is = refl }
pdus_by c bytes false false = starts_itself c.pdus

pdus_fold : (later : List ℕ) (c : Cut) → Starts c.pdus (fold after_byte c later).pdus
pdus_fold [] c = starts_itself c.pdus
pdus_fold (byte ∷ later) c =
    let bytes : List ℕ = c.rest ++ byte ∷ [] in
    let one : Starts c.pdus (after_byte c byte).pdus = subst (λ (d : Cut). Starts c.pdus d.pdus) (sym (cut_by c bytes (is_refused c.rest) (is_whole_pdu bytes))) (pdus_by c bytes (is_refused c.rest) (is_whole_pdu bytes)) in
    starts_then c.pdus (after_byte c byte).pdus (fold after_byte (after_byte c byte) later).pdus one (pdus_fold later (after_byte c byte))

pub pdus_grow : (come later : List ℕ) → Starts (cut come).pdus (cut (come ++ later)).pdus
pdus_grow come later = subst (λ (d : Cut). Starts (cut come).pdus d.pdus) (sym (fold-append after_byte none_cut come later)) (pdus_fold later (cut come))

-- bytes with which no PDU begins stay
refused_fold : (later : List ℕ) (c : Cut) → is_refused c.rest ≡ true → fold after_byte c later ≡ c
refused_fold [] c e = refl
refused_fold (byte ∷ later) c e = rw e (refused_fold later c e)

pub cut_stays : (come later : List ℕ) → is_refused (cut come).rest ≡ true → cut (come ++ later) ≡ cut come
cut_stays come later e = fold-append after_byte none_cut come later ∙ refused_fold later (cut come) e

pub refused_stays : (come later : List ℕ) → is_refused (cut come).rest ≡ true → is_refused (cut (come ++ later)).rest ≡ true
refused_stays come later e = ap (λ (d : Cut). is_refused d.rest) (cut_stays come later e) ∙ e

-- ---- what comes to the drive

-- the first of these was asked once all this had come
abbrev pub FirstIsLater : List ℕ → List (ReadTask × ℕ) → Type 0
FirstIsLater come [] = Unit {0}
FirstIsLater come (t ∷ tasks) = length come ≤ t.1

pub first_is_later : (come : List ℕ) (tasks : List (ReadTask × ℕ)) → AreAskedAfter come tasks → FirstIsLater come tasks
first_is_later come [] all = tt
first_is_later come (t ∷ tasks) all = all.0

-- what stands before a task that was asked later
later_part : (come later : List ℕ) (place : ℕ) → length come ≤ place → take place (come ++ later) ≡ come ++ take (place - length come) later
later_part come later place long =
    let same : place ≡ length come + (place - length come) = omega arith in
    ap (λ n. take n (come ++ later)) same ∙ take-append-add come later (place - length come)

module _ (rec : ℕ) (come later : List ℕ) where
  comes_later : (done : ℕ) (tasks : List (ReadTask × ℕ)) → FirstIsLater come tasks → Starts (drop done (stream_parts rec come)) (comes_from rec (come ++ later) done tasks)
  comes_later done [] first = starts_drop done (stream_parts rec come) (stream_parts rec (come ++ later)) (parts_grow rec come later)
  comes_later done (t ∷ tasks) first = by (leb t.1 (length (come ++ later)))
    where
      by : (b : Bool) → Starts (drop done (stream_parts rec come))
          (if b then (drop done (stream_parts rec (take t.1 (come ++ later))) ++ asked t.0.lba t.0.blocks ∷ comes_from rec (come ++ later) (max done (length (stream_parts rec (take t.1 (come ++ later))))) tasks) else drop done (stream_parts rec (come ++ later)))
      by true =
          let grows : Starts (stream_parts rec come) (stream_parts rec (take t.1 (come ++ later))) =
          subst (λ (l : List ℕ). Starts (stream_parts rec come) (stream_parts rec l)) (sym (later_part come later t.1 first)) (parts_grow rec come (take (t.1 - length come) later)) in
          starts_more (drop done (stream_parts rec come)) (drop done (stream_parts rec (take t.1 (come ++ later)))) (asked t.0.lba t.0.blocks ∷ comes_from rec (come ++ later) (max done (length (stream_parts rec (take t.1 (come ++ later))))) tasks)
          (starts_drop done (stream_parts rec come) (stream_parts rec (take t.1 (come ++ later))) grows)
      by false = starts_drop done (stream_parts rec come) (stream_parts rec (come ++ later)) (parts_grow rec come later)

  pub comes_grow : (done : ℕ) (tasks more : List (ReadTask × ℕ)) → FirstIsLater come more → Starts (comes_from rec come done tasks) (comes_from rec (come ++ later) done (tasks ++ more))
  comes_grow done [] more first = comes_later done more first
  comes_grow done (t ∷ tasks) more first = by (comes_grow (max done (length (stream_parts rec (take t.1 come)))) tasks more first) (leb t.1 (length come)) refl
    where
      by : Starts (comes_from rec come (max done (length (stream_parts rec (take t.1 come)))) tasks) (comes_from rec (come ++ later) (max done (length (stream_parts rec (take t.1 come)))) (tasks ++ more))
          → (b : Bool) → leb t.1 (length come) ≡ b
          → Starts (if b then (drop done (stream_parts rec (take t.1 come)) ++ asked t.0.lba t.0.blocks ∷ comes_from rec come (max done (length (stream_parts rec (take t.1 come)))) tasks) else drop done (stream_parts rec come))
          (comes_from rec (come ++ later) done (t ∷ (tasks ++ more)))
      by goes true e =
          let near : t.1 ≤ length come = leb-true t.1 (length come) e in
          let here : leb t.1 (length (come ++ later)) ≡ true = le-leb t.1 (length (come ++ later)) (omega (arith, length-append come later)) in
          let same : take t.1 (come ++ later) ≡ take t.1 come = take-append-le t.1 come later near in
          let parts = stream_parts rec (take t.1 come) in
          let ask = asked t.0.lba t.0.blocks in
          let shorter = comes_from rec come (max done (length (stream_parts rec (take t.1 come)))) tasks in
          let longer = comes_from rec (come ++ later) (max done (length (stream_parts rec (take t.1 come)))) (tasks ++ more) in
          rw (here, same) (starts_after (drop done parts) (ask ∷ shorter) (ask ∷ longer) (starts_after (ask ∷ []) shorter longer goes))
      by goes false e = comes_later done (t ∷ (tasks ++ more)) (let far = leb-false t.1 (length come) e in omega arith)
