-- What a line over memory gives, and notes.
use Rattle.std.proofs.Common.{◌≡◌, ℕ, ◌+◌, ◌-◌, ◌≤◌, List, [], ◌∷◌, ◌++◌, length, take, drop, Option, Some, None, refl, sym, ap, ◌∙◌, arith}
use Rattle.std.specs.Prelude.{IfSome}
use Rattle.std.proofs.lemmas.List.{take_all, take-append-drop, drop-drop, length-drop}
use Rattle.nb_record.specs.declared.notes.ReadNote.{ReadNote}
use Rattle.nb_record.specs.declared.notes.ReadNotes.{ReadNotes}
use Rattle.nb_record.specs.Notes.{known_reads, IsAdded}
use Rattle.nb_record.specs.Outside.{Outside, IsNoted}

-- the first bytes, and what is left after them
given_here : (input bytes : List ℕ) (at n : ℕ) → bytes ≡ take n (drop at input) → drop at input ≡ bytes ++ drop (at + n) input
given_here input bytes at n e =
    sym (take-append-drop n (drop at input)) ∙ ap (λ (t : List ℕ). t ++ drop n (drop at input)) (sym e) ∙ ap (λ (t : List ℕ). bytes ++ t) (drop-drop n at input)

rest_is : (xs : List ℕ) (at : ℕ) → take (length xs - at) (drop at xs) ≡ drop at xs
rest_is xs at = take_all (length xs - at) (drop at xs) (omega (arith, length-drop at xs))

-- the same of an input and a place that stayed, where a slice of the input is given
pub given_front : (input input' slice bytes : List ℕ) (at at' n : ℕ) → input' ≡ input → at' ≡ at → slice ≡ input' → bytes ≡ take n (take (length slice - at') (drop at' slice)) →
    drop at input ≡ bytes ++ drop (at' + n) input'
given_front input input' slice bytes at at' n same there is e =
    let front : bytes ≡ take n (drop at' input') = e ∙ ap (λ (xs : List ℕ). take n xs) (rest_is slice at') ∙ ap (λ (xs : List ℕ). take n (drop at' xs)) is in
    ap (λ (xs : List ℕ). drop at xs) (sym same) ∙ ap (λ (k : ℕ). drop k input') (sym there) ∙ given_here input' bytes at' n front

pub no_less : (a b : ℕ) → b ≡ a → a ≤ b
no_less a b e = omega (arith, e)

weaker_some : {A : Type 0} (P Q : A → Type 0) (o : Option A) → ((x : A) → P x → Q x) → IfSome o P → IfSome o Q
weaker_some P Q None h p = tt
weaker_some P Q (Some x) h p = h x p

same_note : (n : ReadNote) (left taken most : ℕ) → n.left ≡ left → n.taken ≡ taken → n.most ≡ most → n ≡ record { left = left; taken = taken; most = most }
same_note n left taken most a b c = rw (← a, ← b, ← c) refl

-- a note that is added is of the outside as it stands
pub added_noted : (most : ℕ) (before : Outside) (note : ReadNote) (old new : ReadNotes) (left taken : List ℕ) → before.left ≡ Some left → before.taken ≡ Some taken → before.reads ≡ known_reads old →
    note.left ≡ length left → note.taken ≡ length taken → note.most ≡ most → IfSome (known_reads new) (IsAdded (Some note) old) → IfSome (known_reads new) (IsNoted most before)
added_noted most before note old new left taken l t r a b c h =
    weaker_some (IsAdded (Some note) old) (IsNoted most before) (known_reads new) (λ reads d.
    let read : d.read ≡ note = cc in
    let it : d.read ≡ record { left = length left; taken = length taken; most = most } = read ∙ same_note note (length left) (length taken) most a b c in
    record {
      left = left;
      left_is = l;
      taken = taken;
      taken_is = t;
      reads = d.reads;
      reads_are = r ∙ d.were;
      noted = d.are ∙ ap (λ (n : ReadNote). d.reads ++ n ∷ []) it;
    }) h
