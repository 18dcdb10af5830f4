-- Each read is in its turn, and stays so as a run goes on.
use Rattle.std.proofs.Common.{◌≡◌, ℕ, ◌+◌, ◌≤◌, List, [], ◌∷◌, ◌++◌, length, Option, Some, None, refl, sym, ◌∙◌, ap, subst, arith, append-nil, append_assoc, length-append}
use Rattle.std.specs.Prelude.{IfSome}
use Rattle.std.proofs.lemmas.List.Elements.{All-nil, All-cons, All-append, All-weaker}
use Rattle.nb_defs.specs.Records.{In, in_texts, IsPartial, Out, step, out_texts}
use Rattle.nb_traced.specs.Plain.{without_graph}
use Rattle.nb_record.specs.declared.notes.ReadNote.{ReadNote}
use Rattle.nb_record.specs.Outside.{Outside, Gave, Took, Attaches, IsNoted, NotesRead, AsksPiece, Passes, MOST_READ}
use Rattle.nb_machine.specs.Courses.{Standing, ready, running, waiting, reaching, yielded, handing, left, handed_off, stopped, Progress, Course}
use Rattle.nb_boot.specs.Following.{StepGoesOn}
use Rattle.nb_boot.specs.InTurn.{MayGoOn, EndsStep, IsInTurn, NewReads, OfEachRead, AreInTurn}
use Rattle.nb_boot.specs.Going.{TookTurn}

-- a step that is under way isn't between two
pub not_both : (p : Standing) → StepGoesOn p → MayGoOn p → ⊥
not_both ready u b = u
not_both (reaching s inner outer next) u b = b
not_both (running s inner outer) u b = b
not_both (waiting s w) u b = u
not_both (yielded s inner outer) u b = u
not_both (handing s rest) u b = b
not_both (left s [] cause) u b = u
not_both (left s (inner ∷ outer) cause) u b = b
not_both (handed_off s) u b = u
not_both (stopped s) u b = u

-- what is known of a value that is there
if_some : {A : Type 0} (P : A → Type 0) (o : Option A) → ((x : A) → o ≡ Some x → P x) → IfSome o P
if_some P None h = tt
if_some P (Some x) h = h x refl

of_some : {A : Type 0} (P : A → Type 0) (o : Option A) (x : A) → o ≡ Some x → IfSome o P → P x
of_some P o x e h = let there : IfSome (Some x) P = subst (λ z. IfSome z P) e h in there

-- no read was asked yet
pub no_reads : (P : ReadNote → Type 0) (now : Outside) → OfEachRead P now now
no_reads P now = if_some (NewReads P now) now.reads (λ reads e. record { known = reads; were = e; asked = []; are = sym (append-nil reads); each = All-nil P })

-- what holds of each, if less does
pub reads_weaker : (P Q : ReadNote → Type 0) (before now : Outside) → ((read : ReadNote) → P read → Q read) → OfEachRead P before now → OfEachRead Q before now
reads_weaker P Q before now weaker h = if_some (NewReads Q before) now.reads (λ reads e.
    let t = of_some (NewReads P before) now.reads reads e h in
    record { known = t.known; were = t.were; asked = t.asked; are = t.are; each = All-weaker P Q weaker t.asked t.each })

-- no read was asked
pub reads_stay : (P : ReadNote → Type 0) (first before now : Outside) → now.reads ≡ before.reads → OfEachRead P first before → OfEachRead P first now
reads_stay P first before now same h = subst (λ o. IfSome o (NewReads P first)) (sym same) h

-- the same, seen from before the reads of nothing
pub reads_from : (P : ReadNote → Type 0) (first mid after : Outside) → mid.reads ≡ first.reads → OfEachRead P mid after → OfEachRead P first after
reads_from P first mid after same h = if_some (NewReads P first) after.reads (λ reads e.
    let t = of_some (NewReads P mid) after.reads reads e h in
    record { known = t.known; were = sym same ∙ t.were; asked = t.asked; are = t.are; each = t.each })

-- one read more
pub reads_on : (P : ReadNote → Type 0) (most : ℕ) (first before now : Outside) → NotesRead most before now →
    ((reads : List ReadNote) (n : IsNoted most before reads) → P (record { left = length n.left; taken = length n.taken; most = most })) → OfEachRead P first before → OfEachRead P first now
reads_on P most first before now noted one h = if_some (NewReads P first) now.reads (λ reads e.
    let n = of_some (IsNoted most before) now.reads reads e noted in
    let t = of_some (NewReads P first) before.reads n.reads n.reads_are h in
    let note : ReadNote = record { left = length n.left; taken = length n.taken; most = most } in
    record {
      known = t.known;
      were = t.were;
      asked = t.asked ++ note ∷ [];
      are = n.noted ∙ ap (λ (xs : List ReadNote). xs ++ note ∷ []) t.are ∙ append_assoc t.known t.asked (note ∷ []);
      each = All-append P t.asked (note ∷ []) t.each (All-cons P note [] (one reads n) (All-nil P));
    })

-- more is put after what ends a step: nothing yet, or the next STEP
ends_on : (later added : List Out) → EndsStep later → (later ≡ [] → EndsStep added) → EndsStep (later ++ added)
ends_on [] added h k = k refl
ends_on (o ∷ os) added h k = h

-- a read stays in its turn where more records are used and written
abbrev one_grows : (first : Outside) (ins used : List In) (outs added : List Out) (read : ReadNote) (t : IsInTurn first ins outs read) → (t.later ≡ [] → EndsStep added) → IsInTurn first (ins ++ used) (outs ++ added) read
one_grows first ins used outs added read t k = record {
  used = t.used;
  unused = t.unused ++ used;
  ins_are = ap (λ xs. xs ++ used) t.ins_are ∙ append_assoc t.used t.unused used;
  put = t.put;
  later = t.later ++ added;
  outs_are = ap (λ xs. xs ++ added) t.outs_are ∙ append_assoc t.put t.later added;
  whole = ends_on t.later added t.whole k;
  progress = t.progress;
  course = t.course;
  between = t.between;
  held = t.held;
  partial = t.partial;
  ahead = t.ahead;
  input = t.input;
  left_is = t.left_is;
  gone = t.gone;
  output = t.output;
  taken_is = t.taken_is;
  few = t.few;
}

none_before : (xs ys : List Out) → xs ++ ys ≡ [] → xs ≡ []
none_before [] ys e = refl
none_before (x ∷ xs) ys e = absurd (omega (arith, ap length e))

-- where a step is under way some of it was put since the read
pub turn_moves : (first : Outside) (ins : List In) (outs added : List Out) (m m' : Progress) (read : ReadNote) → StepGoesOn m.standing → TookTurn m first ins outs read → TookTurn m' first (ins ++ []) (outs ++ added) read
turn_moves first ins outs added m m' read way t =
    let some : t.turn.later ≡ [] → ⊥ = λ e. not_both m.standing way (t.rests e) in
    record {
      turn = one_grows first ins [] outs added read t.turn (λ e. absurd (some e));
      rests = λ e. absurd (some (none_before t.turn.later added e));
    }

-- a record is used, and its STEP comes first
pub turn_steps : (first : Outside) (ins used : List In) (outs added more : List Out) (number : ℕ) (m m' : Progress) (read : ReadNote) → added ≡ step number ∷ more → TookTurn m first ins outs read →
    TookTurn m' first (ins ++ used) (outs ++ added) read
turn_steps first ins used outs added more number m m' read e t = record {
  turn = one_grows first ins used outs added read t.turn (λ _. subst EndsStep (sym e) tt);
  rests = λ none. absurd (omega (arith, ap length none, length-append t.turn.later added, ap length e));
}

-- what was left before, where it is told what is left
left_before : (old now : Option (List ℕ)) (read ahead : List ℕ) → Gave old now read → now ≡ Some ahead → old ≡ Some (read ++ ahead)
left_before old None read ahead g e = let no : None ≡ Some ahead = e in cc
left_before None (Some y) read ahead g e = absurd g
left_before (Some x) (Some y) read ahead g e =
    let same : y ≡ ahead = cc in ap (λ (z : List ℕ). Some z) (g ∙ ap (λ (z : List ℕ). read ++ z) same)

-- what was taken before, where it is told what was taken
taken_before : (old now : Option (List ℕ)) (written taken : List ℕ) → Took old now written → now ≡ Some taken → (gone : List ℕ) × (old ≡ Some gone) × (taken ≡ gone ++ written)
taken_before old None written taken t e = let no : None ≡ Some taken = e in cc
taken_before None (Some y) written taken t e = absurd t
taken_before (Some x) (Some y) written taken t e = let same : y ≡ taken = cc in (x, refl, sym same ∙ t)

-- a read between two steps, where all that was put was taken
one_in_turn : (ins : List In) (outs : List Out) (held written : List ℕ) (first before : Outside) (m : Progress) (most : ℕ) → most ≤ MOST_READ →
    Passes first before (in_texts ins ++ held) written → out_texts outs ≡ written → Course ins (without_graph outs) m → MayGoOn m.standing → IsPartial held →
    (reads : List ReadNote) (n : IsNoted most before reads) → TookTurn m first ins outs (record { left = length n.left; taken = length n.taken; most = most })
one_in_turn ins outs held written first before m most few p put course rests partial reads n =
    let (gone, output, taken) = taken_before first.taken before.taken written n.taken p.took n.taken_is in
    record {
      turn = record {
        used = ins;
        unused = [];
        ins_are = sym (append-nil ins);
        put = outs;
        later = [];
        outs_are = sym (append-nil outs);
        whole = tt;
        progress = m;
        course = course;
        between = rests;
        held = held;
        partial = partial;
        ahead = n.left;
        input = left_before first.left before.left (in_texts ins ++ held) n.left p.gave n.left_is;
        left_is = refl;
        gone = gone;
        output = output;
        taken_is = ap length taken ∙ length-append gone written ∙ ap (λ (xs : List ℕ). length gone + length xs) (sym put);
        few = few;
      };
      rests = λ _. rests;
    }

-- one read more, between two steps
pub turns_on : (ins : List In) (outs : List Out) (held written : List ℕ) (first before now : Outside) (m : Progress) → AsksPiece before now →
    Passes first before (in_texts ins ++ held) written → out_texts outs ≡ written → Course ins (without_graph outs) m → MayGoOn m.standing → IsPartial held →
    OfEachRead (TookTurn m first ins outs) first before → OfEachRead (TookTurn m first ins outs) first now
turns_on ins outs held written first before now m a p put course rests partial h =
    reads_on (TookTurn m first ins outs) a.most first before now a.noted (one_in_turn ins outs held written first before m a.most a.few p put course rests partial) h

-- what is known at the end of a run
pub turns_end : (first before now : Outside) (ins : List In) (outs : List Out) (m : Progress) → now.reads ≡ before.reads → OfEachRead (TookTurn m first ins outs) first before → AreInTurn first now ins outs
turns_end first before now ins outs m same h =
    reads_stay (IsInTurn first ins outs) first before now same (reads_weaker (TookTurn m first ins outs) (IsInTurn first ins outs) first before (λ read t. t.turn) h)

abbrev one_from : (first mid : Outside) (ins : List In) (outs : List Out) → Attaches first mid → (read : ReadNote) → IsInTurn mid ins outs read → IsInTurn first ins outs read
one_from first mid ins outs a read t = record {
  used = t.used;
  unused = t.unused;
  ins_are = t.ins_are;
  put = t.put;
  later = t.later;
  outs_are = t.outs_are;
  whole = t.whole;
  progress = t.progress;
  course = t.course;
  between = t.between;
  held = t.held;
  partial = t.partial;
  ahead = t.ahead;
  input = sym a.left_stays ∙ t.input;
  left_is = t.left_is;
  gone = t.gone;
  output = sym a.taken_stays ∙ t.output;
  taken_is = t.taken_is;
  few = t.few;
}

-- the same, seen from before the attaching
pub turns_from : (first mid after : Outside) (ins : List In) (outs : List Out) → Attaches first mid → AreInTurn mid after ins outs → AreInTurn first after ins outs
turns_from first mid after ins outs a h =
    reads_from (IsInTurn first ins outs) first mid after a.reads_stay (reads_weaker (IsInTurn mid ins outs) (IsInTurn first ins outs) mid after (one_from first mid ins outs a) h)
