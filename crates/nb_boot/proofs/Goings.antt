-- How a run goes on, reads, and is written out.
use Rattle.std.proofs.Common.{◌≡◌, ◌≤◌, lit≤, ℕ, ◌+◌, true, false, inl, inr, List, [], ◌∷◌, ◌++◌, length, refl, sym, ◌∙◌, ap, subst, arith, append-nil, append_assoc, length-append}
use Rattle.std.proofs.lemmas.Grind.{flat_map-append}
use Rattle.nb_defs.specs.Records.{In, in_text, in_texts, IsPartial, Out, out_text, out_texts}
use Rattle.nb_record.specs.declared.notes.ReadNote.{ReadNote}
use Rattle.nb_record.specs.Outside.{Outside, Passes, AsksPiece}
use Rattle.nb_record.specs.Logged.{Logged}
use Rattle.nb_record.proofs.OutsideLemmas.{Passes-nothing, Passes-then}
use Rattle.nb_runner.proofs.Puts.{is_either}
use Rattle.nb_traced.specs.Plain.{without_graph}
use Rattle.nb_machine.specs.Courses.{Progress, nowhere}
use Rattle.nb_traced.specs.Entries.{IsOutside}
use Rattle.nb_traced.specs.Holdings.{Holdings, no_holdings}
use Rattle.nb_traced.specs.Outputs.{Arrived, at_first}
use Rattle.nb_client.specs.Snapshots.{Snapshot, StandsForProgress, FitsOutput}
use Rattle.nb_client.specs.Progressing.{Advances, AdvancesFrom, BeginsStep, IsAtWork, UsesOrMoves}
use Rattle.nb_boot.specs.InTurn.{MayGoOn, OfEachRead}
use Rattle.nb_boot.specs.Following.{FollowsMachine, nothing, uses, goes_on}
use Rattle.nb_boot.specs.Going.{TookTurn, Going, Goes, Wrote, HasNumber}
use Rattle.nb_boot.proofs.Following.{follows_course, proceeds_count, step_counts}
use Rattle.nb_boot.proofs.Standing.{stands_used, stands_at_work}
use Rattle.nb_traced.proofs.Following.{rests as none_runs}
use Rattle.nb_boot.proofs.InTurns.{no_reads, reads_weaker, reads_stay, turn_moves, turn_steps, turns_on}

-- a list without elements
no_length : (xs : List ℕ) → length xs ≡ 0 → xs ≡ []
no_length [] h = refl
no_length (x ∷ xs) h = absurd (omega arith)

-- what the log has after what was written, where a put is whole
join_whole : (outs added : List Out) (written old part lost : List ℕ) → out_texts outs ≡ (written ++ old) ++ [] → out_texts added ≡ part ++ lost →
    out_texts (outs ++ added) ≡ (written ++ (old ++ part)) ++ lost
join_whole outs added written old part lost h g =
    flat_map-append out_text outs added
    ∙ ap (λ t. t ++ out_texts added) (h ∙ append-nil (written ++ old))
    ∙ ap (λ t. (written ++ old) ++ t) g
    ∙ sym (append_assoc (written ++ old) part lost)
    ∙ ap (λ t. t ++ lost) (append_assoc written old part)

join_short : (outs added : List Out) (written old lost : List ℕ) → out_texts outs ≡ (written ++ old) ++ lost →
    out_texts (outs ++ added) ≡ (written ++ old) ++ (lost ++ out_texts added)
join_short outs added written old lost h =
    flat_map-append out_text outs added ∙ ap (λ t. t ++ out_texts added) h ∙ append_assoc (written ++ old) lost (out_texts added)

-- what was put whole lost nothing
end_of_front : (added : List Out) (part lost old new : List ℕ) → new ≡ old ++ out_texts added → new ≡ old ++ part → out_texts added ≡ part ++ lost → lost ≡ []
end_of_front added part lost old new whole front fronts =
    no_length lost (omega (arith, ap length whole, ap length front, ap length fronts, length-append old (out_texts added), length-append old part, length-append part lost))

-- what was read spells the records used and those used then
read_again : (ins used : List In) (rest : List ℕ) → in_texts ins ++ (in_texts used ++ rest) ≡ in_texts (ins ++ used) ++ rest
read_again ins used rest = sym (append_assoc (in_texts ins) (in_texts used) rest) ∙ ap (λ t. t ++ rest) (sym (flat_map-append in_text ins used))

-- it numbers the record with 32 bits
steps_few : (used : List In) (outs : List Out) (m m' : Progress) → UsesOrMoves used m outs m' → HasNumber used m.used → m.used ≤ 4294967295 → m'.used ≤ 4294967295
steps_few [] outs m m' s number few = subst (λ n. n ≤ 4294967295) (sym (proceeds_count m outs m' s)) few
steps_few (r ∷ []) outs m m' s number few = omega (arith, step_counts m r outs m' s, number)
steps_few (r ∷ q ∷ rs) outs m m' s number few = absurd s

-- without a record a step is under way
abbrev pub IsBusy : List In → Snapshot → Type 0
IsBusy [] c = IsAtWork c.stage
IsBusy (r ∷ rs) c = Unit {0}

-- what follows the machine goes on by a step
follows_on : (used ins : List In) (outs added : List Out) (c : Snapshot) (m m' : Progress) (so_far came : List Arrived) → FollowsMachine ins outs m so_far → IsOutside outs → StandsForProgress c m → IsBusy used c →
    UsesOrMoves used m (without_graph added) m' → BeginsStep used m added came → FollowsMachine (ins ++ used) (outs ++ added) m' (so_far ++ came)
follows_on [] ins outs added c m m' so_far came f still st busy s b =
    subst (λ xs. FollowsMachine xs (outs ++ added) m' (so_far ++ came)) (sym (append-nil ins))
    (subst (λ xs. FollowsMachine ins (outs ++ added) m' (so_far ++ xs)) (sym b)
    (subst (λ xs. FollowsMachine ins (outs ++ added) m' xs) (sym (append-nil so_far)) (goes_on ins outs m so_far added m' f (stands_at_work c m st busy) s)))
follows_on (r ∷ []) ins outs added c m m' so_far came f still st busy s b = uses ins outs m so_far r added m' came f still s b
follows_on (r ∷ q ∷ rs) ins outs added c m m' so_far came f still st busy s b = absurd s

-- each read stays in its turn
turn_grows : (used ins : List In) (outs added : List Out) (first : Outside) (c : Snapshot) (m m' : Progress) (came : List Arrived) → StandsForProgress c m → IsBusy used c → BeginsStep used m added came → (read : ReadNote) →
    TookTurn m first ins outs read → TookTurn m' first (ins ++ used) (outs ++ added) read
turn_grows [] ins outs added first c m m' came st busy b read t = turn_moves first ins outs added m m' read (stands_at_work c m st busy) t
turn_grows (r ∷ []) ins outs added first c m m' came st busy b read t = turn_steps first ins (r ∷ []) outs added b.0 (m.used + 1) m m' read b.1 t
turn_grows (r ∷ q ∷ rs) ins outs added first c m m' came st busy b read t = absurd b

turns_grow : (used ins : List In) (outs added : List Out) (first now : Outside) (c : Snapshot) (m m' : Progress) (came : List Arrived) → StandsForProgress c m → IsBusy used c → BeginsStep used m added came →
    OfEachRead (TookTurn m first ins outs) first now → OfEachRead (TookTurn m' first (ins ++ used) (outs ++ added)) first now
turns_grow used ins outs added first now c m m' came st busy b h =
    reads_weaker (TookTurn m first ins outs) (TookTurn m' first (ins ++ used) (outs ++ added)) first now (turn_grows used ins outs added first c m m' came st busy b) h

grows_whole : (used ins : List In) (rest : List ℕ) (first now : Outside) (old new : Logged) (c c' : Snapshot) (m : Progress) (p : Holdings) → old.is_short ≡ false → AdvancesFrom used m c c' old new → IsBusy used c → HasNumber used c.used →
    StandsForProgress c m → FitsOutput c p → Going ins (in_texts used ++ rest) first now old m p → Goes (ins ++ used) rest first now new c'
grows_whole used ins rest first now old new c c' m p e g busy number st fit r =
    let none : r.lost ≡ [] = r.whole e in
    let start : out_texts r.outs ≡ (r.written ++ old.bytes) ++ [] = rw (← none) r.texts in
    let l = g.leads in
    let b = g.begins in
    let o = g.traces r.outs p r.came r.traced fit in
    record {
      progress = l.progress;
      holdings = o.holdings;
      stands = l.stands;
      fits = o.fits;
      going = record {
        outs = r.outs ++ g.added;
        came = r.came ++ g.came;
        written = r.written;
        lost = g.puts.lost;
        passes = subst (λ xs. Passes first now xs r.written) (read_again ins used rest) r.passes;
        follows = follows_on used ins r.outs g.added c m l.progress r.came g.came r.follows (none_runs r.outs p r.came r.traced) st busy l.steps b;
        traced = o.traced;
        texts = rw g.puts.appended (join_whole r.outs g.added r.written old.bytes g.puts.part g.puts.lost start g.puts.fronts);
        few = steps_few used (without_graph g.added) m l.progress l.steps (subst (λ n. HasNumber used n) (sym (stands_used c m st)) number) r.few;
        in_turn = turns_grow used ins r.outs g.added first now c m l.progress g.came st busy b r.in_turn;
        whole = λ f. end_of_front g.added g.puts.part g.puts.lost old.bytes new.bytes (g.puts.whole f).1 g.puts.appended g.puts.fronts;
      };
    }

grows_short : (used ins : List In) (rest : List ℕ) (first now : Outside) (old new : Logged) (c c' : Snapshot) (m : Progress) (p : Holdings) → old.is_short ≡ true → AdvancesFrom used m c c' old new → IsBusy used c → HasNumber used c.used →
    StandsForProgress c m → FitsOutput c p → Going ins (in_texts used ++ rest) first now old m p → Goes (ins ++ used) rest first now new c'
grows_short used ins rest first now old new c c' m p e g busy number st fit r =
    let same : new ≡ old = g.puts.stays e in
    let short : new.is_short ≡ true = ap (λ (l : Logged). l.is_short) same ∙ e in
    let l = g.leads in
    let b = g.begins in
    let o = g.traces r.outs p r.came r.traced fit in
    record {
      progress = l.progress;
      holdings = o.holdings;
      stands = l.stands;
      fits = o.fits;
      going = record {
        outs = r.outs ++ g.added;
        came = r.came ++ g.came;
        written = r.written;
        lost = r.lost ++ out_texts g.added;
        passes = subst (λ xs. Passes first now xs r.written) (read_again ins used rest) r.passes;
        follows = follows_on used ins r.outs g.added c m l.progress r.came g.came r.follows (none_runs r.outs p r.came r.traced) st busy l.steps b;
        traced = o.traced;
        texts = rw (ap (λ (l : Logged). l.bytes) same) (join_short r.outs g.added r.written old.bytes r.lost r.texts);
        few = steps_few used (without_graph g.added) m l.progress l.steps (subst (λ n. HasNumber used n) (sym (stands_used c m st)) number) r.few;
        in_turn = turns_grow used ins r.outs g.added first now c m l.progress g.came st busy b r.in_turn;
        whole = λ f. let no : true ≡ false = sym short ∙ f in cc;
      };
    }

-- a run that goes on grows with its client
pub going_grows : (used ins : List In) (rest : List ℕ) (first now : Outside) (old new : Logged) (c c' : Snapshot) → Advances used c c' old new → IsBusy used c → HasNumber used c.used →
    Goes ins (in_texts used ++ rest) first now old c → Goes (ins ++ used) rest first now new c'
going_grows used ins rest first now old new c c' g busy number r =
    elim (is_either old.is_short) [
      | inl e ↦ grows_short used ins rest first now old new c c' r.progress r.holdings e (g r.progress r.stands) busy number r.stands r.fits r.going
      | inr e ↦ grows_whole used ins rest first now old new c c' r.progress r.holdings e (g r.progress r.stands) busy number r.stands r.fits r.going
    ]

-- nothing was read and written yet
pub going_fresh : (now : Outside) (log : Logged) → log.bytes ≡ [] → Going [] [] now now log nowhere no_holdings
going_fresh now log h = record {
  outs = [];
  came = [];
  written = [];
  lost = [];
  passes = Passes-nothing now;
  follows = nothing;
  traced = at_first;
  texts = rw h refl;
  few = lit≤ tt;
  whole = λ _. refl;
  in_turn = no_reads (TookTurn nowhere now [] []) now;
}

-- what was written then comes after
pub passes_wrote : (a b c : Outside) (read written more : List ℕ) → Passes a b read written → Passes b c [] more → Passes a c read (written ++ more)
passes_wrote a b c read written more p q = subst (λ xs. Passes a c xs (written ++ more)) (append-nil read) (Passes-then a b c read written [] more p q)

-- the log was written out
pub going_flushed : (ins : List In) (held : List ℕ) (first before now : Outside) (log : Logged) (m : Progress) (p : Holdings) (room : ℕ) → log.is_short ≡ false → Wrote before now log.bytes →
    Going ins held first before log m p → Going ins held first now (record { bytes = []; room = room; is_short = false }) m p
going_flushed ins held first before now log m p room e w r = record {
  outs = r.outs;
  came = r.came;
  written = r.written ++ log.bytes;
  lost = r.lost;
  passes = passes_wrote first before now (in_texts ins ++ held) r.written log.bytes r.passes w.passes;
  follows = r.follows;
  traced = r.traced;
  texts = r.texts ∙ ap (λ t. t ++ r.lost) (sym (append-nil (r.written ++ log.bytes)));
  few = r.few;
  whole = λ _. r.whole e;
  in_turn = reads_stay (TookTurn m first ins r.outs) first before now w.reads_stay r.in_turn;
}

-- all output of a run whose log was written out was taken
all_written : (outs : List Out) (written lost : List ℕ) → out_texts outs ≡ (written ++ []) ++ lost → lost ≡ [] → out_texts outs ≡ written
all_written outs written lost texts none = texts ∙ ap (λ (xs : List ℕ). (written ++ []) ++ xs) none ∙ append-nil (written ++ []) ∙ append-nil written

-- between two steps, where all output was taken, more was read, and is held
pub going_read : (ins : List In) (held bytes : List ℕ) (first before now : Outside) (room : ℕ) (m : Progress) (at : Holdings) → Passes before now bytes [] → AsksPiece before now →
    MayGoOn m.standing → IsPartial held → Going ins held first before (record { bytes = []; room = room; is_short = false }) m at →
    Going ins (held ++ bytes) first now (record { bytes = []; room = room; is_short = false }) m at
going_read ins held bytes first before now room m at p asks between partial r = record {
  outs = r.outs;
  came = r.came;
  written = r.written;
  lost = r.lost;
  passes = subst (λ xs. Passes first now xs r.written) (append_assoc (in_texts ins) held bytes)
      (subst (λ ws. Passes first now ((in_texts ins ++ held) ++ bytes) ws) (append-nil r.written)
      (Passes-then first before now (in_texts ins ++ held) r.written bytes [] r.passes p));
  follows = r.follows;
  traced = r.traced;
  texts = r.texts;
  few = r.few;
  whole = r.whole;
  in_turn = turns_on ins r.outs held r.written first before now m asks r.passes (all_written r.outs r.written r.lost r.texts (r.whole refl)) (follows_course ins r.outs m r.came r.follows) between partial r.in_turn;
}
