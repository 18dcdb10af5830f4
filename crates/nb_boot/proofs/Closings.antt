-- How a run ends: what closes it and DONE are put, and the rest of the output is written, or is not.
use Rattle.std.proofs.Common.{◌≡◌, ◌<◌, ◌≤◌, inl, inr, lit≤, arith, subst, length, length-append, ℕ, false, List, [], ◌∷◌, ◌++◌, refl, sym, ◌∙◌, ap, append-nil, append_assoc}
use Rattle.std.proofs.lemmas.Grind.{flat_map-append}
use Rattle.nb_defs.specs.Records.{In, in_texts, Out, out_text, out_texts, record_text, done}
use Rattle.nb_record.specs.Outside.{Outside, Attaches, Rose}
use Rattle.nb_record.proofs.OutsideLemmas.{Passes-nothing, Attaches-passes}
use Rattle.nb_record.specs.Logged.{Logged, Puts}
use Rattle.nb_machine.specs.Courses.{Progress, nowhere}
use Rattle.nb_traced.specs.Holdings.{Holdings, no_holdings}
use Rattle.nb_traced.specs.Outputs.{at_first}
use Rattle.nb_runner.specs.StatusNumber.{status_number}
use Rattle.nb_runner.specs.declared.status.Status.{Status}
use Rattle.nb_runner.specs.declared.status.Status.TheVariants as status
use Rattle.nb_boot.specs.Shown.{EndsWhere, ClosedBy, goes_on, has_ended}
use Rattle.nb_boot.specs.Following.{nothing}
use Rattle.nb_boot.specs.Run.{Run, Shows, Says, IsOver}
use Rattle.nb_boot.specs.InTurn.{IsInTurn}
use Rattle.nb_boot.specs.Going.{Going, Wrote, Stopped, IsFlaw, IsClosing, flaw_status}
use Rattle.nb_boot.specs.declared.output.Flaw.{Flaw}
use Rattle.nb_boot.specs.declared.output.Flaw.TheVariants as flaw
use Rattle.nb_boot.proofs.Following.{follows_counts}
use Rattle.nb_boot.proofs.Goings.{passes_wrote}
use Rattle.nb_boot.proofs.Last.{ClosesAll, closes_some}
use Rattle.nb_boot.proofs.BadRests.{ends_stay}
use Rattle.nb_boot.proofs.Written.{rose_later}
use Rattle.nb_boot.proofs.InTurns.{no_reads, turns_end, turns_from}

-- the records and what closes them
pub closing_texts : (outs closers : List Out) (front : List ℕ) → out_texts outs ≡ front → out_texts (outs ++ closers) ≡ front ++ out_texts closers
closing_texts outs closers front h = flat_map-append out_text outs closers ∙ ap (λ t. t ++ out_texts closers) h

-- a run whose whole output was written
abbrev pub whole_run : (ins : List In) (held : List ℕ) (first before now : Outside) (log done_log : Logged) (m : Progress) (p : Holdings) (number : ℕ) (closers : List Out) →
    ClosesAll m p number closers → (r : Going ins held first before log m p) → Puts log done_log (out_texts closers) → done_log.is_short ≡ false → Wrote before now done_log.bytes →
    EndsWhere m held now number → Run first now
whole_run ins held first before now log done_log m p number closers q r puts e w c =
    let put = puts.whole e in
    let end = q.traces r.outs r.came r.traced in
    let none : r.lost ≡ [] = r.whole put.0 in
    let front : out_texts r.outs ≡ r.written ++ log.bytes = r.texts ∙ ap (λ t. (r.written ++ log.bytes) ++ t) none ∙ append-nil (r.written ++ log.bytes) in
    record {
      ins = ins;
      outs = r.outs;
      progress = m;
      came = r.came;
      rest = held;
      closing = closers;
      read = in_texts ins ++ held;
      written = r.written ++ done_log.bytes;
      lost = [];
      passes = passes_wrote first before now (in_texts ins ++ held) r.written done_log.bytes r.passes w.passes;
      spelled = refl;
      follows = r.follows;
      closed = subst (λ xs. ClosedBy m held now xs) (sym q.plain) (has_ended number q.put c q.shuts);
      alone = closes_some q;
      shuts = inr q.shown_first;
      holdings = p;
      traced = r.traced;
      at_end = end.holdings;
      traced_all = end.traced;
      few = subst (λ n. n ≤ 4294967295) (follows_counts ins r.outs m r.came r.follows) r.few;
      in_turn = turns_end first before now ins r.outs m w.reads_stay r.in_turn;
      texts = closing_texts r.outs closers (r.written ++ log.bytes) front ∙ append_assoc r.written log.bytes (out_texts closers)
          ∙ ap (λ t. r.written ++ t) (sym put.1) ∙ sym (append-nil (r.written ++ done_log.bytes));
    }

-- a run whose output a failed write cut
abbrev pub stopped_end : (ins : List In) (held : List ℕ) (first before now : Outside) (log done_log : Logged) (m : Progress) (p : Holdings) (number : ℕ) (closers : List Out) →
    ClosesAll m p number closers → (r : Going ins held first before log m p) → Puts log done_log (out_texts closers) → done_log.is_short ≡ false → (s : Stopped before now done_log.bytes) →
    EndsWhere m held now number → Run first now
stopped_end ins held first before now log done_log m p number closers q r puts e s c =
    let put = puts.whole e in
    let end = q.traces r.outs r.came r.traced in
    let none : r.lost ≡ [] = r.whole put.0 in
    let front : out_texts r.outs ≡ r.written ++ log.bytes = r.texts ∙ ap (λ t. (r.written ++ log.bytes) ++ t) none ∙ append-nil (r.written ++ log.bytes) in
    record {
      ins = ins;
      outs = r.outs;
      progress = m;
      came = r.came;
      rest = held;
      closing = closers;
      read = in_texts ins ++ held;
      written = r.written ++ s.part;
      lost = s.lost;
      passes = passes_wrote first before now (in_texts ins ++ held) r.written s.part r.passes s.wrote.passes;
      spelled = refl;
      follows = r.follows;
      closed = subst (λ xs. ClosedBy m held now xs) (sym q.plain) (has_ended number q.put c q.shuts);
      alone = closes_some q;
      shuts = inr q.shown_first;
      holdings = p;
      traced = r.traced;
      at_end = end.holdings;
      traced_all = end.traced;
      few = subst (λ n. n ≤ 4294967295) (follows_counts ins r.outs m r.came r.follows) r.few;
      in_turn = turns_end first before now ins r.outs m s.wrote.reads_stay r.in_turn;
      texts = closing_texts r.outs closers (r.written ++ log.bytes) front ∙ append_assoc r.written log.bytes (out_texts closers)
          ∙ ap (λ t. r.written ++ t) (sym put.1 ∙ s.fronts) ∙ sym (append_assoc r.written s.part s.lost);
    }

-- DONE has some bytes
length-done : (number : ℕ) → length (out_text (done number)) ≡ 6
unfolding out_text record_text
length-done number = refl

done_missing : (before : List ℕ) (front closers : List Out) (number : ℕ) → closers ≡ front ++ done number ∷ [] → 0 < length (before ++ out_texts closers)
done_missing before front closers number last =
    let same : out_texts closers ≡ out_texts front ++ out_texts (done number ∷ []) = ap out_texts last ∙ flat_map-append out_text front (done number ∷ []) in
    omega (
      arith,
      length-append before (out_texts closers),
      ap length same,
      length-append (out_texts front) (out_texts (done number ∷ [])),
      length-append (out_text (done number)) [],
      length-done number,
    )

-- a run whose output memory cut
abbrev pub short_end : (ins : List In) (held : List ℕ) (first before now : Outside) (log : Logged) (m : Progress) (at : Holdings) (number : ℕ) (closers : List Out) →
    ClosesAll m at number closers → (r : Going ins held first before log m at) → Wrote before now [] → EndsWhere m held now number → Run first now
short_end ins held first before now log m at number closers q r p c = record {
  ins = ins;
  outs = r.outs;
  progress = m;
  came = r.came;
  rest = held;
  closing = closers;
  read = in_texts ins ++ held;
  written = r.written ++ [];
  lost = (log.bytes ++ r.lost) ++ out_texts closers;
  passes = passes_wrote first before now (in_texts ins ++ held) r.written [] r.passes p.passes;
  spelled = refl;
  follows = r.follows;
  closed = subst (λ xs. ClosedBy m held now xs) (sym q.plain) (has_ended number q.put c q.shuts);
  alone = closes_some q;
  shuts = inr q.shown_first;
  holdings = at;
  traced = r.traced;
  at_end = (q.traces r.outs r.came r.traced).holdings;
  traced_all = (q.traces r.outs r.came r.traced).traced;
  few = subst (λ n. n ≤ 4294967295) (follows_counts ins r.outs m r.came r.follows) r.few;
  in_turn = turns_end first before now ins r.outs m p.reads_stay r.in_turn;
  texts = closing_texts r.outs closers ((r.written ++ log.bytes) ++ r.lost) r.texts
      ∙ ap (λ t. t ++ out_texts closers) (append_assoc r.written log.bytes r.lost)
      ∙ append_assoc r.written (log.bytes ++ r.lost) (out_texts closers)
      ∙ ap (λ t. t ++ ((log.bytes ++ r.lost) ++ out_texts closers)) (sym (append-nil r.written));
}

-- what DONE tells is said of a run that is over
pub over_says : (s : Status) (before after : Outside) (r : Run before after) → IsClosing s → IsOver before after r (status_number s) → Says s before after r
over_says status.HandedOff before after r e o = o
over_says status.Ended before after r e o = o
over_says status.ScriptFailed before after r e o = o
over_says status.Unfinished before after r e o = o
over_says status.BadRecord before after r e o = o
over_says status.TooManyRecords before after r e o = o
over_says status.BadWords before after r e o = absurd e
over_says status.ReadFault before after r e o = absurd e
over_says status.WriteFault before after r e o = absurd e
over_says status.NoMemory before after r e o = absurd e
over_says status.AttachFault before after r e o = absurd e

-- the run is over, and its whole output was written
pub over_shows : (s : Status) (ins : List In) (held : List ℕ) (first before now : Outside) (log done_log : Logged) (m : Progress) (p : Holdings) (closers : List Out) → IsClosing s →
    ClosesAll m p (status_number s) closers → Going ins held first before log m p → Puts log done_log (out_texts closers) → done_log.is_short ≡ false → Wrote before now done_log.bytes →
    EndsWhere m held before (status_number s) → Shows s first now
over_shows s ins held first before now log done_log m p closers e q r puts whole w c =
    let then = ends_stay m held done_log.bytes before now (status_number s) w.passes c in
    let run = whole_run ins held first before now log done_log m p (status_number s) closers q r puts whole w then in (
      run,
      over_says s first now run e (record {
        ends = then;
        put = q.put;
        shuts = q.shuts;
        closing = q.plain;
        front = q.front;
        last = q.last;
        none_live = (q.traces r.outs r.came r.traced).none_live;
        none_wait = (q.traces r.outs r.came r.traced).none_wait;
        all = refl;
      }),
    )

-- the run is over, and its last writing met a flaw
pub flaw_shows : (f : Flaw) (ins : List In) (held : List ℕ) (first before now : Outside) (log done_log : Logged) (m : Progress) (p : Holdings) (number : ℕ) (closers : List Out) →
    ClosesAll m p number closers → Going ins held first before log m p → Puts log done_log (out_texts closers) → IsFlaw f before now done_log →
    EndsWhere m held before number → Shows (flaw_status f) first now
flaw_shows flaw.WriteFault ins held first before now log done_log m p number closers q r puts s c = (
  stopped_end ins held first before now log done_log m p number closers q r puts s.0 s.1 (ends_stay m held s.1.part before now number s.1.wrote.passes c),
  (rose_later first.write_faults before.write_faults now.write_faults r.passes.counts.write_count s.1.rose, s.1.missing),
)
flaw_shows flaw.NoMemory ins held first before now log done_log m p number closers q r puts s c = (
  short_end ins held first before now log m p number closers q r s (ends_stay m held [] before now number s.passes c),
  inr (done_missing (log.bytes ++ r.lost) q.front closers number q.last),
)

-- memory ran out before anything was used
pub no_memory_shows : (now : Outside) → Shows status.NoMemory now now
no_memory_shows now = (
  record {
    ins = [];
    outs = [];
    progress = nowhere;
    came = [];
    rest = [];
    closing = [];
    read = [];
    written = [];
    lost = [];
    passes = Passes-nothing now;
    spelled = refl;
    follows = nothing;
    closed = goes_on;
    alone = λ _. refl;
    shuts = inl refl;
    holdings = no_holdings;
    traced = at_first;
    at_end = no_holdings;
    traced_all = at_first;
    few = lit≤ tt;
    in_turn = no_reads (IsInTurn now [] []) now;
    texts = refl;
  },
  inl refl,
)

-- nothing could be attached
pub unattached_shows : (init now : Outside) → Attaches init now → Rose init.attach_faults now.attach_faults → Shows status.AttachFault init now
unattached_shows init now a rose = (
  record {
    ins = [];
    outs = [];
    progress = nowhere;
    came = [];
    rest = [];
    closing = [];
    read = [];
    written = [];
    lost = [];
    passes = Attaches-passes init now a;
    spelled = refl;
    follows = nothing;
    closed = goes_on;
    alone = λ _. refl;
    shuts = inl refl;
    holdings = no_holdings;
    traced = at_first;
    at_end = no_holdings;
    traced_all = at_first;
    few = lit≤ tt;
    in_turn = turns_from init now now [] [] a (no_reads (IsInTurn now [] []) now);
    texts = refl;
  },
  (refl, refl, refl, rose),
)
