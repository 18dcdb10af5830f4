-- How a run is cut short between two records of its output.
use Rattle.std.proofs.Common.{◌≤◌, inl, arith, subst, length-append, ℕ, false, List, [], ◌++◌, refl, sym, ◌∙◌, ap, append-nil, append_assoc}
use Rattle.nb_defs.specs.Records.{In, in_texts, IsPartial, out_texts}
use Rattle.nb_record.specs.Outside.{Outside, Passes, Rose}
use Rattle.nb_record.specs.Logged.{Logged}
use Rattle.nb_machine.specs.Courses.{Progress}
use Rattle.nb_traced.specs.Holdings.{Holdings}
use Rattle.nb_traced.specs.Outputs.{Traced}
use Rattle.nb_runner.specs.declared.status.Status.TheVariants as status
use Rattle.nb_boot.specs.InTurn.{MayGoOn}
use Rattle.nb_boot.specs.Shown.{goes_on}
use Rattle.nb_boot.specs.Run.{Run, Shows}
use Rattle.nb_boot.specs.Going.{Going, Wrote, Stopped, IsFlaw, CutsAll, flaw_status}
use Rattle.nb_boot.specs.declared.output.Flaw.{Flaw}
use Rattle.nb_boot.specs.declared.output.Flaw.TheVariants as flaw
use Rattle.nb_boot.proofs.Goings.{passes_wrote}
use Rattle.nb_boot.proofs.Written.{rose_later, wrote_nothing}
use Rattle.nb_boot.proofs.InTurns.{turns_end}
use Rattle.nb_boot.proofs.Following.{follows_counts}

-- a write failed: a prefix of the output was written
abbrev pub stopped_run : (ins : List In) (held : List ℕ) (first before now : Outside) (log : Logged) (m : Progress) (at : Holdings) → Stopped before now log.bytes →
    Going ins held first before log m at → Run first now
stopped_run ins held first before now log m at s r = record {
  ins = ins;
  outs = r.outs;
  progress = m;
  came = r.came;
  rest = held;
  closing = [];
  read = in_texts ins ++ held;
  written = r.written ++ s.part;
  lost = s.lost ++ r.lost;
  passes = passes_wrote first before now (in_texts ins ++ held) r.written s.part r.passes s.wrote.passes;
  spelled = refl;
  follows = r.follows;
  closed = goes_on;
  alone = λ _. refl;
  shuts = inl refl;
  holdings = at;
  traced = r.traced;
  at_end = at;
  traced_all = subst (λ xs. Traced xs at r.came) (sym (append-nil r.outs)) r.traced;
  few = subst (λ n. n ≤ 4294967295) (follows_counts ins r.outs m r.came r.follows) r.few;
  in_turn = turns_end first before now ins r.outs m s.wrote.reads_stay r.in_turn;
  texts = ap out_texts (append-nil r.outs) ∙ r.texts ∙ ap (λ t. (r.written ++ t) ++ r.lost) s.fronts
      ∙ ap (λ t. t ++ r.lost) (sym (append_assoc r.written s.part s.lost)) ∙ append_assoc (r.written ++ s.part) s.lost r.lost;
}

-- memory ran out: what was written is a prefix of the output
abbrev pub short_run : (ins : List In) (held : List ℕ) (first before now : Outside) (log : Logged) (m : Progress) (at : Holdings) → Wrote before now [] →
    Going ins held first before log m at → Run first now
short_run ins held first before now log m at p r = record {
  ins = ins;
  outs = r.outs;
  progress = m;
  came = r.came;
  rest = held;
  closing = [];
  read = in_texts ins ++ held;
  written = r.written ++ [];
  lost = log.bytes ++ r.lost;
  passes = passes_wrote first before now (in_texts ins ++ held) r.written [] r.passes p.passes;
  spelled = refl;
  follows = r.follows;
  closed = goes_on;
  alone = λ _. refl;
  shuts = inl refl;
  holdings = at;
  traced = r.traced;
  at_end = at;
  traced_all = subst (λ xs. Traced xs at r.came) (sym (append-nil r.outs)) r.traced;
  few = subst (λ n. n ≤ 4294967295) (follows_counts ins r.outs m r.came r.follows) r.few;
  in_turn = turns_end first before now ins r.outs m p.reads_stay r.in_turn;
  texts = ap out_texts (append-nil r.outs) ∙ r.texts ∙ append_assoc r.written log.bytes r.lost ∙ ap (λ t. t ++ (log.bytes ++ r.lost)) (sym (append-nil r.written));
}

-- a log that couldn't be written out cuts a run short
pub flaw_cuts : (f : Flaw) (before now : Outside) (log : Logged) → IsFlaw f before now log → CutsAll (flaw_status f) before now log
flaw_cuts flaw.WriteFault before now log s = λ held ins first m at r. (
  stopped_run ins held first before now log m at s.1 r,
  (rose_later first.write_faults before.write_faults now.write_faults r.passes.counts.write_count s.1.rose, omega (arith, s.1.missing, length-append s.1.lost r.lost)),
)
flaw_cuts flaw.NoMemory before now log p = λ held ins first m at r. (short_run ins held first before now log m at p r, inl refl)

-- memory ran out in the client
pub memory_shows : (ins : List In) (held : List ℕ) (first now : Outside) (log : Logged) (m : Progress) (at : Holdings) → Going ins held first now log m at → Shows status.NoMemory first now
memory_shows ins held first now log m at r = (short_run ins held first now now log m at (wrote_nothing now) r, inl refl)

-- a read failed after a log that was written out
pub unread_shows : (ins : List In) (held : List ℕ) (first now : Outside) (room : ℕ) (m : Progress) (at : Holdings) → MayGoOn m.standing → IsPartial held →
    Rose first.read_faults now.read_faults →
    Going ins held first now (record { bytes = []; room = room; is_short = false }) m at → Shows status.ReadFault first now
unread_shows ins held first now room m at between partial rose r = (
  record {
    ins = ins;
    outs = r.outs;
    progress = m;
    came = r.came;
    rest = held;
    closing = [];
    read = in_texts ins ++ held;
    written = r.written ++ [];
    lost = [];
    passes = subst (λ xs. Passes first now (in_texts ins ++ held) xs) (sym (append-nil r.written)) r.passes;
    spelled = refl;
    follows = r.follows;
    closed = goes_on;
    alone = λ _. refl;
    shuts = inl refl;
    holdings = at;
    traced = r.traced;
    at_end = at;
    traced_all = subst (λ xs. Traced xs at r.came) (sym (append-nil r.outs)) r.traced;
    few = subst (λ n. n ≤ 4294967295) (follows_counts ins r.outs m r.came r.follows) r.few;
    in_turn = turns_end first now now ins r.outs m refl r.in_turn;
    texts = ap out_texts (append-nil r.outs) ∙ r.texts ∙ ap (λ t. (r.written ++ []) ++ t) (r.whole refl);
  },
  record { between = between; partial = partial; closing = refl; all = refl; rose = rose },
)
