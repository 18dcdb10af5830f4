-- A run after an attaching, which reads and takes nothing.
use Rattle.std.proofs.Common.{ℕ, []}
use Rattle.nb_record.specs.Outside.{Outside, Attaches}
use Rattle.nb_record.proofs.OutsideLemmas.{Passes-then, Attaches-passes}
use Rattle.nb_boot.specs.Run.{Run, Shows, IsOver}
use Rattle.nb_runner.specs.declared.status.Status.{Status}
use Rattle.nb_runner.specs.declared.status.Status.TheVariants as status
use Rattle.nb_boot.proofs.Written.{rose_later}
use Rattle.nb_boot.proofs.InTurns.{turns_from}

-- the same run, seen from before the attaching
abbrev pub run_from : (first mid after : Outside) → Attaches first mid → Run mid after → Run first after
run_from first mid after p r = record {
  ins = r.ins;
  outs = r.outs;
  progress = r.progress;
  came = r.came;
  rest = r.rest;
  closing = r.closing;
  read = r.read;
  written = r.written;
  lost = r.lost;
  passes = Passes-then first mid after [] [] r.read r.written (Attaches-passes first mid p) r.passes;
  spelled = r.spelled;
  follows = r.follows;
  closed = r.closed;
  alone = r.alone;
  shuts = r.shuts;
  holdings = r.holdings;
  traced = r.traced;
  at_end = r.at_end;
  traced_all = r.traced_all;
  texts = r.texts;
  few = r.few;
  in_turn = turns_from first mid after r.ins r.outs p r.in_turn;
}

over_from : (first mid after : Outside) (p : Attaches first mid) (r : Run mid after) (number : ℕ) → IsOver mid after r number → IsOver first after (run_from first mid after p r) number
over_from first mid after p r number o =
    record { ends = o.ends; put = o.put; shuts = o.shuts; closing = o.closing; front = o.front; last = o.last; none_live = o.none_live; none_wait = o.none_wait; all = o.all }

pub attached_shows : (s : Status) (first mid after : Outside) → Attaches first mid → Shows s mid after → Shows s first after
attached_shows status.HandedOff first mid after p (r, o) = (run_from first mid after p r, over_from first mid after p r 0 o)
attached_shows status.Ended first mid after p (r, o) = (run_from first mid after p r, over_from first mid after p r 3 o)
attached_shows status.ScriptFailed first mid after p (r, o) = (run_from first mid after p r, over_from first mid after p r 4 o)
attached_shows status.Unfinished first mid after p (r, o) = (run_from first mid after p r, over_from first mid after p r 5 o)
attached_shows status.BadRecord first mid after p (r, o) = (run_from first mid after p r, over_from first mid after p r 6 o)
attached_shows status.TooManyRecords first mid after p (r, o) = (run_from first mid after p r, over_from first mid after p r 11 o)
attached_shows status.ReadFault first mid after p (r, o) = (
  run_from first mid after p r,
  record {
    between = o.between;
    partial = o.partial;
    closing = o.closing;
    all = o.all;
    rose = rose_later first.read_faults mid.read_faults after.read_faults p.counts.read_count o.rose;
  },
)
attached_shows status.WriteFault first mid after p (r, o) =
    (run_from first mid after p r, (rose_later first.write_faults mid.write_faults after.write_faults p.counts.write_count o.0, o.1))
attached_shows status.NoMemory first mid after p (r, o) = (run_from first mid after p r, o)
attached_shows status.AttachFault first mid after p (r, o) =
    (run_from first mid after p r, (o.0, o.1, o.2, rose_later first.attach_faults mid.attach_faults after.attach_faults p.counts.attach_count o.3))
attached_shows status.BadWords first mid after p (r, o) = absurd o
