-- A read after a log that was written out.
use Rattle.std.proofs.Common.{◌≡◌, ℕ, false, List, [], ◌++◌, sym, ◌∙◌, ap, subst, append-nil}
use Rattle.nb_defs.specs.Records.{IsPartial}
use Rattle.nb_record.specs.Outside.{Outside, Passes, AsksPiece, Rose, IsAtEnd}
use Rattle.nb_record.specs.Logged.{Logged}
use Rattle.nb_record.specs.Bytes.{Held}
use Rattle.nb_boot.specs.Fetch.{BringsBytes}
use Rattle.nb_boot.specs.Going.{Going, Wrote, WaitsOn, Fills}
use Rattle.nb_boot.specs.declared.feeding.Filled.{Filled}
use Rattle.nb_boot.specs.declared.feeding.Filled.TheVariants as filled
use Rattle.nb_boot.proofs.Goings.{going_flushed, going_read}
use Rattle.nb_boot.proofs.Cuttings.{unread_shows}
use Rattle.nb_boot.proofs.Written.{rose_later}

-- a log that was written out
abbrev pub emptied : Logged → Logged
emptied log = record { bytes = []; room = log.room; is_short = false }

-- a run whose log was written out, and which then read
pub refill_reads : (old new : Held) (bytes : List ℕ) (before mid now : Outside) (log log' : Logged) → log.is_short ≡ false → Wrote before mid log.bytes → log' ≡ emptied log →
    IsPartial old.bytes → Passes mid now bytes [] → AsksPiece mid now → new.bytes ≡ old.bytes ++ bytes → WaitsOn old.bytes new.bytes before now log log'
refill_reads old new bytes before mid now log log' e w cleared partial p asks held = λ ins first m at between r.
    let flushed = going_flushed ins old.bytes first before mid log m at log.room e w r in
    let read = going_read ins old.bytes bytes first mid now log.room m at p asks between partial flushed in
    subst (λ x. Going ins x first now log' m at) (sym held) (subst (λ l. Going ins (old.bytes ++ bytes) first now l m at) (sym cleared) read)

pub refill_more : (old new : Held) (before mid now : Outside) (log log' : Logged) → log.is_short ≡ false → Wrote before mid log.bytes → log' ≡ emptied log →
    IsPartial old.bytes → AsksPiece mid now → BringsBytes old new mid now → WaitsOn old.bytes new.bytes before now log log'
refill_more old new before mid now log log' e w cleared partial asks b = refill_reads old new b.bytes before mid now log log' e w cleared partial b.passes asks b.held

-- the bytes held stay
same_held : (old new : Held) → new ≡ old → new.bytes ≡ old.bytes ++ []
same_held old new same = ap (λ (h : Held). h.bytes) same ∙ sym (append-nil old.bytes)

pub refill_ended : (old new : Held) (before mid now : Outside) (log log' : Logged) → log.is_short ≡ false → Wrote before mid log.bytes → log' ≡ emptied log →
    IsPartial old.bytes → AsksPiece mid now → (new ≡ old) × Passes mid now [] [] × IsAtEnd now → Fills filled.Ended old.bytes new.bytes before now log log'
refill_ended old new before mid now log log' e w cleared partial asks (same, p, end) = (
  refill_reads old new [] before mid now log log' e w cleared partial p asks (same_held old new same),
  subst (λ (h : Held). IsPartial h.bytes) (sym same) partial,
  end,
)

pub refill_fault : (old new : Held) (before mid now : Outside) (log log' : Logged) → log.is_short ≡ false → Wrote before mid log.bytes →
    IsPartial old.bytes → AsksPiece mid now → (new ≡ old) × Passes mid now [] [] × Rose mid.read_faults now.read_faults → Fills filled.Fault old.bytes new.bytes before now log log'
refill_fault old new before mid now log log' e w partial asks (same, p, rose) = λ ins first m at between r.
    let flushed = going_flushed ins old.bytes first before mid log m at log.room e w r in
    let read = going_read ins old.bytes [] first mid now log.room m at p asks between partial flushed in
    let still : Going ins old.bytes first now (emptied log) m at = subst (λ x. Going ins x first now (emptied log) m at) (append-nil old.bytes) read in
    unread_shows ins old.bytes first now log.room m at between partial (rose_later first.read_faults mid.read_faults now.read_faults flushed.passes.counts.read_count rose) still

-- a read after others
pub fills_then : (f : Filled) (a b d : List ℕ) (before mid now : Outside) (old log new : Logged) → WaitsOn a b before mid old log → Fills f b d mid now log new →
    Fills f a d before now old new
fills_then filled.More a b d before mid now old log new h f = λ ins first m at between r. f ins first m at between (h ins first m at between r)
fills_then filled.Ended a b d before mid now old log new h f = (λ ins first m at between r. f.0 ins first m at between (h ins first m at between r), f.1, f.2)
fills_then filled.Fault a b d before mid now old log new h f = λ ins first m at between r. f ins first m at between (h ins first m at between r)
fills_then (filled.Cut x) a b d before mid now old log new h f = λ ins first m at between r. f ins first m at between (h ins first m at between r)
