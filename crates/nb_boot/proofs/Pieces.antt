-- A piece of a hand-off is written after what the log gathered, as if it had been put into the log.
use Rattle.std.proofs.Common.{◌≡◌, ℕ, Bool, true, false, List, [], ◌∷◌, ◌++◌, refl, sym, ◌∙◌, subst, append-nil}
use Rattle.nb_record.specs.Outside.{Outside}
use Rattle.nb_record.specs.Logged.{Logged, Puts}
use Rattle.nb_client.specs.Snapshots.{Snapshot}
use Rattle.nb_client.specs.Progressing.{Advances, IsAtWork}
use Rattle.nb_runner.specs.declared.status.Status.{Status}
use Rattle.nb_boot.specs.Going.{CutsAll, Going, IsFlaw, KeepsRun, LeadsOn, Stops, WritesPiece, Wrote, flaw_status, log_with_more}
use Rattle.nb_boot.specs.declared.output.Flaw.{Flaw}
use Rattle.nb_boot.specs.declared.output.Flaw.TheVariants as flaw
use Rattle.nb_boot.proofs.Cuttings.{flaw_cuts}
use Rattle.nb_boot.proofs.Goings.{going_flushed, going_grows}
use Rattle.nb_boot.proofs.Turned.{Keeps, cut_stops, keeps_log, keeps_then}

-- bytes that are put into a log which isn't short
more_puts : (log : Logged) (more : List ℕ) → log.is_short ≡ false → Puts log (log_with_more log more) more
more_puts log more whole = record {
  room_stays = refl;
  whole = λ e. (e, refl);
  part = more;
  lost = [];
  fronts = sym (append-nil more);
  appended = refl;
  stays = λ e. let no : true ≡ false = sym e ∙ whole in cc;
  too_small = λ e g. let no : false ≡ true = sym e ∙ g in cc;
}

-- what a client does by a piece that is put into such a log
abbrev GoesBy : Logged → List ℕ → Snapshot → Snapshot → Type 0
GoesBy log more c c' = (new : Logged) → Puts log new more → Advances [] c c' log new × IsAtWork c'.stage

-- it was written, and a run goes on with an empty log
pub piece_leads : (before now : Outside) (log new : Logged) (more : List ℕ) (c c' : Snapshot) → log.is_short ≡ false → Wrote before now (log.bytes ++ more) →
    new ≡ record { bytes = []; room = log.room; is_short = false } → GoesBy log more c c' → IsAtWork c.stage → IsAtWork c'.stage × LeadsOn [] before now log new c c'
piece_leads before now log new more c c' whole wrote cleared goes busy =
    let does = goes (log_with_more log more) (more_puts log more whole) in (
      does.1,
      λ ins rest first r.
          let g = going_grows [] ins rest first before log (log_with_more log more) c c' does.0 busy tt r in
          record {
            progress = g.progress;
            holdings = g.holdings;
            stands = g.stands;
            fits = g.fits;
            going = subst (λ l. Going (ins ++ []) rest first now l g.progress g.holdings) (sym cleared)
                (going_flushed (ins ++ []) rest first before now (log_with_more log more) g.progress g.holdings log.room whole wrote g.going);
          },
    )

-- it couldn't be written, and a run is cut short
pub piece_cuts : (f : Flaw) (before now : Outside) (log : Logged) (more : List ℕ) (c c' : Snapshot) → IsFlaw f before now (log_with_more log more) → GoesBy log more c c' → IsAtWork c.stage →
    Stops (flaw_status f) [] before now log c
piece_cuts flaw.NoMemory before now log more c c' f goes busy = λ ins rest first r. flaw_cuts flaw.NoMemory before now log f rest ins first r.progress r.holdings r.going
piece_cuts flaw.WriteFault before now log more c c' f goes busy = λ ins rest first r.
    let does = goes (log_with_more log more) (more_puts log more f.0) in
    let g = going_grows [] ins rest first before log (log_with_more log more) c c' does.0 busy tt r in
    flaw_cuts flaw.WriteFault before now (log_with_more log more) f rest (ins ++ []) first g.progress g.holdings g.going

-- where none comes next, a run stands as it stood
none_keeps : (is : Bool) (before mid at : Outside) (old log same : Logged) (c c1 c2 : Snapshot) → is ≡ false → WritesPiece is mid at log same c1 c2 → at ≡ mid →
    Keeps before mid old log c c1 → Keeps before at old same c c2
none_keeps true before mid at old log same c c1 c2 e w stays k = let no : true ≡ false = e in cc
none_keeps false before mid at old log same c c1 c2 e w stays k =
    subst (λ o. Keeps before o old same c c2) (sym stays) (subst (λ l. Keeps before mid old l c c2) (sym w.0) (subst (λ x. Keeps before mid old log c x) (sym w.1) k))

-- and goes on where the log has room
pub none_room : (is : Bool) (before mid at now : Outside) (old log same new : Logged) (c c1 c2 : Snapshot) → is ≡ false → WritesPiece is mid at log same c1 c2 → at ≡ mid →
    Keeps before mid old log c c1 → ((held : List ℕ) → KeepsRun held held at now same new) → Keeps before now old new c c2
none_room is before mid at now old log same new c c1 c2 e w stays k room =
    keeps_then before at now old same new c c2 c2 (none_keeps is before mid at old log same c c1 c2 e w stays k) (keeps_log at now same new c2 room)

-- or is cut short where it gets none
pub none_cuts : (s : Status) (is : Bool) (before mid at now : Outside) (old log same : Logged) (c c1 c2 : Snapshot) → is ≡ false → WritesPiece is mid at log same c1 c2 → at ≡ mid →
    Keeps before mid old log c c1 → CutsAll s at now same → Stops s [] before now old c
none_cuts s is before mid at now old log same c c1 c2 e w stays k cuts =
    cut_stops s [] before at now old same c c2 (none_keeps is before mid at old log same c c1 c2 e w stays k) cuts

-- the step isn't over then
pub none_works : (is : Bool) (mid at : Outside) (log same : Logged) (c1 c2 : Snapshot) → is ≡ false → WritesPiece is mid at log same c1 c2 → IsAtWork c1.stage → IsAtWork c2.stage
none_works true mid at log same c1 c2 e w busy = let no : true ≡ false = e in cc
none_works false mid at log same c1 c2 e w busy = subst (λ (x : Snapshot). IsAtWork x.stage) (sym w.1) busy
