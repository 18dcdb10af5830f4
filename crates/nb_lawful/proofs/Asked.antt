-- A drive is asked for the first block of its disk: the command waits for it, or the open has ended by that.
use Rattle.std.proofs.Common.{◌≡◌, ℕ, ◌-◌, Bool, true, false, List, [], ◌∷◌, ◌++◌, Some, None, refl, sym, ◌∙◌, ap, subst, append-nil, arith}
use Rattle.std.specs.List.{AllByRecursion}
use Rattle.nb_terms.specs.declared.cause.Cause.{Cause}
use Rattle.nb_defs.specs.Causes.{is_ok_cause}
use Rattle.nb_defs.specs.Records.{Out, result, ended}
use Rattle.nb_drivecmd.specs.declared.outcome.AfterHook.TheVariants.{Boot}
use Rattle.nb_drivecmd.specs.declared.outcome.Hooking.{Hooking}
use Rattle.nb_drivecmd.specs.HookedDrives.{is_drive}
use Rattle.nb_machine.specs.Conclusions.{fails}
use Rattle.nb_machine.specs.Courses as course
use Rattle.nb_machine.specs.Courses.{Standing, block_lost, block_standing, AsksBlock, ReadsBlock}
use Rattle.nb_machine.specs.Drives.{first_block_read}
use Rattle.nb_machine.specs.Effects.{hooks_disk}
use Rattle.nb_machine.specs.Lives.{task, Exchange, Live, continued}
use Rattle.nb_machine.specs.Running.{Running, with_result}
use Rattle.nb_machine.specs.Scripts.{boots, block, Waiting, hooked_drive}
use Rattle.nb_machine.specs.States.{State}
use Rattle.nb_machine.specs.Takings.{Over, AllTake}
use Rattle.nb_laws.specs.Agreement.{AgreesScript}
use Rattle.nb_laws.specs.CommandOpens.{command_open_by, command_open}
use Rattle.nb_laws.specs.CommandsSoFar.{CommandsSoFar, so_far, ComesTo, comes_after}
use Rattle.nb_laws.specs.Events.{Event, puts, EachEvent}
use Rattle.nb_laws.specs.Lists.{made, commands_begun}
use Rattle.nb_laws.specs.Moves.{moves}
use Rattle.nb_laws.proofs.Commands.{script_told}
use Rattle.nb_laws.proofs.Tellings.{told}
use Rattle.nb_openlaws.proofs.Puts.{AreQuiet, take_quiet}
use Rattle.nb_openlaws.specs.Standings.{AgreesState}
use Rattle.nb_lawful.specs.Results.{CommandsSo}
use Rattle.nb_lawful.specs.ScriptAgreement.{SettingsAre, HasImages, NoneLeft, HooksBy, IsAnother, awaits_block}
use Rattle.nb_lawful.proofs.Answered.{disk_concluding}
use Rattle.nb_lawful.proofs.AnswersStay.{answered_stays}
use Rattle.nb_lawful.proofs.AtOnce.{Goes, goes_two, images_as}
use Rattle.nb_lawful.proofs.Awaited.{AreBeside, beside_open, own_end, beside_moves, TookAlone, alone_on, alone_last, took_alone, told_later, its}
use Rattle.nb_lawful.proofs.Coming.{HasSized}
use Rattle.nb_lawful.proofs.Disks.{still_hooks}
use Rattle.nb_lawful.proofs.DriveAnswers.{TellsSession, none_reads}
use Rattle.nb_lawful.proofs.HookedLives.{drives_keep, asks_keeps, asks_none}
use Rattle.nb_lawful.proofs.Leading.{conclusion_goes}
use Rattle.nb_lawful.proofs.NoBlocks.{keep_or_boot}
use Rattle.nb_lawful.proofs.Quiet.{command_open_more, quiet_so_far, quiet_begin, quiet_parts, quiet_scripts, quiet_commands, quiet_made}
use Rattle.nb_lawful.proofs.Stepping.{same_place}
use Rattle.nb_lawful.proofs.Unasked.{unread_first}
use Rattle.nb_openlaws.specs.Sessions.{SessionsAgree}

-- WHAT IS KNOWN THEN

-- what the history says of the opens after it
pub record AskedWell (es2 : List Event) (s' : State) (over : List Over) : Type 0 where
  pub base : AgreesState es2 s'
  pub settled : SessionsAgree es2 s'.live
  pub tells : AllByRecursion (λ o. TellsSession es2 o.live) over
  pub bad : AllByRecursion (λ o. is_ok_cause o.cause ≡ false) over

abbrev pub AsksWell : List Event → State → ℕ → Type 0
AsksWell es s number = (put : List Out) (s' : State) (over : List Over) → AsksBlock s number put s' over → AskedWell (es ++ told put) s' over

-- a command that is under way
pub record Asking (es : List Event) (outs : List Out) (s : State) (inner : Running) (outer : List Running) : Type 0 where
  pub script : AgreesScript es inner outer
  pub settings : SettingsAre (so_far es) s true
  pub images : HasImages es outs s
  pub none_left : NoneLeft es

-- the same after it
pub record AskedSo (es : List Event) (outs : List Out) (next : State) (inner : Running) (outer : List Running) (asked : List Out) : Type 0 where
  pub quiet : AreQuiet asked
  pub stands : EachEvent CommandsSo es (told asked)
  pub same : so_far (es ++ told asked) ≡ so_far es
  pub opens : made (es ++ told asked) ≡ made es
  pub after : Asking (es ++ told asked) (outs ++ asked) next inner outer

pub asked_so : (es : List Event) (outs : List Out) (s next : State) (inner : Running) (outer : List Running) (number : ℕ) (asked : List Out) (over : List Over) → AsksBlock s number asked next over → Asking es outs s inner outer →
    AskedSo es outs next inner outer asked
asked_so es outs s next inner outer number asked over a k =
    let quiet = take_quiet _ _ _ _ _ _ a.takes in
    let same = quiet_so_far es asked quiet in
    let es2 = es ++ told asked in
    record {
      quiet = quiet;
      stands = quiet_commands es asked quiet;
      same = same;
      opens = quiet_made es asked quiet;
      after = record {
        script = script_told es asked inner outer (quiet_scripts asked quiet) (quiet_begin (commands_begun es) asked quiet) k.script;
        settings = subst (λ m. SettingsAre m next true) (sym same) (record {
          table = k.settings.table ∙ sym (ap (λ (z : State). z.table) a.leaves);
          up = k.settings.up ∙ sym (ap (λ (z : State). z.up) a.leaves);
          now = k.settings.now ∙ sym (ap (λ (z : State). z.now) a.leaves);
          is_open = k.settings.is_open;
        });
        images = images_as es es2 outs asked s next (ap (λ (m : CommandsSoFar). m.images) same) (ap (λ (z : State). z.images) a.leaves)
            (drives_keep (so_far es) (so_far es2) s next (ap (λ (m : CommandsSoFar). m.hooked) same) (asks_keeps s next number asked over a) k.images.drives) (quiet_parts asked quiet) k.images;
        none_left = ap (λ (m : CommandsSoFar). m.left) same ∙ k.none_left;
      };
    }

-- WHICH OPEN IT IS

-- the open of a number, of which the place is known
pub record AskedAt (s : State) (l : Live) (earlier later : List Live) (put : List Out) (s' : State) (over : List Over) : Type 0 where
  pub after : List Live
  pub takes : AllTake s.devices (task first_block_read s.now) (l ∷ []) put after over
  pub lives : s'.live ≡ earlier ++ after ++ later

pub asked_at : (s : State) (number : ℕ) (put : List Out) (s' : State) (over : List Over) (a : AsksBlock s number put s' over) → (earlier later : List Live) (l : Live) → s.live ≡ earlier ++ l ∷ later → number ≡ l.number →
    AllByRecursion (IsAnother l.number) earlier → AllByRecursion (IsAnother l.number) later → AskedAt s l earlier later put s' over
asked_at s number put s' over a earlier later l parted same h t =
    let p = same_place a.before a.behind earlier later a.l l (sym a.parted ∙ parted) (a.its ∙ same) h t in
    record {
      after = a.after;
      takes = subst (λ z. AllTake s.devices (task first_block_read s.now) (z ∷ []) put a.after over) p.1 a.takes;
      lives = ap (λ (z : State). z.live) a.leaves ∙ ap (λ z. z ++ a.after ++ a.behind) p.0 ∙ ap (λ z. earlier ++ a.after ++ z) p.2;
    }

-- A DISK THAT THE COMMAND HOOKS

-- the open lives on, and the command waits for the block
module _ (es : List Event) (outs : List Out) (s next : State) (w : Waiting) (l : Live) (hooking : Hooking) (keep : Bool) (asked : List Out) (over : List Over) (k : HasSized es outs s w l hooking) (boots_it : hooking.after ≡ Boot keep) (opens : made es ≡ s.opens)
    (a : AsksBlock s l.number asked next over) (q : AskedSo es outs next w.script w.outer asked) where
  names_then : (xs : List Exchange) → AreBeside l.number asked → HooksBy (so_far (es ++ told asked)) (moves (es ++ told asked)) (record l { exchanges = xs }) hooking
  names_then xs beside =
      let m = (beside_moves es l.number asked (opens ∙ k.awaited.number) beside).1 in
      subst (λ z. HooksBy (so_far (es ++ told asked)) z (record l { exchanges = xs }) hooking) (sym m)
      (subst (λ z. HooksBy z (moves es) (record l { exchanges = xs }) hooking) (sym q.same) (record { shown = k.names.shown; said = k.names.said; names = k.names.names; is_drive = k.names.is_drive }))

  waits_then : (x : Exchange) → x.came ≡ task first_block_read s.now → next.live ≡ k.awaited.earlier ++ continued l x ∷ [] → AreBeside l.number asked →
      Goes es outs asked (course.waiting next (record { script = w.script; outer = w.outer; awaited = block l.number; job = boots (Some (hooked_drive hooking l)) }))
  waits_then x came lives beside = let (isn, i, kind) = k.names.is_drive in record {
    stands = q.stands;
    agrees = (
      q.after.script,
      q.after.settings,
      q.after.images,
      q.after.none_left,
      awaits_block (continued l x) hooking keep (record {
        earlier = k.awaited.earlier;
        last = lives;
        others = k.awaited.others;
        number = ap (λ (z : State). z.opens) a.leaves ∙ k.awaited.number;
        its = beside_open es l.number None asked beside k.awaited.its;
      }) refl refl boots_it (names_then (l.exchanges ++ x ∷ []) beside) (answered_stays l isn i (x ∷ []) kind k.known) (unread_first l isn i x s.now kind k.unasked came)
          (asks_none (is_drive hooking.number) s next l.number asked over a k.gone),
    );
  }

  -- it has ended, and so has the command
  fails_then : (x : Exchange) (cause : Cause) (front : List Out) (p : Standing) → x.came ≡ task first_block_read s.now → AskedWell (es ++ told asked) next over → over ≡ record { live = continued l x; cause = cause } ∷ [] → asked ≡ front ++ ended l.number cause ∷ [] →
      AreBeside l.number front → p ≡ course.running next (with_result w.script cause) w.outer → Goes es outs (asked ++ result cause ∷ []) p
  fails_then x cause front p came well over_is is beside leads =
      let (isn, i, kind) = k.names.is_drive in
      let es2 = es ++ told asked in
      let es1 = es ++ told front in
      let last = puts (ended l.number cause) in
      let at : es2 ≡ es1 ++ last ∷ [] = ap (λ z. es ++ told z) is ∙ told_later es front (ended l.number cause ∷ []) in
      let its_end : command_open es2 ≡ its l.number (Some cause) =
      ap command_open at ∙ command_open_more es1 last ∙ ap (λ z. command_open_by z last) (beside_open es l.number None front beside k.awaited.its) ∙ own_end l.number cause in
      let names : ComesTo es2 (made es2) (hooks_disk hooking) =
      (k.names.shown, ap (λ (m : CommandsSoFar). m.shown) q.same ∙ k.names.said, still_hooks l.number (made es2) (so_far es2) k.names.shown (moves es) (moves es2) hooking (subst (λ m. comes_after l.number m k.names.shown (moves es) ≡ hooks_disk hooking) (sym q.same) k.names.names)) in
      let latest : made es2 - 1 ≡ l.number = ap (λ n. n - 1) (q.opens ∙ opens ∙ k.awaited.number) ∙ omega arith in
      let bad : is_ok_cause cause ≡ false = (subst (AllByRecursion (λ o. is_ok_cause o.cause ≡ false)) over_is well.bad).0 in
      let says = (subst (AllByRecursion (λ o. TellsSession es2 o.live)) over_is well.tells).0 isn i kind in
      goes_two es outs asked (result cause ∷ []) p q.stands
      (conclusion_goes es2 (outs ++ asked) next w.script w.outer (fails cause) [] p (λ list lines e. absurd (cc e))
      (disk_concluding es2 (outs ++ asked) next w.script w.outer cause hooking (record {
        base = well.base;
        script = q.after.script;
        settings = q.after.settings;
        images = q.after.images;
        none_left = q.after.none_left;
        its_end = (l.number, its_end);
        settled = well.settled;
      }) names bad
      (λ disk answers. keep_or_boot es2 disk (record { hooking = hooking; names = names; keep = keep; boots = boots_it }))
      (λ disk. none_reads es2 (continued l x) (made es2 - 1) says latest (unread_first l isn i x s.now kind k.unasked came)))
      (refl, leads))

-- so it goes on where its capacity has become known
pub sized_goes : (es : List Event) (outs : List Out) (s : State) (w : Waiting) (l : Live) (hooking : Hooking) (keep : Bool) (more : List Out) (p : Standing) → HasSized es outs s w l hooking → hooking.after ≡ Boot keep → made es ≡ s.opens →
    AsksWell es s l.number →
    ReadsBlock s w.script w.outer l.number (Some (hooked_drive hooking l)) more p → Goes es outs more p
sized_goes es outs s w l hooking keep more p k boots_it opens well r =
    by (took_alone _ _ _ _ _ _ at.takes)
  where
    q : AskedSo es outs r.next w.script w.outer r.asked
    q = asked_so es outs s r.next w.script w.outer l.number r.asked r.over r.asks (record { script = k.script; settings = k.settings; images = k.images; none_left = k.none_left })

    at : AskedAt s l k.awaited.earlier [] r.asked r.next r.over
    at = asked_at s l.number r.asked r.next r.over r.asks k.awaited.earlier [] l k.awaited.last refl k.awaited.others tt

    by : TookAlone (task first_block_read s.now) l r.asked at.after r.over → Goes es outs more p
    by (alone_on x came after_is over_is beside) =
        subst (λ z. Goes es outs z p) (sym (r.all ∙ ap (λ z. r.asked ++ block_lost z) over_is ∙ append-nil r.asked))
        (subst (λ z. Goes es outs r.asked z) (sym (r.stands_so ∙ ap (block_standing r.next w.script w.outer l.number (Some (hooked_drive hooking l))) over_is))
        (waits_then es outs s r.next w l hooking keep r.asked r.over k boots_it opens r.asks q x came (at.lives ∙ append-nil (k.awaited.earlier ++ at.after) ∙ ap (λ z. k.awaited.earlier ++ z) after_is) beside))
    by (alone_last x cause front came after_is over_is is beside) =
        subst (λ z. Goes es outs z p) (sym (r.all ∙ ap (λ z. r.asked ++ block_lost z) over_is))
        (fails_then es outs s r.next w l hooking keep r.asked r.over k boots_it opens r.asks q x cause front p came (well r.asked r.next r.over r.asks) over_is is beside
        (r.stands_so ∙ ap (block_standing r.next w.script w.outer l.number (Some (hooked_drive hooking l))) over_is))
