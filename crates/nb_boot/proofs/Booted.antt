-- Where no drive is hooked as a command boots, and its disk's open has ended, nothing is closed then, and no FRAME stands after its RESULT.
use Rattle.std.proofs.Common.{◌≡◌, inl, inr, ℕ, ◌+◌, ◌||◌, Bool, true, false, cond, List, [], ◌∷◌, ◌++◌, Option, Some, None, option_and_then, refl, sym, ◌∙◌, ap, subst, arith}
use Rattle.std.specs.List.{AllByRecursion, list_any}
use Rattle.std.proofs.lemmas.Option.{none-some}
use Rattle.nb_terms.specs.declared.cause.Cause.{Cause}
use Rattle.nb_defs.specs.Causes.{ok}
use Rattle.nb_defs.specs.Records.{Out, step, sent, text, command, result, script, opened, tried, advanced, ended, graph, part, done}
use Rattle.nb_drivecmd.specs.declared.drive.Drive.{Drive}
use Rattle.nb_image.specs.Images.{ImageList}
use Rattle.nb_machine.specs.Conclusions.{Conclusion, boots}
use Rattle.nb_machine.specs.Effects.{ShownWords, hooks_disk}
use Rattle.nb_laws.specs.CommandOpens.{command_open, over_of}
use Rattle.nb_laws.specs.CommandsSoFar.{so_far, comes_by, concluded_in, conclusion_so_far}
use Rattle.nb_laws.specs.Endings.{MayStandBehind, ClosesToBoot, ClosesToBootDisk}
use Rattle.nb_laws.specs.Events.{Event, hears, puts, EachEvent}
use Rattle.nb_laws.specs.Frames.{IsPut, HoldsResult, HoldsOf}
use Rattle.nb_laws.specs.Frames as frames
use Rattle.nb_laws.specs.Hookings.{is_on_open, hooked_drives, serves_drive, HooksDisk, BootsBy, boots_hooking, boots_hooked}
use Rattle.nb_laws.specs.Lists.{Opening, opening_at, openings, is_end_of, open_has_ended, live, last_end, made}
use Rattle.nb_laws.specs.Moves.{moves}
use Rattle.nb_laws.specs.Silence.{IsSilent, AreSilent}
use Rattle.nb_laws.proofs.Afterwards.{after_by_words}
use Rattle.nb_laws.proofs.Tellings.{told, openings_more, over_more, no_more}
use Rattle.nb_lawful.proofs.Awaited.{its}
use Rattle.nb_lawful.proofs.HookWords.{serves}
use Rattle.nb_lawful.proofs.Alone.{solitude_first}
use Rattle.nb_lawful.proofs.Solitude.{IsLastMade, IsSettled, Solitude, over_by}
use Rattle.nb_boot.specs.Booting.{BootsSilently, BootsDiskSilently}
use Rattle.nb_boot.proofs.EntryAlone.{Known, alone_after}
use Rattle.nb_boot.proofs.EntryHistories.{each_first, each_last}
use Rattle.nb_boot.proofs.EntryPlaces.{same_last}

-- nothing lives
abbrev NoneLives : List Event → Type 0
NoneLives es = (k : ℕ) (o : Opening) → live k es ≡ o ∷ [] → ⊥

-- WHERE THE RESULT STANDS

-- what a command comes to by its words, if it is one on images
abbrev by_its_words : List Event → Option ShownWords → Option Conclusion
by_its_words es words = option_and_then (λ shown. concluded_in (comes_by (made es) (so_far es) shown)) words

-- a command that boots hooks no disk
boots_no_hook : (es : List Event) (list : ImageList) (kernel : ℕ) → last_end es ≡ None → conclusion_so_far (last_end es) es (so_far es) ≡ Some (boots list kernel) → HooksDisk es → ⊥
boots_no_hook es list kernel end booted h =
    let (shown, said, is) = h.names in
    let words : by_its_words es (so_far es).shown ≡ Some (boots list kernel) = sym (ap (λ z. conclusion_so_far z es (so_far es)) end) ∙ booted in
    let comes : comes_by (made es) (so_far es) shown ≡ hooks_disk h.hooking = after_by_words (made es) (so_far es) shown (moves es) (hooks_disk h.hooking) (λ no. no) is in
    none-some (boots list kernel) (sym (ap concluded_in comes) ∙ sym (ap (by_its_words es) said) ∙ words)

-- where no drive is hooked, no open is one's
unserved : (es : List Event) (k : ℕ) → hooked_drives es ≡ [] → serves_drive k es ≡ true → ⊥
unserved es k none is = let no : false ≡ true = sym (ap (λ (z : List Drive). list_any (is_on_open k) z) none) ∙ is in cc no

-- an open that lives there would be a hooked drive's
none_before : (es : List Event) (b : ClosesToBoot es) → hooked_drives b.before ≡ [] → Solitude b.before → Known b.before (puts (result ok)) → NoneLives b.before
none_before es b none a known k o lives = by (so_far b.before).left refl
  where
    on_its : HoldsResult b.before ok → command_open b.before ≡ its k None → ⊥
    on_its holds own = elim (over_by b.before ok holds) [
      | inl settled ↦ subst IsSettled own settled
      | inr hooks ↦ boots_no_hook b.before b.list b.kernel (ap over_of own) b.boots hooks.disk
    ]

    by : (left : Option Cause) → (so_far b.before).left ≡ left → ⊥
    by None at = elim ((a.running known.written.is_open at).own k o lives) [
      | inl own ↦ on_its (subst (λ z. HoldsOf z b.before ok) at known.written.holds) own
      | inr hooked ↦ unserved b.before k none (serves k b.before o lives hooked)
    ]
    by (Some given) at = unserved b.before k none (serves k b.before o lives (a.handed given at k o lives))

-- or that of the disk that is booted
not_its_own : (es : List Event) (number k : ℕ) (o : Opening) → BootsBy number es → live number es ≡ [] → live k es ≡ o ∷ [] → Solitude es → command_open es ≡ its k None → ⊥
not_its_own es number k o (boots_hooked drive first booted is) gone lives a own = none-some _ (sym first ∙ own)
not_its_own es number k o (boots_hooking disk has at) gone lives a own =
    let last : k + 1 ≡ made es = subst (λ z. IsLastMade z (made es)) own a.last in
    let same : number ≡ k = omega (arith, at, last) in
    let no : [] ≡ o ∷ [] = sym (subst (λ z. live z es ≡ []) same gone) ∙ lives in cc no

none_before_disk : (es : List Event) (b : ClosesToBootDisk es) → hooked_drives b.before ≡ [] → live b.number b.before ≡ [] → Solitude b.before → Known b.before (puts (result ok)) → NoneLives b.before
none_before_disk es b none gone a known k o lives = by (so_far b.before).left refl
  where
    by : (left : Option Cause) → (so_far b.before).left ≡ left → ⊥
    by None at = elim ((a.running known.written.is_open at).own k o lives) [
      | inl own ↦ not_its_own b.before b.number k o b.boots gone lives a own
      | inr hooked ↦ unserved b.before k none (serves k b.before o lives hooked)
    ]
    by (Some given) at = unserved b.before k none (serves k b.before o lives (a.handed given at k o lives))

-- BEHIND IT

-- nothing begins to live by a record that isn't an OPEN
none_then : (es : List Event) (o : Out) → ((k : ℕ) → opening_at k es (puts o) ≡ []) → NoneLives es → NoneLives (es ++ puts o ∷ [])
unfolding live
none_then es o unopens none k x lives = none k x (lived (open_has_ended k es) (is_end_of k (puts o)) (sym same ∙ lives))
  where
    same : live k (es ++ puts o ∷ []) ≡ cond (open_has_ended k es || is_end_of k (puts o)) [] (openings k es)
    same = ap (λ b. cond b [] (openings k (es ++ puts o ∷ []))) (over_more k es (puts o))
        ∙ ap (λ z. cond (open_has_ended k es || is_end_of k (puts o)) [] z) (openings_more k es (puts o) ∙ no_more (openings k es) _ (unopens k))

    lived : (a b : Bool) → cond (a || b) [] (openings k es) ≡ x ∷ [] → cond a [] (openings k es) ≡ x ∷ []
    lived true b is = is
    lived false true is = absurd (let no : [] ≡ x ∷ [] = is in cc no)
    lived false false is = is

behind_opens_none : (es : List Event) (o : Out) → MayStandBehind o → (k : ℕ) → opening_at k es (puts o) ≡ []
behind_opens_none es (opened number kind server port own target) h k = absurd h
behind_opens_none es (step number) h k = refl
behind_opens_none es _ h k = refl

-- after a record that is written, no FRAME stands where nothing lives
none_put : (es q : List Event) (o : Out) (bytes : List ℕ) → es ≡ q ++ puts o ∷ [] → NoneLives es → IsPut es bytes → ⊥
none_put es q o bytes at none (frames.by_reply b n taken m last alone is some) = let l = same_last b q (hears n taken m) (puts o) (sym last ∙ at) in let no : hears n taken m ≡ puts o = l.last in cc no
none_put es q o bytes at none (frames.by_open k sends due) = none k sends.opening sends.lives
none_put es q o bytes at none (frames.by_closing k sends kind closes off) = none k sends.opening sends.lives
none_put es q o bytes at none (frames.by_drive_closing k sends kind closes off) = none k sends.opening sends.lives
none_put es q o bytes at none (frames.by_drive_end k sends kind closes why) = none k sends.opening sends.lives
none_put es q o bytes at none (frames.by_unhooking k sends kind closes lets) = none k sends.opening sends.lives

one_silent : (q : List Event) (o x : Out) → NoneLives (q ++ puts o ∷ []) → MayStandBehind x → Known (q ++ puts o ∷ []) (puts x) → IsSilent x
one_silent q o (sent bytes) none h known = absurd (none_put (q ++ puts o ∷ []) q o bytes refl none known.written)
one_silent q o (step number) none h known = tt
one_silent q o (text bytes) none h known = tt
one_silent q o (command depth line place expanded words) none h known = absurd h
one_silent q o (result cause) none h known = absurd h
one_silent q o (script what depth cause) none h known = absurd h
one_silent q o (opened number kind server port own target) none h known = absurd h
one_silent q o (tried number count) none h known = tt
one_silent q o (advanced number place) none h known = tt
one_silent q o (ended number cause) none h known = tt
one_silent q o (graph happens) none h known = tt
one_silent q o (part kind index offset bytes) none h known = tt
one_silent q o (done status) none h known = absurd h

all_silent : (q : List Event) (o : Out) (outs : List Out) → NoneLives (q ++ puts o ∷ []) → AllByRecursion MayStandBehind outs → EachEvent Known (q ++ puts o ∷ []) (told outs) → AreSilent outs
all_silent q o [] none h known = tt
all_silent q o (x ∷ outs) none h known = (
  one_silent q o x none h.0 known.0,
  all_silent (q ++ puts o ∷ []) x outs (none_then (q ++ puts o ∷ []) x (behind_opens_none (q ++ puts o ∷ []) x h.0) none) h.1 known.1,
)

-- so it is of each history of a course
behind_silent : (es before : List Event) (since : List Out) → EachEvent Known [] es → es ≡ before ++ puts (result ok) ∷ told since → AllByRecursion MayStandBehind since →
    (Solitude before → Known before (puts (result ok)) → NoneLives before) → AreSilent since
behind_silent es before since known ends stand none =
    let all = subst (EachEvent Known []) ends known in
    let a = alone_after [] before (each_first Known [] before (puts (result ok) ∷ told since) all) solitude_first in
    let behind = each_last Known [] before (puts (result ok) ∷ told since) all in
    all_silent before (result ok) since (none_then before (result ok) (λ k. refl) (none a behind.0)) stand behind.1

pub boots_silently : (es : List Event) → EachEvent Known [] es → BootsSilently es
boots_silently es known b none = behind_silent es b.before b.since known b.ends b.behind (none_before es b none)

pub boots_disk_silently : (es : List Event) → EachEvent Known [] es → BootsDiskSilently es
boots_disk_silently es known b none gone = behind_silent es b.before b.since known b.ends b.behind (none_before_disk es b none gone)
