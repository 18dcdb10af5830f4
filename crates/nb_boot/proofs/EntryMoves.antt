-- Where a step goes on, what stands first of it is no FRAME.
use Rattle.std.proofs.Common.{◌≡◌, List, [], ◌∷◌, ◌++◌, refl}
use Rattle.nb_defs.specs.Records.{Out, step, sent}
use Rattle.nb_machine.specs.Courses as course
use Rattle.nb_machine.specs.Courses.{
  Standing,
  Progress,
  Proceeds,
  passes,
  is_left,
  hands_back,
  yields,
  does,
  closes_device,
  goes_to_hook,
  hooks_none,
  unhooks,
  boots_hooked,
  concludes_there,
  leaves,
  jumps,
  finds_no_label,
  falls_asleep,
  opens_one,
  finds_no_route,
  opens_onward,
  finds_no_way,
  opens_no_more,
  hands,
  has_handed,
}
use Rattle.nb_laws.specs.Events.{Event}
use Rattle.nb_laws.specs.Silence.{IsSilent, AreSilent}
use Rattle.nb_lawful.specs.ScriptAgreement.{ScriptsAgree}
use Rattle.nb_client.specs.Progressing.{ProceedsTo, no_further, one_further}

-- nothing stands here, or another record than a FRAME
abbrev pub BeginsNoFrame : List Out → Type 0
BeginsNoFrame [] = Unit {0}
BeginsNoFrame (sent bytes ∷ outs) = ⊥
BeginsNoFrame (step number ∷ outs) = Unit {0}
BeginsNoFrame (o ∷ outs) = Unit {0}

-- what is handed off is no FRAME
abbrev HandsSilently : Standing → Type 0
HandsSilently (course.handing s rest) = AreSilent rest
HandsSilently course.ready = Unit {0}
HandsSilently (course.running s inner outer) = Unit {0}
HandsSilently (course.waiting s w) = Unit {0}
HandsSilently (course.reaching s inner outer next) = Unit {0}
HandsSilently (course.yielded s inner outer) = Unit {0}
HandsSilently (course.left s outer cause) = Unit {0}
HandsSilently (course.handed_off s) = Unit {0}
HandsSilently (course.stopped s) = Unit {0}

hands_silently : (es : List Event) (outs : List Out) (p : Standing) → ScriptsAgree es outs p → HandsSilently p
hands_silently es outs (course.handing s rest) h = h.0
hands_silently es outs course.ready h = tt
hands_silently es outs (course.running s inner outer) h = tt
hands_silently es outs (course.waiting s w) h = tt
hands_silently es outs (course.reaching s inner outer next) h = tt
hands_silently es outs (course.yielded s inner outer) h = tt
hands_silently es outs (course.left s outer cause) h = tt
hands_silently es outs (course.handed_off s) h = tt
hands_silently es outs (course.stopped s) h = tt

silent_first : (o : Out) (more : List Out) → IsSilent o → BeginsNoFrame (o ∷ more)
silent_first (sent bytes) more h = absurd h
silent_first (step number) more h = tt
silent_first _ more h = tt

-- a move puts something that is no FRAME, or nothing, and no hand-off begins with it
first_moved : (p q : Progress) (put more : List Out) → HandsSilently p.standing → Proceeds p put q → (put ≡ [] → HandsSilently q.standing → BeginsNoFrame more) → BeginsNoFrame (put ++ more)
first_moved p q put more h (passes n s inner next outer at) then = then refl tt
first_moved p q put more h (is_left n s inner outer cause at) then = tt
first_moved p q put more h (hands_back n s inner outer cause) then = tt
first_moved p q put more h (yields n s inner outer c cs at full) then = then refl tt
first_moved p q put more h (does n s s' inner outer c cs o at few is over) then = tt
first_moved p q put more h (closes_device n s s' inner outer c cs put1 over at few is all) then = tt
first_moved p q put more h (goes_to_hook n s s' inner outer c cs hooking put1 next at few is drops asks) then = tt
first_moved p q put more h (hooks_none n s s' inner outer c cs hooking put1 cause at few is drops asks) then = tt
first_moved p q put more h (unhooks n s s' inner outer c cs number put1 cause at few is drops) then = tt
first_moved p q put more h (boots_hooked n s inner outer c cs number d put1 p1 at few is there reads) then = tt
first_moved p q put more h (concludes_there n s inner outer c cs x put1 p1 at few is leads) then = tt
first_moved p q put more h (leaves n s s' inner outer c cs o at few is over) then = tt
first_moved p q put more h (jumps n s inner outer c cs name line at few is there) then = tt
first_moved p q put more h (finds_no_label n s inner outer c cs name at few is none) then = tt
first_moved p q put more h (falls_asleep n s inner outer c cs time at few is) then = tt
first_moved p q put more h (opens_one n s s' inner outer c cs l job link put1 at few is got way) then = tt
first_moved p q put more h (finds_no_route n s s' inner outer c cs l job link at few is got none) then = tt
first_moved p q put more h (opens_onward n s inner outer next link put1 few got way) then = tt
first_moved p q put more h (finds_no_way n s inner outer next link few got none) then = tt
first_moved p q put more h (opens_no_more n s inner outer next full) then = tt
first_moved p q put more h (hands n s r rest) then = silent_first r more h.0
first_moved p q put more h (has_handed n s) then = then refl tt

first_of_moves : (p q : Progress) (put : List Out) → HandsSilently p.standing → ProceedsTo p put q → BeginsNoFrame put
first_of_moves p q put h (no_further p1) = tt
first_of_moves p r put h (one_further p1 q r1 put1 more move moves) = first_moved p1 q put1 more h move (λ none silent. first_of_moves q r1 more silent moves)

pub moves_first : (es : List Event) (outs put : List Out) (p q : Progress) → ScriptsAgree es outs p.standing → ProceedsTo p put q → BeginsNoFrame put
moves_first es outs put p q h moves = first_of_moves p q put (hands_silently es outs p.standing h) moves
