-- What a drive does with more that comes begins with what it did.
use Rattle.std.proofs.Common.{◌≡◌, Bool, true, false, List, [], ◌∷◌, ◌++◌, Option, Some, None, if◌then◌else◌, ap, ◌∙◌, sym, subst}
use Rattle.std.specs.Option.{option_or, is_some}
use Rattle.nb_terms.specs.declared.cause.Cause.{Cause}
use Rattle.nb_disk.specs.Histories.{DiskCall, DiskReading, SessionNumbers, after_call}
use Rattle.nb_disk.specs.DiskAnswers.{disk_answer}
use Rattle.nb_sans.specs.Sessions.{is_call, taken_from, text_of_put, puts_from, over_from}
use Rattle.nb_sans.proofs.Starts.{Starts, starts_itself, starts_all, starts_after}

-- ---- its calls

taken_more : (o : SessionNumbers) (r : DiskReading) (calls more : List DiskCall) → Starts (taken_from o r calls) (taken_from o r (calls ++ more))
taken_more o r [] more = starts_all (taken_from o r more)
taken_more o r (call ∷ calls) more = by (taken_more o (after_call o r call) calls more) (taken_more o r calls more) (is_call r call)
  where
    by_end : Starts (taken_from o (after_call o r call) calls) (taken_from o (after_call o r call) (calls ++ more)) → (over : Bool) → Starts (if over then [] else taken_from o (after_call o r call) calls) (if over then [] else taken_from o (after_call o r call) (calls ++ more))
    by_end goes true = starts_itself []
    by_end goes false = goes

    by : Starts (taken_from o (after_call o r call) calls) (taken_from o (after_call o r call) (calls ++ more)) → Starts (taken_from o r calls) (taken_from o r (calls ++ more)) → (b : Bool) → Starts (if b then (call ∷ (if is_some (disk_answer o r call).over then [] else taken_from o (after_call o r call) calls)) else taken_from o r calls)
        (if b then (call ∷ (if is_some (disk_answer o r call).over then [] else taken_from o (after_call o r call) (calls ++ more))) else taken_from o r (calls ++ more))
    by goes past true = starts_after (call ∷ []) (if is_some (disk_answer o r call).over then [] else taken_from o (after_call o r call) calls)
        (if is_some (disk_answer o r call).over then [] else taken_from o (after_call o r call) (calls ++ more)) (by_end goes (is_some (disk_answer o r call).over))
    by goes past false = past

pub taken_grow : (o : SessionNumbers) (r : DiskReading) (calls longer : List DiskCall) → Starts calls longer → Starts (taken_from o r calls) (taken_from o r longer)
taken_grow o r calls longer a = subst (λ (l : List DiskCall). Starts (taken_from o r calls) (taken_from o r l)) (sym a.is) (taken_more o r calls a.rest)

-- ---- what they put

puts_more : (o : SessionNumbers) (r : DiskReading) (calls more : List DiskCall) → Starts (puts_from o r calls) (puts_from o r (calls ++ more))
puts_more o r [] more = starts_all (puts_from o r more)
puts_more o r (call ∷ calls) more =
    starts_after (text_of_put (disk_answer o r call).put) (puts_from o (after_call o r call) calls) (puts_from o (after_call o r call) (calls ++ more)) (puts_more o (after_call o r call) calls more)

pub puts_grow : (o : SessionNumbers) (r : DiskReading) (calls longer : List DiskCall) → Starts calls longer → Starts (puts_from o r calls) (puts_from o r longer)
puts_grow o r calls longer a = subst (λ (l : List DiskCall). Starts (puts_from o r calls) (puts_from o r l)) (sym a.is) (puts_more o r calls a.rest)

-- ---- how they end

or_stays : (first second longer : Option Cause) (cause : Cause) → option_or first second ≡ Some cause → (second ≡ Some cause → longer ≡ Some cause) → option_or first longer ≡ Some cause
or_stays None second longer cause is more = more is
or_stays (Some one) second longer cause is more = is

over_more : (o : SessionNumbers) (r : DiskReading) (calls more : List DiskCall) (cause : Cause) → over_from o r calls ≡ Some cause → over_from o r (calls ++ more) ≡ Some cause
over_more o r [] more cause is = absurd cc
over_more o r (call ∷ calls) more cause is =
    or_stays (disk_answer o r call).over (over_from o (after_call o r call) calls) (over_from o (after_call o r call) (calls ++ more)) cause is
    (over_more o (after_call o r call) calls more cause)

pub over_stays : (o : SessionNumbers) (r : DiskReading) (calls longer : List DiskCall) (cause : Cause) → Starts calls longer → over_from o r calls ≡ Some cause → over_from o r longer ≡ Some cause
over_stays o r calls longer cause a is = ap (over_from o r) a.is ∙ over_more o r calls a.rest cause is
