-- By the laws one open lives at most besides those of hooked drives, and none besides them where a step goes on.
use Rattle.std.proofs.Common.{◌≡◌, ◌⊎◌, inl, inr, ℕ, true, false, List, [], ◌∷◌, ◌++◌, Option, Some, None, sym, ◌∙◌, ap, subst, append_assoc, append-nil}
use Rattle.nb_terms.specs.declared.cause.Cause.{Cause}
use Rattle.nb_defs.specs.Records.{In, Out}
use Rattle.nb_machine.specs.Errands.{Onward}
use Rattle.nb_machine.specs.Courses.{Standing, ready, running, waiting, reaching, yielded, handing, left, handed_off, stopped, Progress, Course}
use Rattle.nb_laws.specs.Events.{Event, EachEvent, EachThen}
use Rattle.nb_laws.specs.Histories.{IsRead, IsHistory}
use Rattle.nb_laws.specs.Lists.{Opening, live, came_ok}
use Rattle.nb_laws.specs.Frames.{TriesSo, WritesSo}
use Rattle.nb_laws.specs.Hookings.{serves_drive, OnlyDrivesLive}
use Rattle.nb_laws.specs.Progress.{StepsSo}
use Rattle.nb_laws.specs.CommandOpens.{CommandOpen, command_open, over_of}
use Rattle.nb_openlaws.specs.OpenEndings.{OpensEndSo}
use Rattle.nb_lawful.specs.Results.{CommandsSo}
use Rattle.nb_lawful.specs.ScriptAgreement.{ScriptsAgree, IsToReach, reaches_host, reaches_place, reaches_disk, reaches_looked_up_disk}
use Rattle.nb_lawful.proofs.Awaited.{its}
use Rattle.nb_lawful.proofs.HookWords.{serves}
use Rattle.nb_lawful.proofs.Solitude.{IsOver, IsSettled, Solitude, whose, only_hooked, only_drives}
use Rattle.nb_lawful.proofs.Alone.{solitude_first, solitude_then}
use Rattle.nb_lawful.proofs.Todays.{todays_laws}
use Rattle.nb_lawful.proofs.CourseLaws.{keeps_laws}
use Rattle.nb_boot.specs.Following.{StepGoesOn}

-- what is known of each event
pub record Known (before : List Event) (e : Event) : Type 0 where
  pub read : IsRead before e
  pub written : WritesSo before e
  pub steps : StepsSo before e
  pub commands : CommandsSo before e
  pub ends : OpensEndSo before e

all_known : (before es : List Event) → EachEvent IsRead before es → EachEvent WritesSo before es → EachEvent StepsSo before es → EachEvent CommandsSo before es → EachEvent OpensEndSo before es → EachEvent Known before es
all_known before [] r w s c e = tt
all_known before (x ∷ es) r w s c e = (record { read = r.0; written = w.0; steps = s.0; commands = c.0; ends = e.0 }, all_known (before ++ x ∷ []) es r.1 w.1 s.1 c.1 e.1)

pub course_known : (ins : List In) (outs : List Out) (p : Progress) (es : List Event) → Course ins outs p → IsHistory ins outs es → EachEvent Known [] es
course_known ins outs p es c h =
    let k = keeps_laws ins outs p es c h in
    all_known [] es h.read (todays_laws es k).writes k.steps k.commands k.ends

pub course_tries : (ins : List In) (outs : List Out) (p : Progress) (es : List Event) → Course ins outs p → IsHistory ins outs es → EachThen TriesSo [] es
course_tries ins outs p es c h = (keeps_laws ins outs p es c h).tries

pub alone_then : (before : List Event) (e : Event) → Known before e → Solitude before → Solitude (before ++ e ∷ [])
alone_then before e k a = solitude_then before e k.steps k.commands k.ends a

pub alone_after : (before es : List Event) → EachEvent Known before es → Solitude before → Solitude (before ++ es)
alone_after before [] k a = subst Solitude (sym (append-nil before)) a
alone_after before (e ∷ es) k a = subst Solitude (append_assoc before (e ∷ []) es) (alone_after (before ++ e ∷ []) es k.1 (alone_then before e k.0 a))

pub course_alone : (ins : List In) (outs : List Out) (p : Progress) (es : List Event) → Course ins outs p → IsHistory ins outs es → Solitude es
course_alone ins outs p es c h = alone_after [] es (course_known ins outs p es c h) solitude_first

its_own : (j k : ℕ) → its j None ≡ its k None → j ≡ k
its_own j k e = let same : record { number = j; over = None } ≡ record { number = k; over = None } = cc in ap (λ (o : CommandOpen). o.number) same

-- of two that live one is a drive's
pub one_is_drive : (es : List Event) (j k : ℕ) (o q : Opening) → Solitude es → live j es ≡ o ∷ [] → live k es ≡ q ∷ [] → (j ≡ k → ⊥) → (serves_drive j es ≡ true) ⊎ (serves_drive k es ≡ true)
one_is_drive es j k o q a lj lk other = elim (whose es a j o lj) [
  | inr hooked ↦ inl (serves j es o lj hooked)
  | inl first ↦ elim (whose es a k q lk) [
    | inr hooked ↦ inr (serves k es q lk hooked)
    | inl second ↦ absurd (other (its_own j k (sym first ∙ second)))
  ]
]

settled_ok : (last : Option CommandOpen) → came_ok (over_of last) ≡ true → IsSettled last
settled_ok None e = tt
settled_ok (Some o) e = over_ok o.over e
  where
    over_ok : (over : Option Cause) → came_ok over ≡ true → IsOver over
    over_ok None e = absurd (let no : false ≡ true = e in cc)
    over_ok (Some cause) e = tt

reach_settled : (es : List Event) (next : Onward) → IsToReach es next → IsSettled (command_open es)
reach_settled es next (reaches_host errand name by address comes_to finds is) = settled_ok (command_open es) finds.ended
reach_settled es next (reaches_place moved comes_to room no_drive) = settled_ok (command_open es) moved.ended
reach_settled es next (reaches_disk r) = subst IsSettled (sym r.first) tt
reach_settled es next (reaches_looked_up_disk r) = settled_ok (command_open es) r.finds.ended

-- where a step goes on only drives live
pub drives_where_on : (es : List Event) (outs : List Out) (p : Standing) → Solitude es → ScriptsAgree es outs p → StepGoesOn p → OnlyDrivesLive es
drives_where_on es outs ready a s on = absurd on
drives_where_on es outs (running x inner outer) a s on = only_drives es (a.idle s.1.is_open)
drives_where_on es outs (waiting x w) a s on = absurd on
drives_where_on es outs (reaching x inner outer next) a s on = only_drives es (only_hooked es (a.running s.1.is_open s.3) (reach_settled es next s.4))
drives_where_on es outs (yielded x inner outer) a s on = absurd on
drives_where_on es outs (handing x rest) a s on = only_drives es (a.idle s.1)
drives_where_on es outs (left x [] cause) a s on = absurd on
drives_where_on es outs (left x (inner ∷ outer) cause) a s on = only_drives es (a.handed cause s.2.1)
drives_where_on es outs (handed_off x) a s on = absurd on
drives_where_on es outs (stopped x) a s on = absurd on
