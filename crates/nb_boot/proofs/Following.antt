-- What follows the machine is its course, and counts the records used.
use Rattle.std.proofs.Common.{◌≡◌, ◌+◌, List, [], ◌∷◌, ◌++◌, length, refl, sym, ◌∙◌, subst, append_assoc, append-nil}
use Rattle.nb_defs.specs.Records.{In, Out}
use Rattle.nb_traced.specs.Plain.{without_graph}
use Rattle.nb_traced.proofs.Plain.{plain_append}
use Rattle.nb_machine.specs.Courses.{Progress, StepBegins, Course, begins, uses, goes_on}
use Rattle.nb_traced.specs.Outputs.{Arrived}
use Rattle.nb_client.specs.Progressing.{ProceedsTo, no_further, one_further}
use Rattle.nb_boot.specs.Following.{FollowsMachine}
use Rattle.nb_boot.specs.Following as follows
use Rattle.nb_boot.proofs.CourseInputs.{course_counts, begins_used, proceeds_used}

pub course_proceeds : (ins : List In) (outs : List Out) (p : Progress) (added : List Out) (q : Progress) → Course ins outs p → ProceedsTo p added q → Course ins (outs ++ added) q
course_proceeds ins outs p added q c (no_further _) = subst (λ xs. Course ins xs p) (sym (append-nil outs)) c
course_proceeds ins outs p added q c (one_further _ mid _ put more v rest) =
    subst (λ xs. Course ins xs q) (append_assoc outs put more) (course_proceeds ins (outs ++ put) mid more q (goes_on ins outs p put mid c v) rest)

-- without the records of the graph it is a course
pub follows_course : (ins : List In) (outs : List Out) (p : Progress) (came : List Arrived) → FollowsMachine ins outs p came → Course ins (without_graph outs) p
follows_course ins outs p came follows.nothing = begins
follows_course ins outs p came (follows.uses ins0 outs0 p0 so_far r added p1 more f still b s) =
    subst (λ xs. Course (ins0 ++ r ∷ []) xs p1) (sym (plain_append outs0 added)) (uses ins0 (without_graph outs0) p0 r (without_graph added) p1 (follows_course ins0 outs0 p0 so_far f) b)
follows_course ins outs p came (follows.goes_on ins0 outs0 p0 so_far added p1 f busy v) =
    subst (λ xs. Course ins0 xs p1) (sym (plain_append outs0 added)) (course_proceeds ins0 (without_graph outs0) p0 (without_graph added) p1 (follows_course ins0 outs0 p0 so_far f) v)

pub follows_counts : (ins : List In) (outs : List Out) (p : Progress) (came : List Arrived) → FollowsMachine ins outs p came → p.used ≡ length ins
follows_counts ins outs p came f = course_counts ins (without_graph outs) p (follows_course ins outs p came f)

-- moves use no record
pub proceeds_count : (p : Progress) (added : List Out) (q : Progress) → ProceedsTo p added q → q.used ≡ p.used
proceeds_count p added q (no_further _) = refl
proceeds_count p added q (one_further _ mid _ put more v rest) = proceeds_count mid more q rest ∙ proceeds_used p put mid v

pub step_counts : (p : Progress) (r : In) (added : List Out) (q : Progress) → StepBegins p r added q → q.used ≡ p.used + 1
step_counts p r added q b = begins_used p r added q b
