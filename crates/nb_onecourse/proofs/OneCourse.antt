-- There is at most one course of the machine on any records that comes to rest.
use Rattle.std.proofs.Common.{◌≡◌, List, [], ◌∷◌, ◌++◌, refl, sym, ◌∙◌, ap, subst, append_assoc, append-nil}
use Rattle.nb_defs.specs.Records.{In, Out}
use Rattle.nb_machine.specs.Courses.{Progress, nowhere, Course, begins, uses, goes_on, StepBegins, Proceeds}
use Rattle.nb_onecourse.specs.Answers.{StandsUnended}
use Rattle.nb_onecourse.specs.Rests.{HasComeToRest, SameCourse}
use Rattle.nb_onecourse.proofs.Ends.{snoc_same, snoc_some}
use Rattle.nb_onecourse.proofs.Unended.{course_unended, begins_unended, proceeds_unended}
use Rattle.nb_onecourse.proofs.Numbered.{StandsNumbered, begins_numbered, course_numbered, proceeds_numbered}
use Rattle.nb_onecourse.proofs.Nexts.{still, what_next, rest_still}
use Rattle.nb_onecourse.proofs.OneNext.{proceeds_one, still_proceeds}
use Rattle.nb_onecourse.proofs.EachStep.{begins_one, begins_still}

-- moves, one after another
data Goes : Progress → List Out → Progress → Type 0 where
  stays : (m : Progress) → Goes m [] m
  goes_first : (m mid m' : Progress) (a rest : List Out) → Proceeds m a mid → Goes mid rest m' → Goes m (a ++ rest) m'

-- one move more at the end
goes_then : (m m1 m2 : Progress) (outs a : List Out) → Goes m outs m1 → Proceeds m1 a m2 → Goes m (outs ++ a) m2
goes_then m m1 m2 outs a (stays _) v = subst (λ xs. Goes m xs m2) (append-nil a) (goes_first m m2 m2 a [] v (stays m2))
goes_then m m1 m2 outs a (goes_first _ mid _ b rest u g) v = subst (λ xs. Goes m xs m2) (sym (append_assoc b rest a)) (goes_first m mid m2 b (rest ++ a) u (goes_then mid m1 m2 rest a g v))

abbrev HasNoNext : Progress → Type 0
HasNoNext m = what_next m.standing ≡ still

-- moves from one place that come to rest are one
goes_one : (m m1 m2 : Progress) (a b : List Out) → StandsUnended m.standing → StandsNumbered m.standing → Goes m a m1 → Goes m b m2 → HasNoNext m1 → HasNoNext m2 → SameCourse a b m1 m2
goes_one m m1 m2 a b u f (stays _) (stays _) o o' = record { records = refl; place = refl }
goes_one m m1 m2 a b u f (stays _) (goes_first _ mid _ c rest v g) o o' = absurd (still_proceeds m c mid o v)
goes_one m m1 m2 a b u f (goes_first _ mid _ c rest v g) (stays _) o o' = absurd (still_proceeds m c mid o' v)
goes_one m m1 m2 a b u f (goes_first _ mid _ c rest v g) (goes_first _ mid' _ c' rest' v' g') o o' =
    let k = proceeds_one m c c' mid mid' u f v v' in
    let t = goes_one mid m1 m2 rest rest' (proceeds_unended m c mid u v) (proceeds_numbered m c mid f v) g (subst (λ z. Goes z rest' m2) (sym k.places) g') o o' in
    record { records = ap (λ z. z ++ rest) k.records ∙ ap (λ z. c' ++ z) t.records; place = t.place }

-- a course on some records and one more: one on those, the record, and moves
record Behind (ins : List In) (r : In) (outs : List Out) (m : Progress) : Type 0 where
  before : List Out
  begun : List Out
  rest : List Out
  rested : Progress
  mid : Progress
  course : Course ins before rested
  begins : StepBegins rested r begun mid
  goes : Goes mid rest m
  whole : outs ≡ before ++ (begun ++ rest)

behind : (all : List In) (outs : List Out) (m : Progress) → Course all outs m → (ins : List In) (r : In) → all ≡ ins ++ r ∷ [] → Behind ins r outs m
behind all outs m begins ins r e = absurd (snoc_some ins r e)
behind all outs m (uses ins' outs' m0 q added m' p b) ins r e =
    let k = snoc_same ins' ins q r e in
    record {
      before = outs';
      begun = added;
      rest = [];
      rested = m0;
      mid = m;
      course = subst (λ z. Course z outs' m0) k.0 p;
      begins = subst (λ z. StepBegins m0 z added m) k.1 b;
      goes = stays m;
      whole = ap (λ z. outs' ++ z) (sym (append-nil added));
    }
behind all outs m (goes_on ins' outs' m0 added m' p v) ins r e =
    let k = behind ins' outs' m0 p ins r e in
    record {
      before = k.before;
      begun = k.begun;
      rest = k.rest ++ added;
      rested = k.rested;
      mid = k.mid;
      course = k.course;
      begins = k.begins;
      goes = goes_then k.mid m0 m k.rest added k.goes v;
      whole = ap (λ z. z ++ added) k.whole ∙ append_assoc k.before (k.begun ++ k.rest) added ∙ ap (λ z. k.before ++ z) (append_assoc k.begun k.rest added);
    }

-- before any record nothing was written
unused : (ins : List In) (outs : List Out) (m : Progress) → Course ins outs m → ins ≡ [] → SameCourse outs [] m nowhere
unused ins outs m begins e = record { records = refl; place = refl }
unused ins outs m (uses ins' outs' m0 r added m' p b) e = absurd (snoc_some ins' r (sym e))
unused ins outs m (goes_on ins' outs' m0 added m' p v) e =
    let k = unused ins' outs' m0 p e in absurd (still_proceeds nowhere added m refl (subst (λ z. Proceeds z added m) k.place v))

-- these records have one course on which nothing is to be done
HasOne : List In → Type 0
HasOne ins = (outs outs' : List Out) (m m' : Progress) → Course ins outs m → Course ins outs' m' → HasNoNext m → HasNoNext m' → SameCourse outs outs' m m'

none_one : HasOne []
unfolding HasOne
none_one outs outs' m m' p q o o' =
    let k = unused [] outs m p refl in
    let j = unused [] outs' m' q refl in
    record { records = k.records ∙ sym j.records; place = k.place ∙ sym j.place }

more_one : (ins : List In) (r : In) → HasOne ins → HasOne (ins ++ r ∷ [])
unfolding HasOne
more_one ins r one outs outs' m m' p q o o' =
    let b = behind (ins ++ r ∷ []) outs m p ins r refl in
    let c = behind (ins ++ r ∷ []) outs' m' q ins r refl in
    let same = one b.before c.before b.rested c.rested b.course c.course (begins_still b.rested r b.begun b.mid b.begins) (begins_still c.rested r c.begun c.mid c.begins) in
    let unended = course_unended ins b.before b.rested b.course in
    let numbered = course_numbered ins b.before b.rested b.course in
    let steps = begins_one b.rested r b.begun c.begun b.mid c.mid unended numbered b.begins (subst (λ z. StepBegins z r c.begun c.mid) (sym same.place) c.begins) in
    let last = goes_one b.mid m m' b.rest c.rest (begins_unended b.rested r b.begun b.mid unended b.begins) (begins_numbered b.rested r b.begun b.mid numbered b.begins) b.goes (subst (λ z. Goes z c.rest m') (sym steps.places) c.goes) o o' in
    record {
      records = b.whole ∙ ap (λ z. z ++ (b.begun ++ b.rest)) same.records ∙ ap (λ z. c.before ++ (z ++ b.rest)) steps.records ∙ ap (λ z. c.before ++ (c.begun ++ z)) last.records ∙ sym c.whole;
      place = last.place;
    }

grown_one : (front rest : List In) → HasOne front → HasOne (front ++ rest)
grown_one front [] one = subst HasOne (sym (append-nil front)) one
grown_one front (r ∷ rest) one = subst HasOne (append_assoc front (r ∷ []) rest) (grown_one (front ++ r ∷ []) rest (more_one front r one))

-- any records have at most one course on which nothing is to be done until another comes
pub one_still_course : (ins : List In) (outs outs' : List Out) (p p' : Progress) → Course ins outs p → Course ins outs' p' → HasNoNext p → HasNoNext p' → SameCourse outs outs' p p'
unfolding HasOne
one_still_course ins outs outs' p p' c c' o o' = grown_one [] ins none_one outs outs' p p' c c' o o'

pub one_course : (ins : List In) (outs outs' : List Out) (p p' : Progress) → Course ins outs p → Course ins outs' p' → HasComeToRest p.standing → HasComeToRest p'.standing → SameCourse outs outs' p p'
one_course ins outs outs' p p' c c' o o' = one_still_course ins outs outs' p p' c c' (rest_still p.standing o) (rest_still p'.standing o')
