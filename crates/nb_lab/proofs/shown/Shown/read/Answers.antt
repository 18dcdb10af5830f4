use Rattle.std.proofs.Common.{◌≡◌, ◌+◌, ◌<◌, ◌^◌, List, ℕ, ◌++◌, length, ap, subst, arith, ◌∙◌, IsSomeAnd}
use Rattle.nb_lab.specs.Shows.{Seen, seen_of}
use Rattle.nb_lab.proofs.ReadingLemmas.{each_is_read, length-record_text}
use Rattle.nb_lab.proofs.shown.Shown.read.Goals as goal

pub returns-clause-first : goal.returns-clause-first
returns-clause-first c = λ o rest short is.
    let r = each_is_read o in
    let P : Seen → Type 0 = λ s. IsSomeAnd c.read_record.result (λ x. (seen_of x.0 ≡ s) × (x.1.now ≡ rest)) in
    let fits : length r.body + 1 < 2 ^ 32 = omega (arith, short, ap length r.spelled, length-record_text r.kind r.body) in
    subst P r.read (c.read_record.ensures.first r.kind r.body rest fits (is ∙ ap (λ (x : List ℕ). x ++ rest) r.spelled))
