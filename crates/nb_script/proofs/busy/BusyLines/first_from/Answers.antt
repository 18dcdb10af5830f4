use Rattle.std.proofs.Common.{◌≡◌, ◌<◌, length, None, Some, sym, subst, ◌∙◌, arith, rules, nat_lt}
use Rattle.std.specs.List.Sorted.{IsNonDecreasing}
use Rattle.std.proofs.lemmas.List.Sorted.{IsPartitionPoint-from_clause, IsPartitionedBy-ltb}
use Rattle.nb_script.specs.Busy.{IsFirstFrom}
use Rattle.nb_script.proofs.BusyLemmas.{none_from, some_from}
use Rattle.nb_script.proofs.busy.BusyLines.first_from.Goals as goal

pub returns-then-before-len : goal.returns-then-before-len
returns-then-before-len c =
    let places = c.deref.result.now in
    let sorted : IsNonDecreasing places = rw c.deref.ensures.value c.self.invariant in
    let point = IsPartitionPoint-from_clause (λ p. nat_lt p c.args.from) _ _ c.partition_point-before.ensures.partitioned (IsPartitionedBy-ltb (λ p. p) places c.args.from sorted) (λ a r q k. search rules) in
    let all : c.partition_point-before.result ≡ length places = c.if-before-len.true ∙ c.len.ensures ∙ sym c.deref.ensures.len in
    subst (λ ps. IsFirstFrom c.args.from ps None) (c.deref.ensures.value ∙ c.self.view_is) (none_from places c.args.from c.partition_point-before.result point all)

pub returns : goal.returns
returns c =
    let places = c.deref.result.now in
    let sorted : IsNonDecreasing places = rw c.deref.ensures.value c.self.invariant in
    let point = IsPartitionPoint-from_clause (λ p. nat_lt p c.args.from) _ _ c.partition_point-before.ensures.partitioned (IsPartitionedBy-ltb (λ p. p) places c.args.from sorted) (λ a r q k. search rules) in
    let less : c.partition_point-before.result < length places = omega (arith, c.partition_point-before.ensures.bound, c.if-before-len.false, c.len.ensures, c.deref.ensures.len) in
    subst (λ ps. IsFirstFrom c.args.from ps (Some c.index.result.now)) (c.deref.ensures.value ∙ c.self.view_is)
    (some_from places c.args.from c.partition_point-before.result c.index.result.now sorted point less (rw c.deref.ensures.value (sym c.index.ensures)))
