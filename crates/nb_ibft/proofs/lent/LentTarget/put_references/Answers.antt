use Rattle.std.proofs.Common.{◌≡◌, ℕ, ◌+◌, List, ◌++◌, length, ap, ◌∙◌}
use Rattle.nb_ibft.specs.Tables.{kept, reference}
use Rattle.nb_ibft.proofs.JoinLemmas.{five_put}
use Rattle.nb_ibft.proofs.lent.LentTarget.put_references.Goals as goal

-- a reference at a place that is known to be this
moved : (n old text : List ℕ) (p q : ℕ) → n ≡ old ++ reference p text → p ≡ q → n ≡ old ++ reference q text
moved n old text p q e is = e ∙ ap (λ x. old ++ reference x text) is

pub returns-clause-value : goal.returns-clause-value
returns-clause-value c =
    let at = c.args.at in
    let t = c.args.self.now.texts in
    let a = length (kept t.name.now) in
    let b = length (kept t.user.now) in
    let d = length (kept t.secret.now) in
    let f = length (kept t.reverse_user.now) in
    let p1 : at + c.kept_len.result ≡ at + a = ap (λ n. at + n) c.kept_len.ensures in
    let p2 : at + c.kept_len.result + c.kept_len-2.result ≡ at + a + b = ap (λ n. n + c.kept_len-2.result) p1 ∙ ap (λ n. at + a + n) c.kept_len-2.ensures in
    let p3 : at + c.kept_len.result + c.kept_len-2.result + c.kept_len-3.result ≡ at + a + b + d = ap (λ n. n + c.kept_len-3.result) p2 ∙ ap (λ n. at + a + b + n) c.kept_len-3.ensures in
    let p4 : at + c.kept_len.result + c.kept_len-2.result + c.kept_len-3.result + c.kept_len-4.result ≡ at + a + b + d + f = ap (λ n. n + c.kept_len-4.result) p3 ∙ ap (λ n. at + a + b + d + n) c.kept_len-4.ensures in
    five_put _ _ _ _ _ _ _ _ _ _ _ c.put_reference.ensures.value
    (moved _ _ _ _ _ c.put_reference-2.ensures.value p1)
    (moved _ _ _ _ _ c.put_reference-3.ensures.value p2)
    (moved _ _ _ _ _ c.put_reference-4.ensures.value p3)
    (moved _ _ _ _ _ c.put_reference-5.ensures.value p4)
