use Rattle.std.proofs.Common.{◌≡◌, ℕ, ◌+◌, List, [], ◌++◌, length, sym, ap, ◌∙◌, append_assoc, append-nil}
use Rattle.nb_ibft.specs.Infos.{Target, target_texts}
use Rattle.nb_ibft.specs.Tables.{texts_joined, portal_text, target_login_text, targets_text}
use Rattle.nb_ibft.specs.Views.{lent_target, lent_targets}
use Rattle.nb_ibft.proofs.JoinLemmas.{two_put}
use Rattle.nb_ibft.proofs.lent.LentTargets.put_parts.Goals as goal

flat : (a b c d e f : List ℕ) → (a ++ (b ++ c)) ++ (d ++ (e ++ f)) ≡ a ++ (b ++ (c ++ (d ++ (e ++ (f ++ [])))))
flat a b c d e f = simp (append_assoc, append-nil)

-- a disk's part that is put at a place that is known to be this
moved : (n old : List ℕ) (t : Target) (p q : ℕ) → n ≡ old ++ (portal_text 1 t ++ (t.lun ++ target_login_text p t)) → p ≡ q → n ≡ old ++ (portal_text 1 t ++ (t.lun ++ target_login_text q t))
moved n old t p q e is = e ∙ ap (λ x. old ++ (portal_text 1 t ++ (t.lun ++ target_login_text x t))) is

pub returns-in-Two : goal.returns-in-Two
returns-in-Two c =
    let at = c.args.at in
    let to = c.args.to.now.items in
    let one : Target = lent_target c.in-Two.one in
    let two : Target = lent_target c.in-Two.two in
    two_put _ _ _ _ _ c.put_part-in-Two.ensures.value (moved _ _ two _ _ c.put_part-in-Two-2.ensures.value (ap (λ n. at + n) c.texts_len.ensures.value))
    ∙ ap (λ x. to ++ x) (flat (portal_text 0 one) one.lun (target_login_text at one) (portal_text 1 two) two.lun (target_login_text (at + length (texts_joined (target_texts one))) two))
    ∙ ap (λ s. to ++ targets_text 0 at (lent_targets s)) (sym c.in-Two.is)
