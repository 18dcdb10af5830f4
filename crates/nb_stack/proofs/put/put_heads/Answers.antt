use Rattle.std.proofs.Common.{List, ℕ, ◌++◌, ◌∙◌, ap, append_assoc}
use Rattle.nb_stack.proofs.put.put_heads.Goals as goal

pub returns-clause-put : goal.returns-clause-put
returns-clause-put c = λ body is.
    ap (λ (x : List ℕ). x ++ body) c.put.ensures.put
    ∙ append_assoc c.args.out.now.written c.frame_heads.result body
    ∙ ap (λ (x : List ℕ). c.args.out.now.written ++ x) (c.frame_heads.ensures.put body is)
