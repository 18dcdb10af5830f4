use Rattle.std.proofs.Common.{◌≡◌, ℕ, zero, suc, ◌<◌, List, [], ◌∷◌, ◌++◌, length, map, take, get_or, ap, subst, arith, add-one}
use Rattle.nb_defs.specs.Records.{out_texts, text}
use Rattle.nb_record.specs.Logged.{Puts}
use Rattle.nb_runner.proofs.Puts.{Puts-one, Puts-outs}
use Rattle.nb_client.proofs.concluding.put_lines.Goals as goal

one_more : (lines : List (List ℕ)) (i : ℕ) (line : List ℕ) → i < length lines → line ≡ get_or lines i line → map text (take i lines) ++ (text line ∷ []) ≡ map text (take (suc i) lines)
one_more [] i line h e = absurd (omega (arith, h))
one_more (x ∷ xs) zero line h e = ap (λ y. text y ∷ []) e
one_more (x ∷ xs) (suc i) line h e = ap (λ ys. text x ∷ ys) (one_more xs i line (omega (arith, h)) e)

pub loop-line-preserved : goal.loop-line-preserved
loop-line-preserved c =
    let lines = c.args.lines.now in
    let i = c.loop-line.line-index in
    let line = c.line-item.result in
    let last : Puts c.loop-line.out c.put.new.self (out_texts (text line ∷ [])) = subst (λ x. Puts c.loop-line.out c.put.new.self (out_texts (text x ∷ []))) c.as_slice.ensures (Puts-one (text c.as_slice.result.now) c.put.ensures) in
    rw add-one (subst (λ xs. Puts c.args.out.now c.put.new.self (out_texts xs)) (one_more lines i line (omega arith) c.line-item.is) (Puts-outs (map text (take i lines)) (text line ∷ []) c.loop-line.invariant last))
