-- Lists that were put one after another.
use Rattle.std.proofs.Common.{◌≡◌, ℕ, List, ◌++◌, ap, ◌∙◌, append_assoc}

pub two_put : (t a b n1 n2 : List ℕ) → n1 ≡ t ++ a → n2 ≡ n1 ++ b → n2 ≡ t ++ (a ++ b)
two_put t a b n1 n2 e1 e2 = e2 ∙ ap (λ x. x ++ b) e1 ∙ append_assoc t a b

pub three_put : (t a b c n1 n2 n3 : List ℕ) → n1 ≡ t ++ a → n2 ≡ n1 ++ b → n3 ≡ n2 ++ c → n3 ≡ t ++ (a ++ (b ++ c))
three_put t a b c n1 n2 n3 e1 e2 e3 = two_put t a (b ++ c) n1 n3 e1 (two_put n1 b c n2 n3 e2 e3)

pub four_put : (t a b c d n1 n2 n3 n4 : List ℕ) → n1 ≡ t ++ a → n2 ≡ n1 ++ b → n3 ≡ n2 ++ c → n4 ≡ n3 ++ d → n4 ≡ t ++ (a ++ (b ++ (c ++ d)))
four_put t a b c d n1 n2 n3 n4 e1 e2 e3 e4 = two_put t a (b ++ (c ++ d)) n1 n4 e1 (three_put n1 b c d n2 n3 n4 e2 e3 e4)

pub five_put : (t a b c d e n1 n2 n3 n4 n5 : List ℕ) → n1 ≡ t ++ a → n2 ≡ n1 ++ b → n3 ≡ n2 ++ c → n4 ≡ n3 ++ d → n5 ≡ n4 ++ e → n5 ≡ t ++ (a ++ (b ++ (c ++ (d ++ e))))
five_put t a b c d e n1 n2 n3 n4 n5 e1 e2 e3 e4 e5 = two_put t a (b ++ (c ++ (d ++ e))) n1 n5 e1 (four_put n1 b c d e n2 n3 n4 n5 e2 e3 e4 e5)

pub six_put : (t a b c d e f n1 n2 n3 n4 n5 n6 : List ℕ) → n1 ≡ t ++ a → n2 ≡ n1 ++ b → n3 ≡ n2 ++ c → n4 ≡ n3 ++ d → n5 ≡ n4 ++ e → n6 ≡ n5 ++ f → n6 ≡ t ++ (a ++ (b ++ (c ++ (d ++ (e ++ f)))))
six_put t a b c d e f n1 n2 n3 n4 n5 n6 e1 e2 e3 e4 e5 e6 = two_put t a (b ++ (c ++ (d ++ (e ++ f)))) n1 n6 e1 (five_put n1 b c d e f n2 n3 n4 n5 n6 e2 e3 e4 e5 e6)
