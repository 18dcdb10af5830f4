use Rattle.std.proofs.Common.{◌≡◌, ◌≤◌, ◌++◌, ◌∙◌, List, ℕ, ap, codes, length, arith}
use Rattle.std.specs.Fmt.{decimal}
use Rattle.nb_lab.specs.Pages.{head_text, status_text, page_body_len}
use Rattle.nb_lab.proofs.page.Page.head.Goals as goal

pub returns-clause-text : goal.returns-clause-text
unfolding head_text
returns-clause-text c =
    let status : List ℕ = status_text c.args.self in
    let number : List ℕ = decimal (page_body_len c.args.self) in
    let one : c.extend.new.head.items ≡ codes "HTTP/1.1 " = c.extend.ensures.items ∙ ap (λ (t : List ℕ). t ++ codes "HTTP/1.1 ") c.new-head.ensures in
    let two : c.extend-2.new.head.items ≡ codes "HTTP/1.1 " ++ status = c.extend-2.ensures.items ∙ ap (λ (t : List ℕ). c.extend.new.head.items ++ t) c.status.ensures.text ∙ ap (λ (t : List ℕ). t ++ status) one in
    let three : c.extend-3.new.head.items ≡ codes "HTTP/1.1 " ++ status ++ codes "\r\nContent-Length: " = c.extend-3.ensures.items ∙ ap (λ (t : List ℕ). t ++ codes "\r\nContent-Length: ") two in
    let digits : c.as_bytes.result.now ≡ number = c.as_bytes.ensures.value ∙ c.format.ensures.text ∙ ap decimal c.body_len.ensures.value in
    let four : c.extend-4.new.head.items ≡ codes "HTTP/1.1 " ++ status ++ codes "\r\nContent-Length: " ++ number = c.extend-4.ensures.items ∙ ap (λ (t : List ℕ). c.extend-3.new.head.items ++ t) digits ∙ ap (λ (t : List ℕ). t ++ number) three in
    c.extend-5.ensures.items ∙ ap (λ (t : List ℕ). t ++ codes "\r\nConnection: close\r\n\r\n") four

pub returns-clause-fits : goal.returns-clause-fits
unfolding head_text
returns-clause-fits c =
    let len : length c.extend-5.new.head.items ≤ 128 =
    omega (arith, ap length c.new-head.ensures, c.extend.ensures.len, c.extend-2.ensures.len, c.extend-3.ensures.len, c.extend-4.ensures.len, c.extend-5.ensures.len, c.status.ensures.short, c.format.ensures.short, ap length c.as_bytes.ensures.value) in
    omega (arith, len, ap length (returns-clause-text c))
