use Rattle.std.proofs.Common.{Option, [], ◌∷◌, sym, ap, ◌∙◌, List, ℕ}
use Rattle.std.specs.Option.{option_map}
use Rattle.nb_numerals.proofs.AddressLemmas.{chain_none, chain_some, chain-decimals}
use Rattle.nb_numerals.proofs.address.read_address.Goals as goal

abbrev front : ℕ → Option (List ℕ) → Option (List ℕ)
front byte rest = option_map (λ bytes. byte ∷ bytes) rest

pub returns-in_err-a : goal.returns-in_err-a
returns-in_err-a c =
    let text = c.args.text.now in
    c.from_residual.ensures ∙ sym (sym (chain-decimals 3 text) ∙ chain_none 2 text (sym c.in_err-a.ensures))

pub returns-in_err-b : goal.returns-in_err-b
returns-in_err-b c =
    let text = c.args.text.now in
    c.from_residual-in_err-b.ensures ∙ sym (sym (chain-decimals 3 text)
    ∙ chain_some 2 text c.in_ok-a.a c.in_ok-a.behind.now (sym c.in_ok-a.ensures)
    ∙ ap (front c.in_ok-a.a) (chain_none 1 c.in_ok-a.behind.now (sym c.in_err-b.ensures)))

pub returns-in_err-c : goal.returns-in_err-c
returns-in_err-c c =
    let text = c.args.text.now in
    c.from_residual-in_err-c.ensures ∙ sym (sym (chain-decimals 3 text)
    ∙ chain_some 2 text c.in_ok-a.a c.in_ok-a.behind.now (sym c.in_ok-a.ensures)
    ∙ ap (front c.in_ok-a.a) (chain_some 1 c.in_ok-a.behind.now c.in_ok-b.b c.in_ok-b.behind.now (sym c.in_ok-b.ensures)
    ∙ ap (front c.in_ok-b.b) (chain_none 0 c.in_ok-b.behind.now (sym c.in_err-c.ensures))))

pub returns-in_err-decimal_byte : goal.returns-in_err-decimal_byte
returns-in_err-decimal_byte c =
    let text = c.args.text.now in
    c.from_residual-in_err-decimal_byte.ensures ∙ sym (sym (chain-decimals 3 text)
    ∙ chain_some 2 text c.in_ok-a.a c.in_ok-a.behind.now (sym c.in_ok-a.ensures)
    ∙ ap (front c.in_ok-a.a) (chain_some 1 c.in_ok-a.behind.now c.in_ok-b.b c.in_ok-b.behind.now (sym c.in_ok-b.ensures)
    ∙ ap (front c.in_ok-b.b) (chain_some 0 c.in_ok-b.behind.now c.in_ok-c.c c.in_ok-c.behind.now (sym c.in_ok-c.ensures)
    ∙ ap (front c.in_ok-c.c) (ap (option_map (λ byte. byte ∷ [])) (sym c.in_err-decimal_byte.ensures)))))

pub returns : goal.returns
returns c =
    let text = c.args.text.now in
    sym (sym (chain-decimals 3 text)
    ∙ chain_some 2 text c.in_ok-a.a c.in_ok-a.behind.now (sym c.in_ok-a.ensures)
    ∙ ap (front c.in_ok-a.a) (chain_some 1 c.in_ok-a.behind.now c.in_ok-b.b c.in_ok-b.behind.now (sym c.in_ok-b.ensures)
    ∙ ap (front c.in_ok-b.b) (chain_some 0 c.in_ok-b.behind.now c.in_ok-c.c c.in_ok-c.behind.now (sym c.in_ok-c.ensures)
    ∙ ap (front c.in_ok-c.c) (ap (option_map (λ byte. byte ∷ [])) (sym c.in_ok-decimal_byte.ensures)))))
